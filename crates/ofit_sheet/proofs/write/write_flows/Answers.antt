use Rattle.std.proofs.Common.{◌<◌, length}
use Rattle.ofit_num.specs.Flow.{Flow}
use Rattle.ofit_study.specs.Study.{names_of}
use Rattle.ofit_sheet.specs.Parts.{flow_of}
use Rattle.ofit_sheet.specs.SheetText.{flow_fields}
use Rattle.ofit_num.proofs.Lists.{All-slice_get}
use Rattle.ofit_sheet.proofs.WrittenParts.{no_text, one_more}
use Rattle.ofit_sheet.proofs.write.write_flows.Goals as goal

pub loop-index-init : goal.loop-index-init
loop-index-init c = no_text c.args.writer.now

pub write_flow-requires-clause-low : goal.write_flow-requires-clause-low
write_flow-requires-clause-low c = (All-slice_get (λ (f : Flow). (f.low < length (names_of c.args.study.now)) × (f.high < length (names_of c.args.study.now))) c.args.sheet.now.flows c.loop-index.index (flow_of c.flow_at.result) c.requires.ends c.flow_at.ensures.value).0

pub write_flow-requires-clause-high : goal.write_flow-requires-clause-high
write_flow-requires-clause-high c = (All-slice_get (λ (f : Flow). (f.low < length (names_of c.args.study.now)) × (f.high < length (names_of c.args.study.now))) c.args.sheet.now.flows c.loop-index.index (flow_of c.flow_at.result) c.requires.ends c.flow_at.ensures.value).1

pub loop-index-preserved : goal.loop-index-preserved
loop-index-preserved c = one_more (flow_fields (names_of c.args.study.now)) c.args.sheet.now.flows c.loop-index.index (flow_of c.flow_at.result) c.args.writer.now c.loop-index.writer c.write_flow.new.writer c.flow_at.ensures.value c.loop-index.invariant c.in_ok-write_flow.ensures
