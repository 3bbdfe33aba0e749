use Rattle.std.proofs.Common.{◌<◌, length}
use Rattle.ofit_num.specs.Sheet as num
use Rattle.ofit_study.specs.Study.{names_of}
use Rattle.ofit_sheet.specs.Parts.{entry_of}
use Rattle.ofit_sheet.specs.SheetText.{value_fields}
use Rattle.ofit_num.proofs.Lists.{All-slice_get}
use Rattle.ofit_sheet.proofs.WrittenParts.{no_text, one_more}
use Rattle.ofit_sheet.proofs.write.write_values.Goals as goal

pub loop-index-init : goal.loop-index-init
loop-index-init c = no_text c.args.writer.now

pub write_value-requires : goal.write_value-requires
write_value-requires c = All-slice_get (λ (e : num.Entry). e.place < length (names_of c.args.study.now)) c.args.sheet.now.values c.loop-index.index (entry_of c.value_at-place.result) c.requires.places c.value_at-place.ensures.value

pub loop-index-preserved : goal.loop-index-preserved
loop-index-preserved c = one_more (value_fields (names_of c.args.study.now)) c.args.sheet.now.values c.loop-index.index (entry_of c.value_at-place.result) c.args.writer.now c.loop-index.writer c.write_value.new.writer c.value_at-place.ensures.value c.loop-index.invariant c.in_ok-write_value.ensures
