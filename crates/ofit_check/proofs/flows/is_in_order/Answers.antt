use Rattle.ofit_study.specs.Study.{problem_stated}
use Rattle.ofit_sheet.specs.Parts.{flow_of}
use Rattle.ofit_check.proofs.Amounts.{flow_on_pair, order_told}
use Rattle.ofit_check.proofs.flows.is_in_order.Goals as goal

pub returns : goal.returns
returns c =
    rw c.is_lt.ensures
    (order_told (problem_stated c.args.study.now) c.args.sheet.now c.requires.on_pairs c.args.index c.if-index-eq0.false (flow_of c.flow_at-low_before.result) (flow_of c.flow_at-low.result) c.compare_pairs.result c.flow_at-low_before.ensures.value c.flow_at-low.ensures.value c.compare_pairs.ensures)

pub compare_pairs-requires-clause-first : goal.compare_pairs-requires-clause-first
compare_pairs-requires-clause-first c = flow_on_pair (problem_stated c.args.study.now) c.args.sheet.now c.requires.on_pairs _ (flow_of c.flow_at-low_before.result) c.flow_at-low_before.ensures.value

pub compare_pairs-requires-clause-second : goal.compare_pairs-requires-clause-second
compare_pairs-requires-clause-second c = flow_on_pair (problem_stated c.args.study.now) c.args.sheet.now c.requires.on_pairs _ (flow_of c.flow_at-low.result) c.flow_at-low.ensures.value
