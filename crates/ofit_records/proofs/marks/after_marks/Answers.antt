use Rattle.std.proofs.Common.{◌∙◌}
use Rattle.ofit_records.proofs.FrontMarks.{one_taken, none_taken}
use Rattle.ofit_records.proofs.marks.after_marks.Goals as goal

pub loop-behind-preserved : goal.loop-behind-preserved
loop-behind-preserved c =
    let taken = c.in-Some.ensures.cases in
    rw taken.1 (one_taken c.loop-behind.rest.now taken.0 ∙ c.loop-behind.invariant)

pub returns : goal.returns
returns c = none_taken c.loop-behind.rest.now c.in_default.ensures.cases ∙ c.loop-behind.invariant
