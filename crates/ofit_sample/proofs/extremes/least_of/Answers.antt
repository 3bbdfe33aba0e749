use Rattle.std.proofs.Common.{◌+◌, ◌∙◌, sym, subst, arith}
use Rattle.ofit_sample.proofs.Comparing.{IsLeastUpto, is_less, least_falls, least_of_all, least_stays}
use Rattle.ofit_sample.proofs.extremes.least_of.Goals as goal
use Rattle.ofit_sample.proofs.extremes.least_of.Goals.{then-is_lt, else-is_lt}

pub loop-value-preserved : goal.loop-value-preserved
loop-value-preserved c =
    let values = c.args.values.now in
    let i = c.loop-value.value-index in
    let told = is_less c.value-item.result c.loop-value.least c.compare.result c.compare.ensures in
    elim c.if-is_lt.branch [
      | then-is_lt w ↦ subst (IsLeastUpto values (i + 1)) (sym w.least-is) (least_falls values c.requires.lowest i c.value-item.result c.loop-value-test.true c.value-item.is c.loop-value.least c.loop-value.invariant (told.0 (sym c.is_lt.ensures ∙ w.if-is_lt.true)))
      | else-is_lt w ↦ subst (IsLeastUpto values (i + 1)) (sym w.least-is) (least_stays values c.requires.lowest i c.value-item.result c.loop-value-test.true c.value-item.is c.loop-value.least c.loop-value.invariant (told.1 (sym c.is_lt.ensures ∙ w.if-is_lt.false)))
    ]

pub returns : goal.returns
returns c = least_of_all c.args.values.now c.loop-value.value-index c.loop-value.least (omega arith) c.loop-value.invariant
