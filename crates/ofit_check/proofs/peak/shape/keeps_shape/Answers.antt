use Rattle.std.proofs.Common.{◌∙◌, sym, rules}
use Rattle.std.proofs.lemmas.Int.{to_z-of_z}
use Rattle.std.specs.Int.{w64}
use Rattle.ofit_check.proofs.Comparing.{tested_so}
use Rattle.ofit_check.proofs.PeakShape.{before_peak, from_peak}
use Rattle.ofit_check.proofs.peak.shape.keeps_shape.Goals as goal

pub returns-then-place-peak : goal.returns-then-place-peak
returns-then-place-peak c =
    tested_so _ _ c.value-value.result c.value-next.result _ (to_z-of_z w64 _ (search rules)) (to_z-of_z w64 _ (search rules))
    (before_peak c.args.peaked.now c.args.place c.in-Some.peak c.value-value.result c.value-next.result (sym c.peak.ensures ∙ c.in-Some.is) c.value-value.ensures c.value-next.ensures c.if-place-peak.true)

pub returns-else-place-peak : goal.returns-else-place-peak
returns-else-place-peak c =
    tested_so _ _ c.value-next.result c.value-value.result _ (to_z-of_z w64 _ (search rules)) (to_z-of_z w64 _ (search rules))
    (from_peak c.args.peaked.now c.args.place c.in-Some.peak c.value-value.result c.value-next.result (sym c.peak.ensures ∙ c.in-Some.is) c.value-value.ensures c.value-next.ensures c.if-place-peak.false)
