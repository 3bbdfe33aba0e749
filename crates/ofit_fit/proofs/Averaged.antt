-- The values of a study under squares without bounds are the max-min of the means.
use Rattle.std.proofs.Common.{◌≡◌, ℕ, ap, subst, List}
use Rattle.std.specs.Prelude.{slice_get, Some, None}
use Rattle.ofit_num.specs.Clipped.{HasConstantBounds}
use Rattle.ofit_num.specs.Fit.{BestValues, LeastBestValues}
use Rattle.ofit_num.specs.Fraction.{Fraction}
use Rattle.ofit_num.specs.MaxMin.{MaxMin}
use Rattle.ofit_num.specs.Meaning.{Meaning}
use Rattle.ofit_num.specs.Loss.{squares}
use Rattle.ofit_loss.proofs.MaxMin.{best_max_min}
use Rattle.ofit_study.specs.declared.loss.LossKind.TheVariants.{Squares}
use Rattle.ofit_study.specs.Study.{Study, problem_stated, meaning_of}

pub stated_max_min : (s : Study) (values : List Fraction) → s.settings.loss ≡ Squares → HasConstantBounds (problem_stated s) None None
    → LeastBestValues (meaning_of s.settings.loss) (problem_stated s) values → (g : ℕ) (v : Fraction) → slice_get values g ≡ Some v → MaxMin (problem_stated s) g v
stated_max_min s values kind free least =
    let best : BestValues squares (problem_stated s) values = subst (λ (m : Meaning). BestValues m (problem_stated s) values) (ap meaning_of kind) (record { count = least.count; best = least.least_best.best }) in
    best_max_min (problem_stated s) values best free
