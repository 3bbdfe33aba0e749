-- Each loss that a study can name has the laws of a loss.
use Rattle.std.proofs.Common.{◌≡◌, ◌⊎◌, inl, inr, refl, Bool, true, false}
use Rattle.ofit_num.specs.Law.{HasSupport, HasScaling}
use Rattle.ofit_num.specs.Loss.{squares, median}
use Rattle.ofit_loss.specs.Laws.{HasLossLaws, HasFittableGroups}
use Rattle.ofit_loss.specs.TableLaws.{squares-laws, median-laws}
use Rattle.ofit_loss.proofs.ProblemLaws.{groups_fittable, problem_support, problem_scaling}
use Rattle.ofit_study.specs.declared.loss.LossKind.{LossKind}
use Rattle.ofit_study.specs.declared.loss.LossKind.TheVariants.{Squares, Median}
use Rattle.ofit_study.specs.Study.{Study, IsValid, groups_of, places_of, problem_stated, meaning_of}
use Rattle.ofit_span.proofs.Fittable.{all_fittable}

pub is_strict : LossKind → Bool
is_strict Squares = true
is_strict Median = false

pub laws_of : (k : LossKind) → HasLossLaws (meaning_of k) (is_strict k)
unfolding is_strict
laws_of Squares = squares-laws
laws_of Median = median-laws

-- it is one of the two of the table
pub one_of_two : (k : LossKind) → (meaning_of k ≡ squares) ⊎ (meaning_of k ≡ median)
one_of_two Squares = inl refl
one_of_two Median = inr refl

-- so the loss of a valid study has its laws over the problem that the study states
module _ (s : Study) (v : IsValid s) where
  stated_fittable : HasFittableGroups (problem_stated s)
  stated_fittable = groups_fittable (groups_of s) (places_of s) (problem_stated s).bounds (all_fittable s v)

  pub stated_support : (k : LossKind) → HasSupport (meaning_of k) (problem_stated s)
  stated_support k = problem_support (meaning_of k) (is_strict k) (laws_of k) (problem_stated s) stated_fittable

  pub stated_scaling : (k : LossKind) → HasScaling (meaning_of k) (problem_stated s)
  stated_scaling k = problem_scaling (meaning_of k) (is_strict k) (laws_of k) (problem_stated s) stated_fittable
