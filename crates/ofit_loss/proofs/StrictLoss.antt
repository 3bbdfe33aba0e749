-- Under a strict loss a best fit of groups that each have a plain row is the only one.
use Rattle.std.proofs.Common.{◌≡◌, ℕ, ◌<◌}
use Rattle.std.specs.Prelude.{Bool, true, Any}
use Rattle.ofit_num.specs.Problem.{Problem}
use Rattle.ofit_num.specs.Meaning.{Meaning}
use Rattle.ofit_num.specs.Trial.{Trial}
use Rattle.ofit_num.specs.Fit.{Best, LeastBest}
use Rattle.ofit_num.proofs.StrictBest.{strict_least_best}
use Rattle.ofit_loss.specs.Rows.{IsPlain}
use Rattle.ofit_loss.specs.Laws.{HasLossLaws, HasFittableGroups}
use Rattle.ofit_loss.proofs.ProblemLaws.{some_degree, problem_support, problem_strictness}

module _ (m : Meaning) (strict : Bool) (laws : HasLossLaws m strict) where
  pub strict_best_least : (s : Problem) → HasFittableGroups s → strict ≡ true → ((g : ℕ) → g < s.count → Any IsPlain (s.rows g)) → (t : Trial) → Best m s t → LeastBest m s t
  strict_best_least s fit is plain t best = strict_least_best m s (problem_support m strict laws s fit) (some_degree m strict laws)
      (record { falls = λ g l c b lc lb below. problem_strictness m strict laws s fit is g l (plain g l) c b lc lb below }) t best
