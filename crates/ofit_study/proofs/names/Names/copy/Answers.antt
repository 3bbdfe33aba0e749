use Rattle.std.proofs.Common.{◌≡◌, ◌∙◌, ℕ}
use Rattle.std.specs.Prelude.{vec_len}
use Rattle.ofit_study.proofs.Clones.{items-cloned}
use Rattle.ofit_study.proofs.names.Names.copy.Goals as goal

pub returns : goal.returns
returns c = items-cloned (λ (x y : ℕ). y ≡ x) (λ v w. vec_len w ≡ vec_len v) (λ x y e. e) c.self.inside.set.keys c.in_ok-set.set.keys c.in_ok-set.ensures.cases ∙ c.self.view_is
