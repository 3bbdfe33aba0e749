use Rattle.std.proofs.Common.{◌∙◌, ℕ, List, ap, subst, Contains, IfOk}
use Rattle.std.specs.Prelude.{◌↔◌}
use Rattle.ofit_study.specs.Study.{places_of}
use Rattle.ofit_study.proofs.study.Study.order.Goals as goal

pub returns-clause-same : goal.returns-clause-same
returns-clause-same c =
    subst (λ (t : List (ℕ × ℕ)). IfOk c.check_order.result (λ order. (e : ℕ × ℕ) → Contains order.pairs e ↔ Contains t e)) (c.as_slice.ensures ∙ c.self.invariant.pairs_are ∙ ap places_of c.self.view_is) c.check_order.ensures.same
