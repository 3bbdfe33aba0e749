use Rattle.std.proofs.Common.{◌≡◌, ◌∙◌, ℕ, List, ap, subst, slice_get, Some, Contains, MatchOption}
use Rattle.ofit_study.specs.Study.{places_of}
use Rattle.ofit_study.proofs.study.Study.pair_index.Goals as goal

pub returns : goal.returns
returns c =
    subst (λ (t : List (ℕ × ℕ)). MatchOption c.index_of.result (Contains t (c.args.low, c.args.high) → ⊥) (λ index. slice_get t index ≡ Some (c.args.low, c.args.high))) (c.as_slice.ensures ∙ c.self.invariant.pairs_are ∙ ap places_of c.self.view_is) c.index_of.ensures
