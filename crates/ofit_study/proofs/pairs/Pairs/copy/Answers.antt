use Rattle.std.proofs.Common.{◌≡◌, ℕ}
use Rattle.std.specs.Prelude.{vec_len}
use Rattle.ofit_study.specs.Ends.{lists_of}
use Rattle.ofit_study.proofs.Clones.{items-cloned}
use Rattle.ofit_study.proofs.pairs.Pairs.copy.Goals as goal

pub invariant_of-result : goal.invariant_of-result
invariant_of-result c =
    let same : lists_of c.in_ok-by_end.by_end.items ≡ lists_of c.self.inside.by_end.items =
    items-cloned (λ (x y : ℕ). y ≡ x) (λ v w. vec_len w ≡ vec_len v) (λ x y e. e) c.self.inside.by_end.items c.in_ok-by_end.by_end.items c.in_ok-by_end.ensures.cases.0 in
    rw (c.in_ok-list.ensures.items, c.as_slice.ensures.value, same) c.self.invariant
