use Rattle.std.proofs.lemmas.List.Filters.{dedup_is}
use Rattle.std.proofs.lemmas.List.Kept.{Contains-dedup, Contains-from_dedup, IsStrictlySortedBy-dedup}
use Rattle.std.proofs.lemmas.List.Sorted.{Contains-permutation, IsPermutation-sym}
use Rattle.ofit_order.proofs.PairOrder.{pair_cmp_total, pair_eq, pair_eq_ties, pair_eq_equiv, pair_eq-same, AreInOrder-from_sorted}
use Rattle.ofit_order.proofs.pairs.distinct_pairs.Goals as goal

pub returns-clause-in_order : goal.returns-clause-in_order
returns-clause-in_order c =
    let is = dedup_is pair_eq _ _ c.dedup.ensures.filtered in
    rw is (AreInOrder-from_sorted _ (IsStrictlySortedBy-dedup pair_cmp_total pair_eq_ties _ c.in_ok-sort.ensures.sorted))

pub returns-clause-same : goal.returns-clause-same
returns-clause-same c =
    let is = dedup_is pair_eq _ _ c.dedup.ensures.filtered in
    let moved = c.sort.ensures.permutation in
    let copied = c.in_ok-sorted.ensures.items in
    λ p. (
      λ h. rw copied at (Contains-permutation _ _ p (IsPermutation-sym _ _ moved) (Contains-from_dedup pair_eq _ p (rw is at h))),
      λ h. rw is (Contains-dedup pair_eq_equiv pair_eq-same _ p (Contains-permutation _ _ p moved (rw (← copied) at h))),
    )
