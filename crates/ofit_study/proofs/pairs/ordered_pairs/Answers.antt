use Rattle.std.proofs.Common.{rules, All}
use Rattle.std.proofs.lemmas.Fn.{always_returns_same}
use Rattle.std.proofs.lemmas.List.Filters.{dedup_is}
use Rattle.std.proofs.lemmas.List.Kept.{Contains-dedup, Contains-from_dedup, IsStrictlySortedBy-dedup}
use Rattle.std.proofs.lemmas.List.MinMax.{ranks_by}
use Rattle.std.proofs.lemmas.List.Sorted.{Contains-permutation, IsPermutation-sym}
use Rattle.std.specs.List.{dedup}
use Rattle.std.specs.Ordering.{is_lt}
use Rattle.ofit_order.proofs.PairOrder.{pair_eq, pair_eq_equiv, pair_eq-same}
use Rattle.ofit_study.specs.PairOrder.{pair_order}
use Rattle.ofit_study.proofs.PairLists.{IsInside, inside_kept, pair_order_total, pair_order_ties, in_order}
use Rattle.ofit_study.proofs.pairs.ordered_pairs.Goals as goal

pub returns-clause-in_order : goal.returns-clause-in_order
returns-clause-in_order c =
    let names = c.args.names.now in
    let is = dedup_is pair_eq _ _ c.dedup.ensures.filtered in
    let moved = c.sort_by.ensures.permutation in
    let copied = c.in_ok-sorted.ensures.items in
    let sorted = c.in_ok-sort_by.ensures.sorted (λ e f. is_lt (pair_order names e f)) (ranks_by (pair_order_total names) (λ e. e)) (always_returns_same _ _ _ (λ a r q k. search rules)) in
    let kept : All (IsInside names) (dedup pair_eq c.sort_by.new.self.items) = inside_kept names c.args.pairs.now (dedup pair_eq c.sort_by.new.self.items) c.requires.within (λ p h. rw copied at (Contains-permutation _ _ p (IsPermutation-sym _ _ moved) (Contains-from_dedup pair_eq c.sort_by.new.self.items p h))) in
    rw is (in_order names c.requires.distinct (dedup pair_eq c.sort_by.new.self.items) kept (IsStrictlySortedBy-dedup (pair_order_total names) (pair_order_ties names) c.sort_by.new.self.items sorted))

pub returns-clause-same : goal.returns-clause-same
returns-clause-same c =
    let is = dedup_is pair_eq _ _ c.dedup.ensures.filtered in
    let moved = c.sort_by.ensures.permutation in
    let copied = c.in_ok-sorted.ensures.items in
    λ p. (
      λ h. rw is (Contains-dedup pair_eq_equiv pair_eq-same _ p (Contains-permutation _ _ p moved (rw (← copied) at h))),
      λ h. rw copied at (Contains-permutation _ _ p (IsPermutation-sym _ _ moved) (Contains-from_dedup pair_eq _ p (rw is at h))),
    )
