-- the queue of a forest: in another order, and its first entry; and what is left when it is empty
use Rattle.std.proofs.Common.{◌≡◌, ℕ, suc, ◌+◌, ◌-◌, ◌<◌, sym, ap, subst, ◌∙◌, arith, Bool, false, List, [], ◌∷◌, ◌++◌, length, length-append, inl, inr}
use Rattle.std.proofs.lemmas.Int.{by_lt_z}
use Rattle.std.proofs.lemmas.Bool.{both_ways, cases_eq}
use Rattle.std.proofs.lemmas.List.Elements.{All-head, All-tail, All-from_recursion}
use Rattle.std.proofs.lemmas.List.Sorted.{All-permutation, Contains-permutation}
use Rattle.std.proofs.lemmas.Option.{slice_get_within}
use Rattle.std.specs.List.Sorted.{IsPermutation}
use Rattle.std.specs.BinaryHeap.{IsUpperBound}
use Rattle.std.specs.Ordering.{int_cmp, is_lt}
use Rattle.std.specs.Cmp.{int_cmp_is}
use Rattle.std.specs.declared.cmp.Ordering.TheVariants.{Less}
use Rattle.std.specs.Prelude.{ℤ, pos, ◌*ℤ◌, ◌≤ℤ◌, All, slice_get, slice_index, Option, Some}
use Rattle.ofit_num.specs.declared.row.Row.{Row}
use Rattle.ofit_num.specs.Groups.{RowLists}
use Rattle.ofit_num.specs.Meaning.{Meaning}
use Rattle.ofit_num.specs.Fraction.{Fraction, AtMost}
use Rattle.ofit_tree.specs.declared.direction.Direction.{Direction}
use Rattle.ofit_tree.specs.declared.entry.Entry.{Entry}
use Rattle.ofit_tree.specs.declared.slot.Slot.{Slot}
use Rattle.ofit_tree.specs.declared.slot.Slot.TheVariants.{Settled}
use Rattle.ofit_tree.specs.Entry.{entry_cmp, rank_of}
use Rattle.ofit_tree.specs.Forest.{IsForest, IsFirst, AreAllSettled, AreSettledValues}
use Rattle.ofit_tree.proofs.Closing.{by_slot, with_queue}
use Rattle.ofit_num.proofs.Elements.{slice_get-push, slice_get-before}

-- where no number is less
not_less : (x y : ℤ) → is_lt (int_cmp x y) ≡ false → y ≤ℤ x
not_less x y e = by_lt_z x y (λ l. absurd (both_ways (is_lt (int_cmp x y)) e (ap is_lt (sym (int_cmp_is x y Less l))))) (λ h. h)

at_most : (x y : Fraction) → 0 < x.den → 0 < y.den → is_lt (int_cmp (x.num *ℤ pos (suc (y.den - 1))) (y.num *ℤ pos (suc (x.den - 1)))) ≡ false → AtMost y x
at_most x y lx ly e = subst (λ (n : ℕ). (y.num *ℤ pos n) ≤ℤ (x.num *ℤ pos y.den)) (own x.den lx) (subst (λ (n : ℕ). (y.num *ℤ pos (suc (x.den - 1))) ≤ℤ (x.num *ℤ pos n)) (own y.den ly) (not_less _ _ e)) where
  own : (k : ℕ) → 0 < k → suc (k - 1) ≡ k
  own k l = omega arith

each_at_most : (x : Entry) (ys : List Entry) → 0 < x.rank.den → All (λ y. is_lt (entry_cmp x y) ≡ false) ys → All (λ y. 0 < y.rank.den) ys → IsFirst x ys
each_at_most x ys lx below dens k d l = at_most x.rank _ lx (dens k d l) (below k d l)

pub first_of_heap : (n : ℕ) (x : Entry) (ys : List Entry) → All (λ e. (e.block < n) × (0 < e.rank.den)) (x ∷ ys) → IsUpperBound entry_cmp x ys → IsFirst x ys
first_of_heap n x ys entries bound = each_at_most x ys (All-head (λ e. (e.block < n) × (0 < e.rank.den)) x ys entries).1
    (All-from_recursion (λ y. is_lt (entry_cmp x y) ≡ false) ys bound) (λ k d l. (All-tail (λ e. (e.block < n) × (0 < e.rank.den)) x ys entries k d l).1)

module _ {P : Type 0} (d : Direction) (IsPoolOf : P → List Row → Type 0) (m : Meaning) (strict : Bool) (groups : RowLists) (parents : List (Option ℕ)) (labels : List ℕ) (slots : List (Slot P)) where
  -- the order of the entries is free
  pub forest_permuted : (queue queue' : List Entry) → IsPermutation queue queue' → IsForest d IsPoolOf m strict groups parents labels slots queue → IsForest d IsPoolOf m strict groups parents labels slots queue'
  forest_permuted queue queue' moved h = with_queue d IsPoolOf m strict groups parents labels slots queue queue' h
      (λ k b e. Contains-permutation queue queue' (record { rank = rank_of d b.value; block = k }) moved (h.entered k b e))
      (All-permutation (λ e. (e.block < length groups) × (0 < e.rank.den)) queue queue' moved h.entries)

  -- without entries nothing waits
  pub all_settled : IsForest d IsPoolOf m strict groups parents labels slots [] → AreAllSettled labels slots
  all_settled h g l = by_slot slots (slice_index labels g) (subst (λ (n : ℕ). slice_index labels g < n) (sym h.slots_count) (h.numbers g 0 l))
      (λ b e. absurd (omega (arith, (h.entered (slice_index labels g) b e).1)))
      (λ v e. (v, e))
      (λ e. absurd (h.live g (subst (λ (n : ℕ). g < n) h.labels_count l) e))

-- one value more
pub values_more : {P : Type 0} (labels : List ℕ) (slots : List (Slot P)) (n : ℕ) (values : List Fraction) (v : Fraction) → AreSettledValues labels slots n values → slice_get slots (slice_index labels n) ≡ Some (Settled v) → AreSettledValues labels slots (n + 1) (values ++ v ∷ [])
values_more labels slots n values v h e = record {
  count = omega (arith, length-append values (v ∷ []), h.count);
  each = λ g l. elim (cases_eq g n) [
    | inl same ↦ (v, ap (slice_get (values ++ v ∷ [])) (same ∙ sym h.count) ∙ slice_get-push values v, ap (λ (x : ℕ). slice_get slots (slice_index labels x)) same ∙ e)
    | inr out ↦
        let old : (w : Fraction) × (slice_get values g ≡ Some w) × (slice_get slots (slice_index labels g) ≡ Some (Settled w)) = h.each g (omega (arith, out)) in
        (old.0, slice_get-before values v g (slice_get_within values g old.0 old.1) ∙ old.1, old.2)
  ];
}
