-- The balance of a place is summed over the pairs that have it at an end.
use Rattle.std.proofs.Common.{◌≡◌, ◌≢◌, ℕ, zero, suc, ◌+◌, ◌<◌, ◌≤◌, ◌⊎◌, inl, inr, refl, sym, ap, ap₂, ◌∙◌, arith, List, [], ◌∷◌, ◌++◌, length, cond, nat_eq, Bool, true, false, get_or}
use Rattle.std.proofs.lemmas.Bool.{cases_order}
use Rattle.std.proofs.lemmas.Bool.Decides.{nat_tests}
use Rattle.std.proofs.lemmas.Int.{ints}
use Rattle.std.proofs.lemmas.List.Elements.{All-filter}
use Rattle.std.proofs.lemmas.List.FromFn.{length-range_with_len, get_or-range_with_len}
use Rattle.std.proofs.lemmas.List.Sums.{sum_by-cons}
use Rattle.std.proofs.lemmas.Option.{slice_get_within, slice_get-get_or, get_or_from_slice_get}
use Rattle.std.specs.Prelude.{ℤ, pos, ◌+ℤ◌, ◌-ℤ◌, All, AllPairs, Contains, filter, slice_get, Some, ◌||◌}
use Rattle.std.specs.List.{range_with_len, AllByRecursion}
use Rattle.ofit_num.specs.Flow.{Flow, balance}
use Rattle.ofit_check.specs.Check.{amount_along, signed_amount}
use Rattle.ofit_check.proofs.Amounts.{pair_of, is_along, other_along, same_along, one_index, contained_at}
use Rattle.ofit_study.specs.Ends.{has_end, indexes_at}

abbrev pub int_sum_by : (ℕ → ℤ) → List ℕ → ℤ
int_sum_by h [] = pos 0
int_sum_by h (i ∷ is) = h i +ℤ int_sum_by h is

pub int_sum_by-push : (h : ℕ → ℤ) (is : List ℕ) (i : ℕ) → int_sum_by h (is ++ i ∷ []) ≡ int_sum_by h is +ℤ h i
int_sum_by-push h [] i = omega (arith, ints)
int_sum_by-push h (j ∷ is) i = omega (arith, ints, int_sum_by-push h is i)

int_sum_by-plus : (f g h : ℕ → ℤ) (is : List ℕ) → ((i : ℕ) → h i ≡ f i +ℤ g i) → int_sum_by h is ≡ int_sum_by f is +ℤ int_sum_by g is
int_sum_by-plus f g h [] e = omega (arith, ints)
int_sum_by-plus f g h (i ∷ is) e = omega (arith, ints, e i, int_sum_by-plus f g h is e)

int_sum_by-zero : (h : ℕ → ℤ) (is : List ℕ) → ((i : ℕ) → h i ≡ pos 0) → int_sum_by h is ≡ pos 0
int_sum_by-zero h [] e = refl
int_sum_by-zero h (i ∷ is) e = omega (arith, ints, e i, int_sum_by-zero h is e)

-- terms that are 0 may be left out
without_zeros : (h : ℕ → ℤ) (p : ℕ → Bool) (is : List ℕ) → ((i : ℕ) → p i ≡ false → h i ≡ pos 0) → int_sum_by h (filter p is) ≡ int_sum_by h is
without_zeros h p [] e = refl
without_zeros h p (i ∷ is) e = go (p i) refl (without_zeros h p is e) where
  go : (t : Bool) → p i ≡ t → int_sum_by h (filter p is) ≡ int_sum_by h is → int_sum_by h (cond (p i) (i ∷ filter p is) (filter p is)) ≡ h i +ℤ int_sum_by h is
  go true q rest = ap (λ (t : Bool). int_sum_by h (cond t (i ∷ filter p is) (filter p is))) q ∙ ap (λ (z : ℤ). h i +ℤ z) rest
  go false q rest = ap (λ (t : Bool). int_sum_by h (cond t (i ∷ filter p is) (filter p is))) q ∙ omega (arith, ints, rest, e i q)

zero_range : (h : ℕ → ℤ) (a n : ℕ) → ((i : ℕ) → a ≤ i → i < a + n → h i ≡ pos 0) → int_sum_by h (range_with_len a n) ≡ pos 0
zero_range h a zero e = refl
zero_range h a (suc n) e = omega (arith, ints, e a (omega arith) (omega arith), zero_range h (a + 1) n (λ i l m. e i (omega arith) (omega arith)))

-- one term alone isn't 0
one_term : (h : ℕ → ℤ) (a n k : ℕ) → a ≤ k → k < a + n → ((i : ℕ) → a ≤ i → i < a + n → i ≢ k → h i ≡ pos 0) → int_sum_by h (range_with_len a n) ≡ h k
one_term h a zero k l m e = absurd (omega arith)
one_term h a (suc n) k l m e = go (cases_order a k) (λ p. one_term h (a + 1) n k p (omega arith) (λ i q r d. e i (omega arith) (omega arith) d)) where
  go : (a ≡ k) ⊎ ((a < k) ⊎ (k < a)) → (a + 1 ≤ k → int_sum_by h (range_with_len (a + 1) n) ≡ h k) → h a +ℤ int_sum_by h (range_with_len (a + 1) n) ≡ h k
  go (inl s) rest = omega (arith, ints, ap h s, zero_range h (a + 1) n (λ i p r. e i (omega arith) (omega arith) (λ q. omega arith)))
  go (inr (inl p)) rest = omega (arith, ints, rest (omega arith), e a (omega arith) (omega arith) (λ q. omega arith))
  go (inr (inr p)) rest = absurd (omega arith)

signed-zero : (g : ℕ) (e : ℕ × ℕ) → signed_amount g e 0 ≡ pos 0
signed-zero g e = go (nat_eq e.0 g) (nat_eq e.1 g) where
  go : (a b : Bool) → pos (cond a 0 0) -ℤ pos (cond b 0 0) ≡ pos 0
  go true true = refl
  go true false = refl
  go false true = refl
  go false false = refl

signed-plus : (g : ℕ) (e : ℕ × ℕ) (m n : ℕ) → signed_amount g e (m + n) ≡ signed_amount g e m +ℤ signed_amount g e n
signed-plus g e m n = go (nat_eq e.0 g) (nat_eq e.1 g) where
  go : (a b : Bool) → pos (cond a (m + n) 0) -ℤ pos (cond b (m + n) 0) ≡ (pos (cond a m 0) -ℤ pos (cond b m 0)) +ℤ (pos (cond a n 0) -ℤ pos (cond b n 0))
  go true true = omega (arith, ints)
  go true false = omega (arith, ints)
  go false true = omega (arith, ints)
  go false false = omega (arith, ints)

signed-apart : (g : ℕ) (e : ℕ × ℕ) (m : ℕ) → has_end g e ≡ false → signed_amount g e m ≡ pos 0
signed-apart g e m h = go (nat_eq e.0 g) (nat_eq e.1 g) h where
  go : (a b : Bool) → (a || b) ≡ false → pos (cond a m 0) -ℤ pos (cond b m 0) ≡ pos 0
  go true b h = cc
  go false true h = cc
  go false false h = refl

turned : (a b : ℕ) → nat_eq a b ≡ nat_eq b a
turned a b = grind (arith, nat_tests)

module _ (pairs : List (ℕ × ℕ)) (distinct : AllPairs (λ e f. e ≡ f → ⊥) pairs) (g : ℕ) where
  abbrev pub pair_at : ℕ → ℕ × ℕ
  pair_at i = get_or pairs i (0, 0)

  abbrev share_of : Flow → ℕ → ℤ
  share_of f i = signed_amount g (pair_at i) (cond (is_along (pair_at i) f) f.amount 0)

  -- what one flow adds
  one_flow : (f : Flow) → Contains pairs (pair_of f) → int_sum_by (λ i. signed_amount g (pair_at i) (cond (is_along (pair_at i) f) f.amount 0)) (indexes_at pairs g) ≡ signed_amount g (pair_of f) f.amount
  one_flow f h =
      without_zeros (λ i. signed_amount g (pair_at i) (cond (is_along (pair_at i) f) f.amount 0)) (λ i. has_end g (pair_at i)) (range_with_len 0 (length pairs)) (λ i e. signed-apart g (pair_at i) (cond (is_along (pair_at i) f) f.amount 0) e)
      ∙ single
    where
      at : (k : ℕ) × (slice_get pairs k ≡ Some (pair_of f))
      at = contained_at pairs (pair_of f) h

      inside : at.0 < length pairs
      inside = slice_get_within pairs at.0 (pair_of f) at.1

      here : pair_at at.0 ≡ pair_of f
      here = get_or_from_slice_get pairs at.0 (pair_of f) (0, 0) at.1

      elsewhere : (i : ℕ) → 0 ≤ i → i < 0 + length pairs → i ≢ at.0 → share_of f i ≡ pos 0
      elsewhere i a b d =
          ap (λ (t : Bool). signed_amount g (pair_at i) (cond t f.amount 0)) (other_along (pair_at i) f (λ same. d (one_index pairs distinct i at.0 (pair_of f) (slice_get-get_or pairs i (0, 0) (omega arith) ∙ ap Some (sym same)) at.1)))
          ∙ signed-zero g (pair_at i)

      single : int_sum_by (λ i. signed_amount g (pair_at i) (cond (is_along (pair_at i) f) f.amount 0)) (range_with_len 0 (length pairs)) ≡ signed_amount g (pair_of f) f.amount
      single =
          one_term (share_of f) 0 (length pairs) at.0 (omega arith) (omega (arith, inside)) elsewhere
          ∙ ap (λ (e : ℕ × ℕ). signed_amount g e (cond (is_along e f) f.amount 0)) here
          ∙ ap (λ (t : Bool). signed_amount g (pair_of f) (cond t f.amount 0)) (same_along (pair_of f) f refl)

  own_share : (f : Flow) → pos (cond (nat_eq g f.low) f.amount 0) -ℤ pos (cond (nat_eq g f.high) f.amount 0) ≡ signed_amount g (pair_of f) f.amount
  own_share f = ap₂ (λ (a b : Bool). pos (cond a f.amount 0) -ℤ pos (cond b f.amount 0)) (turned g f.low) (turned g f.high)

  -- flows along pairs: the balance is the sum of the amounts along the pairs with this end
  pub balance-by_pairs : (flows : List Flow) → AllByRecursion (λ f. Contains pairs (f.low, f.high)) flows → int_sum_by (λ i. signed_amount g (pair_at i) (amount_along flows (pair_at i))) (indexes_at pairs g) ≡ balance flows g
  balance-by_pairs [] h = int_sum_by-zero (λ i. signed_amount g (pair_at i) 0) (indexes_at pairs g) (λ i. signed-zero g (pair_at i))
  balance-by_pairs (f ∷ fs) h = omega (
    arith,
    ints,
    int_sum_by-plus (λ i. signed_amount g (pair_at i) (cond (is_along (pair_at i) f) f.amount 0)) (λ i. signed_amount g (pair_at i) (amount_along fs (pair_at i))) (λ i. signed_amount g (pair_at i) (amount_along (f ∷ fs) (pair_at i))) (indexes_at pairs g)
        (λ i. ap (signed_amount g (pair_at i)) (sum_by-cons (λ (k : Flow). cond (is_along (pair_at i) k) k.amount 0) f fs) ∙ signed-plus g (pair_at i) (cond (is_along (pair_at i) f) f.amount 0) (amount_along fs (pair_at i))),
    one_flow f h.0,
    own_share f,
    balance-by_pairs fs h.1,
  )

  pub indexes_inside : All (λ i. i < length pairs) (indexes_at pairs g)
  indexes_inside = All-filter (λ i. has_end g (pair_at i)) (λ i. i < length pairs) (range_with_len 0 (length pairs)) (λ k d l. omega (arith, length-range_with_len 0 (length pairs), get_or-range_with_len 0 (length pairs) k d (omega (arith, length-range_with_len 0 (length pairs)))))

pub filter_shorter : (p : ℕ → Bool) (is : List ℕ) → length (filter p is) ≤ length is
filter_shorter p [] = omega arith
filter_shorter p (i ∷ is) = go (p i) (filter_shorter p is) where
  go : (t : Bool) → length (filter p is) ≤ length is → length (cond t (i ∷ filter p is) (filter p is)) ≤ length (i ∷ is)
  go true l = omega (arith, l)
  go false l = omega (arith, l)

pub indexes_few : (pairs : List (ℕ × ℕ)) (g : ℕ) → length (indexes_at pairs g) ≤ length pairs
indexes_few pairs g = omega (arith, filter_shorter (λ i. has_end g (get_or pairs i (0, 0))) (range_with_len 0 (length pairs)), length-range_with_len 0 (length pairs))
