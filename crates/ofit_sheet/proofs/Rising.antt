-- Lists whose keys rise strictly, from the left.
use Rattle.std.proofs.Common.{ℕ, zero, suc, ◌+◌, ◌≤◌, ◌<◌, List, [], ◌∷◌, length, drop, get_or, sym, subst, add-one, drop-cons, arith}
use Rattle.std.specs.Prelude.{All, AllPairs}
use Rattle.std.proofs.lemmas.List.Elements.{All-nil, All-cons, All-head, All-weaker}
use Rattle.std.proofs.lemmas.List.Kept.{AllPairs-cons}

module _ {X : Type 0} (key : X → ℕ) where
  -- each key is at least n and above the one before
  abbrev pub IsRising : ℕ → List X → Type 0
  IsRising n [] = Unit {0}
  IsRising n (x ∷ xs) = (n ≤ key x) × IsRising (key x + 1) xs

  pub rising_least : (n : ℕ) (xs : List X) → IsRising n xs → All (λ x. n ≤ key x) xs
  rising_least n [] h = All-nil (λ x. n ≤ key x)
  rising_least n (x ∷ xs) h = All-cons (λ y. n ≤ key y) x xs h.0 (All-weaker (λ y. key x + 1 ≤ key y) (λ y. n ≤ key y) (λ y l. let low : n ≤ key x = h.0 in omega arith) xs (rising_least (key x + 1) xs h.1))

  pub rising_pairs : (n : ℕ) (xs : List X) → IsRising n xs → AllPairs (λ x y. key x < key y) xs
  rising_pairs n [] h = λ i j d lt within. absurd (omega (arith, within))
  rising_pairs n (x ∷ xs) h = AllPairs-cons (λ x y. key x < key y) x xs (All-weaker (λ y. key x + 1 ≤ key y) (λ y. key x < key y) (λ y l. omega (arith, l)) xs (rising_least (key x + 1) xs h.1)) (rising_pairs (key x + 1) xs h.1)

  pub pairs_tail : (R : X → X → Type 0) (x : X) (xs : List X) → AllPairs R (x ∷ xs) → AllPairs R xs
  pairs_tail R x xs h i j d lt within = h (suc i) (suc j) d (omega arith) (omega arith)

  pub pairs_head : (R : X → X → Type 0) (x : X) (xs : List X) → AllPairs R (x ∷ xs) → All (R x) xs
  pairs_head R x xs h k d within = h zero (suc k) d (omega arith) (omega arith)

  pub pairs_rising : (n : ℕ) (xs : List X) → All (λ x. n ≤ key x) xs → AllPairs (λ x y. key x < key y) xs → IsRising n xs
  pairs_rising n [] least h = tt
  pairs_rising n (x ∷ xs) least h =
      (All-head (λ y. n ≤ key y) x xs least, pairs_rising (key x + 1) xs (All-weaker (λ y. key x < key y) (λ y. key x + 1 ≤ key y) (λ y l. omega (arith, l)) xs (pairs_head (λ a b. key a < key b) x xs h)) (pairs_tail (λ a b. key a < key b) x xs h))

  pub rising_from_none : (xs : List X) → AllPairs (λ x y. key x < key y) xs → IsRising 0 xs
  rising_from_none xs h = pairs_rising 0 xs (λ k d l. omega arith) h

  -- what is left at an index is one element and what is left behind it
  pub rising_next : (n i : ℕ) (xs : List X) (d : X) → i < length xs → n ≤ key (get_or xs i d) → IsRising (key (get_or xs i d) + 1) (drop (i + 1) xs) → IsRising n (drop i xs)
  rising_next n i xs d lt l h =
      subst (λ (t : List X). IsRising n t) (sym (drop-cons xs i d lt)) (l, subst (λ (t : ℕ). IsRising (key (get_or xs i d) + 1) (drop t xs)) (add-one i) h)

  pub rising_rest : (n i : ℕ) (xs : List X) (d : X) → i < length xs → IsRising n (drop i xs) → (n ≤ key (get_or xs i d)) × IsRising (key (get_or xs i d) + 1) (drop (i + 1) xs)
  rising_rest n i xs d lt h =
      let e : IsRising n (get_or xs i d ∷ drop (suc i) xs) = subst (λ (t : List X). IsRising n t) (drop-cons xs i d lt) h in
      (e.0, subst (λ (t : ℕ). IsRising (key (get_or xs i d) + 1) (drop t xs)) (sym (add-one i)) e.1)
