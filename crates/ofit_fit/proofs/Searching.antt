-- What a search in rising pairs and members finds.
use Rattle.std.proofs.Common.{◌≡◌, ℕ, ◌+◌, ◌-◌, ◌<◌, ◌≤◌, ◌⊎◌, sym, ap, ◌∙◌, arith, inl, inr, List, length, get_or, slice_index, take, drop}
use Rattle.std.proofs.lemmas.Bool.{cases_order}
use Rattle.std.proofs.lemmas.List.{get_or-take, get_or-drop, length-take, length-drop}
use Rattle.std.proofs.lemmas.List.Kept.{AllPairs-from_increasing}
use Rattle.std.specs.List.{Contains}
use Rattle.std.specs.List.Sorted.{IsNonDecreasingBy, IsStrictlyIncreasing}
use Rattle.ofit_order.specs.Relation.{AreInOrder, ComesBefore}

pub rises_from_order : (pairs : List (ℕ × ℕ)) → AreInOrder pairs → IsNonDecreasingBy (λ (p : ℕ × ℕ). p.0) pairs
rises_from_order pairs in_order i j d l m = elim (cases_order i j) [
  | inl e ↦ omega (arith, ap (λ (k : ℕ). (get_or pairs k d).0) e)
  | inr o ↦ elim o [ inl b ↦ either (in_order i j d b m) | inr b ↦ absurd (omega arith) ]
] where
  either : ComesBefore (get_or pairs i d) (get_or pairs j d) → (get_or pairs i d).0 ≤ (get_or pairs j d).0
  either (inl h) = omega arith
  either (inr h) = omega (arith, h.0)

-- numbers that rise strictly do not fall
pub rises_from_increasing : (xs : List ℕ) → IsStrictlyIncreasing xs → (i j : ℕ) → i ≤ j → j < length xs → get_or xs i 0 ≤ get_or xs j 0
rises_from_increasing xs up i j l m = elim (cases_order i j) [
  | inl e ↦ omega (arith, ap (slice_index xs) e)
  | inr o ↦ elim o [ inl b ↦ omega (arith, AllPairs-from_increasing xs up i j 0 b m) | inr b ↦ absurd (omega arith) ]
]

-- a list cut at two indexes has just the elements between them
pub between_from : {X : Type 0} (xs : List X) (i j : ℕ) (x : X) → i ≤ j → j ≤ length xs → Contains (take (j - i) (drop i xs)) x → (k : ℕ) × (i ≤ k) × (k < j) × (get_or xs k x ≡ x)
between_from xs i j x l m h =
    let below : h.0 < j - i = omega (arith, h.1, length-take (j - i) (drop i xs), length-drop i xs) in
    (i + h.0, omega arith, omega (arith, below), sym (get_or-drop i xs h.0 x) ∙ sym (get_or-take (j - i) (drop i xs) h.0 x below) ∙ h.2)

pub between_to : {X : Type 0} (xs : List X) (i j : ℕ) (x : X) → j ≤ length xs → (k : ℕ) → i ≤ k → k < j → get_or xs k x ≡ x → Contains (take (j - i) (drop i xs)) x
between_to xs i j x m k l b e =
    let below : k - i < j - i = omega arith in
    let back : i + (k - i) ≡ k = omega arith in (
      k - i,
      omega (arith, below, length-take (j - i) (drop i xs), length-drop i xs),
      get_or-take (j - i) (drop i xs) (k - i) x below ∙ get_or-drop i xs (k - i) x ∙ ap (λ (n : ℕ). get_or xs n x) back ∙ e,
    )

pub order_split : (a b : ℕ) → (a < b) ⊎ (b ≤ a)
order_split a b = elim (cases_order a b) [
  | inl e ↦ inr (omega arith)
  | inr o ↦ elim o [ inl l ↦ inl l | inr l ↦ inr (omega arith) ]
]
