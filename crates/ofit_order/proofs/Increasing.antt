-- Strictly increasing lists are told by their elements.
use Rattle.std.proofs.Common.{◌≡◌, ℕ, ◌+◌, ◌<◌, ◌≤◌, ◌⊎◌, inl, inr, List, [], ◌∷◌, length, get_or, slice_index, refl, subst, arith, suc, zero}
use Rattle.std.specs.List.{Contains}
use Rattle.std.specs.List.Sorted.{IsStrictlyIncreasing}
use Rattle.std.proofs.lemmas.Bool.{cases_lt}
use Rattle.std.proofs.lemmas.List.Kept.{AllPairs-from_increasing}
use Rattle.ofit_order.proofs.Seeing.{not_in_nil}

pub Contains-cons : (x : ℕ) (xs : List ℕ) (p : ℕ) → Contains xs p → Contains (x ∷ xs) p
Contains-cons x xs p h = (suc h.0, omega (arith, h.1), h.2)

pub Contains-head : (x : ℕ) (xs : List ℕ) → Contains (x ∷ xs) x
Contains-head x xs = (0, omega arith, refl)

contains_cases : (x : ℕ) (xs : List ℕ) (p k : ℕ) → k < length (x ∷ xs) → get_or (x ∷ xs) k p ≡ p → (x ≡ p) ⊎ Contains xs p
contains_cases x xs p zero l e = inl e
contains_cases x xs p (suc k) l e = inr (k, omega (arith, l), e)

pub Contains-cons_cases : (x : ℕ) (xs : List ℕ) (p : ℕ) → Contains (x ∷ xs) p → (x ≡ p) ⊎ Contains xs p
Contains-cons_cases x xs p h = contains_cases x xs p h.0 h.1 h.2

-- the head is below the rest
pub increasing_head : (x : ℕ) (xs : List ℕ) (p : ℕ) → IsStrictlyIncreasing (x ∷ xs) → Contains xs p → x < p
increasing_head x xs p up h =
    let far = AllPairs-from_increasing (x ∷ xs) up 0 (suc h.0) p (omega arith) (omega (arith, h.1)) in
    let e : get_or xs h.0 p ≡ p = h.2 in
    subst (λ (t : ℕ). x < t) e far

pub increasing_tail : (x : ℕ) (xs : List ℕ) → IsStrictlyIncreasing (x ∷ xs) → IsStrictlyIncreasing xs
increasing_tail x xs up = λ k l. AllPairs-from_increasing (x ∷ xs) up (suc k) (suc (k + 1)) 0 (omega arith) (omega (arith, l))

pub increasing_same : (xs ys : List ℕ) → IsStrictlyIncreasing xs → IsStrictlyIncreasing ys → ((p : ℕ) → Contains xs p → Contains ys p) → ((p : ℕ) → Contains ys p → Contains xs p) → xs ≡ ys
increasing_same [] [] up vp to from = refl
increasing_same [] (y ∷ ys) up vp to from = absurd (not_in_nil y (from y (Contains-head y ys)))
increasing_same (x ∷ xs) [] up vp to from = absurd (not_in_nil x (to x (Contains-head x xs)))
increasing_same (x ∷ xs) (y ∷ ys) up vp to from =
    let low : y ≤ x = elim (Contains-cons_cases y ys x (to x (Contains-head x xs))) [ inl e ↦ omega (arith, e) | inr c ↦ let l = increasing_head y ys x vp c in omega (arith, l) ] in
    let high : x ≤ y = elim (Contains-cons_cases x xs y (from y (Contains-head y ys))) [ inl e ↦ omega (arith, e) | inr c ↦ let l = increasing_head x xs y up c in omega (arith, l) ] in
    let e : x ≡ y = omega arith in
    let rest = increasing_same xs ys (increasing_tail x xs up) (increasing_tail y ys vp)
    (λ p c. elim (Contains-cons_cases y ys p (to p (Contains-cons x xs p c))) [
      | inl f ↦ let l = increasing_head x xs p up c in absurd (omega (arith, l, f, e))
      | inr d ↦ d
    ])
    (λ p c. elim (Contains-cons_cases x xs p (from p (Contains-cons y ys p c))) [
      | inl f ↦ let l = increasing_head y ys p vp c in absurd (omega (arith, l, f, e))
      | inr d ↦ d
    ]) in
    cc (e, rest)

-- elements at two places are the same only at one place
pub increasing_at : (xs : List ℕ) (i j : ℕ) → IsStrictlyIncreasing xs → i < length xs → j < length xs → slice_index xs i ≡ slice_index xs j → i ≡ j
increasing_at xs i j up l m e =
    elim (cases_lt i j) [
      | inl below ↦ let a = AllPairs-from_increasing xs up i j 0 below m in absurd (omega (arith, a, e))
      | inr above ↦ elim (cases_lt j i) [
        | inl over ↦ let a = AllPairs-from_increasing xs up j i 0 over l in absurd (omega (arith, a, e))
        | inr same ↦ omega arith
      ]
    ]
