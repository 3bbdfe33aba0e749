-- Rising lists, and how many of their items are at least a bound.
use Rattle.std.proofs.Common.{◌≡◌, ℕ, zero, suc, ◌+◌, ◌-◌, ◌*◌, ◌<◌, ◌≤◌, inl, inr, Bool, true, false, cond, leb, List, [], ◌∷◌, length, refl, ap, sym, ◌∙◌, arith}
use Rattle.std.proofs.Math.Nat.{suc-mul, zero-mul}
use Rattle.std.specs.List.{sum_by, count_by, range_with_len}
use Rattle.std.proofs.lemmas.Bool.Decides.{leb_tells}
use Rattle.std.proofs.lemmas.List.Sums.{sum_by-cons, count_by-le-length}
use Rattle.ofit_levels.proofs.Ways.{sum_below}

-- each item is below the next, and the first is at least low
abbrev pub Rises : ℕ → List ℕ → Type 0
Rises low [] = Unit {0}
Rises low (x ∷ xs) = (low ≤ x) × Rises (suc x) xs

abbrev pub at_least : ℕ → List ℕ → ℕ
at_least bound xs = count_by (λ x. leb bound x) xs

pub leb-yes : (a b : ℕ) → a ≤ b → leb a b ≡ true
leb-yes a b h = elim (leb_tells a b) [ inl reached ↦ reached.0 | inr missed ↦ absurd (omega (arith, h, missed.1)) ]

pub leb-no : (a b : ℕ) → b < a → leb a b ≡ false
leb-no a b h = elim (leb_tells a b) [ inl reached ↦ absurd (omega (arith, h, reached.1)) | inr missed ↦ missed.0 ]

pub at_least-yes : (bound x : ℕ) (xs : List ℕ) → leb bound x ≡ true → at_least bound (x ∷ xs) ≡ suc (at_least bound xs)
at_least-yes bound x xs h =
    let one : ◌≡◌ {A = ℕ} (cond (leb bound x) 1 0) 1 = ap (λ (t : Bool). cond {A = ℕ} t 1 0) h in
    omega (arith, sum_by-cons (λ (y : ℕ). cond (leb bound y) 1 0) x xs, one)

pub at_least-no : (bound x : ℕ) (xs : List ℕ) → leb bound x ≡ false → at_least bound (x ∷ xs) ≡ at_least bound xs
at_least-no bound x xs h =
    let none : ◌≡◌ {A = ℕ} (cond (leb bound x) 1 0) 0 = ap (λ (t : Bool). cond {A = ℕ} t 1 0) h in
    omega (arith, sum_by-cons (λ (y : ℕ). cond (leb bound y) 1 0) x xs, none)

pub Rises-from : (low lower : ℕ) (xs : List ℕ) → lower ≤ low → Rises low xs → Rises lower xs
Rises-from low lower [] h up = tt
Rises-from low lower (x ∷ xs) h up = (omega (arith, h, up.0), up.1)

pub Rises-range : (a n : ℕ) → Rises a (range_with_len a n)
Rises-range a zero = tt
Rises-range a (suc n) =
    (omega arith, Rises-from (a + 1) (suc a) (range_with_len (a + 1) n) (omega arith) (Rises-range (a + 1) n))

-- all items of a rising list are at least what it begins with
pub at_least-all : (low bound : ℕ) (xs : List ℕ) → bound ≤ low → Rises low xs → at_least bound xs ≡ length xs
at_least-all low bound [] h up = refl
at_least-all low bound (x ∷ xs) h up =
    let one = at_least-yes bound x xs (leb-yes bound x (omega (arith, h, up.0))) in
    let rest = at_least-all (suc x) bound xs (omega (arith, h, up.0)) up.1 in
    omega (arith, one, rest)

sum_rising-agree : (f g : ℕ → ℕ) (low : ℕ) (xs : List ℕ) → Rises low xs → ((x : ℕ) → low ≤ x → f x ≡ g x) → sum_by f xs ≡ sum_by g xs
sum_rising-agree f g low [] up same = refl
sum_rising-agree f g low (x ∷ xs) up same =
    let rest = sum_rising-agree f g (suc x) xs up.1 (λ y h. same y (omega (arith, h, up.0))) in
    omega (arith, sum_by-cons f x xs, sum_by-cons g x xs, same x up.0, rest)

-- g of how many items stand above it, at an item that is at least the bound, and e at each other
abbrev pub rank_term : (ℕ → ℕ) → ℕ → ℕ → List ℕ → ℕ → ℕ
rank_term g e bound xs x = cond (leb bound x) (g (at_least (suc x) xs)) e

rank_term-cons : (g : ℕ → ℕ) (e bound first : ℕ) (xs : List ℕ) (x : ℕ) → suc first ≤ x → rank_term g e bound (first ∷ xs) x ≡ rank_term g e bound xs x
rank_term-cons g e bound first xs x h = ap (λ (t : ℕ). cond (leb bound x) (g t) e) (at_least-no (suc x) first xs (leb-no (suc x) first (omega (arith, h))))

counted_off : (n a e s : ℕ) → a ≤ n → (suc n - a) * e + s ≡ e + ((n - a) * e + s)
counted_off n a e s h =
    let more : suc n - a ≡ suc (n - a) = omega arith in
    let split : (suc n - a) * e ≡ (n - a) * e + e = ap (λ (x : ℕ). x * e) more ∙ suc-mul (n - a) e in
    omega (arith, split)

none_off : (n a e s : ℕ) → a ≡ n → (n - a) * e + s ≡ s
none_off n a e s h =
    let none : n - a ≡ 0 = omega (arith, h) in
    let gone : (n - a) * e ≡ 0 = ap (λ (x : ℕ). x * e) none ∙ zero-mul e in
    omega (arith, gone)

-- the items that are at least the bound have each number of items above them once
pub sum_by-rank : (g : ℕ → ℕ) (e bound low : ℕ) (xs : List ℕ) → Rises low xs → sum_by (rank_term g e bound xs) xs ≡ (length xs - at_least bound xs) * e + sum_below g (at_least bound xs)
sum_by-rank g e bound low [] up = sym (none_off 0 0 e 0 refl)
sum_by-rank g e bound low (x ∷ xs) up =
    let term = rank_term g e bound (x ∷ xs) in
    let cons = sum_by-cons term x xs in
    let rest = sum_rising-agree term (rank_term g e bound xs) (suc x) xs up.1 (rank_term-cons g e bound x xs)
    ∙ sum_by-rank g e bound (suc x) xs up.1 in
    elim (leb_tells bound x) [
      | inl reached ↦
          let first : term x ≡ g (length xs) =
          ap (λ (t : Bool). cond t (g (at_least (suc x) (x ∷ xs))) e) reached.0
          ∙ ap g (at_least-no (suc x) x xs (leb-no (suc x) x (omega arith)) ∙ at_least-all (suc x) (suc x) xs (omega arith) up.1) in
          let inner = at_least-all (suc x) bound xs (omega (arith, reached.1)) up.1 in
          let outer : at_least bound (x ∷ xs) ≡ suc (length xs) = at_least-yes bound x xs reached.0 ∙ ap suc inner in
          let here = none_off (length xs) (at_least bound xs) e (sum_below g (at_least bound xs)) inner in
          let there = none_off (suc (length xs)) (at_least bound (x ∷ xs)) e (sum_below g (at_least bound (x ∷ xs))) outer in
          let sums : sum_below g (at_least bound (x ∷ xs)) ≡ sum_below g (at_least bound xs) + g (length xs) =
          ap (λ (t : ℕ). sum_below g t) outer ∙ ap (λ (t : ℕ). sum_below g t + g (length xs)) (sym inner) in
          omega (arith, cons, rest, first, here, there, sums)
      | inr missed ↦
          let first : term x ≡ e = ap (λ (t : Bool). cond t (g (at_least (suc x) (x ∷ xs))) e) missed.0 in
          let outer = at_least-no bound x xs missed.0 in
          let off = counted_off (length xs) (at_least bound xs) e (sum_below g (at_least bound xs)) (count_by-le-length (λ (y : ℕ). leb bound y) xs) in
          let there : (length (x ∷ xs) - at_least bound (x ∷ xs)) * e + sum_below g (at_least bound (x ∷ xs)) ≡ (suc (length xs) - at_least bound xs) * e + sum_below g (at_least bound xs) =
          ap (λ (t : ℕ). (suc (length xs) - t) * e + sum_below g t) outer in
          omega (arith, cons, rest, first, off, there)
    ]
