-- Places that a numbering has, and sums over them.
use Rattle.std.proofs.Common.{◌≡◌, ◌≢◌, ℕ, zero, suc, ◌+◌, ◌<◌, refl, sym, ap, ◌∙◌, arith, inl, inr, cond, nat_eq, Bool, true, false}
use Rattle.std.proofs.lemmas.Bool.{cases_order}
use Rattle.std.proofs.lemmas.Bool.Decides.{nat_tests}
use Rattle.ofit_num.specs.Fit.{sum_below}
use Rattle.ofit_num.proofs.Sums.{sum_below-same, sum_below-add, sum_below-zero}

pub same_place : (a b : ℕ) → a ≡ b → nat_eq a b ≡ true
same_place a b e = grind (arith, nat_tests)

pub other_place : (a b : ℕ) → a ≢ b → nat_eq a b ≡ false
other_place a b e = grind (arith, nat_tests)

pub is_same : (a b : ℕ) → nat_eq a b ≡ true → a ≡ b
is_same a b e = grind (arith, nat_tests)

pub is_other : (a b : ℕ) → nat_eq a b ≡ false → a ≢ b
is_other a b e h = grind (arith, nat_tests)

-- at has g among its first n places
abbrev pub is_in : (ℕ → ℕ) → ℕ → ℕ → Bool
is_in at zero g = false
is_in at (suc n) g = cond (nat_eq (at n) g) true (is_in at n g)

-- the index below n of a place
abbrev pub HasPlace : (ℕ → ℕ) → ℕ → ℕ → Type 0
HasPlace at n g = (i : ℕ) × (i < n) × (at i ≡ g)

pub in_from : (at : ℕ → ℕ) (n g : ℕ) → is_in at n g ≡ true → HasPlace at n g
in_from at zero g h = cc
in_from at (suc n) g h = go (nat_eq (at n) g) refl (in_from at n g) where
  go : (b : Bool) → nat_eq (at n) g ≡ b → (is_in at n g ≡ true → HasPlace at n g) → HasPlace at (suc n) g
  go true e below = (n, omega arith, is_same (at n) g e)
  go false e below =
      let found : HasPlace at n g = below (ap (λ (b : Bool). cond b true (is_in at n g)) (sym e) ∙ h) in
      (found.0, omega (arith, found.1), found.2)

pub in_to : (at : ℕ → ℕ) (n g : ℕ) → HasPlace at n g → is_in at n g ≡ true
in_to at zero g h = absurd (omega (arith, h.1))
in_to at (suc n) g h = go (nat_eq (at n) g) refl (in_to at n g) where
  go : (b : Bool) → nat_eq (at n) g ≡ b → (HasPlace at n g → is_in at n g ≡ true) → cond (nat_eq (at n) g) true (is_in at n g) ≡ true
  go true e found = ap (λ (b : Bool). cond b true (is_in at n g)) e
  go false e found =
      elim (cases_order h.0 n) [
        | inl same ↦ absurd (is_other (at n) g e (ap at (sym same) ∙ h.2))
        | inr o ↦ elim o [
          | inl below ↦ ap (λ (b : Bool). cond b true (is_in at n g)) e ∙ found (h.0, below, h.2)
          | inr above ↦ absurd (omega (arith, h.1))
        ]
      ]

pub out_from : (at : ℕ → ℕ) (n g : ℕ) → is_in at n g ≡ false → HasPlace at n g → ⊥
out_from at n g e h =
    let f = in_to at n g h in
    cc

pub out_to : (at : ℕ → ℕ) (n g : ℕ) → (HasPlace at n g → ⊥) → is_in at n g ≡ false
out_to at n g h = go (is_in at n g) refl where
  go : (b : Bool) → is_in at n g ≡ b → is_in at n g ≡ false
  go true e = absurd (h (in_from at n g e))
  go false e = e

-- the numbering has each of its first n places once
abbrev pub IsDistinct : (ℕ → ℕ) → ℕ → Type 0
IsDistinct at n = (i j : ℕ) → i < n → j < n → at i ≡ at j → i ≡ j

-- a sum whose terms are 0 but at one place
pub sum_below-at : (f : ℕ → ℕ) (n k : ℕ) → k < n → ((g : ℕ) → g < n → g ≢ k → f g ≡ 0) → sum_below f n ≡ f k
sum_below-at f zero k l e = absurd (omega arith)
sum_below-at f (suc n) k l e = elim (cases_order k n) [
  | inl same ↦ omega (arith, sum_below-zero f n (λ g b. e g (omega arith) (omega arith)), ap f same)
  | inr o ↦ elim o [
    | inl below ↦ omega (arith, sum_below-at f n k below (λ g b d. e g (omega arith) d), e n (omega arith) (omega arith))
    | inr above ↦ absurd (omega arith)
  ]
]

-- the sum over the places of a numbering, and over its numbers
pub sum_picked : (at : ℕ → ℕ) (n k : ℕ) (f : ℕ → ℕ) → ((i : ℕ) → i < k → at i < n) → IsDistinct at k → sum_below (λ g. cond (is_in at k g) (f g) 0) n ≡ sum_below (λ i. f (at i)) k
sum_picked at n zero f inside distinct = sum_below-zero _ n (λ g l. refl)
sum_picked at n (suc k) f inside distinct =
    sum_below-same _ (λ g. cond (is_in at k g) (f g) 0 + cond (nat_eq (at k) g) (f g) 0) n (λ g l. one g)
    ∙ sum_below-add (λ g. cond (is_in at k g) (f g) 0) (λ g. cond (nat_eq (at k) g) (f g) 0) n
    ∙ omega (arith, sum_picked at n k f (λ i l. inside i (omega arith)) (λ i j l m e. distinct i j (omega arith) (omega arith) e), last)
  where
    one : (g : ℕ) → cond (cond (nat_eq (at k) g) true (is_in at k g)) (f g) 0 ≡ cond (is_in at k g) (f g) 0 + cond (nat_eq (at k) g) (f g) 0
    one g = go (nat_eq (at k) g) (is_in at k g) refl refl where
      go : (a b : Bool) → nat_eq (at k) g ≡ a → is_in at k g ≡ b → cond (cond a true b) (f g) 0 ≡ cond b (f g) 0 + cond a (f g) 0
      go true true e h =
          let i : HasPlace at k g = in_from at k g h in
          let same : i.0 ≡ k = distinct i.0 k (omega (arith, i.1)) (omega arith) (i.2 ∙ sym (is_same (at k) g e)) in
          absurd (omega (arith, i.1, same))
      go true false e h = omega arith
      go false true e h = omega arith
      go false false e h = refl

    last : sum_below (λ g. cond (nat_eq (at k) g) (f g) 0) n ≡ f (at k)
    last = sum_below-at (λ g. cond (nat_eq (at k) g) (f g) 0) n (at k) (inside k (omega arith)) (λ g l d. ap (λ (b : Bool). cond b (f g) 0) (other_place (at k) g (λ e. d (sym e))))
        ∙ ap (λ (b : Bool). cond b (f (at k)) 0) (same_place (at k) (at k) refl)

-- the sum over a set and over what is outside it
pub sum_split : (a : ℕ → Bool) (f : ℕ → ℕ) (n : ℕ) → sum_below f n ≡ sum_below (λ g. cond (a g) (f g) 0) n + sum_below (λ g. cond (a g) 0 (f g)) n
sum_split a f n = sum_below-same f (λ g. cond (a g) (f g) 0 + cond (a g) 0 (f g)) n (λ g l. one (a g) (f g)) ∙ sum_below-add (λ g. cond (a g) (f g) 0) (λ g. cond (a g) 0 (f g)) n where
  one : (b : Bool) (x : ℕ) → x ≡ cond b x 0 + cond b 0 x
  one true x = omega arith
  one false x = omega arith

-- sums in either order
pub sum_turned : (f : ℕ → ℕ → ℕ) (n r : ℕ) → sum_below (λ k. sum_below (λ g. f k g) n) r ≡ sum_below (λ g. sum_below (λ k. f k g) r) n
sum_turned f n zero = sym (sum_below-zero (λ g. 0) n (λ g l. refl))
sum_turned f n (suc r) = omega (arith, sum_turned f n r, sum_below-add (λ g. sum_below (λ k. f k g) r) (λ g. f r g) n)

-- the sum over all places is that over the parts, where each place lies in one
pub sum_parts : (f : ℕ → ℕ) (n r : ℕ) (at : ℕ → ℕ → ℕ) (count : ℕ → ℕ) → ((k i : ℕ) → k < r → i < count k → at k i < n) → ((k : ℕ) → k < r → IsDistinct (at k) (count k))
    → ((g : ℕ) → g < n → (k : ℕ) × (k < r) × HasPlace (at k) (count k) g) → ((j k g : ℕ) → j < r → k < r → HasPlace (at j) (count j) g → HasPlace (at k) (count k) g → j ≡ k)
    → sum_below f n ≡ sum_below (λ k. sum_below (λ i. f (at k i)) (count k)) r
sum_parts f n r at count inside distinct cover apart =
    sym (sum_below-same _ (λ k. sum_below (λ g. cond (is_in (at k) (count k) g) (f g) 0) n) r (λ k l. sym (sum_picked (at k) n (count k) f (λ i b. inside k i l b) (distinct k l)))
    ∙ sum_turned (λ k g. cond (is_in (at k) (count k) g) (f g) 0) n r
    ∙ sum_below-same _ f n (λ g l. once g (cover g l)))
  where
    once : (g : ℕ) → (k : ℕ) × (k < r) × HasPlace (at k) (count k) g → sum_below (λ k. cond (is_in (at k) (count k) g) (f g) 0) r ≡ f g
    once g h = sum_below-at (λ k. cond (is_in (at k) (count k) g) (f g) 0) r h.0 h.1
        (λ k l d. ap (λ (b : Bool). cond b (f g) 0) (out_to (at k) (count k) g (λ p. d (apart k h.0 g l h.1 p h.2))))
        ∙ ap (λ (b : Bool). cond b (f g) 0) (in_to (at h.0) (count h.0) g h.2)
