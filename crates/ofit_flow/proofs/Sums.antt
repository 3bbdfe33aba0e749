-- Sums over edges with their amounts, and sums over the nodes of a set.
use Rattle.std.proofs.Common.{◌≡◌, ℕ, zero, suc, ◌<◌, refl, ap, sym, ◌∙◌, arith, List, [], ◌∷◌, Bool, true, false, cond, eqb, ◌≢◌, inl, inr}
use Rattle.std.proofs.lemmas.Int.{ints}
use Rattle.std.proofs.lemmas.Bool.{cases_order, eq-eqb, ne_eqb}
use Rattle.std.specs.Prelude.{ℤ, pos, ◌+ℤ◌, ◌-ℤ◌}
use Rattle.ofit_flow.specs.declared.edge.Edge.{Edge}
use Rattle.ofit_flow.specs.Flow.{total}

pub total-sub : (f g : Edge → ℤ → ℤ) (es : List Edge) (xs : List ℤ) → total (λ e x. f e x -ℤ g e x) es xs ≡ total f es xs -ℤ total g es xs
total-sub f g [] xs = refl
total-sub f g (e ∷ es) [] = refl
total-sub f g (e ∷ es) (x ∷ xs) = omega (arith, ints, total-sub f g es xs)

-- the sum of h over the nodes below n that are in the set
abbrev pub set_sum : (ℕ → Bool) → (ℕ → ℤ) → ℕ → ℤ
set_sum set h zero = pos 0
set_sum set h (suc n) = set_sum set h n +ℤ cond (set n) (h n) (pos 0)

add_cond : (b : Bool) (x y a c : ℤ) → (a +ℤ c) +ℤ cond b (x +ℤ y) (pos 0) ≡ (a +ℤ cond b x (pos 0)) +ℤ (c +ℤ cond b y (pos 0))
add_cond true x y a c = omega (arith, ints)
add_cond false x y a c = omega (arith, ints)

pub set_sum-add : (set : ℕ → Bool) (f h : ℕ → ℤ) (n : ℕ) → set_sum set (λ v. f v +ℤ h v) n ≡ set_sum set f n +ℤ set_sum set h n
set_sum-add set f h zero = refl
set_sum-add set f h (suc n) = ap (λ (z : ℤ). z +ℤ cond (set n) (f n +ℤ h n) (pos 0)) (set_sum-add set f h n) ∙ add_cond (set n) (f n) (h n) _ _

sub_cond : (b : Bool) (x y a c : ℤ) → (a -ℤ c) +ℤ cond b (x -ℤ y) (pos 0) ≡ (a +ℤ cond b x (pos 0)) -ℤ (c +ℤ cond b y (pos 0))
sub_cond true x y a c = omega (arith, ints)
sub_cond false x y a c = omega (arith, ints)

pub set_sum-sub : (set : ℕ → Bool) (f h : ℕ → ℤ) (n : ℕ) → set_sum set (λ v. f v -ℤ h v) n ≡ set_sum set f n -ℤ set_sum set h n
set_sum-sub set f h zero = refl
set_sum-sub set f h (suc n) = ap (λ (z : ℤ). z +ℤ cond (set n) (f n -ℤ h n) (pos 0)) (set_sum-sub set f h n) ∙ sub_cond (set n) (f n) (h n) _ _

cond_same : (b : Bool) (x : ℤ) → x ≡ pos 0 → cond b x (pos 0) ≡ pos 0
cond_same true x h = h
cond_same false x h = refl

-- terms that are 0 in the set
pub set_sum-zero : (set : ℕ → Bool) (h : ℕ → ℤ) (n : ℕ) → ((v : ℕ) → v < n → set v ≡ true → h v ≡ pos 0) → set_sum set h n ≡ pos 0
set_sum-zero set h zero z = refl
set_sum-zero set h (suc n) z =
    let tail : set_sum set h n ≡ pos 0 = set_sum-zero set h n (λ v l. z v (omega arith)) in
    omega (arith, ints, tail, cond_zero (set n) (h n) (z n (omega arith))) where
      cond_zero : (b : Bool) (x : ℤ) → (b ≡ true → x ≡ pos 0) → cond b x (pos 0) ≡ pos 0
      cond_zero true x k = k refl
      cond_zero false x k = refl

-- terms that are 0 in the set but at one node
pub set_sum-at : (set : ℕ → Bool) (h : ℕ → ℤ) (n s : ℕ) → s < n → ((v : ℕ) → v < n → set v ≡ true → v ≢ s → h v ≡ pos 0) → set_sum set h n ≡ cond (set s) (h s) (pos 0)
set_sum-at set h zero s l z = absurd (omega arith)
set_sum-at set h (suc n) s l z = elim (cases_order s n) [
  | inl same ↦
      let rest : set_sum set h n ≡ pos 0 = set_sum-zero set h n (λ v b k. z v (omega arith) k (omega arith)) in
      omega (arith, ints, rest, ap (λ (v : ℕ). cond (set v) (h v) (pos 0)) same)
  | inr o ↦ elim o [
    | inl below ↦
        let rest : set_sum set h n ≡ cond (set s) (h s) (pos 0) = set_sum-at set h n s below (λ v b. z v (omega arith)) in
        omega (arith, ints, rest, cond_zero (set n) (h n) (λ k. z n (omega arith) k (omega arith)))
    | inr above ↦ absurd (omega arith)
  ]
] where
  cond_zero : (b : Bool) (x : ℤ) → (b ≡ true → x ≡ pos 0) → cond b x (pos 0) ≡ pos 0
  cond_zero true x k = k refl
  cond_zero false x k = refl

-- an amount that stands at one node alone
pub set_sum-one : (set : ℕ → Bool) (u n : ℕ) (x : ℤ) → u < n → set_sum set (λ v. cond (eqb u v) x (pos 0)) n ≡ cond (set u) x (pos 0)
set_sum-one set u n x l =
    set_sum-at set (λ v. cond (eqb u v) x (pos 0)) n u l (λ v b k d. ap (λ (t : Bool). cond t x (pos 0)) (ne_eqb u v (λ e. d (sym e))))
    ∙ ap (λ (t : Bool). cond (set u) (cond t x (pos 0)) (pos 0)) (eq-eqb u u refl)
