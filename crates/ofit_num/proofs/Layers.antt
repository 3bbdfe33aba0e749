-- a weighted sum as a sum over its layers
use Rattle.std.proofs.Common.{◌≡◌, ℕ, zero, suc, ◌<◌, ◌≤◌, refl, sym, ap, ◌∙◌, arith, cond, Bool, true, false, nat_lt, inl, inr}
use Rattle.std.proofs.lemmas.Int.{ints}
use Rattle.std.proofs.lemmas.Bool.{cases_order}
use Rattle.std.proofs.lemmas.Bool.Decides.{nat_tests}
use Rattle.std.specs.Prelude.{ℤ, pos, ◌+ℤ◌, ◌*ℤ◌}
use Rattle.ofit_num.proofs.Gap.{is_gap, gap-same, gap-add, gap-mul, pos-gap}
use Rattle.ofit_num.specs.Sets.{set_sum}
use Rattle.ofit_num.proofs.Order.{mul_zero_ℤ}
use Rattle.ofit_num.proofs.Sums.{int_sum, int_sum-add, int_sum-same, int_sum-zero}

pub set_sum-is : (a : ℕ → Bool) (c : ℕ → ℤ) (n : ℕ) → set_sum a c n ≡ int_sum (λ g. cond (a g) (c g) (pos 0)) n
set_sum-is a c zero = refl
set_sum-is a c (suc n) = ap (λ (z : ℤ). z +ℤ cond (a n) (c n) (pos 0)) (set_sum-is a c n)

-- one layer
abbrev layer : ℤ → ℕ → ℕ → ℤ
layer c y k = cond (nat_lt k y) c (pos 0)

below : (k y : ℕ) → k < y → nat_lt k y ≡ true
below k y h = grind (arith, nat_tests)

beyond : (k y : ℕ) → y ≤ k → nat_lt k y ≡ false
beyond k y h = grind (arith, nat_tests)

times_more : (c : ℤ) (n : ℕ) → c *ℤ pos n +ℤ c ≡ c *ℤ pos (suc n)
times_more c n = rw (is_gap c) (simp (pos-gap, gap-mul, gap-add) (gap-same _ _ _ _ (omega arith)))

full : (c : ℤ) (y n : ℕ) → n ≤ y → int_sum (layer c y) n ≡ c *ℤ pos n
full c y zero h = sym (mul_zero_ℤ c)
full c y (suc n) h =
    ap (λ (b : Bool). int_sum (layer c y) n +ℤ cond b c (pos 0)) (below n y (omega arith))
    ∙ ap (λ (z : ℤ). z +ℤ c) (full c y n (omega arith)) ∙ times_more c n

one_column : (c : ℤ) (y n : ℕ) → y ≤ n → int_sum (layer c y) n ≡ c *ℤ pos y
one_column c y zero h = full c y zero (omega arith) ∙ ap (λ (k : ℕ). c *ℤ pos k) (omega arith)
one_column c y (suc n) h = elim (cases_order y (suc n)) [
  | inl e ↦ full c y (suc n) (omega arith) ∙ ap (λ (k : ℕ). c *ℤ pos k) (sym e)
  | inr o ↦ elim o [
    | inl l ↦ ap (λ (b : Bool). int_sum (layer c y) n +ℤ cond b c (pos 0)) (beyond n y (omega arith)) ∙ add_zero (int_sum (layer c y) n) ∙ one_column c y n (omega arith)
    | inr l ↦ absurd (omega arith)
  ]
] where
  add_zero : (z : ℤ) → z +ℤ pos 0 ≡ z
  add_zero z = omega (arith, ints)

-- sums over two numbers, in either order
pub int_sum-swap : (f : ℕ → ℕ → ℤ) (n m : ℕ) → int_sum (λ g. int_sum (f g) m) n ≡ int_sum (λ k. int_sum (λ g. f g k) n) m
int_sum-swap f zero m = sym (int_sum-zero (λ _. pos 0) m (λ g l. refl))
int_sum-swap f (suc n) m =
    ap (λ (z : ℤ). z +ℤ int_sum (f n) m) (int_sum-swap f n m) ∙ sym (int_sum-add (λ k. int_sum (λ g. f g k) n) (f n) m)

-- the sum of c times y is the sum, over the layers, of c over the places that reach the layer
pub layered : (c : ℕ → ℤ) (y : ℕ → ℕ) (n top : ℕ) → ((g : ℕ) → g < n → y g ≤ top)
    → int_sum (λ g. c g *ℤ pos (y g)) n ≡ int_sum (λ k. set_sum (λ g. nat_lt k (y g)) c n) top
layered c y n top h =
    int_sum-same _ _ n (λ g l. sym (one_column (c g) (y g) top (h g l)))
    ∙ int_sum-swap (λ g. layer (c g) (y g)) n top
    ∙ int_sum-same _ _ top (λ k l. sym (set_sum-is (λ g. nat_lt k (y g)) c n))
