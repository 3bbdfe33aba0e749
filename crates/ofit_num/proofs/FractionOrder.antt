-- the order of fractions by cross products is a total one, a denominator of 0 taken as 1
use Rattle.std.proofs.Common.{◌≡◌, ℕ, suc, ◌-◌, sym, ap, ◌∙◌, arith}
use Rattle.std.proofs.lemmas.Int.{ints, by_lt_z}
use Rattle.std.proofs.lemmas.Cmp.{int_cmp_total}
use Rattle.std.specs.Prelude.{ℤ, pos, ◌*ℤ◌, ◌<ℤ◌}
use Rattle.std.specs.Ordering.{int_cmp}
use Rattle.std.specs.Cmp.{IsTotalOrder, int_cmp_is}
use Rattle.std.specs.declared.cmp.Ordering.TheVariants.{Less, Equal, Greater}
use Rattle.ofit_num.specs.Fraction.{Fraction}
use Rattle.ofit_num.proofs.Gap.{is_gap, gap-same, gap-mul, pos-gap}
use Rattle.ofit_num.proofs.Order.{mul_strict}

less_is : (x y : ℤ) → x <ℤ y → int_cmp x y ≡ Less
less_is x y h = sym (int_cmp_is x y Less h)

equal_is : (x y : ℤ) → x ≡ y → int_cmp x y ≡ Equal
equal_is x y h = sym (int_cmp_is x y Equal h)

greater_is : (x y : ℤ) → y <ℤ x → int_cmp x y ≡ Greater
greater_is x y h = sym (int_cmp_is x y Greater h)

three : {P : Type 0} (x y : ℤ) → (x <ℤ y → P) → (x ≡ y → P) → (y <ℤ x → P) → P
three x y f g h = by_lt_z x y f (λ k. by_lt_z y x h (λ l. g (omega (arith, ints, k, l))))

from_less : (x y : ℤ) → int_cmp x y ≡ Less → x <ℤ y
from_less x y e = three x y (λ h. h) (λ h. absurd (other (sym e ∙ equal_is x y h))) (λ h. absurd (another (sym e ∙ greater_is x y h))) where
  other : Less ≡ Equal → ⊥
  other p = cc

  another : Less ≡ Greater → ⊥
  another p = cc

pub from_equal : (x y : ℤ) → int_cmp x y ≡ Equal → x ≡ y
from_equal x y e = three x y (λ h. absurd (other (sym e ∙ less_is x y h))) (λ h. h) (λ h. absurd (another (sym e ∙ greater_is x y h))) where
  other : Equal ≡ Less → ⊥
  other p = cc

  another : Equal ≡ Greater → ⊥
  another p = cc

turn : (x : ℤ) (i j : ℕ) → (x *ℤ pos i) *ℤ pos j ≡ (x *ℤ pos j) *ℤ pos i
turn x i j = rw (is_gap x) (simp (pos-gap, gap-mul) (gap-same _ _ _ _ (omega arith)))

-- a comparison stays where both sides are taken so many times
scaled_cmp : (x y : ℤ) (k : ℕ) → int_cmp (x *ℤ pos (suc k)) (y *ℤ pos (suc k)) ≡ int_cmp x y
scaled_cmp x y k = three x y
    (λ h. less_is _ _ (mul_strict x y (suc k) h (omega arith)) ∙ sym (less_is x y h))
    (λ h. equal_is _ _ (ap (λ (z : ℤ). z *ℤ pos (suc k)) h) ∙ sym (equal_is x y h))
    (λ h. greater_is _ _ (mul_strict y x (suc k) h (omega arith)) ∙ sym (greater_is x y h))

-- x/a, y/b and z/c
chain : (x y z : ℤ) (a b c : ℕ) → (x *ℤ pos (suc b)) <ℤ (y *ℤ pos (suc a)) → (y *ℤ pos (suc c)) <ℤ (z *ℤ pos (suc b)) → int_cmp (x *ℤ pos (suc c)) (z *ℤ pos (suc a)) ≡ Less
chain x y z a b c h k =
    let both : ((x *ℤ pos (suc c)) *ℤ pos (suc b)) <ℤ ((z *ℤ pos (suc a)) *ℤ pos (suc b)) =
    omega (arith, ints, turn x (suc c) (suc b), turn y (suc a) (suc c), turn z (suc a) (suc b), mul_strict (x *ℤ pos (suc b)) (y *ℤ pos (suc a)) (suc c) h (omega arith), mul_strict (y *ℤ pos (suc c)) (z *ℤ pos (suc b)) (suc a) k (omega arith)) in
    sym (scaled_cmp (x *ℤ pos (suc c)) (z *ℤ pos (suc a)) b) ∙ less_is ((x *ℤ pos (suc c)) *ℤ pos (suc b)) ((z *ℤ pos (suc a)) *ℤ pos (suc b)) both

alike : (x y z : ℤ) (a b c : ℕ) → x *ℤ pos (suc b) ≡ y *ℤ pos (suc a) → int_cmp (x *ℤ pos (suc c)) (z *ℤ pos (suc a)) ≡ int_cmp (y *ℤ pos (suc c)) (z *ℤ pos (suc b))
alike x y z a b c h =
    sym (scaled_cmp (x *ℤ pos (suc c)) (z *ℤ pos (suc a)) b)
    ∙ ap (λ (v : ℤ). int_cmp v ((z *ℤ pos (suc a)) *ℤ pos (suc b))) (turn x (suc c) (suc b) ∙ ap (λ (v : ℤ). v *ℤ pos (suc c)) h ∙ turn y (suc a) (suc c))
    ∙ ap (λ (v : ℤ). int_cmp ((y *ℤ pos (suc c)) *ℤ pos (suc a)) v) (turn z (suc a) (suc b))
    ∙ scaled_cmp (y *ℤ pos (suc c)) (z *ℤ pos (suc b)) a

pub fraction_total : IsTotalOrder (λ (x y : Fraction). int_cmp (x.num *ℤ pos (suc (y.den - 1))) (y.num *ℤ pos (suc (x.den - 1))))
fraction_total = record {
  antisymm = λ x y. int_cmp_total.antisymm (x.num *ℤ pos (suc (y.den - 1))) (y.num *ℤ pos (suc (x.den - 1)));
  trans = λ x y z h k. chain x.num y.num z.num (x.den - 1) (y.den - 1) (z.den - 1) (from_less (x.num *ℤ pos (suc (y.den - 1))) (y.num *ℤ pos (suc (x.den - 1))) h) (from_less (y.num *ℤ pos (suc (z.den - 1))) (z.num *ℤ pos (suc (y.den - 1))) k);
  congr = λ x y z h. alike x.num y.num z.num (x.den - 1) (y.den - 1) (z.den - 1) (from_equal (x.num *ℤ pos (suc (y.den - 1))) (y.num *ℤ pos (suc (x.den - 1))) h);
}
