-- Fractions in lowest terms: two of equal value are the same.
use Rattle.std.proofs.Common.{◌≡◌, ℕ, zero, suc, ◌+◌, ◌*◌, ◌-◌, ◌<◌, ◌≤◌, ◌⊎◌, inl, inr, sym, ap, ap₂, subst, ◌∙◌, arith}
use Prim.Native.Nat.{◌∣◌}
use Rattle.std.proofs.lemmas.Bool.{cases_order}
use Rattle.std.proofs.lemmas.Int.{unsigned_abs-mul}
use Rattle.std.proofs.lemmas.Nat.Gcd.{dvd_refl, dvd-zero, dvd_antisymm, IsGcd-swap}
use Rattle.std.proofs.Math.Nat.{one-dvd, dvd-mul_left, dvd-mul_right, dvd-add, dvd-sub}
use Rattle.std.specs.Int.{IsGcd}
use Rattle.std.specs.Prelude.{ℤ, pos, ◌*ℤ◌, unsigned_abs}
use Rattle.ofit_num.specs.Fraction.{Fraction, SameValue, IsLowest}
use Rattle.ofit_num.proofs.Order.{cancel_ℤ}

without : (a d : ℕ) → d ≤ a → IsGcd a d 1 → IsGcd (a - d) d 1
without a d l g = (
  one-dvd (a - d),
  one-dvd d,
  λ x h k. g.2 x (subst (λ (t : ℕ). x ∣ t) (back a d l) (dvd-add x h k)) k,
)
  where
    back : (a d : ℕ) → d ≤ a → (a - d) + d ≡ a
    back a d l = omega arith

times_less : (a d b : ℕ) → d ≤ a → a * b - d * b ≡ (a - d) * b
times_less a d b l =
    let e : a ≡ (a - d) + d = omega arith in
    let f : a * b ≡ ((a - d) + d) * b = ap (λ (t : ℕ). t * b) e in
    omega (arith, f)

-- what divides a times b and d times b divides b, where a and d have no common divisor but 1
common : (fuel a d b n : ℕ) → a + d ≤ fuel → IsGcd a d 1 → n ∣ a * b → n ∣ d * b → n ∣ b
common fuel zero d b n l g h k =
    let one : d ≡ 1 = dvd_antisymm (g.2 d (dvd-zero d) (dvd_refl d)) (one-dvd d) in
    let same : d * b ≡ b = omega (arith, ap (λ (t : ℕ). t * b) one) in
    subst (λ (t : ℕ). n ∣ t) same k
common fuel (suc a) zero b n l g h k =
    let one : suc a ≡ 1 = dvd_antisymm (g.2 (suc a) (dvd_refl (suc a)) (dvd-zero (suc a))) (one-dvd (suc a)) in
    let same : suc a * b ≡ b = omega (arith, ap (λ (t : ℕ). t * b) one) in
    subst (λ (t : ℕ). n ∣ t) same h
common zero (suc a) (suc d) b n l g h k = absurd (omega arith)
common (suc fuel) (suc a) (suc d) b n l g h k =
    step (common fuel (suc a - suc d) (suc d) b n) (common fuel (suc a) (suc d - suc a) b n) (cases_order (suc d) (suc a)) where
      step : (suc a - suc d + suc d ≤ fuel → IsGcd (suc a - suc d) (suc d) 1 → n ∣ (suc a - suc d) * b → n ∣ suc d * b → n ∣ b)
          → (suc a + (suc d - suc a) ≤ fuel → IsGcd (suc a) (suc d - suc a) 1 → n ∣ suc a * b → n ∣ (suc d - suc a) * b → n ∣ b)
          → (suc d ≡ suc a) ⊎ ((suc d < suc a) ⊎ (suc a < suc d)) → n ∣ b
      step first second (inl e) = first (omega arith) (without (suc a) (suc d) (omega arith) g) (subst (λ (t : ℕ). n ∣ t) (times_less (suc a) (suc d) b (omega arith)) (dvd-sub n h k)) k
      step first second (inr (inl e)) = first (omega arith) (without (suc a) (suc d) (omega arith) g) (subst (λ (t : ℕ). n ∣ t) (times_less (suc a) (suc d) b (omega arith)) (dvd-sub n h k)) k
      step first second (inr (inr e)) = second (omega arith) (IsGcd-swap (suc d - suc a) (suc a) 1 (without (suc d) (suc a) (omega arith) (IsGcd-swap (suc a) (suc d) 1 g))) h (subst (λ (t : ℕ). n ∣ t) (times_less (suc d) (suc a) b (omega arith)) (dvd-sub n k h))

-- Euclid: with no common divisor, what divides a product divides the other factor
pub divides_other : (a d b : ℕ) → IsGcd a d 1 → d ∣ a * b → d ∣ b
divides_other a d b g h = common (a + d) a d b d (omega arith) g h (dvd-mul_right d b)

pub same_denominators : (p q r s : ℕ) → IsGcd p q 1 → IsGcd r s 1 → p * s ≡ r * q → q ≡ s
same_denominators p q r s g h e = dvd_antisymm
    (divides_other p q s g (subst (λ (t : ℕ). q ∣ t) (sym e) (dvd-mul_left q r)))
    (divides_other r s q h (subst (λ (t : ℕ). s ∣ t) e (dvd-mul_left s p)))

pub den-from_SameValue : (c b : Fraction) → IsLowest c → IsLowest b → SameValue c b → c.den ≡ b.den
den-from_SameValue c b lc lb e =
    same_denominators (unsigned_abs c.num) c.den (unsigned_abs b.num) b.den lc.coprime lb.coprime
    (sym (unsigned_abs-mul c.num (pos b.den)) ∙ ap unsigned_abs e ∙ unsigned_abs-mul b.num (pos c.den))

pub num-from_SameValue : (c b : Fraction) → IsLowest c → IsLowest b → SameValue c b → c.num ≡ b.num
num-from_SameValue c b lc lb e =
    cancel_ℤ c.num b.num b.den lb.den (e ∙ ap (λ (n : ℕ). b.num *ℤ pos n) (den-from_SameValue c b lc lb e))

-- Fractions of equal value in lowest terms are equal.
pub same_lowest : (c b : Fraction) → IsLowest c → IsLowest b → SameValue c b → c ≡ b
same_lowest c b lc lb e = ap₂ (λ (n : ℤ) (d : ℕ). record { num = n; den = d }) (num-from_SameValue c b lc lb e) (den-from_SameValue c b lc lb e)
