-- A least minimiser is what its name says: no value costs less, and each smaller one costs more.
use Rattle.std.proofs.Common.{◌≡◌, ℕ, ◌*◌, ◌-◌, ◌^◌, ◌<◌, ◌≤◌, inl, inr, List, ap, ◌∙◌, arith, mul-pos, mul-le-mul_left}
use Rattle.std.proofs.lemmas.Bool.{cases_order}
use Rattle.std.proofs.lemmas.Int.{ints, by_lt_z}
use Rattle.std.specs.Prelude.{Bool, ℤ, pos, ◌+ℤ◌, ◌-ℤ◌, ◌*ℤ◌, ◌<ℤ◌}
use borrow.Author.Differences.{up}
use Rattle.ofit_num.specs.declared.row.Row.{Row}
use Rattle.ofit_num.specs.Meaning.{Meaning}
use Rattle.ofit_num.specs.Fraction.{Fraction, SameValue}
use Rattle.ofit_num.specs.Below.{Below}
use Rattle.ofit_num.proofs.Gap.{is_gap, gap-same, gap-add, gap-mul, pos-gap, distr}
use Rattle.ofit_num.proofs.Order.{natural, mul_strict, zero_mul_ℤ, mul_zero_ℤ, swap_ℤ, pow_above}
use Rattle.ofit_loss.specs.Rows.{AreFittable}
use Rattle.ofit_loss.specs.Laws.{HasLossLaws}
use Rattle.ofit_loss.proofs.ProblemLaws.{some_degree}
use Rattle.ofit_loss.specs.Least.{IsLeastMinimiser, IsLeastOfCheapest}
use Rattle.ofit_num.proofs.Falls.{cost_least}

-- Of two least minimisers neither is smaller.
pub same_least : (m : Meaning) (strict : Bool) (rows : List Row) (c b : Fraction) → IsLeastMinimiser m strict rows c → IsLeastMinimiser m strict rows b → SameValue c b
same_least m strict rows c b hc hb = by_lt_z (c.num *ℤ pos b.den) (b.num *ℤ pos c.den)
    (λ below. absurd (omega (arith, ints, hb.smaller c hc.den below, hc.least)))
    (λ low. by_lt_z (b.num *ℤ pos c.den) (c.num *ℤ pos b.den) (λ below. absurd (omega (arith, ints, hc.smaller b hb.den below, hb.least))) (λ high. omega (arith, ints, low, high)))

nothing : (n x : ℤ) → n *ℤ (pos 0 *ℤ x) ≡ pos 0
nothing n x = ap (λ (z : ℤ). n *ℤ z) (zero_mul_ℤ x) ∙ mul_zero_ℤ n

negative_product : (k : ℕ) (l x : ℤ) → 0 < k → pos 0 <ℤ l → x <ℤ pos 0 → (pos k *ℤ (l *ℤ x)) <ℤ pos 0
negative_product k l x lk ll lx =
    let n : 0 < up l = omega (arith, ints) in
    let e : l *ℤ x ≡ x *ℤ pos (up l) = ap (λ (z : ℤ). z *ℤ x) (natural l (omega (arith, ints))) ∙ swap_ℤ (pos (up l)) x in
    let h : (x *ℤ pos (up l)) <ℤ pos 0 = omega (arith, ints, mul_strict x (pos 0) (up l) lx n, zero_mul_ℤ (pos (up l))) in
    omega (
      arith,
      ints,
      swap_ℤ (pos k) (l *ℤ x),
      ap (λ (z : ℤ). z *ℤ pos k) e,
      mul_strict (x *ℤ pos (up l)) (pos 0) k h lk,
      zero_mul_ℤ (pos k),
    )

-- the value half way between two
abbrev middle : Fraction → Fraction → Fraction
middle b c = record { num = b.num *ℤ pos c.den +ℤ c.num *ℤ pos b.den; den = 2 * (b.den * c.den) }

middle_den : (b c : Fraction) → 0 < b.den → 0 < c.den → 0 < (middle b c).den
middle_den b c lb lc = mul-pos (omega arith) (mul-pos lb lc)

below_middle : (b c : Fraction) → 0 < b.den → Below b c → Below b (middle b c)
below_middle b c l h = omega (arith, ints, twice b.num b.den c.den, distr (b.num *ℤ pos c.den) (c.num *ℤ pos b.den) (pos b.den), mul_strict _ _ b.den h l) where
  twice : (v : ℤ) (q r : ℕ) → v *ℤ pos (2 * (q * r)) ≡ (v *ℤ pos r) *ℤ pos q +ℤ (v *ℤ pos r) *ℤ pos q
  twice v q r = rw (is_gap v) (simp (pos-gap, gap-mul, gap-add) (gap-same _ _ _ _ (omega arith)))

middle_below : (b c : Fraction) → 0 < c.den → Below b c → Below (middle b c) c
middle_below b c l h = omega (arith, ints, twice c.num b.den c.den, distr (b.num *ℤ pos c.den) (c.num *ℤ pos b.den) (pos c.den), mul_strict _ _ c.den h l) where
  twice : (v : ℤ) (q r : ℕ) → v *ℤ pos (2 * (q * r)) ≡ (v *ℤ pos q) *ℤ pos r +ℤ (v *ℤ pos q) *ℤ pos r
  twice v q r = rw (is_gap v) (simp (pos-gap, gap-mul, gap-add) (gap-same _ _ _ _ (omega arith)))

-- costs v, m and u over powers c, z and b: v at most m, and m less than u
less_over : (v m u c z b : ℕ) → 0 < c → 0 < z → v * z ≤ m * c → m * b < u * z → v * b < u * c
less_over v m u c z b lc lz h k = elim (cases_order (v * b) (u * c)) [
  | inl e ↦ absurd (clash (omega (arith, e)))
  | inr o ↦ elim o [ inl l ↦ l | inr g ↦ absurd (clash (omega (arith, g))) ]
] where
  grown : (n a b : ℕ) → 0 < n → a < b → n * a < n * b
  grown n a b ln l = omega (arith, mul-le-mul_left n l)

  clash : u * c ≤ v * b → ⊥
  clash g = omega (arith, mul-le-mul_left z g, mul-le-mul_left b h, grown c (m * b) (u * z) lc k)

module _ (m : Meaning) (strict : Bool) (laws : HasLossLaws m strict) (rows : List Row) (fit : AreFittable rows) where
  no_dearer : (c b : Fraction) → IsLeastMinimiser m strict rows c → 0 < b.den → m.cost rows c.num c.den * b.den ^ m.degree ≤ m.cost rows b.num b.den * c.den ^ m.degree
  no_dearer c b h lb = omega (
    arith,
    ints,
    (laws.support rows fit).support c.num b.num c.den b.den h.den lb (pos 0) h.least (cost_least strict _ h.greatest),
    nothing (pos (m.degree * b.den ^ (m.degree - 1))) (b.num *ℤ pos c.den -ℤ c.num *ℤ pos b.den),
  )

  -- from the middle on the cost rises towards the smaller value
  middle_cheaper : (c b : Fraction) → IsLeastMinimiser m strict rows c → 0 < b.den → Below b c
      → m.cost rows (middle b c).num (middle b c).den * b.den ^ m.degree < m.cost rows b.num b.den * (middle b c).den ^ m.degree
  middle_cheaper c b h lb below = omega (
    arith,
    ints,
    (laws.support rows fit).support (middle b c).num b.num (middle b c).den b.den (middle_den b c lb h.den) lb (m.least rows (middle b c).num (middle b c).den)
        (omega (arith, ints)) ((laws.support rows fit).ordered (middle b c).num (middle b c).den (middle_den b c lb h.den)),
    negative_product (m.degree * b.den ^ (m.degree - 1)) (m.least rows (middle b c).num (middle b c).den) (b.num *ℤ pos (middle b c).den -ℤ (middle b c).num *ℤ pos b.den)
        (mul-pos (some_degree m strict laws) (pow_above b.den (m.degree - 1) lb))
        (h.smaller (middle b c) (middle_den b c lb h.den) (middle_below b c h.den below))
        (omega (arith, ints, below_middle b c lb below)),
  )

  pub least_of_cheapest : (c : Fraction) → IsLeastMinimiser m strict rows c → IsLeastOfCheapest m rows c
  least_of_cheapest c h = record {
    cheapest = λ b lb. no_dearer c b h lb;
    least = λ b lb below. less_over _ _ _ (c.den ^ m.degree) ((middle b c).den ^ m.degree) (b.den ^ m.degree) (pow_above c.den m.degree h.den) (pow_above (middle b c).den m.degree (middle_den b c lb h.den)) (no_dearer c (middle b c) h (middle_den b c lb h.den)) (middle_cheaper c b h lb below);
  }
