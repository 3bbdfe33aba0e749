-- Under a loss whose spans fall strictly a best fit is the only one: half way between two best trials costs less than either where they differ.
use Rattle.std.proofs.Common.{◌≡◌, ℕ, zero, suc, ◌+◌, ◌*◌, ◌-◌, ◌^◌, ◌<◌, ◌≤◌, refl, sym, ap, subst, ◌∙◌, arith, mul-pos, mul-le-mul_left, inl, inr}
use Rattle.std.proofs.lemmas.Int.{ints, by_lt_z}
use Rattle.std.proofs.lemmas.Bool.{cases_order}
use Rattle.std.proofs.Math.Nat.{pow-succ'}
use Rattle.std.specs.Prelude.{ℤ, pos, ◌+ℤ◌, ◌-ℤ◌, ◌*ℤ◌, ◌≤ℤ◌, ◌<ℤ◌}
use borrow.Author.Differences.{up, down}
use Rattle.ofit_num.specs.Problem.{Problem}
use Rattle.ofit_num.specs.Meaning.{Meaning}
use Rattle.ofit_num.specs.Fraction.{Fraction}
use Rattle.ofit_num.specs.Below.{Below}
use Rattle.ofit_num.specs.Trial.{Trial}
use Rattle.ofit_num.specs.Fit.{Obeys, sum_below, trial_cost, Best, LeastBest}
use Rattle.ofit_num.specs.Law.{least_at, greatest_at, HasSupport}
use Rattle.ofit_num.proofs.Gap.{is_gap, gap-same, gap-add, gap-sub, gap-mul, pos-gap}
use Rattle.ofit_num.proofs.Order.{natural, mul_pos, mul_strict, pow_above, zero_mul_ℤ}
use Rattle.ofit_num.proofs.Strict.{middle, times}
use Rattle.ofit_num.proofs.StrictSquares.{midway, Obeys-midway}

-- each place's spans fall strictly
pub record FallStrictly (m : Meaning) (s : Problem) : Type 0 where
  pub falls : (g : ℕ) → g < s.count → (c b : Fraction) → 0 < c.den → 0 < b.den → Below c b
      → (greatest_at m s b g *ℤ pos (c.den ^ (m.degree - 1))) <ℤ (least_at m s c g *ℤ pos (b.den ^ (m.degree - 1)))

-- products of two rising or falling pairs
strict_up : (x y r : ℤ) (i j : ℕ) → (x *ℤ pos i) <ℤ (y *ℤ pos j) → pos 0 <ℤ r → ((x *ℤ r) *ℤ pos i) <ℤ ((y *ℤ r) *ℤ pos j)
strict_up x y r i j h l = go (up r) (natural r (omega (arith, ints))) (omega (arith, ints)) where
  turn : (x : ℤ) (i n : ℕ) → (x *ℤ pos n) *ℤ pos i ≡ (x *ℤ pos i) *ℤ pos n
  turn x i n = rw (is_gap x) (simp (pos-gap, gap-mul) (gap-same _ _ _ _ (omega arith)))

  go : (n : ℕ) → r ≡ pos n → 0 < n → ((x *ℤ r) *ℤ pos i) <ℤ ((y *ℤ r) *ℤ pos j)
  go n e ln = subst (λ (z : ℤ). ((x *ℤ z) *ℤ pos i) <ℤ ((y *ℤ z) *ℤ pos j)) (sym e) (omega (arith, ints, mul_strict _ _ n h ln, turn x i n, turn y j n))

strict_down : (x y r : ℤ) (i j : ℕ) → (x *ℤ pos i) <ℤ (y *ℤ pos j) → r <ℤ pos 0 → ((y *ℤ r) *ℤ pos j) <ℤ ((x *ℤ r) *ℤ pos i)
strict_down x y r i j h l =
    omega (arith, ints, strict_up x y (pos 0 -ℤ r) i j h (omega (arith, ints)), turned x r i, turned y r j) where
      turned : (x r : ℤ) (i : ℕ) → (x *ℤ (pos 0 -ℤ r)) *ℤ pos i +ℤ (x *ℤ r) *ℤ pos i ≡ pos 0
      turned x r i = rw (is_gap x, is_gap r) (simp (pos-gap, gap-mul, gap-sub, gap-add) (gap-same _ _ _ _ (omega arith)))

-- the value half way between two, and how far it is from each
from_first : (c b : ℤ) (q r : ℕ) → (c *ℤ pos r +ℤ b *ℤ pos q) *ℤ pos q -ℤ c *ℤ pos (2 * (q * r)) ≡ (b *ℤ pos q -ℤ c *ℤ pos r) *ℤ pos q
from_first c b q r = rw (is_gap c, is_gap b) (simp (pos-gap, gap-mul, gap-sub, gap-add) (gap-same _ _ _ _ (omega arith)))

to_second : (c b : ℤ) (q r : ℕ) → b *ℤ pos (2 * (q * r)) -ℤ (c *ℤ pos r +ℤ b *ℤ pos q) *ℤ pos r ≡ (b *ℤ pos q -ℤ c *ℤ pos r) *ℤ pos r
to_second c b q r = rw (is_gap c, is_gap b) (simp (pos-gap, gap-mul, gap-sub, gap-add) (gap-same _ _ _ _ (omega arith)))

regroup : (n k : ℕ) (e x : ℤ) → pos n *ℤ (e *ℤ (x *ℤ pos k)) ≡ pos (n * k) *ℤ (e *ℤ x)
regroup n k e x = rw (is_gap e, is_gap x) (simp (pos-gap, gap-mul) (gap-same _ _ _ _ (omega arith)))

module _ (m : Meaning) (s : Problem) (support : HasSupport m s) (some : 0 < m.degree) (strict : FallStrictly m s) where
  power : (x : ℕ) → x ^ m.degree ≡ x * x ^ (m.degree - 1)
  power x = ap (λ (n : ℕ). x ^ n) (one_more m.degree some) ∙ pow-succ' x (m.degree - 1) where
    one_more : (d : ℕ) → 0 < d → d ≡ suc (d - 1)
    one_more d l = omega arith

  -- The support law at c, with the powers written out, where the move is k times n.
  opened : (g : ℕ) → g < s.count → (p p' : ℤ) (q q' : ℕ) → 0 < q → 0 < q' → (b n : ℤ) (k : ℕ) → m.least (s.rows g) p q ≤ℤ b → b ≤ℤ m.greatest (s.rows g) p q → p' *ℤ pos q -ℤ p *ℤ pos q' ≡ n *ℤ pos k
      → pos (m.cost (s.rows g) p q * (q' * q' ^ (m.degree - 1))) ≤ℤ (pos (m.cost (s.rows g) p' q' * (q * q ^ (m.degree - 1))) +ℤ pos (m.degree * q' ^ (m.degree - 1) * k) *ℤ (b *ℤ n))
  opened g l p p' q q' lq lq' b n k above within e =
      subst (λ (x : ℕ). pos (m.cost (s.rows g) p q * x) ≤ℤ (pos (m.cost (s.rows g) p' q' * (q * q ^ (m.degree - 1))) +ℤ pos (m.degree * q' ^ (m.degree - 1) * k) *ℤ (b *ℤ n))) (power q')
      (subst (λ (x : ℕ). pos (m.cost (s.rows g) p q * q' ^ m.degree) ≤ℤ (pos (m.cost (s.rows g) p' q' * x) +ℤ pos (m.degree * q' ^ (m.degree - 1) * k) *ℤ (b *ℤ n))) (power q)
      (subst (λ (x : ℤ). pos (m.cost (s.rows g) p q * q' ^ m.degree) ≤ℤ (pos (m.cost (s.rows g) p' q' * q ^ m.degree) +ℤ x)) (ap (λ (x : ℤ). pos (m.degree * q' ^ (m.degree - 1)) *ℤ (b *ℤ x)) e ∙ regroup (m.degree * q' ^ (m.degree - 1)) k b n)
      (support.support g l p p' q q' lq lq' b above within)))

  module _ (g : ℕ) (l : g < s.count) (c b : Fraction) (lc : 0 < c.den) (lb : 0 < b.den) (e : ℤ) (above : least_at m s c g ≤ℤ e) (within : e ≤ℤ greatest_at m s c g) where
    half_den : 0 < 2 * (c.den * b.den)
    half_den = mul-pos (omega arith) (mul-pos lc lb)

    -- with any balance f at the middle
    by_middle : (f : ℤ) → m.least (s.rows g) (c.num *ℤ pos b.den +ℤ b.num *ℤ pos c.den) (2 * (c.den * b.den)) ≤ℤ f → f ≤ℤ m.greatest (s.rows g) (c.num *ℤ pos b.den +ℤ b.num *ℤ pos c.den) (2 * (c.den * b.den))
        → ((f *ℤ (b.num *ℤ pos c.den -ℤ c.num *ℤ pos b.den)) *ℤ pos (c.den ^ (m.degree - 1))) <ℤ ((e *ℤ (b.num *ℤ pos c.den -ℤ c.num *ℤ pos b.den)) *ℤ pos ((2 * (c.den * b.den)) ^ (m.degree - 1)))
        → pos (m.cost (s.rows g) c.num c.den * (b.den * b.den ^ (m.degree - 1))) <ℤ (pos (m.cost (s.rows g) b.num b.den * (c.den * c.den ^ (m.degree - 1))) +ℤ pos (m.degree * b.den ^ (m.degree - 1)) *ℤ (e *ℤ (b.num *ℤ pos c.den -ℤ c.num *ℤ pos b.den)))
    by_middle f fa fw fall = middle (m.cost (s.rows g) c.num c.den) (m.cost (s.rows g) (c.num *ℤ pos b.den +ℤ b.num *ℤ pos c.den) (2 * (c.den * b.den))) (m.cost (s.rows g) b.num b.den)
        (2 * (c.den * b.den)) ((2 * (c.den * b.den)) ^ (m.degree - 1)) c.den (c.den ^ (m.degree - 1)) b.den (b.den ^ (m.degree - 1)) m.degree (e *ℤ (b.num *ℤ pos c.den -ℤ c.num *ℤ pos b.den)) (f *ℤ (b.num *ℤ pos c.den -ℤ c.num *ℤ pos b.den))
        (opened g l c.num (c.num *ℤ pos b.den +ℤ b.num *ℤ pos c.den) c.den (2 * (c.den * b.den)) lc half_den e (b.num *ℤ pos c.den -ℤ c.num *ℤ pos b.den) c.den above within (from_first c.num b.num c.den b.den))
        (opened g l (c.num *ℤ pos b.den +ℤ b.num *ℤ pos c.den) b.num (2 * (c.den * b.den)) b.den half_den lb f (b.num *ℤ pos c.den -ℤ c.num *ℤ pos b.den) b.den fa fw (to_second c.num b.num c.den b.den))
        fall refl lc lb (pow_above b.den (m.degree - 1) lb) some

    twice : (v : ℤ) (q r : ℕ) → v *ℤ pos (2 * (q * r)) ≡ (v *ℤ pos r) *ℤ pos q +ℤ (v *ℤ pos r) *ℤ pos q
    twice v q r = rw (is_gap v) (simp (pos-gap, gap-mul, gap-add) (gap-same _ _ _ _ (omega arith)))

    spread : (x y : ℤ) (q : ℕ) → (x +ℤ y) *ℤ pos q ≡ x *ℤ pos q +ℤ y *ℤ pos q
    spread x y q = rw (is_gap x, is_gap y) (simp (pos-gap, gap-mul, gap-add) (gap-same _ _ _ _ (omega arith)))

    ordered_half : m.least (s.rows g) (c.num *ℤ pos b.den +ℤ b.num *ℤ pos c.den) (2 * (c.den * b.den)) ≤ℤ m.greatest (s.rows g) (c.num *ℤ pos b.den +ℤ b.num *ℤ pos c.den) (2 * (c.den * b.den))
    ordered_half = support.ordered g l (c.num *ℤ pos b.den +ℤ b.num *ℤ pos c.den) (2 * (c.den * b.den)) half_den

    -- Towards another value, more is lost than the support law says.
    pub rising_support : Below c b → pos (m.cost (s.rows g) c.num c.den * (b.den * b.den ^ (m.degree - 1))) <ℤ (pos (m.cost (s.rows g) b.num b.den * (c.den * c.den ^ (m.degree - 1))) +ℤ pos (m.degree * b.den ^ (m.degree - 1)) *ℤ (e *ℤ (b.num *ℤ pos c.den -ℤ c.num *ℤ pos b.den)))
    rising_support h =
        let mid : Fraction = record { num = c.num *ℤ pos b.den +ℤ b.num *ℤ pos c.den; den = 2 * (c.den * b.den) } in
        let below : Below c mid = omega (arith, ints, twice c.num c.den b.den, spread (c.num *ℤ pos b.den) (b.num *ℤ pos c.den) c.den, mul_strict _ _ c.den h lc) in
        let f : ℤ = greatest_at m s mid g in
        by_middle f ordered_half (omega (arith, ints)) (strict_up f e _ (c.den ^ (m.degree - 1)) (mid.den ^ (m.degree - 1))
        (omega (arith, ints, strict.falls g l c mid lc half_den below, mul_pos (least_at m s c g) e (mid.den ^ (m.degree - 1)) above)) (omega (arith, ints)))

    pub sinking_support : Below b c → pos (m.cost (s.rows g) c.num c.den * (b.den * b.den ^ (m.degree - 1))) <ℤ (pos (m.cost (s.rows g) b.num b.den * (c.den * c.den ^ (m.degree - 1))) +ℤ pos (m.degree * b.den ^ (m.degree - 1)) *ℤ (e *ℤ (b.num *ℤ pos c.den -ℤ c.num *ℤ pos b.den)))
    sinking_support h =
        let mid : Fraction = record { num = c.num *ℤ pos b.den +ℤ b.num *ℤ pos c.den; den = 2 * (c.den * b.den) } in
        let below : Below mid c = omega (arith, ints, twice c.num c.den b.den, spread (c.num *ℤ pos b.den) (b.num *ℤ pos c.den) c.den, mul_strict _ _ c.den h lc) in
        let f : ℤ = least_at m s mid g in
        by_middle f (omega (arith, ints)) ordered_half (strict_down e f _ (mid.den ^ (m.degree - 1)) (c.den ^ (m.degree - 1))
        (omega (arith, ints, strict.falls g l mid c half_den lc below, mul_pos e (greatest_at m s c g) (mid.den ^ (m.degree - 1)) within)) (omega (arith, ints)))

-- the two halves of a step to either side
grown_strict : (n x y : ℕ) → 0 < n → x < y → n * x < n * y
grown_strict n x y l h = omega (arith, mul-le-mul_left n h)

from_lt : (a b n : ℕ) (x : ℤ) → pos a <ℤ (pos b +ℤ pos n *ℤ x) → a + n * down x < b + n * up x
from_lt a b n x h = omega (arith, ints, times n x)

from_le : (a b n : ℕ) (x : ℤ) → pos a ≤ℤ (pos b -ℤ pos n *ℤ x) → a + n * up x ≤ b + n * down x
from_le a b n x h = omega (arith, ints, times n x)

from_le' : (a b n : ℕ) (x : ℤ) → pos a ≤ℤ (pos b +ℤ pos n *ℤ x) → a + n * down x ≤ b + n * up x
from_le' a b n x h = omega (arith, ints, times n x)

halves_le : (z t u i ia j ja k d x y : ℕ) → z * (i * ia) + d * ia * i * y ≤ t * k + d * ia * i * x → z * (j * ja) + d * ja * j * x ≤ u * k + d * ja * j * y
    → 2 * (z * ((i * ia) * (j * ja))) ≤ t * (k * (j * ja)) + u * (k * (i * ia))
halves_le z t u i ia j ja k d x y h f =
    let p : (j * ja) * (z * (i * ia) + d * ia * i * y) ≤ (j * ja) * (t * k + d * ia * i * x) = mul-le-mul_left (j * ja) h in
    let q : (i * ia) * (z * (j * ja) + d * ja * j * x) ≤ (i * ia) * (u * k + d * ja * j * y) = mul-le-mul_left (i * ia) f in
    omega arith

halves_lt : (z t u i ia j ja k d x y : ℕ) → 0 < j * ja → z * (i * ia) + d * ia * i * y < t * k + d * ia * i * x → z * (j * ja) + d * ja * j * x ≤ u * k + d * ja * j * y
    → 2 * (z * ((i * ia) * (j * ja))) < t * (k * (j * ja)) + u * (k * (i * ia))
halves_lt z t u i ia j ja k d x y l h f =
    let p : (j * ja) * (z * (i * ia) + d * ia * i * y) < (j * ja) * (t * k + d * ia * i * x) = grown_strict (j * ja) _ _ l h in
    let q : (i * ia) * (z * (j * ja) + d * ja * j * x) ≤ (i * ia) * (u * k + d * ja * j * y) = mul-le-mul_left (i * ia) f in
    omega arith

total_le : (z t u : ℕ → ℕ) (k i j n : ℕ) → ((g : ℕ) → g < n → 2 * (z g * k) ≤ t g * i + u g * j) → 2 * (sum_below z n * k) ≤ sum_below t n * i + sum_below u n * j
total_le z t u k i j zero h = omega arith
total_le z t u k i j (suc n) h = omega (arith, total_le z t u k i j n (λ g l. h g (omega arith)), h n (omega arith))

total_lt : (z t u : ℕ → ℕ) (k i j n : ℕ) → ((g : ℕ) → g < n → 2 * (z g * k) ≤ t g * i + u g * j) → (g : ℕ) → g < n → 2 * (z g * k) < t g * i + u g * j → 2 * (sum_below z n * k) < sum_below t n * i + sum_below u n * j
total_lt z t u k i j zero h g l p = absurd (omega arith)
total_lt z t u k i j (suc n) h g l p = elim (cases_order g n) [
  | inl e ↦ omega (arith, total_le z t u k i j n (λ g l. h g (omega arith)), subst (λ (x : ℕ). 2 * (z x * k) < t x * i + u x * j) e p)
  | inr o ↦ elim o [ inl b ↦ omega (arith, total_lt z t u k i j n (λ g l. h g (omega arith)) g b p, h n (omega arith)) | inr b ↦ absurd (omega arith) ]
]

to_left : (t u : ℤ) (i j : ℕ) → t *ℤ pos (2 * (i * j)) -ℤ (t *ℤ pos j +ℤ u *ℤ pos i) *ℤ pos i ≡ (t *ℤ pos j -ℤ u *ℤ pos i) *ℤ pos i
to_left t u i j = rw (is_gap t, is_gap u) (simp (pos-gap, gap-mul, gap-sub, gap-add) (gap-same _ _ _ _ (omega arith)))

to_right : (t u : ℤ) (i j : ℕ) → u *ℤ pos (2 * (i * j)) -ℤ (t *ℤ pos j +ℤ u *ℤ pos i) *ℤ pos j ≡ (u *ℤ pos i -ℤ t *ℤ pos j) *ℤ pos j
to_right t u i j = rw (is_gap t, is_gap u) (simp (pos-gap, gap-mul, gap-sub, gap-add) (gap-same _ _ _ _ (omega arith)))

opposite : (n : ℕ) (e t u : ℤ) → pos n *ℤ (e *ℤ (u -ℤ t)) +ℤ pos n *ℤ (e *ℤ (t -ℤ u)) ≡ pos 0
opposite n e t u = rw (is_gap e, is_gap t, is_gap u) (simp (pos-gap, gap-mul, gap-sub, gap-add) (gap-same _ _ _ _ (omega arith)))

module _ (m : Meaning) (s : Problem) (support : HasSupport m s) (some : 0 < m.degree) (strict : FallStrictly m s) (t u : Trial) (bt : Best m s t) (bu : Best m s u) where
  mid_above : 0 < 2 * (t.scale * u.scale)
  mid_above = mul-pos (omega arith) (mul-pos bt.obeys.scale bu.obeys.scale)

  mid_cost : ℕ → ℕ
  mid_cost g = m.cost (s.rows g) (t.value g *ℤ pos u.scale +ℤ u.value g *ℤ pos t.scale) (2 * (t.scale * u.scale))

  -- the supports from half way to each trial
  to_t : (g : ℕ) → g < s.count → (e : ℤ) → m.least (s.rows g) (t.value g *ℤ pos u.scale +ℤ u.value g *ℤ pos t.scale) (2 * (t.scale * u.scale)) ≤ℤ e → e ≤ℤ m.greatest (s.rows g) (t.value g *ℤ pos u.scale +ℤ u.value g *ℤ pos t.scale) (2 * (t.scale * u.scale))
      → pos (m.cost (s.rows g) (t.value g *ℤ pos u.scale +ℤ u.value g *ℤ pos t.scale) (2 * (t.scale * u.scale)) * (t.scale * t.scale ^ (m.degree - 1)))
      ≤ℤ (pos (m.cost (s.rows g) (t.value g) t.scale * (2 * (t.scale * u.scale) * (2 * (t.scale * u.scale)) ^ (m.degree - 1))) +ℤ pos (m.degree * t.scale ^ (m.degree - 1) * t.scale) *ℤ (e *ℤ (t.value g *ℤ pos u.scale -ℤ u.value g *ℤ pos t.scale)))
  to_t g l e above within = opened m s support some strict g l _ (t.value g) (2 * (t.scale * u.scale)) t.scale mid_above bt.obeys.scale e (t.value g *ℤ pos u.scale -ℤ u.value g *ℤ pos t.scale) t.scale above within (to_left (t.value g) (u.value g) t.scale u.scale)

  to_u : (g : ℕ) → g < s.count → (e : ℤ) → m.least (s.rows g) (t.value g *ℤ pos u.scale +ℤ u.value g *ℤ pos t.scale) (2 * (t.scale * u.scale)) ≤ℤ e → e ≤ℤ m.greatest (s.rows g) (t.value g *ℤ pos u.scale +ℤ u.value g *ℤ pos t.scale) (2 * (t.scale * u.scale))
      → pos (m.cost (s.rows g) (t.value g *ℤ pos u.scale +ℤ u.value g *ℤ pos t.scale) (2 * (t.scale * u.scale)) * (u.scale * u.scale ^ (m.degree - 1)))
      ≤ℤ (pos (m.cost (s.rows g) (u.value g) u.scale * (2 * (t.scale * u.scale) * (2 * (t.scale * u.scale)) ^ (m.degree - 1))) -ℤ pos (m.degree * u.scale ^ (m.degree - 1) * u.scale) *ℤ (e *ℤ (t.value g *ℤ pos u.scale -ℤ u.value g *ℤ pos t.scale)))
  to_u g l e above within = omega (
    arith,
    ints,
    opened m s support some strict g l _ (u.value g) (2 * (t.scale * u.scale)) u.scale mid_above bu.obeys.scale e (u.value g *ℤ pos t.scale -ℤ t.value g *ℤ pos u.scale) u.scale above within (to_right (t.value g) (u.value g) t.scale u.scale),
    opposite (m.degree * u.scale ^ (m.degree - 1) * u.scale) e (t.value g *ℤ pos u.scale) (u.value g *ℤ pos t.scale),
  )

  ordered_mid : (g : ℕ) → g < s.count → m.least (s.rows g) (t.value g *ℤ pos u.scale +ℤ u.value g *ℤ pos t.scale) (2 * (t.scale * u.scale)) ≤ℤ m.greatest (s.rows g) (t.value g *ℤ pos u.scale +ℤ u.value g *ℤ pos t.scale) (2 * (t.scale * u.scale))
  ordered_mid g l = support.ordered g l _ _ mid_above

  each : (g : ℕ) → g < s.count → 2 * (mid_cost g * ((t.scale * t.scale ^ (m.degree - 1)) * (u.scale * u.scale ^ (m.degree - 1))))
      ≤ m.cost (s.rows g) (t.value g) t.scale * (2 * (t.scale * u.scale) * (2 * (t.scale * u.scale)) ^ (m.degree - 1) * (u.scale * u.scale ^ (m.degree - 1)))
      + m.cost (s.rows g) (u.value g) u.scale * (2 * (t.scale * u.scale) * (2 * (t.scale * u.scale)) ^ (m.degree - 1) * (t.scale * t.scale ^ (m.degree - 1)))
  unfolding mid_cost
  each g l =
      let e : ℤ = m.least (s.rows g) (t.value g *ℤ pos u.scale +ℤ u.value g *ℤ pos t.scale) (2 * (t.scale * u.scale)) in
      let x : ℤ = e *ℤ (t.value g *ℤ pos u.scale -ℤ u.value g *ℤ pos t.scale) in
      halves_le (m.cost (s.rows g) (t.value g *ℤ pos u.scale +ℤ u.value g *ℤ pos t.scale) (2 * (t.scale * u.scale))) (m.cost (s.rows g) (t.value g) t.scale) (m.cost (s.rows g) (u.value g) u.scale) t.scale (t.scale ^ (m.degree - 1)) u.scale (u.scale ^ (m.degree - 1))
      (2 * (t.scale * u.scale) * (2 * (t.scale * u.scale)) ^ (m.degree - 1)) m.degree (up x) (down x)
      (from_le' _ _ (m.degree * t.scale ^ (m.degree - 1) * t.scale) x (to_t g l e (omega (arith, ints)) (ordered_mid g l)))
      (from_le _ _ (m.degree * u.scale ^ (m.degree - 1) * u.scale) x (to_u g l e (omega (arith, ints)) (ordered_mid g l)))

  -- where the two differ, half way costs less than they do together
  module _ (g : ℕ) (l : g < s.count) where
    less : (pos (m.cost (s.rows g) (t.value g *ℤ pos u.scale +ℤ u.value g *ℤ pos t.scale) (2 * (t.scale * u.scale)) * (t.scale * t.scale ^ (m.degree - 1)))
        <ℤ (pos (m.cost (s.rows g) (t.value g) t.scale * (2 * (t.scale * u.scale) * (2 * (t.scale * u.scale)) ^ (m.degree - 1)))
        +ℤ pos (m.degree * t.scale ^ (m.degree - 1)) *ℤ (m.least (s.rows g) (t.value g *ℤ pos u.scale +ℤ u.value g *ℤ pos t.scale) (2 * (t.scale * u.scale)) *ℤ (t.value g *ℤ pos (2 * (t.scale * u.scale)) -ℤ (t.value g *ℤ pos u.scale +ℤ u.value g *ℤ pos t.scale) *ℤ pos t.scale))))
        → 2 * (mid_cost g * ((t.scale * t.scale ^ (m.degree - 1)) * (u.scale * u.scale ^ (m.degree - 1))))
        < m.cost (s.rows g) (t.value g) t.scale * (2 * (t.scale * u.scale) * (2 * (t.scale * u.scale)) ^ (m.degree - 1) * (u.scale * u.scale ^ (m.degree - 1)))
        + m.cost (s.rows g) (u.value g) u.scale * (2 * (t.scale * u.scale) * (2 * (t.scale * u.scale)) ^ (m.degree - 1) * (t.scale * t.scale ^ (m.degree - 1)))
    unfolding mid_cost
    less h =
        let e : ℤ = m.least (s.rows g) (t.value g *ℤ pos u.scale +ℤ u.value g *ℤ pos t.scale) (2 * (t.scale * u.scale)) in
        let x : ℤ = e *ℤ (t.value g *ℤ pos u.scale -ℤ u.value g *ℤ pos t.scale) in
        let moved : pos (m.degree * t.scale ^ (m.degree - 1)) *ℤ (e *ℤ (t.value g *ℤ pos (2 * (t.scale * u.scale)) -ℤ (t.value g *ℤ pos u.scale +ℤ u.value g *ℤ pos t.scale) *ℤ pos t.scale)) ≡ pos (m.degree * t.scale ^ (m.degree - 1) * t.scale) *ℤ x =
        ap (λ (y : ℤ). pos (m.degree * t.scale ^ (m.degree - 1)) *ℤ (e *ℤ y)) (to_left (t.value g) (u.value g) t.scale u.scale) ∙ regroup (m.degree * t.scale ^ (m.degree - 1)) t.scale e (t.value g *ℤ pos u.scale -ℤ u.value g *ℤ pos t.scale) in
        halves_lt (m.cost (s.rows g) (t.value g *ℤ pos u.scale +ℤ u.value g *ℤ pos t.scale) (2 * (t.scale * u.scale))) (m.cost (s.rows g) (t.value g) t.scale) (m.cost (s.rows g) (u.value g) u.scale) t.scale (t.scale ^ (m.degree - 1)) u.scale (u.scale ^ (m.degree - 1))
        (2 * (t.scale * u.scale) * (2 * (t.scale * u.scale)) ^ (m.degree - 1)) m.degree (up x) (down x) (mul-pos bu.obeys.scale (pow_above u.scale (m.degree - 1) bu.obeys.scale))
        (from_lt _ _ (m.degree * t.scale ^ (m.degree - 1) * t.scale) x (omega (arith, ints, h, moved)))
        (from_le _ _ (m.degree * u.scale ^ (m.degree - 1) * u.scale) x (to_u g l e (omega (arith, ints)) (ordered_mid g l)))

    refuted : (c a b i j z : ℕ) → 2 * (c * (i * j)) < a * (z * j) + b * (z * i) → a * z ≤ c * i → b * z ≤ c * j → ⊥
    refuted c a b i j z h p q =
        let x : j * (a * z) ≤ j * (c * i) = mul-le-mul_left j p in
        let y : i * (b * z) ≤ i * (c * j) = mul-le-mul_left i q in
        omega arith

    never : 2 * (mid_cost g * ((t.scale * t.scale ^ (m.degree - 1)) * (u.scale * u.scale ^ (m.degree - 1))))
        < m.cost (s.rows g) (t.value g) t.scale * (2 * (t.scale * u.scale) * (2 * (t.scale * u.scale)) ^ (m.degree - 1) * (u.scale * u.scale ^ (m.degree - 1)))
        + m.cost (s.rows g) (u.value g) u.scale * (2 * (t.scale * u.scale) * (2 * (t.scale * u.scale)) ^ (m.degree - 1) * (t.scale * t.scale ^ (m.degree - 1))) → ⊥
    unfolding mid_cost
    never h =
        let om : Obeys s (midway t u) = Obeys-midway s t u bt.obeys bu.obeys in
        let cheap_t : trial_cost m s t * (2 * (t.scale * u.scale)) ^ m.degree ≤ trial_cost m s (midway t u) * t.scale ^ m.degree = (bt.cheapest (midway t u) om).costs in
        let cheap_u : trial_cost m s u * (2 * (t.scale * u.scale)) ^ m.degree ≤ trial_cost m s (midway t u) * u.scale ^ m.degree = (bu.cheapest (midway t u) om).costs in
        refuted (trial_cost m s (midway t u)) (trial_cost m s t) (trial_cost m s u) (t.scale * t.scale ^ (m.degree - 1)) (u.scale * u.scale ^ (m.degree - 1)) (2 * (t.scale * u.scale) * (2 * (t.scale * u.scale)) ^ (m.degree - 1))
        (total_lt mid_cost (λ g. m.cost (s.rows g) (t.value g) t.scale) (λ g. m.cost (s.rows g) (u.value g) u.scale) _ _ _ s.count each g l h)
        (subst (λ (x : ℕ). trial_cost m s t * x ≤ trial_cost m s (midway t u) * (t.scale * t.scale ^ (m.degree - 1))) (power m s support some strict (2 * (t.scale * u.scale)))
        (subst (λ (x : ℕ). trial_cost m s t * (2 * (t.scale * u.scale)) ^ m.degree ≤ trial_cost m s (midway t u) * x) (power m s support some strict t.scale) cheap_t))
        (subst (λ (x : ℕ). trial_cost m s u * x ≤ trial_cost m s (midway t u) * (u.scale * u.scale ^ (m.degree - 1))) (power m s support some strict (2 * (t.scale * u.scale)))
        (subst (λ (x : ℕ). trial_cost m s u * (2 * (t.scale * u.scale)) ^ m.degree ≤ trial_cost m s (midway t u) * x) (power m s support some strict u.scale) cheap_u))

    -- Best trials have equal values.
    pub best_strict-equal : t.value g *ℤ pos u.scale ≡ u.value g *ℤ pos t.scale
    best_strict-equal =
        let middle_of : Fraction = record { num = t.value g *ℤ pos u.scale +ℤ u.value g *ℤ pos t.scale; den = 2 * (t.scale * u.scale) } in
        let of_t : Fraction = record { num = t.value g; den = t.scale } in
        let e : ℤ = m.least (s.rows g) (t.value g *ℤ pos u.scale +ℤ u.value g *ℤ pos t.scale) (2 * (t.scale * u.scale)) in
        by_lt_z (t.value g *ℤ pos u.scale) (u.value g *ℤ pos t.scale)
        (λ below. absurd (never (less (sinking_support m s support some strict g l middle_of of_t mid_above bt.obeys.scale e (omega (arith, ints)) (ordered_mid g l)
        (omega (arith, ints, to_left (t.value g) (u.value g) t.scale u.scale, mul_strict (t.value g *ℤ pos u.scale -ℤ u.value g *ℤ pos t.scale) (pos 0) t.scale (omega (arith, ints)) bt.obeys.scale, zero_mul_ℤ (pos t.scale)))))))
        (λ at_least. by_lt_z (u.value g *ℤ pos t.scale) (t.value g *ℤ pos u.scale)
        (λ above. absurd (never (less (rising_support m s support some strict g l middle_of of_t mid_above bt.obeys.scale e (omega (arith, ints)) (ordered_mid g l)
        (omega (arith, ints, to_left (t.value g) (u.value g) t.scale u.scale, mul_strict (pos 0) (t.value g *ℤ pos u.scale -ℤ u.value g *ℤ pos t.scale) t.scale (omega (arith, ints)) bt.obeys.scale, zero_mul_ℤ (pos t.scale)))))))
        (λ at_most. omega (arith, ints, at_least, at_most)))

-- What is best is least best, where spans fall strictly.
pub strict_least_best : (m : Meaning) (s : Problem) → HasSupport m s → 0 < m.degree → FallStrictly m s → (t : Trial) → Best m s t → LeastBest m s t
strict_least_best m s support some strict t best = record {
  best = best;
  least = λ u bu g l. omega (arith, ints, best_strict-equal m s support some strict t u best bu g l);
}
