-- what is settled, and gains by rising again from each lower value, is the least of the best
use Rattle.std.proofs.Common.{◌≡◌, ℕ, zero, suc, ◌*◌, ◌-◌, ◌^◌, ◌<◌, ◌≤◌, refl, sym, ap, subst, ◌∙◌, arith, cond, mul-pos, Bool, true, false, inl, inr, nat_lt}
use Rattle.std.proofs.lemmas.Int.{ints, by_lt_z}
use Rattle.std.proofs.lemmas.Bool.{cases_order}
use Rattle.std.proofs.lemmas.Bool.Decides.{nat_tests}
use Rattle.std.proofs.Math.Nat.{pow-succ'}
use Rattle.std.specs.Prelude.{ℤ, pos, negsuc, ◌+ℤ◌, ◌-ℤ◌, ◌*ℤ◌, ◌≤ℤ◌, ◌<ℤ◌}
use borrow.Author.Differences.{up, down}
use Rattle.ofit_num.specs.Problem.{Problem}
use Rattle.ofit_num.specs.ProblemPairs.{HasPlaces}
use Rattle.ofit_num.specs.Meaning.{Meaning}
use Rattle.ofit_num.specs.Trial.{Trial}
use Rattle.ofit_num.specs.TrialValues.{EqualBelow}
use Rattle.ofit_num.specs.Fit.{Best, LeastBest, sum_below, trial_cost}
use Rattle.ofit_num.specs.Law.{HasSupport, HasScaling}
use Rattle.ofit_num.specs.Sets.{set_sum, IsClosedUp, IsClosedDown}
use Rattle.ofit_num.specs.Settled.{IsSettled, CanRise, CanFall}
use Rattle.ofit_num.proofs.Gap.{is_gap, gap-same, gap-add, gap-sub, gap-mul, pos-gap, distr}
use Rattle.ofit_num.proofs.Order.{swap_ℤ, mul_zero_ℤ, zero_mul_ℤ, mul_pos, mul_strict, pow_above, cancel_le_ℤ, cancel_le, distr_left}
use Rattle.ofit_num.proofs.Sums.{int_sum, sum_below-term, int_sum-add, int_sum-same, int_sum-zero, int_sum-mono, int_sum-scale, int_sum-pos, int_sum-above}
use Rattle.ofit_num.proofs.Layers.{layered}
use Rattle.ofit_num.proofs.Scaling.{Best-equal}
use Rattle.ofit_num.proofs.Settled.{settled_best, none_above, up_mono, down_mono, lt_from, lt_to}
use Rattle.ofit_num.proofs.Blocks.{member_or_none, set_sum-none}

-- A sum of sums, each over the numbers below y, is the sum over the levels of what lies above each.
level_sum : (f : ℕ → ℤ) (y n : ℕ) → y ≤ n → int_sum f y ≡ int_sum (λ k. cond (nat_lt k y) (f k) (pos 0)) n
level_sum f y zero l = ap (int_sum f) (none y l) where
  none : (y : ℕ) → y ≤ 0 → y ≡ 0
  none y l = omega arith
level_sum f y (suc n) l = elim (cases_order y (suc n)) [
  | inl e ↦ ap (int_sum f) e ∙ int_sum-same f (λ k. cond (nat_lt k y) (f k) (pos 0)) (suc n) (λ k b. sym (ap (λ (x : Bool). cond x (f k) (pos 0)) (below k y (omega arith))))
  | inr o ↦ elim o [
    | inl b ↦ level_sum f y n (omega arith) ∙ added (int_sum (λ k. cond (nat_lt k y) (f k) (pos 0)) n) (nat_lt n y) (f n) (above n y (omega arith))
    | inr b ↦ absurd (omega arith)
  ]
] where
  below : (k y : ℕ) → k < y → nat_lt k y ≡ true
  below k y h = grind (arith, nat_tests)

  above : (k y : ℕ) → y ≤ k → nat_lt k y ≡ false
  above k y h = grind (arith, nat_tests)

  added : (z : ℤ) (x : Bool) (u : ℤ) → x ≡ false → z ≡ z +ℤ cond x u (pos 0)
  added z x u e = rw e (omega (arith, ints))

pub levels : (f : ℕ → ℕ → ℤ) (y : ℕ → ℕ) (n top : ℕ) → ((g : ℕ) → g < n → y g ≤ top)
    → int_sum (λ g. int_sum (λ k. f k g) (y g)) n ≡ int_sum (λ k. set_sum (λ g. nat_lt k (y g)) (f k) n) top
levels f y zero top h = sym (int_sum-zero (λ k. pos 0) top (λ g l. refl))
levels f y (suc n) top h =
    omega (
      arith,
      ints,
      levels f y n top (λ g l. h g (omega arith)),
      level_sum (λ k. f k n) (y n) top (h n (omega arith)),
      int_sum-add (λ k. set_sum (λ g. nat_lt k (y g)) (f k) n) (λ k. cond (nat_lt k (y n)) (f k n) (pos 0)) top,
    )

-- a support over one denominator, with the common power taken away
one_scale : (c e d q qa : ℕ) (b n : ℤ) → 0 < q → 0 < qa → pos (c * (q * qa)) ≤ℤ (pos (e * (q * qa)) +ℤ pos (d * qa) *ℤ (b *ℤ (n *ℤ pos q))) → pos c ≤ℤ (pos e +ℤ pos d *ℤ (b *ℤ n))
one_scale c e d q qa b n lq la h = cancel_le_ℤ (pos c) (pos e +ℤ pos d *ℤ (b *ℤ n)) (q * qa) (mul-pos lq la) (omega (
  arith,
  ints,
  h,
  parts e d q qa (b *ℤ n),
  whole c (q * qa),
  factors b n q,
  ap (λ (z : ℤ). pos (d * qa) *ℤ z) (factors b n q),
)) where
  parts : (e d q qa : ℕ) (x : ℤ) → (pos e +ℤ pos d *ℤ x) *ℤ pos (q * qa) ≡ pos (e * (q * qa)) +ℤ pos (d * qa) *ℤ (x *ℤ pos q)
  parts e d q qa x = rw (is_gap x) (simp (pos-gap, gap-mul, gap-add) (gap-same _ _ _ _ (omega arith)))

  whole : (c k : ℕ) → pos c *ℤ pos k ≡ pos (c * k)
  whole c k = omega (arith, ints)

  factors : (b n : ℤ) (q : ℕ) → b *ℤ (n *ℤ pos q) ≡ (b *ℤ n) *ℤ pos q
  factors b n q = rw (is_gap b, is_gap n) (simp (pos-gap, gap-mul) (gap-same _ _ _ _ (omega arith)))

-- Two trials over one scale: what one costs more than the other where each place moves by whole steps.
module _ (m : Meaning) (s : Problem) (law : HasSupport m s) (a : ℕ) (degree : m.degree ≡ suc a) (q : ℕ) (scale : 0 < q) where
  shift : (p p' n : ℤ) (q : ℕ) → p' ≡ p +ℤ n → p' *ℤ pos q -ℤ p *ℤ pos q ≡ n *ℤ pos q
  shift p p' n q e = omega (arith, ints, ap (λ (z : ℤ). z *ℤ pos q) e, distr p n (pos q))

  supported : (g : ℕ) → g < s.count → (p p' n b : ℤ) → p' ≡ p +ℤ n → m.least (s.rows g) p q ≤ℤ b → b ≤ℤ m.greatest (s.rows g) p q
      → pos (m.cost (s.rows g) p q) ≤ℤ (pos (m.cost (s.rows g) p' q) +ℤ pos m.degree *ℤ (b *ℤ n))
  supported g l p p' n b e above within = one_scale (m.cost (s.rows g) p q) (m.cost (s.rows g) p' q) m.degree q (q ^ a) b n scale (pow_above q a scale)
      (subst (λ (x : ℤ). pos (m.cost (s.rows g) p q * (q * q ^ a)) ≤ℤ (pos (m.cost (s.rows g) p' q * (q * q ^ a)) +ℤ pos (m.degree * q ^ a) *ℤ (b *ℤ x))) (shift p p' n q e)
      (subst (λ (x : ℕ). pos (m.cost (s.rows g) p q * x) ≤ℤ (pos (m.cost (s.rows g) p' q * x) +ℤ pos (m.degree * q ^ a) *ℤ (b *ℤ (p' *ℤ pos q -ℤ p *ℤ pos q)))) (ap (λ (x : ℕ). q ^ x) degree ∙ pow-succ' q a)
      (subst (λ (x : ℕ). pos (m.cost (s.rows g) p q * q ^ m.degree) ≤ℤ (pos (m.cost (s.rows g) p' q * q ^ m.degree) +ℤ pos (m.degree * q ^ x) *ℤ (b *ℤ (p' *ℤ pos q -ℤ p *ℤ pos q)))) (less_one m.degree a degree)
      (law.support g l p p' q q scale scale b above within)))) where
        less_one : (d a : ℕ) → d ≡ suc a → d - 1 ≡ a
        less_one d a e = omega arith

  -- what a place gains, step by step, by rising n steps again
  pub steps_down : (g : ℕ) → g < s.count → (p : ℤ) (n : ℕ)
      → (pos (m.cost (s.rows g) p q) +ℤ pos m.degree *ℤ int_sum (λ k. m.greatest (s.rows g) (p -ℤ pos k) q) n) ≤ℤ pos (m.cost (s.rows g) (p -ℤ pos n) q)
  steps_down g l p zero = start (pos m.degree) (pos (m.cost (s.rows g) p q)) (pos (m.cost (s.rows g) (p -ℤ pos 0) q)) (ap (λ (z : ℤ). pos (m.cost (s.rows g) z q)) (same p)) where
    same : (p : ℤ) → p ≡ p -ℤ pos 0
    same p = omega (arith, ints)

    start : (d x y : ℤ) → x ≡ y → (x +ℤ d *ℤ pos 0) ≤ℤ y
    start d x y e = omega (arith, ints, mul_zero_ℤ d)
  steps_down g l p (suc n) = omega (
    arith,
    ints,
    steps_down g l p n,
    supported g l (p -ℤ pos n) (p -ℤ pos (suc n)) (negsuc 0) (m.greatest (s.rows g) (p -ℤ pos n) q) (one_less p n) (law.ordered g l (p -ℤ pos n) q scale) (omega (arith, ints)),
    distr_left (pos m.degree) (int_sum (λ k. m.greatest (s.rows g) (p -ℤ pos k) q) n) (m.greatest (s.rows g) (p -ℤ pos n) q),
    turned (pos m.degree) (m.greatest (s.rows g) (p -ℤ pos n) q),
  ) where
    one_less : (p : ℤ) (n : ℕ) → p -ℤ pos (suc n) ≡ (p -ℤ pos n) +ℤ negsuc 0
    one_less p n = omega (arith, ints)

    turned : (d b : ℤ) → d *ℤ (b *ℤ negsuc 0) +ℤ d *ℤ b ≡ pos 0
    turned d b = rw (is_gap d, is_gap b, is_gap (negsuc 0)) (simp (pos-gap, gap-mul, gap-add) (gap-same _ _ _ _ (omega arith)))

  -- what a place that moves from x to y, up or down, costs more
  pub moved : (g : ℕ) → g < s.count → (x y : ℤ)
      → (pos (m.cost (s.rows g) x q) +ℤ pos m.degree *ℤ int_sum (λ k. m.greatest (s.rows g) (x -ℤ pos k) q) (down (y -ℤ x))) ≤ℤ (pos (m.cost (s.rows g) y q) +ℤ pos m.degree *ℤ (m.least (s.rows g) x q *ℤ pos (up (y -ℤ x))))
  moved g l x y = go (y -ℤ x) (meet x y) where
    meet : (x y : ℤ) → y ≡ x +ℤ (y -ℤ x)
    meet x y = omega (arith, ints)

    go : (z : ℤ) → y ≡ x +ℤ z → (pos (m.cost (s.rows g) x q) +ℤ pos m.degree *ℤ int_sum (λ k. m.greatest (s.rows g) (x -ℤ pos k) q) (down z)) ≤ℤ (pos (m.cost (s.rows g) y q) +ℤ pos m.degree *ℤ (m.least (s.rows g) x q *ℤ pos (up z)))
    go (pos n) e = omega (arith, ints, mul_zero_ℤ (pos m.degree), supported g l x y (pos n) (m.least (s.rows g) x q) e (omega (arith, ints)) (law.ordered g l x q scale))
    go (negsuc n) e = omega (
      arith,
      ints,
      mul_zero_ℤ (m.least (s.rows g) x q),
      mul_zero_ℤ (pos m.degree),
      ap (λ (z : ℤ). pos m.degree *ℤ z) (mul_zero_ℤ (m.least (s.rows g) x q)),
      steps_down g l x (suc n),
      ap (λ (z : ℤ). pos (m.cost (s.rows g) z q)) (lower x y n e),
    ) where
      lower : (x y : ℤ) (n : ℕ) → y ≡ x +ℤ negsuc n → y ≡ x -ℤ pos (suc n)
      lower x y n e = omega (arith, ints)

  -- the same of all places together
  module _ (x y : ℕ → ℤ) where
    gained : ℕ → ℤ
    gained g = m.least (s.rows g) (x g) q *ℤ pos (up (y g -ℤ x g))

    lost : ℕ → ℤ
    lost g = int_sum (λ k. m.greatest (s.rows g) (x g -ℤ pos k) q) (down (y g -ℤ x g))

    pub all_moved : (pos (sum_below (λ g. m.cost (s.rows g) (x g) q) s.count) +ℤ pos m.degree *ℤ int_sum (λ g. int_sum (λ k. m.greatest (s.rows g) (x g -ℤ pos k) q) (down (y g -ℤ x g))) s.count)
        ≤ℤ (pos (sum_below (λ g. m.cost (s.rows g) (y g) q) s.count) +ℤ pos m.degree *ℤ int_sum (λ g. m.least (s.rows g) (x g) q *ℤ pos (up (y g -ℤ x g))) s.count)
    unfolding gained lost
    all_moved = omega (
      arith,
      ints,
      int_sum-mono (λ g. pos (m.cost (s.rows g) (x g) q) +ℤ pos m.degree *ℤ lost g) (λ g. pos (m.cost (s.rows g) (y g) q) +ℤ pos m.degree *ℤ gained g) s.count (λ g l. moved g l (x g) (y g)),
      int_sum-add (λ g. pos (m.cost (s.rows g) (x g) q)) (λ g. pos m.degree *ℤ lost g) s.count,
      int_sum-add (λ g. pos (m.cost (s.rows g) (y g) q)) (λ g. pos m.degree *ℤ gained g) s.count,
      int_sum-scale (pos m.degree) lost s.count,
      int_sum-scale (pos m.degree) gained s.count,
      int_sum-pos (λ g. m.cost (s.rows g) (x g) q) s.count,
      int_sum-pos (λ g. m.cost (s.rows g) (y g) q) s.count,
    )

-- each set that could be lowered together gains by rising again, from each value that lies lower by k/(r·scale)
pub record GainsFromBelow (m : Meaning) (s : Problem) (t : Trial) : Type 0 where
  pub gains : (r k : ℕ) → 0 < r → 0 < k → (a : ℕ → Bool) → IsClosedDown s t a → (g : ℕ) → g < s.count → a g ≡ true
      → pos 0 <ℤ set_sum a (λ g. m.greatest (s.rows g) (t.value g *ℤ pos r -ℤ pos k) (t.scale * r)) s.count

module _ (m : Meaning) (s : Problem) (places : HasPlaces s) (support : HasSupport m s) (scaling : HasScaling m s) (a : ℕ) (degree : m.degree ≡ suc a)
    (t : Trial) (settled : IsSettled m s t) (rises : (a : ℕ → Bool) → CanRise s t a) (sinks : (a : ℕ → Bool) → CanFall s t a) (below : GainsFromBelow m s t) (u : Trial) (best : Best m s u) where
  -- both trials over twice the product of their scales
  r : ℕ
  r = 2 * u.scale

  q : ℕ
  q = t.scale * (2 * u.scale)

  x : ℕ → ℤ
  x g = t.value g *ℤ pos (2 * u.scale)

  y : ℕ → ℤ
  y g = u.value g *ℤ pos (2 * t.scale)

  r_above : 0 < 2 * u.scale
  r_above = mul-pos (omega arith) best.obeys.scale

  q_above : 0 < t.scale * (2 * u.scale)
  q_above = mul-pos settled.obeys.scale r_above

  rise : ℕ → ℤ
  rise g = u.value g *ℤ pos (2 * t.scale) -ℤ t.value g *ℤ pos (2 * u.scale)

  rise_pair : (g h : ℕ) → t.value g ≡ t.value h → u.value g ≤ℤ u.value h → (u.value g *ℤ pos (2 * t.scale) -ℤ t.value g *ℤ pos (2 * u.scale)) ≤ℤ (u.value h *ℤ pos (2 * t.scale) -ℤ t.value h *ℤ pos (2 * u.scale))
  rise_pair g h e le = omega (arith, ints, mul_pos _ _ (2 * t.scale) le, ap (λ (z : ℤ). z *ℤ pos (2 * u.scale)) e)

  raised_past : ℕ → ℕ → Bool
  raised_past k g = nat_lt k (up (u.value g *ℤ pos (2 * t.scale) -ℤ t.value g *ℤ pos (2 * u.scale)))

  lowered_past : ℕ → ℕ → Bool
  lowered_past k g = nat_lt k (down (u.value g *ℤ pos (2 * t.scale) -ℤ t.value g *ℤ pos (2 * u.scale)))

  closed_up : (k : ℕ) → IsClosedUp s t (raised_past k)
  unfolding raised_past
  closed_up k i d l equal into = lt_to k _ (omega (arith, lt_from k _ into, up_mono _ _ (rise_pair _ _ equal (best.obeys.pairs i d l))))

  closed_down : (k : ℕ) → IsClosedDown s t (lowered_past k)
  unfolding lowered_past
  closed_down k i d l equal into = lt_to k _ (omega (arith, lt_from k _ into, down_mono _ _ (rise_pair _ _ equal (best.obeys.pairs i d l))))

  -- a sign that a positive factor keeps
  under_factor : (z w : ℤ) (k : ℕ) → w ≡ z *ℤ pos k → z ≤ℤ pos 0 → w ≤ℤ pos 0
  under_factor z w k e h = omega (arith, ints, mul_pos z (pos 0) k h, zero_mul_ℤ (pos k))

  over_factor : (z w : ℤ) (k : ℕ) → w ≡ z *ℤ pos k → pos 0 ≤ℤ z → pos 0 ≤ℤ w
  over_factor z w k e h = omega (arith, ints, mul_pos (pos 0) z k h, zero_mul_ℤ (pos k))

  set_sum-times : (b : ℕ → Bool) (f h : ℕ → ℤ) (k n : ℕ) → ((g : ℕ) → g < n → h g ≡ f g *ℤ pos k) → set_sum b h n ≡ set_sum b f n *ℤ pos k
  set_sum-times b f h k zero e = sym (zero_mul_ℤ (pos k))
  set_sum-times b f h k (suc n) e = go (b n) (set_sum-times b f h k n (λ g l. e g (omega arith))) (e n (omega arith)) where
    go : (z : Bool) → set_sum b h n ≡ set_sum b f n *ℤ pos k → h n ≡ f n *ℤ pos k → (set_sum b h n +ℤ cond z (h n) (pos 0)) ≡ (set_sum b f n +ℤ cond z (f n) (pos 0)) *ℤ pos k
    go true p q = omega (arith, ints, distr (set_sum b f n) (f n) (pos k))
    go false p q = omega (arith, ints, distr (set_sum b f n) (pos 0) (pos k), zero_mul_ℤ (pos k))

  gained_le : int_sum (λ g. m.least (s.rows g) (t.value g *ℤ pos (2 * u.scale)) (t.scale * (2 * u.scale)) *ℤ pos (up (u.value g *ℤ pos (2 * t.scale) -ℤ t.value g *ℤ pos (2 * u.scale)))) s.count ≤ℤ pos 0
  unfolding raised_past
  gained_le =
      let h : ℕ → ℕ = λ g. up (u.value g *ℤ pos (2 * t.scale) -ℤ t.value g *ℤ pos (2 * u.scale)) in
      let top : ℕ = sum_below h s.count in
      let c : ℕ → ℤ = λ g. m.least (s.rows g) (t.value g *ℤ pos (2 * u.scale)) (t.scale * (2 * u.scale)) in
      let each : (k : ℕ) → set_sum (λ g. nat_lt k (h g)) c s.count ≤ℤ pos 0 = λ k.
      under_factor _ _ ((2 * u.scale) ^ (m.degree - 1))
      (set_sum-times (λ g. nat_lt k (h g)) (λ g. m.least (s.rows g) (t.value g) t.scale) c ((2 * u.scale) ^ (m.degree - 1)) s.count (λ g l. scaling.least g l (2 * u.scale) t.scale (t.value g) r_above settled.obeys.scale))
      (settled.raised (raised_past k) (closed_up k) (rises (raised_past k))) in
      let none : int_sum (λ k. set_sum (λ g. nat_lt k (h g)) c s.count) top ≤ℤ pos 0 = none_above _ top (λ k l. each k) in
      omega (arith, ints, layered c h s.count top (λ g l. sum_below-term h s.count g l), none)

  lost_level : (k : ℕ) → pos 0 ≤ℤ set_sum (lowered_past k) (λ g. m.greatest (s.rows g) (t.value g *ℤ pos (2 * u.scale) -ℤ pos k) (t.scale * (2 * u.scale))) s.count
  lost_level zero = over_factor (set_sum (lowered_past 0) (λ g. m.greatest (s.rows g) (t.value g) t.scale) s.count) _ ((2 * u.scale) ^ (m.degree - 1))
      (set_sum-times (lowered_past 0) (λ g. m.greatest (s.rows g) (t.value g) t.scale) _ ((2 * u.scale) ^ (m.degree - 1)) s.count
      (λ g l. ap (λ (z : ℤ). m.greatest (s.rows g) z (t.scale * (2 * u.scale))) (nothing (t.value g *ℤ pos (2 * u.scale))) ∙ scaling.greatest g l (2 * u.scale) t.scale (t.value g) r_above settled.obeys.scale))
      (settled.lowered (lowered_past 0) (closed_down 0) (sinks (lowered_past 0))) where
        nothing : (z : ℤ) → z -ℤ pos 0 ≡ z
        nothing z = omega (arith, ints)
  lost_level (suc k) = elim (member_or_none (lowered_past (suc k)) s.count) [
    | inl p ↦ weak _ (below.gains (2 * u.scale) (suc k) r_above (omega arith) (lowered_past (suc k)) (closed_down (suc k)) p.0 p.1 p.2)
    | inr none ↦ subst (λ (z : ℤ). pos 0 ≤ℤ z) (sym (set_sum-none (lowered_past (suc k)) _ s.count none)) (omega (arith, ints))
  ] where
    weak : (z : ℤ) → pos 0 <ℤ z → pos 0 ≤ℤ z
    weak z h = omega (arith, ints)

  even : (v w : ℤ) (i j : ℕ) → v *ℤ pos (2 * i) -ℤ w *ℤ pos (2 * j) ≡ (v *ℤ pos i -ℤ w *ℤ pos j) +ℤ (v *ℤ pos i -ℤ w *ℤ pos j)
  even v w i j = rw (is_gap v, is_gap w) (simp (pos-gap, gap-mul, gap-sub, gap-add) (gap-same _ _ _ _ (omega arith)))

  lost_above : (g : ℕ) → g < s.count → (u.value g *ℤ pos t.scale) <ℤ (t.value g *ℤ pos u.scale)
      → pos 0 <ℤ int_sum (λ g. int_sum (λ k. m.greatest (s.rows g) (t.value g *ℤ pos (2 * u.scale) -ℤ pos k) (t.scale * (2 * u.scale))) (down (u.value g *ℤ pos (2 * t.scale) -ℤ t.value g *ℤ pos (2 * u.scale)))) s.count
  unfolding lowered_past
  lost_above g l fall =
      let h : ℕ → ℕ = λ g. down (u.value g *ℤ pos (2 * t.scale) -ℤ t.value g *ℤ pos (2 * u.scale)) in
      let top : ℕ = sum_below h s.count in
      let two : 1 < h g = omega (arith, ints, even (u.value g) (t.value g) t.scale u.scale) in
      let here : h g ≤ top = sum_below-term h s.count g l in
      let total : pos 0 <ℤ int_sum (λ k. set_sum (lowered_past k) (λ g. m.greatest (s.rows g) (t.value g *ℤ pos (2 * u.scale) -ℤ pos k) (t.scale * (2 * u.scale))) s.count) top =
      int_sum-above _ top 1 (omega arith) (λ k b. lost_level k) (below.gains (2 * u.scale) 1 r_above (omega arith) (lowered_past 1) (closed_down 1) g l (lt_to 1 (h g) two)) in
      omega (arith, ints, levels (λ k g. m.greatest (s.rows g) (t.value g *ℤ pos (2 * u.scale) -ℤ pos k) (t.scale * (2 * u.scale))) h s.count top (λ g l. sum_below-term h s.count g l), total)

  -- both trials over one scale
  common : (v : Trial) (k : ℕ) → Trial
  common v k = record { value = λ g. v.value g *ℤ pos k; scale = v.scale * k }

  never : (g : ℕ) → g < s.count → (u.value g *ℤ pos t.scale) <ℤ (t.value g *ℤ pos u.scale) → ⊥
  never g l fall =
      let t' : Trial = record { value = λ g. t.value g *ℤ pos (2 * u.scale); scale = t.scale * (2 * u.scale) } in
      let u' : Trial = record { value = λ g. u.value g *ℤ pos (2 * t.scale); scale = t.scale * (2 * u.scale) } in
      let et : EqualBelow s.count t t' = record { values = λ g l. same_t (t.value g) t.scale (2 * u.scale) } in
      let eu : EqualBelow s.count u u' = record { values = λ g l. same_u (u.value g) t.scale u.scale } in
      let bt : Best m s t' = Best-equal m s t t' places scaling et q_above (settled_best m s t support settled) in
      let bu : Best m s u' = Best-equal m s u u' places scaling eu q_above best in
      let dear : trial_cost m s u' * (t.scale * (2 * u.scale)) ^ m.degree ≤ trial_cost m s t' * (t.scale * (2 * u.scale)) ^ m.degree = (bu.cheapest t' bt.obeys).costs in
      let cheap : sum_below (λ g. m.cost (s.rows g) (u.value g *ℤ pos (2 * t.scale)) (t.scale * (2 * u.scale))) s.count ≤ sum_below (λ g. m.cost (s.rows g) (t.value g *ℤ pos (2 * u.scale)) (t.scale * (2 * u.scale))) s.count =
      cancel_le _ _ ((t.scale * (2 * u.scale)) ^ m.degree) (pow_above (t.scale * (2 * u.scale)) m.degree q_above) dear in
      refuted m.degree _ _ _ _ (omega (arith, degree)) gained_le (lost_above g l fall) cheap
      (all_moved m s support a degree (t.scale * (2 * u.scale)) q_above (λ g. t.value g *ℤ pos (2 * u.scale)) (λ g. u.value g *ℤ pos (2 * t.scale))) where
        same_t : (v : ℤ) (i k : ℕ) → v *ℤ pos (i * k) ≡ (v *ℤ pos k) *ℤ pos i
        same_t v i k = rw (is_gap v) (simp (pos-gap, gap-mul) (gap-same _ _ _ _ (omega arith)))

        same_u : (v : ℤ) (i j : ℕ) → v *ℤ pos (i * (2 * j)) ≡ (v *ℤ pos (2 * i)) *ℤ pos j
        same_u v i j = rw (is_gap v) (simp (pos-gap, gap-mul) (gap-same _ _ _ _ (omega arith)))

        refuted : (d c e : ℕ) (up down : ℤ) → 0 < d → up ≤ℤ pos 0 → pos 0 <ℤ down → e ≤ c → (pos c +ℤ pos d *ℤ down) ≤ℤ (pos e +ℤ pos d *ℤ up) → ⊥
        refuted d c e up down ld hu hd le h = omega (arith, ints, swap_ℤ (pos d) up, swap_ℤ (pos d) down, mul_pos up (pos 0) d hu, mul_strict (pos 0) down d hd ld, zero_mul_ℤ (pos d))

  pub at_most_best : (g : ℕ) → g < s.count → (t.value g *ℤ pos u.scale) ≤ℤ (u.value g *ℤ pos t.scale)
  at_most_best g l = by_lt_z (u.value g *ℤ pos t.scale) (t.value g *ℤ pos u.scale) (λ fall. absurd (never g l fall)) (λ h. h)

-- What is settled, and gains from below, is the least of the best.
pub settled_lowest : (m : Meaning) (s : Problem) → HasPlaces s → HasSupport m s → HasScaling m s → 0 < m.degree → (t : Trial) → IsSettled m s t
    → ((a : ℕ → Bool) → CanRise s t a) → ((a : ℕ → Bool) → CanFall s t a) → GainsFromBelow m s t → LeastBest m s t
settled_lowest m s places support scaling degree t settled rises sinks below = record {
  best = settled_best m s t support settled;
  least = λ u best g l. at_most_best m s places support scaling (m.degree - 1) (omega arith) t settled rises sinks below u best g l;
}
