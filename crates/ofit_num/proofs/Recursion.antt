-- the floors and ceilings of pieces under the recursion by cuts
use Rattle.std.proofs.Common.{◌≡◌, ℕ, zero, suc, ◌-◌, ◌^◌, ◌<◌, refl, sym, ◌∙◌, arith, cond, Bool, true, false}
use Rattle.std.proofs.lemmas.Int.{ints, by_lt_z}
use Rattle.std.specs.Prelude.{ℤ, pos, ◌+ℤ◌, ◌*ℤ◌, ◌≤ℤ◌, ◌<ℤ◌, All}
use Rattle.ofit_num.proofs.Gap.{is_gap, gap-same, gap-mul, pos-gap, distr}
use Rattle.ofit_num.specs.Problem.{Problem}
use Rattle.ofit_num.specs.Meaning.{Meaning}
use Rattle.ofit_num.specs.Fraction.{Fraction, AtMost}
use Rattle.ofit_num.specs.Below.{Below}
use Rattle.ofit_num.specs.Trial.{Trial}
use Rattle.ofit_num.specs.Law.{least_at, greatest_at, HasFallingSpans}
use Rattle.ofit_num.specs.Sets.{set_sum, IsWithin, IsUpperIn, IsLowerIn, IsSplit, IsGreatestUpper, IsSmallest}
use Rattle.ofit_num.specs.Settled.{IsFitted, LosesByLowering}
use Rattle.ofit_num.specs.Block.{IsPooled, HasFloor, HasCeiling}
use Rattle.ofit_num.proofs.Order.{cancel_ℤ, mul_pos, mul_strict, pow_above, zero_mul_ℤ}
use Rattle.ofit_num.proofs.Cuts.{rest_gains_nothing, chosen_loses, upper_of_chosen, within_chosen, lower_of_rest, within_rest}

-- sums over a set, term by term, up to two factors
pub set_sum-le : (a : ℕ → Bool) (f h : ℕ → ℤ) (j k n : ℕ) → ((g : ℕ) → g < n → (f g *ℤ pos j) ≤ℤ (h g *ℤ pos k)) → (set_sum a f n *ℤ pos j) ≤ℤ (set_sum a h n *ℤ pos k)
set_sum-le a f h j k zero le = omega (arith, ints, zero_mul_ℤ (pos j), zero_mul_ℤ (pos k))
set_sum-le a f h j k (suc n) le =
    here (a n) (set_sum-le a f h j k n (λ g l. le g (omega arith))) (le n (omega arith)) where
      here : (x : Bool) → (set_sum a f n *ℤ pos j) ≤ℤ (set_sum a h n *ℤ pos k) → (f n *ℤ pos j) ≤ℤ (h n *ℤ pos k)
          → ((set_sum a f n +ℤ cond x (f n) (pos 0)) *ℤ pos j) ≤ℤ ((set_sum a h n +ℤ cond x (h n) (pos 0)) *ℤ pos k)
      here true p q = omega (arith, ints, distr (set_sum a f n) (f n) (pos j), distr (set_sum a h n) (h n) (pos k))
      here false p q = omega (arith, ints, distr (set_sum a f n) (pos 0) (pos j), distr (set_sum a h n) (pos 0) (pos k), zero_mul_ℤ (pos j), zero_mul_ℤ (pos k))

-- the signs of a product
pub not_above : (x : ℤ) (k : ℕ) → 0 < k → (x *ℤ pos k) ≤ℤ pos 0 → x ≤ℤ pos 0
not_above x k l h = by_lt_z (pos 0) x (λ p. absurd (omega (arith, ints, mul_strict (pos 0) x k p l, zero_mul_ℤ (pos k)))) (λ q. q)

pub not_below : (x : ℤ) (k : ℕ) → 0 < k → pos 0 ≤ℤ (x *ℤ pos k) → pos 0 ≤ℤ x
not_below x k l h = by_lt_z x (pos 0) (λ p. absurd (omega (arith, ints, mul_strict x (pos 0) k p l, zero_mul_ℤ (pos k)))) (λ q. q)

pub set_sum-same : (a : ℕ → Bool) (f h : ℕ → ℤ) (j k n : ℕ) → ((g : ℕ) → g < n → a g ≡ true → f g *ℤ pos j ≡ h g *ℤ pos k) → set_sum a f n *ℤ pos j ≡ set_sum a h n *ℤ pos k
set_sum-same a f h j k zero e = omega (arith, ints, zero_mul_ℤ (pos j), zero_mul_ℤ (pos k))
set_sum-same a f h j k (suc n) e =
    go (set_sum-same a f h j k n (λ g l. e g (omega arith))) (a n) refl where
      go : set_sum a f n *ℤ pos j ≡ set_sum a h n *ℤ pos k → (x : Bool) → a n ≡ x → (set_sum a f n +ℤ cond x (f n) (pos 0)) *ℤ pos j ≡ (set_sum a h n +ℤ cond x (h n) (pos 0)) *ℤ pos k
      go r true u = omega (arith, ints, distr (set_sum a f n) (f n) (pos j), distr (set_sum a h n) (h n) (pos k), e n (omega arith) u)
      go r false u = omega (arith, ints, distr (set_sum a f n) (pos 0) (pos j), distr (set_sum a h n) (pos 0) (pos k), zero_mul_ℤ (pos j), zero_mul_ℤ (pos k))

pub above_zero : (x : ℤ) (k : ℕ) → 0 < k → pos 0 <ℤ (x *ℤ pos k) → pos 0 <ℤ x
above_zero x k l h = by_lt_z (pos 0) x (λ p. p) (λ q. absurd (omega (arith, ints, mul_pos x (pos 0) k q, zero_mul_ℤ (pos k))))

module _ (m : Meaning) (s : Problem) (law : HasFallingSpans m s) where
  -- at a greater value a set's least ends are lower
  pub sum_falls : (a : ℕ → Bool) (c b : Fraction) → 0 < c.den → 0 < b.den → AtMost c b
      → (set_sum a (least_at m s b) s.count *ℤ pos (c.den ^ (m.degree - 1))) ≤ℤ (set_sum a (least_at m s c) s.count *ℤ pos (b.den ^ (m.degree - 1)))
  sum_falls a c b lc lb h = set_sum-le a (least_at m s b) (least_at m s c) (c.den ^ (m.degree - 1)) (b.den ^ (m.degree - 1)) s.count each where
    each : (g : ℕ) → g < s.count → (least_at m s b g *ℤ pos (c.den ^ (m.degree - 1))) ≤ℤ (least_at m s c g *ℤ pos (b.den ^ (m.degree - 1)))
    each g l = by_lt_z (c.num *ℤ pos b.den) (b.num *ℤ pos c.den)
        (λ below. omega (arith, ints, law.falls g l c b lc lb below, mul_pos (least_at m s b g) (greatest_at m s b g) (c.den ^ (m.degree - 1)) (law.ordered g l b lb)))
        (λ k. omega (arith, ints, law.least g l c b lc lb (omega (arith, ints))))

  -- a piece with a floor is pooled above it
  pub pooled_above : (piece : ℕ → Bool) (a c : Fraction) (g : ℕ) → g < s.count → piece g ≡ true → HasFloor m s piece a → IsPooled m s piece c → Below a c
  pooled_above piece a c g l k floor pooled = by_lt_z (a.num *ℤ pos c.den) (c.num *ℤ pos a.den) (λ h. h) (λ h.
      absurd (omega (
        arith,
        ints,
        mul_strict (pos 0) (set_sum piece (least_at m s a) s.count) (c.den ^ (m.degree - 1)) (floor.floor piece (record { each = λ _ _ e. e }) (λ i d b low high e. low) g l k) (pow_above c.den (m.degree - 1) pooled.den),
        sum_falls piece c a pooled.den floor.den h,
        mul_pos (set_sum piece (least_at m s c) s.count) (pos 0) (a.den ^ (m.degree - 1)) pooled.least,
        zero_mul_ℤ (pos (c.den ^ (m.degree - 1))),
        zero_mul_ℤ (pos (a.den ^ (m.degree - 1))),
      )))

  -- a piece with a ceiling is pooled at most there
  pub pooled_at_most : (piece : ℕ → Bool) (b c : Fraction) → HasCeiling m s piece b → IsPooled m s piece c → AtMost c b
  pooled_at_most piece b c ceiling pooled = by_lt_z (b.num *ℤ pos c.den) (c.num *ℤ pos b.den)
      (λ h. absurd (omega (arith, ints, pooled.smaller b ceiling.den h, ceiling.ceiling piece (record { each = λ _ _ e. e }) (λ i d k low high e. high)))) (λ h. h)

  -- the chosen part of a cut by least ends has the cut's value as its floor
  pub chosen_floor : (piece upper rest : ℕ → Bool) (c : Fraction) → 0 < c.den → IsSplit s piece upper rest → All (λ e. (e.0 < s.count) × (e.1 < s.count)) s.pairs
      → IsGreatestUpper s piece (least_at m s c) upper → IsSmallest s piece (least_at m s c) upper → HasFloor m s upper c
  chosen_floor piece upper rest c l cut places best small = record { den = l; floor = chosen_loses s piece upper rest (least_at m s c) cut places best small }

  -- and the rest has it as its ceiling
  pub rest_ceiling : (piece upper rest : ℕ → Bool) (c : Fraction) → 0 < c.den → IsSplit s piece upper rest → All (λ e. (e.0 < s.count) × (e.1 < s.count)) s.pairs
      → IsGreatestUpper s piece (least_at m s c) upper → HasCeiling m s rest c
  rest_ceiling piece upper rest c l cut places best = record { den = l; ceiling = rest_gains_nothing s piece upper rest (least_at m s c) cut places best }

  -- the rest of a cut by greatest ends too
  pub rest_ceiling_second : (piece upper rest : ℕ → Bool) (c : Fraction) → 0 < c.den → IsSplit s piece upper rest → All (λ e. (e.0 < s.count) × (e.1 < s.count)) s.pairs
      → IsGreatestUpper s piece (greatest_at m s c) upper → HasCeiling m s rest c
  rest_ceiling_second piece upper rest c l cut places best = record {
    den = l;
    ceiling = λ a inside closed.
        omega (
          arith,
          ints,
          rest_gains_nothing s piece upper rest (greatest_at m s c) cut places best a inside closed,
          set_sum-le a (least_at m s c) (greatest_at m s c) 1 1 s.count (λ g b. mul_pos _ _ 1 (law.ordered g b c l)),
          one (set_sum a (least_at m s c) s.count),
          one (set_sum a (greatest_at m s c) s.count),
        );
  } where
    one : (z : ℤ) → z *ℤ pos 1 ≡ z
    one z = rw (is_gap z) (simp (pos-gap, gap-mul) (gap-same _ _ _ _ (omega arith)))

  -- the floor of a piece is that of the rest, and its ceiling that of the chosen part
  pub rest_floor : (piece upper rest : ℕ → Bool) (c : ℕ → ℤ) (a : Fraction) → IsSplit s piece upper rest → All (λ e. (e.0 < s.count) × (e.1 < s.count)) s.pairs
      → IsGreatestUpper s piece c upper → HasFloor m s piece a → HasFloor m s rest a
  rest_floor piece upper rest c a cut places best floor = record {
    den = floor.den;
    floor = λ b inside lower g l k.
        floor.floor b (within_rest s piece upper rest c cut places best b inside) (lower_of_rest s piece upper rest c cut places best b inside lower) g l k;
  }

  pub chosen_ceiling : (piece upper rest : ℕ → Bool) (c : ℕ → ℤ) (b : Fraction) → IsSplit s piece upper rest → All (λ e. (e.0 < s.count) × (e.1 < s.count)) s.pairs
      → IsGreatestUpper s piece c upper → HasCeiling m s piece b → HasCeiling m s upper b
  chosen_ceiling piece upper rest c b cut places best ceiling = record {
    den = ceiling.den;
    ceiling = λ a inside closed.
        ceiling.ceiling a (within_chosen s piece upper rest c cut places best a inside) (upper_of_chosen s piece upper rest c cut places best a inside closed);
  }

  -- the trial has the value c on the piece
  abbrev pub IsAt : Trial → (ℕ → Bool) → Fraction → Type 0
  IsAt t piece c = (g : ℕ) → g < s.count → piece g ≡ true → t.value g *ℤ pos c.den ≡ c.num *ℤ pos t.scale

  -- A part of one value, none of whose upper sets gains at its least ends and none of whose lower sets loses at its greatest ends, is fitted.
  module _ (t : Trial) (part : ℕ → Bool) (c : Fraction) (scale : 0 < t.scale) (den : 0 < c.den) (at : IsAt t part c) (places : All (λ e. (e.0 < s.count) × (e.1 < s.count)) s.pairs) where
    same : (g h : ℕ) → g < s.count → h < s.count → part g ≡ true → part h ≡ true → t.value g ≡ t.value h
    same g h l k u w = cancel_ℤ (t.value g) (t.value h) c.den den (at g l u ∙ sym (at h k w))

    here : ℕ → Fraction
    here g = record { num = t.value g; den = t.scale }

    -- set sums at the trial and at the value have one sign
    least_scaled : (a : ℕ → Bool) → IsWithin s part a → set_sum a (λ g. m.least (s.rows g) (t.value g) t.scale) s.count *ℤ pos (c.den ^ (m.degree - 1)) ≡ set_sum a (least_at m s c) s.count *ℤ pos (t.scale ^ (m.degree - 1))
    least_scaled a inside = set_sum-same a _ _ _ _ s.count (λ g l k. law.least g l (record { num = t.value g; den = t.scale }) c scale den (at g l (inside.each g l k)))

    greatest_scaled : (a : ℕ → Bool) → IsWithin s part a → set_sum a (λ g. m.greatest (s.rows g) (t.value g) t.scale) s.count *ℤ pos (c.den ^ (m.degree - 1)) ≡ set_sum a (greatest_at m s c) s.count *ℤ pos (t.scale ^ (m.degree - 1))
    greatest_scaled a inside = set_sum-same a _ _ _ _ s.count (λ g l k. law.greatest g l (record { num = t.value g; den = t.scale }) c scale den (at g l (inside.each g l k)))

    pub part_fitted : ((a : ℕ → Bool) → IsWithin s part a → IsUpperIn s part a → set_sum a (least_at m s c) s.count ≤ℤ pos 0)
        → ((a : ℕ → Bool) → IsWithin s part a → IsLowerIn s part a → pos 0 ≤ℤ set_sum a (greatest_at m s c) s.count) → IsFitted m s t part
    part_fitted up down = record {
      obeys = λ i d l low high. omega (arith, ints, same _ _ (places i d l).0 (places i d l).1 low high);
      raised = λ a inside closed. not_above _ (c.den ^ (m.degree - 1)) (pow_above c.den (m.degree - 1) den)
          (omega (arith, ints, least_scaled a inside, mul_pos _ _ (t.scale ^ (m.degree - 1)) (up a inside (λ i d l low high k. closed i d l low high (same _ _ (places i d l).0 (places i d l).1 low high) k)), zero_mul_ℤ (pos (t.scale ^ (m.degree - 1)))));
      lowered = λ a inside closed. not_below _ (c.den ^ (m.degree - 1)) (pow_above c.den (m.degree - 1) den)
          (omega (arith, ints, greatest_scaled a inside, mul_pos _ _ (t.scale ^ (m.degree - 1)) (down a inside (λ i d l low high k. closed i d l low high (same _ _ (places i d l).0 (places i d l).1 low high) k)), zero_mul_ℤ (pos (t.scale ^ (m.degree - 1)))));
    }

    pub part_loses : ((a : ℕ → Bool) → IsWithin s part a → IsLowerIn s part a → (g : ℕ) → g < s.count → a g ≡ true → pos 0 <ℤ set_sum a (greatest_at m s c) s.count) → LosesByLowering m s t part
    part_loses down = record {
      loses = λ a inside closed g b k. above_zero _ (c.den ^ (m.degree - 1)) (pow_above c.den (m.degree - 1) den)
          (omega (arith, ints, greatest_scaled a inside, mul_strict (pos 0) _ (t.scale ^ (m.degree - 1)) (down a inside (λ i d l low high e. closed i d l low high (same _ _ (places i d l).0 (places i d l).1 low high) e) g b k) (pow_above t.scale (m.degree - 1) scale), zero_mul_ℤ (pos (t.scale ^ (m.degree - 1)))));
    }
