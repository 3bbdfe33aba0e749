-- sums of ends over sets of places, at one value and at another
use Rattle.std.proofs.Common.{◌≡◌, ℕ, zero, suc, ◌-◌, ◌^◌, ◌<◌, refl, arith, cond, Bool, true, false, ◌||◌, ◌&&◌, not}
use Rattle.std.proofs.lemmas.Int.{ints, by_lt_z}
use Rattle.std.proofs.lemmas.Bool.{both_ways}
use Rattle.std.specs.Prelude.{ℤ, pos, ◌+ℤ◌, ◌*ℤ◌, ◌≤ℤ◌, slice_index_or}
use Rattle.ofit_num.specs.Problem.{Problem}
use Rattle.ofit_num.specs.Meaning.{Meaning}
use Rattle.ofit_num.specs.Fraction.{Fraction, AtMost}
use Rattle.ofit_num.specs.Below.{Below}
use Rattle.ofit_num.specs.Law.{least_at, greatest_at, HasFallingSpans}
use Rattle.ofit_num.specs.Sets.{set_sum, IsWithin, IsUpperIn, IsLowerIn}
use Rattle.ofit_num.specs.Block.{IsCost}
use Rattle.ofit_num.proofs.Order.{mul_pos, mul_strict, pow_above, zero_mul_ℤ}
use Rattle.ofit_num.proofs.Cuts.{difference, but_not, not_but, not_both}
use Rattle.ofit_num.proofs.Pieces.{meet}
use Rattle.ofit_num.proofs.Recursion.{set_sum-le, not_above, not_below, above_zero, sum_falls}

-- a sum over a set is that over its parts
pub set_sum-parted : (a u w : ℕ → Bool) (f : ℕ → ℤ) (n : ℕ) → ((g : ℕ) → g < n → a g ≡ true → (u g || w g) ≡ true) → ((g : ℕ) → g < n → u g ≡ true → w g ≡ false)
    → set_sum a f n ≡ set_sum (meet a u) f n +ℤ set_sum (meet a w) f n
set_sum-parted a u w f zero parts apart = refl
set_sum-parted a u w f (suc n) parts apart =
    omega (arith, ints, set_sum-parted a u w f n (λ g l. parts g (omega arith)) (λ g l. apart g (omega arith)), here (a n) (u n) (w n) (parts n (omega arith)) (apart n (omega arith))) where
      here : (x y z : Bool) → (x ≡ true → (y || z) ≡ true) → (y ≡ true → z ≡ false) → cond x (f n) (pos 0) ≡ cond (x && y) (f n) (pos 0) +ℤ cond (x && z) (f n) (pos 0)
      here false y z p d = refl
      here true true true p d = absurd (cc (d refl))
      here true true false p d = omega (arith, ints)
      here true false true p d = omega (arith, ints)
      here true false false p d = cc (p refl)

pub set_sum-members : (a : ℕ → Bool) (f h : ℕ → ℤ) (n : ℕ) → ((g : ℕ) → g < n → a g ≡ true → f g ≤ℤ h g) → set_sum a f n ≤ℤ set_sum a h n
set_sum-members a f h zero le = omega (arith, ints)
set_sum-members a f h (suc n) le = go (a n) refl (set_sum-members a f h n (λ g l u. le g (omega arith) u)) where
  go : (x : Bool) → a n ≡ x → set_sum a f n ≤ℤ set_sum a h n → (set_sum a f n +ℤ cond x (f n) (pos 0)) ≤ℤ (set_sum a h n +ℤ cond x (h n) (pos 0))
  go true u p = omega (arith, ints, le n (omega arith) u)
  go false u p = omega (arith, ints)

-- costs are at least 0, add, and keep their sign under positive factors
pub cost_least : (strict : Bool) (x : ℤ) → IsCost strict x → pos 0 ≤ℤ x
cost_least true x h = h
cost_least false x h = omega (arith, ints)

pub cost_more : (strict : Bool) (x y : ℤ) → IsCost strict x → x ≤ℤ y → IsCost strict y
cost_more true x y h l = omega (arith, ints)
cost_more false x y h l = omega (arith, ints)

pub cost_times : (strict : Bool) (x : ℤ) (k : ℕ) → 0 < k → IsCost strict x → IsCost strict (x *ℤ pos k)
cost_times true x k l h = omega (arith, ints, mul_pos (pos 0) x k h, zero_mul_ℤ (pos k))
cost_times false x k l h = omega (arith, ints, mul_strict (pos 0) x k h l, zero_mul_ℤ (pos k))

pub cost_of_times : (strict : Bool) (x : ℤ) (k : ℕ) → 0 < k → IsCost strict (x *ℤ pos k) → IsCost strict x
cost_of_times true x k l h = not_below x k l h
cost_of_times false x k l h = above_zero x k l h

-- the rest of a piece
pub rest_upper : (s : Problem) (piece a : ℕ → Bool) → IsLowerIn s piece a → IsUpperIn s piece (difference piece a)
unfolding difference
rest_upper s piece a lower i d l low high k = not_but (piece e.1) (a e.1) high (go (a e.1) refl) where
  e : ℕ × ℕ
  e = slice_index_or s.pairs i d

  go : (x : Bool) → a e.1 ≡ x → x ≡ false
  go false f = refl
  go true f = not_both (a e.0) (lower i d l low high f) (but_not (piece e.0) (a e.0) k).1

pub rest_lower : (s : Problem) (piece a : ℕ → Bool) → IsUpperIn s piece a → IsLowerIn s piece (difference piece a)
unfolding difference
rest_lower s piece a upper i d l low high k = not_but (piece e.0) (a e.0) low (go (a e.0) refl) where
  e : ℕ × ℕ
  e = slice_index_or s.pairs i d

  go : (x : Bool) → a e.0 ≡ x → x ≡ false
  go false f = refl
  go true f = not_both (a e.1) (upper i d l low high f) (but_not (piece e.1) (a e.1) k).1

pub rest_within : (s : Problem) (piece a : ℕ → Bool) → IsWithin s piece (difference piece a)
unfolding difference
rest_within s piece a = record { each = λ g l k. (but_not (piece g) (a g) k).0 }

pub rest_out : (piece a : ℕ → Bool) (g : ℕ) → a g ≡ true → difference piece a g ≡ false
unfolding difference
rest_out piece a g e = go (piece g) (a g) e where
  go : (x y : Bool) → y ≡ true → (x && not y) ≡ false
  go true true e = refl
  go false true e = refl
  go true false e = cc
  go false false e = refl

-- a set inside a piece, of which nothing of the piece is left, is the piece
pub no_rest : (s : Problem) (piece a : ℕ → Bool) → IsWithin s piece a → ((g : ℕ) → g < s.count → difference piece a g ≡ true → ⊥) → (g : ℕ) → g < s.count → piece g ≡ a g
unfolding difference
no_rest s piece a inside none g l = go (piece g) (a g) refl refl where
  go : (x y : Bool) → piece g ≡ x → a g ≡ y → x ≡ y
  go true true e f = refl
  go false false e f = refl
  go true false e f = absurd (none g l (not_but (piece g) (a g) e f))
  go false true e f = absurd (both_ways (piece g) e (inside.each g l f))

module _ (m : Meaning) (s : Problem) (law : HasFallingSpans m s) where
  -- greatest ends fall too, and stay above the least ends of greater values
  pub greatest_falls : (a : ℕ → Bool) (c b : Fraction) → 0 < c.den → 0 < b.den → AtMost c b
      → (set_sum a (greatest_at m s b) s.count *ℤ pos (c.den ^ (m.degree - 1))) ≤ℤ (set_sum a (greatest_at m s c) s.count *ℤ pos (b.den ^ (m.degree - 1)))
  greatest_falls a c b lc lb h = set_sum-le a (greatest_at m s b) (greatest_at m s c) (c.den ^ (m.degree - 1)) (b.den ^ (m.degree - 1)) s.count each where
    each : (g : ℕ) → g < s.count → (greatest_at m s b g *ℤ pos (c.den ^ (m.degree - 1))) ≤ℤ (greatest_at m s c g *ℤ pos (b.den ^ (m.degree - 1)))
    each g l = by_lt_z (c.num *ℤ pos b.den) (b.num *ℤ pos c.den)
        (λ below. omega (arith, ints, law.falls g l c b lc lb below, mul_pos (least_at m s c g) (greatest_at m s c g) (b.den ^ (m.degree - 1)) (law.ordered g l c lc)))
        (λ k. omega (arith, ints, law.greatest g l c b lc lb (omega (arith, ints))))

  pub least_over_greatest : (a : ℕ → Bool) (c b : Fraction) → 0 < c.den → 0 < b.den → Below c b
      → (set_sum a (greatest_at m s b) s.count *ℤ pos (c.den ^ (m.degree - 1))) ≤ℤ (set_sum a (least_at m s c) s.count *ℤ pos (b.den ^ (m.degree - 1)))
  least_over_greatest a c b lc lb h = set_sum-le a (greatest_at m s b) (least_at m s c) (c.den ^ (m.degree - 1)) (b.den ^ (m.degree - 1)) s.count (λ g l. law.falls g l c b lc lb h)

  -- a cost at a greater value is one at a smaller value
  pub cost_falls : (strict : Bool) (a : ℕ → Bool) (c b : Fraction) → 0 < c.den → 0 < b.den → AtMost c b → IsCost strict (set_sum a (greatest_at m s b) s.count) → IsCost strict (set_sum a (greatest_at m s c) s.count)
  cost_falls strict a c b lc lb h k = cost_of_times strict _ (b.den ^ (m.degree - 1)) (pow_above b.den (m.degree - 1) lb)
      (cost_more strict _ _ (cost_times strict _ (c.den ^ (m.degree - 1)) (pow_above c.den (m.degree - 1) lc) k) (greatest_falls a c b lc lb h))

  -- a sum of least ends that is at most 0 is so at each greater value
  pub least_stays : (a : ℕ → Bool) (c b : Fraction) → 0 < c.den → 0 < b.den → AtMost c b → set_sum a (least_at m s c) s.count ≤ℤ pos 0 → set_sum a (least_at m s b) s.count ≤ℤ pos 0
  least_stays a c b lc lb h k = not_above _ (c.den ^ (m.degree - 1)) (pow_above c.den (m.degree - 1) lc)
      (omega (arith, ints, sum_falls m s law a c b lc lb h, mul_pos _ (pos 0) (b.den ^ (m.degree - 1)) k, zero_mul_ℤ (pos (b.den ^ (m.degree - 1)))))

  -- and at each value above it the sum of the greatest ends is too
  pub greatest_follows : (a : ℕ → Bool) (c b : Fraction) → 0 < c.den → 0 < b.den → Below c b → set_sum a (least_at m s c) s.count ≤ℤ pos 0 → set_sum a (greatest_at m s b) s.count ≤ℤ pos 0
  greatest_follows a c b lc lb h k = not_above _ (c.den ^ (m.degree - 1)) (pow_above c.den (m.degree - 1) lc)
      (omega (
        arith,
        ints,
        least_over_greatest a c b lc lb h,
        mul_pos _ (pos 0) (b.den ^ (m.degree - 1)) k,
        zero_mul_ℤ (pos (b.den ^ (m.degree - 1))),
      ))

  pub least_at_most_greatest : (a : ℕ → Bool) (c : Fraction) → 0 < c.den → set_sum a (least_at m s c) s.count ≤ℤ set_sum a (greatest_at m s c) s.count
  least_at_most_greatest a c lc = set_sum-members a (least_at m s c) (greatest_at m s c) s.count (λ g l u. law.ordered g l c lc)
