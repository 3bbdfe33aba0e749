-- blocks that absorb one another, as in the fits of chains and trees whose root is greatest
use Rattle.std.proofs.Common.{◌≡◌, ℕ, zero, suc, ◌-◌, ◌^◌, ◌<◌, refl, sym, ap, subst, ◌∙◌, arith, cond, Bool, true, false, ◌||◌, ◌&&◌, ◌⊎◌, inl, inr}
use Rattle.std.proofs.lemmas.Int.{ints, by_lt_z}
use Rattle.std.proofs.lemmas.Bool.{cases_order, both_ways}
use Rattle.std.specs.Prelude.{ℤ, pos, ◌+ℤ◌, ◌*ℤ◌, ◌≤ℤ◌, ◌<ℤ◌, All}
use Rattle.ofit_num.specs.Problem.{Problem}
use Rattle.ofit_num.specs.Meaning.{Meaning}
use Rattle.ofit_num.specs.Fraction.{Fraction, AtMost}
use Rattle.ofit_num.specs.Below.{Below}
use Rattle.ofit_num.specs.Trial.{Trial}
use Rattle.ofit_num.specs.Law.{least_at, greatest_at, HasFallingSpans}
use Rattle.ofit_num.specs.Sets.{set_sum, IsWithin, IsUpperIn, IsLowerIn, IsSplit}
use Rattle.ofit_num.specs.Settled.{IsFitted, LosesByLowering}
use Rattle.ofit_num.specs.Block.{IsPooled, IsBlock, IsCost}
use Rattle.ofit_num.proofs.Gap.{is_gap, gap-same, gap-mul, pos-gap}
use Rattle.ofit_num.proofs.Order.{mul_pos, mul_strict, pow_above, zero_mul_ℤ}
use Rattle.ofit_num.proofs.Cuts.{difference, set_sum-difference, not_both, union, set_sum-union}
use Rattle.ofit_num.proofs.Pieces.{meet, set_sum-split, both_and}
use Rattle.ofit_num.proofs.Recursion.{not_below, part_fitted, part_loses}
use Rattle.ofit_num.proofs.Parts.{in_part, base_in, child_in, upper_part, lower_part}
use Rattle.ofit_num.proofs.Falls.{set_sum-parted, cost_least, cost_more, rest_upper, rest_lower, rest_within, rest_out, cost_falls, least_stays, least_over_greatest, no_rest}

-- a set has a place, or it has none
pub member_or_none : (a : ℕ → Bool) (n : ℕ) → ((g : ℕ) × (g < n) × (a g ≡ true)) ⊎ ((g : ℕ) → g < n → a g ≡ false)
member_or_none a zero = inr (λ g l. absurd (omega arith))
member_or_none a (suc n) = go (a n) refl (member_or_none a n) where
  go : (x : Bool) → a n ≡ x → ((g : ℕ) × (g < n) × (a g ≡ true)) ⊎ ((g : ℕ) → g < n → a g ≡ false) → ((g : ℕ) × (g < suc n) × (a g ≡ true)) ⊎ ((g : ℕ) → g < suc n → a g ≡ false)
  go true e r = inl (n, omega arith, e)
  go false e (inl k) = inl (k.0, omega (arith, k.1), k.2)
  go false e (inr none) = inr (λ g l. elim (cases_order g n) [
    | inl same ↦ ap a same ∙ e
    | inr o ↦ elim o [ inl b ↦ none g b | inr b ↦ absurd (omega arith) ]
  ])

pub set_sum-none : (a : ℕ → Bool) (c : ℕ → ℤ) (n : ℕ) → ((g : ℕ) → g < n → a g ≡ false) → set_sum a c n ≡ pos 0
set_sum-none a c zero h = refl
set_sum-none a c (suc n) h = ap (λ (x : Bool). set_sum a c n +ℤ cond x (c n) (pos 0)) (h n (omega arith)) ∙ omega (arith, ints, set_sum-none a c n (λ g l. h g (omega arith)))

pub set_sum-equal : (a b : ℕ → Bool) (c : ℕ → ℤ) (n : ℕ) → ((g : ℕ) → g < n → a g ≡ b g) → set_sum a c n ≡ set_sum b c n
set_sum-equal a b c zero h = refl
set_sum-equal a b c (suc n) h = ap (λ (x : Bool). set_sum a c n +ℤ cond x (c n) (pos 0)) (h n (omega arith)) ∙ ap (λ (z : ℤ). z +ℤ cond (b n) (c n) (pos 0)) (set_sum-equal a b c n (λ g l. h g (omega arith)))

-- a sum over two sets that have no place in common
pub set_sum-both : (piece u w : ℕ → Bool) (f : ℕ → ℤ) (n : ℕ) → ((g : ℕ) → g < n → piece g ≡ (u g || w g)) → ((g : ℕ) → g < n → u g ≡ true → w g ≡ false) → set_sum piece f n ≡ set_sum u f n +ℤ set_sum w f n
unfolding union
set_sum-both piece u w f n parts apart = set_sum-equal piece (union u w) f n parts ∙ set_sum-union u w f n apart

-- what changing a set costs of which each of two parts costs, where it has a place
module _ (strict : Bool) (n : ℕ) (piece base child a : ℕ → Bool) (f : ℕ → ℤ) (parts : (g : ℕ) → g < n → piece g ≡ (base g || child g)) (apart : (g : ℕ) → g < n → base g ≡ true → child g ≡ false)
    (inside : (g : ℕ) → g < n → a g ≡ true → piece g ≡ true)
    (base_costs : (g : ℕ) → g < n → meet a base g ≡ true → IsCost strict (set_sum (meet a base) f n)) (child_costs : (g : ℕ) → g < n → meet a child g ≡ true → IsCost strict (set_sum (meet a child) f n)) where
  pub parts_cost : (g : ℕ) → g < n → a g ≡ true → IsCost strict (set_sum a f n)
  parts_cost g l k = go (member_or_none (meet a base) n) (member_or_none (meet a child) n) where
    total : set_sum a f n ≡ set_sum (meet a base) f n +ℤ set_sum (meet a child) f n
    total = set_sum-parted a base child f n (λ h lh u. sym (parts h lh) ∙ inside h lh u) apart

    go : ((g : ℕ) × (g < n) × (meet a base g ≡ true)) ⊎ ((g : ℕ) → g < n → meet a base g ≡ false) → ((g : ℕ) × (g < n) × (meet a child g ≡ true)) ⊎ ((g : ℕ) → g < n → meet a child g ≡ false) → IsCost strict (set_sum a f n)
    go (inl x) (inl y) = cost_more strict (set_sum (meet a base) f n) _ (base_costs x.0 x.1 x.2) (omega (arith, ints, total, cost_least strict _ (child_costs y.0 y.1 y.2)))
    go (inl x) (inr none) = cost_more strict (set_sum (meet a base) f n) _ (base_costs x.0 x.1 x.2) (omega (arith, ints, total, set_sum-none (meet a child) f n none))
    go (inr none) (inl y) = cost_more strict (set_sum (meet a child) f n) _ (child_costs y.0 y.1 y.2) (omega (arith, ints, total, set_sum-none (meet a base) f n none))
    go (inr none) (inr none') = absurd (nowhere (base g) (child g) refl refl) where
      nowhere : (x y : Bool) → base g ≡ x → child g ≡ y → ⊥
      nowhere true y e h = not_both (meet a base g) (both_and (a g) (base g) k e) (none g l)
      nowhere false true e h = not_both (meet a child g) (both_and (a g) (child g) k h) (none' g l)
      nowhere false false e h = not_both (piece g) (inside g l k) (parts g l ∙ ap (λ (z : Bool). z || child g) e ∙ h)

-- what is below a value is below each greater one
pub below_trans : (a b c : Fraction) → 0 < a.den → 0 < b.den → 0 < c.den → Below a b → AtMost b c → Below a c
below_trans a b c la lb lc h k = cancel_lt (a.num *ℤ pos c.den) (c.num *ℤ pos a.den) b.den lb
    (omega (
      arith,
      ints,
      mul_strict (a.num *ℤ pos b.den) (b.num *ℤ pos a.den) c.den h lc,
      mul_pos (b.num *ℤ pos c.den) (c.num *ℤ pos b.den) a.den k,
      turn a.num b.den c.den,
      turn b.num a.den c.den,
      turn c.num b.den a.den,
    )) where
      cancel_lt : (x y : ℤ) (n : ℕ) → 0 < n → (x *ℤ pos n) <ℤ (y *ℤ pos n) → x <ℤ y
      cancel_lt x y n l h = by_lt_z x y (λ p. p) (λ q. absurd (omega (arith, ints, mul_pos y x n q)))

      turn : (x : ℤ) (i j : ℕ) → (x *ℤ pos i) *ℤ pos j ≡ (x *ℤ pos j) *ℤ pos i
      turn x i j = rw (is_gap x) (simp (pos-gap, gap-mul) (gap-same _ _ _ _ (omega arith)))

module _ (m : Meaning) (s : Problem) (law : HasFallingSpans m s) where
  module _ (strict : Bool) (piece : ℕ → Bool) (top : ℕ) (value limit : Fraction) (block : IsBlock m s strict piece top value limit) where
    -- a lower set with the top is the whole block
    pub lower_with_top : (b : ℕ → Bool) → IsWithin s piece b → IsLowerIn s piece b → b top ≡ true → (g : ℕ) → g < s.count → piece g ≡ b g
    lower_with_top b inside lower t =
        no_rest s piece b inside (λ g l u. both_ways (difference piece b top) (rest_out piece b top t) (block.reaches (difference piece b) (rest_within s piece b) (rest_upper s piece b lower) g l u))

    -- Lowering any of its lower sets costs.
    pub block_costs : (b : ℕ → Bool) → IsWithin s piece b → IsLowerIn s piece b → (g : ℕ) → g < s.count → b g ≡ true → IsCost strict (set_sum b (greatest_at m s value) s.count)
    block_costs b inside lower g l k = go (b top) refl where
      go : (x : Bool) → b top ≡ x → IsCost strict (set_sum b (greatest_at m s value) s.count)
      go true t = subst (IsCost strict) (set_sum-equal piece b (greatest_at m s value) s.count (lower_with_top b inside lower t)) block.pooled_costs
      go false t = cost_falls m s law strict b value limit block.pooled.den block.limit_den block.within (block.costs b inside lower t g l k)

    pub block_lowered : (b : ℕ → Bool) → IsWithin s piece b → IsLowerIn s piece b → pos 0 ≤ℤ set_sum b (greatest_at m s value) s.count
    block_lowered b inside lower = elim (member_or_none b s.count) [
      | inl k ↦ cost_least strict _ (block_costs b inside lower k.0 k.1 k.2)
      | inr none ↦ omega (arith, ints, set_sum-none b (greatest_at m s value) s.count none)
    ]

  -- the value that pools two pieces lies between the values that pool each
  module _ (piece low high : ℕ → Bool) (b c t : Fraction) (parts : (f : ℕ → ℤ) → set_sum piece f s.count ≡ set_sum low f s.count +ℤ set_sum high f s.count)
      (lower : IsPooled m s low b) (upper : IsPooled m s high c) (pooled : IsPooled m s piece t) (order : AtMost b c) where
    pub pooled_below : AtMost t c
    pooled_below = by_lt_z (c.num *ℤ pos t.den) (t.num *ℤ pos c.den)
        (λ h. absurd (omega (arith, ints, pooled.smaller c upper.den h, parts (least_at m s c), upper.least, least_stays m s law low b c lower.den upper.den order lower.least)))
        (λ h. h)

    pub pooled_above : AtMost b t
    pooled_above = by_lt_z (t.num *ℤ pos b.den) (b.num *ℤ pos t.den)
        (λ h. absurd (omega (arith, ints, pooled.least, parts (least_at m s t), lower.smaller t pooled.den h, upper.smaller t pooled.den (below_trans t b c pooled.den lower.den upper.den h order))))
        (λ h. h)

  -- A block and the block of a child, of greater value, are one block at the value that pools them: its limit is the child's value.
  module _ (strict : Bool) (piece base child : ℕ → Bool) (top leaf : ℕ) (b be c ce t : Fraction)
      (cut : IsSplit s piece base child) (places : All (λ e. (e.0 < s.count) × (e.1 < s.count)) s.pairs)
      (lower : IsBlock m s strict base top b be) (upper : IsBlock m s strict child leaf c ce)
      (order : AtMost b c) (limit : AtMost c be)
      (reaches : (a : ℕ → Bool) → IsWithin s piece a → IsUpperIn s piece a → (g : ℕ) → g < s.count → a g ≡ true → a top ≡ true)
      (pooled : IsPooled m s piece t) (pooled_costs : IsCost strict (set_sum piece (greatest_at m s t) s.count)) where
    parts : (f : ℕ → ℤ) → set_sum piece f s.count ≡ set_sum base f s.count +ℤ set_sum child f s.count
    parts f = set_sum-both piece base child f s.count cut.parts cut.apart

    at_most_child : AtMost t c
    at_most_child = pooled_below piece base child b c t parts lower.pooled upper.pooled pooled order

    at_least_base : AtMost b t
    at_least_base = pooled_above piece base child b c t parts lower.pooled upper.pooled pooled order

    split_sum : (a : ℕ → Bool) (f : ℕ → ℤ) → IsWithin s piece a → set_sum a f s.count ≡ set_sum (meet a base) f s.count +ℤ set_sum (meet a child) f s.count
    split_sum a f inside = set_sum-split s piece base child a f cut inside s.count (omega arith)

    -- lowering a lower set without the top costs at the child's value
    base_costs : (a : ℕ → Bool) → IsLowerIn s piece a → a top ≡ false → (g : ℕ) → g < s.count → meet a base g ≡ true → IsCost strict (set_sum (meet a base) (greatest_at m s c) s.count)
    base_costs a low out g l k = cost_falls m s law strict (meet a base) c be upper.pooled.den lower.limit_den limit
        (lower.costs (meet a base) (in_part s base a) (lower_part s places piece base a (base_in s.count piece base child cut.parts) low) (ap (λ (x : Bool). x && base top) out) g l k)

    child_costs : (a : ℕ → Bool) → IsLowerIn s piece a → (g : ℕ) → g < s.count → meet a child g ≡ true → IsCost strict (set_sum (meet a child) (greatest_at m s c) s.count)
    child_costs a low g l k = block_costs strict child leaf c ce upper (meet a child) (in_part s child a) (lower_part s places piece child a (child_in s.count piece base child cut.parts) low) g l k

    absorbed_costs : (a : ℕ → Bool) → IsWithin s piece a → IsLowerIn s piece a → a top ≡ false → (g : ℕ) → g < s.count → a g ≡ true → IsCost strict (set_sum a (greatest_at m s c) s.count)
    absorbed_costs a inside low out = parts_cost strict s.count piece base child a (greatest_at m s c) cut.parts cut.apart inside.each (base_costs a low out) (child_costs a low)

    risen : (a : ℕ → Bool) → IsWithin s piece a → IsUpperIn s piece a → Below t c → (x : Bool) → a top ≡ x → set_sum a (least_at m s t) s.count ≤ℤ pos 0
    risen a inside up h true e =
        omega (arith, ints, others, set_sum-difference piece a (least_at m s t) s.count inside.each, pooled.least) where
          others : pos 0 ≤ℤ set_sum (difference piece a) (least_at m s t) s.count
          others = elim (member_or_none (difference piece a) s.count) [
            | inl k ↦ not_below _ (c.den ^ (m.degree - 1)) (pow_above c.den (m.degree - 1) upper.pooled.den)
                (omega (
                  arith,
                  ints,
                  least_over_greatest m s law (difference piece a) t c pooled.den upper.pooled.den h,
                  mul_pos (pos 0) _ (t.den ^ (m.degree - 1)) (cost_least strict _ (absorbed_costs (difference piece a) (rest_within s piece a) (rest_lower s piece a up) (rest_out piece a top e) k.0 k.1 k.2)),
                  zero_mul_ℤ (pos (t.den ^ (m.degree - 1))),
                ))
            | inr none ↦ omega (arith, ints, set_sum-none (difference piece a) (least_at m s t) s.count none)
          ]
    risen a inside up h false e = omega (arith, ints, set_sum-none a (least_at m s t) s.count (λ g l. go g l (a g) refl)) where
      go : (g : ℕ) → g < s.count → (y : Bool) → a g ≡ y → y ≡ false
      go g l false f = refl
      go g l true f = not_both (a top) (reaches a inside up g l f) e

    -- no upper set gains by rising
    absorbed_raised : (a : ℕ → Bool) → IsWithin s piece a → IsUpperIn s piece a → set_sum a (least_at m s t) s.count ≤ℤ pos 0
    absorbed_raised a inside up = by_lt_z (t.num *ℤ pos c.den) (c.num *ℤ pos t.den) under level where
      level : (c.num *ℤ pos t.den) ≤ℤ (t.num *ℤ pos c.den) → set_sum a (least_at m s t) s.count ≤ℤ pos 0
      level h = omega (
        arith,
        ints,
        split_sum a (least_at m s t) inside,
        least_stays m s law (meet a base) b t lower.pooled.den pooled.den at_least_base (lower.raised (meet a base) (in_part s base a) (upper_part s places piece base a (base_in s.count piece base child cut.parts) up)),
        least_stays m s law (meet a child) c t upper.pooled.den pooled.den h (upper.raised (meet a child) (in_part s child a) (upper_part s places piece child a (child_in s.count piece base child cut.parts) up)),
      )

      under : Below t c → set_sum a (least_at m s t) s.count ≤ℤ pos 0
      under h = risen a inside up h (a top) refl

    pub absorbed : IsBlock m s strict piece top t c
    absorbed = record {
      top_below = lower.top_below;
      top_in = base_in s.count piece base child cut.parts top lower.top_below lower.top_in;
      reaches = reaches;
      pooled = pooled;
      pooled_costs = pooled_costs;
      limit_den = upper.pooled.den;
      within = at_most_child;
      raised = absorbed_raised;
      costs = absorbed_costs;
    }

-- a block is fitted by its value
module _ (m : Meaning) (s : Problem) (law : HasFallingSpans m s) (piece : ℕ → Bool) (top : ℕ) (value limit : Fraction) (t : Trial)
    (scale : 0 < t.scale) (at : (g : ℕ) → g < s.count → piece g ≡ true → t.value g *ℤ pos value.den ≡ value.num *ℤ pos t.scale)
    (places : All (λ e. (e.0 < s.count) × (e.1 < s.count)) s.pairs) where
  pub block_fitted : (strict : Bool) → IsBlock m s strict piece top value limit → IsFitted m s t piece
  block_fitted strict block = part_fitted m s law t piece value scale block.pooled.den at places block.raised (block_lowered m s law strict piece top value limit block)

  pub block_loses : IsBlock m s false piece top value limit → LosesByLowering m s t piece
  block_loses block = part_loses m s law t piece value scale block.pooled.den at places (block_costs m s law false piece top value limit block)
