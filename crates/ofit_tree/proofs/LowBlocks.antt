-- blocks of trees whose root is least, which absorb child blocks of smaller value
use Rattle.std.proofs.Common.{◌≡◌, ℕ, ◌<◌, refl, sym, ap, subst, ◌∙◌, arith, Bool, true, false, ◌||◌, ◌&&◌, inl, inr}
use Rattle.std.proofs.lemmas.Int.{ints, by_lt_z}
use Rattle.std.proofs.lemmas.Bool.{both_ways}
use Rattle.std.specs.Prelude.{ℤ, pos, ◌+ℤ◌, ◌*ℤ◌, ◌≤ℤ◌, ◌<ℤ◌, All}
use Rattle.ofit_num.specs.Problem.{Problem}
use Rattle.ofit_num.specs.Meaning.{Meaning}
use Rattle.ofit_num.specs.Fraction.{Fraction, AtMost}
use Rattle.ofit_num.specs.Below.{Below}
use Rattle.ofit_num.specs.Law.{least_at, greatest_at, HasFallingSpans}
use Rattle.ofit_num.specs.Sets.{set_sum, IsWithin, IsUpperIn, IsLowerIn}
use Rattle.ofit_num.specs.Block.{IsPooled, IsCost}
use Rattle.ofit_num.proofs.Blocks.{member_or_none, set_sum-none, set_sum-equal, below_trans, set_sum-both, pooled_below, pooled_above}
use Rattle.ofit_num.proofs.Cuts.{difference, set_sum-difference}
use Rattle.ofit_num.proofs.Pieces.{meet, both_and}
use Rattle.ofit_num.specs.Level.{IsLevel}
use Rattle.ofit_tree.specs.Level.{IsLowBlock}
use Rattle.ofit_num.proofs.Parts.{in_part, base_in, child_in, upper_part, lower_part}
use Rattle.ofit_num.proofs.Falls.{set_sum-parted, cost_least, cost_more, rest_upper, rest_lower, rest_within, rest_out, no_rest, cost_falls, least_stays, greatest_follows, least_at_most_greatest}
use Rattle.ofit_num.proofs.LoneBlocks.{lone, none_without, whole_with}

module _ (m : Meaning) (s : Problem) (law : HasFallingSpans m s) (strict : Bool) where
  -- an upper set with the top is the whole block
  upper_with_top : (piece : ℕ → Bool) (top : ℕ) (value limit : Fraction) → IsLowBlock m s strict piece top value limit → (a : ℕ → Bool) → IsWithin s piece a → IsUpperIn s piece a → a top ≡ true → (g : ℕ) → g < s.count → piece g ≡ a g
  upper_with_top piece top value limit block a inside up t =
      no_rest s piece a inside (λ g l u. both_ways (difference piece a top) (rest_out piece a top t) (block.reaches (difference piece a) (rest_within s piece a) (rest_lower s piece a up) g l u))

  -- no upper set gains by rising from the value
  pub low_raised : (piece : ℕ → Bool) (top : ℕ) (value limit : Fraction) → IsLowBlock m s strict piece top value limit → (a : ℕ → Bool) → IsWithin s piece a → IsUpperIn s piece a → set_sum a (least_at m s value) s.count ≤ℤ pos 0
  low_raised piece top value limit block a inside up = go (a top) refl where
    go : (x : Bool) → a top ≡ x → set_sum a (least_at m s value) s.count ≤ℤ pos 0
    go true t = subst (λ (z : ℤ). z ≤ℤ pos 0) (set_sum-equal piece a (least_at m s value) s.count (upper_with_top piece top value limit block a inside up t)) block.pooled.least
    go false t = least_stays m s law a limit value block.limit_den block.pooled.den block.within (block.raised a inside up t)

  pub low_level : (piece : ℕ → Bool) (top : ℕ) (value limit : Fraction) → IsLowBlock m s strict piece top value limit → IsLevel m s strict piece value
  low_level piece top value limit block = record {
    den = block.pooled.den;
    raised = low_raised piece top value limit block;
    costs = block.costs;
    gains = block.gains;
  }

  -- the limit may rise up to the value
  pub low_limit : (piece : ℕ → Bool) (top : ℕ) (value limit c : Fraction) → IsLowBlock m s strict piece top value limit → 0 < c.den → AtMost limit c → AtMost c value → IsLowBlock m s strict piece top value c
  low_limit piece top value limit c block lc rises within = record {
    top_below = block.top_below;
    top_in = block.top_in;
    reaches = block.reaches;
    pooled = block.pooled;
    pooled_costs = block.pooled_costs;
    limit_den = lc;
    within = within;
    raised = λ a inside up out. least_stays m s law a limit c block.limit_den lc rises (block.raised a inside up out);
    costs = block.costs;
    gains = block.gains;
  }

  -- a lone group, with any limit
  pub low_lone : (piece : ℕ → Bool) (top : ℕ) (value limit : Fraction) → top < s.count → piece top ≡ true → ((g : ℕ) → g < s.count → piece g ≡ true → g ≡ top) → IsPooled m s piece value → IsCost strict (set_sum piece (greatest_at m s value) s.count)
      → 0 < limit.den → AtMost limit value → IsLowBlock m s strict piece top value limit
  low_lone piece top value limit below in_ alone pooled pooled_costs lden within = record {
    top_below = below;
    top_in = in_;
    reaches = λ a inside low g l u. lone s piece top alone a inside g l u;
    pooled = pooled;
    pooled_costs = pooled_costs;
    limit_den = lden;
    within = within;
    raised = λ a inside up out. omega (arith, ints, set_sum-none a (least_at m s limit) s.count (none_without s piece top alone a inside out));
    costs = λ a inside low g l u. subst (IsCost strict) (set_sum-equal piece a (greatest_at m s value) s.count (whole_with s piece top alone a inside (lone s piece top alone a inside g l u))) pooled_costs;
    gains = λ b lb h a inside low g l u. subst (λ (z : ℤ). pos 0 <ℤ z) (set_sum-equal piece a (greatest_at m s b) s.count (whole_with s piece top alone a inside (lone s piece top alone a inside g l u)))
        (omega (arith, ints, pooled.smaller b lb h, least_at_most_greatest m s law piece b lb));
  }

  -- A block and the block of a child, of smaller value, are one block at the value that pools them: its limit is the child's value.
  module _ (piece base child : ℕ → Bool) (top leaf : ℕ) (b be c ce t : Fraction) (places : All (λ e. (e.0 < s.count) × (e.1 < s.count)) s.pairs)
      (parts : (g : ℕ) → g < s.count → piece g ≡ (base g || child g)) (apart : (g : ℕ) → g < s.count → base g ≡ true → child g ≡ false)
      (lower : IsLowBlock m s strict base top b be) (upper : IsLowBlock m s strict child leaf c ce)
      (order : AtMost c b) (limit : AtMost be c)
      (reaches : (a : ℕ → Bool) → IsWithin s piece a → IsLowerIn s piece a → (g : ℕ) → g < s.count → a g ≡ true → a top ≡ true)
      (pooled : IsPooled m s piece t) (pooled_costs : IsCost strict (set_sum piece (greatest_at m s t) s.count)) where
    split_sum : (a : ℕ → Bool) (f : ℕ → ℤ) → IsWithin s piece a → set_sum a f s.count ≡ set_sum (meet a base) f s.count +ℤ set_sum (meet a child) f s.count
    split_sum a f inside = set_sum-parted a base child f s.count (λ g l u. sym (parts g l) ∙ inside.each g l u) apart

    turned : (f : ℕ → ℤ) → set_sum piece f s.count ≡ set_sum child f s.count +ℤ set_sum base f s.count
    turned f = omega (arith, ints, set_sum-both piece base child f s.count parts apart)

    at_least_child : AtMost c t
    at_least_child = pooled_above m s law piece child base c b t turned upper.pooled lower.pooled pooled order

    at_most_base : AtMost t b
    at_most_base = pooled_below m s law piece child base c b t turned upper.pooled lower.pooled pooled order

    -- an upper set without the top gains nothing by rising from the child's value
    risen : (a : ℕ → Bool) → IsWithin s piece a → IsUpperIn s piece a → a top ≡ false → set_sum a (least_at m s c) s.count ≤ℤ pos 0
    risen a inside up out = omega (
      arith,
      ints,
      split_sum a (least_at m s c) inside,
      least_stays m s law (meet a base) be c lower.limit_den upper.pooled.den limit (lower.raised (meet a base) (in_part s base a) (upper_part s places piece base a (base_in s.count piece base child parts) up) (ap (λ (x : Bool). x && base top) out)),
      low_raised child leaf c ce upper (meet a child) (in_part s child a) (upper_part s places piece child a (child_in s.count piece base child parts) up),
    )

    -- what a lower set leaves out
    rest_sum : (a : ℕ → Bool) (f : ℕ → ℤ) → IsWithin s piece a → set_sum (difference piece a) f s.count +ℤ set_sum a f s.count ≡ set_sum piece f s.count
    rest_sum a f inside = set_sum-difference piece a f s.count inside.each

    rest_risen : (a : ℕ → Bool) → IsWithin s piece a → IsLowerIn s piece a → a top ≡ true → set_sum (difference piece a) (least_at m s c) s.count ≤ℤ pos 0
    rest_risen a inside low t = risen (difference piece a) (rest_within s piece a) (rest_upper s piece a low) (rest_out piece a top t)

    -- the parts of a lower set cost at each value that is at most the child's
    child_costs : (v : Fraction) → 0 < v.den → AtMost v c → (a : ℕ → Bool) → IsLowerIn s piece a → pos 0 ≤ℤ set_sum (meet a child) (greatest_at m s v) s.count
    child_costs v lv h a low = elim (member_or_none (meet a child) s.count) [
      | inl k ↦ cost_least strict _ (cost_falls m s law strict (meet a child) v c lv upper.pooled.den h (upper.costs (meet a child) (in_part s child a) (lower_part s places piece child a (child_in s.count piece base child parts) low) k.0 k.1 k.2))
      | inr none ↦ omega (arith, ints, set_sum-none (meet a child) (greatest_at m s v) s.count none)
    ]

    costs : (a : ℕ → Bool) → IsWithin s piece a → IsLowerIn s piece a → (g : ℕ) → g < s.count → a g ≡ true → IsCost strict (set_sum a (greatest_at m s t) s.count)
    costs a inside low g l u = by_lt_z (c.num *ℤ pos t.den) (t.num *ℤ pos c.den) above level where
      in_top : a top ≡ true
      in_top = reaches a inside low g l u

      above : Below c t → IsCost strict (set_sum a (greatest_at m s t) s.count)
      above h = cost_more strict (set_sum piece (greatest_at m s t) s.count) _ pooled_costs
          (omega (arith, ints, rest_sum a (greatest_at m s t) inside, greatest_follows m s law (difference piece a) c t upper.pooled.den pooled.den h (rest_risen a inside low in_top)))

      level : AtMost t c → IsCost strict (set_sum a (greatest_at m s t) s.count)
      level h = cost_more strict (set_sum (meet a base) (greatest_at m s t) s.count) _
          (cost_falls m s law strict (meet a base) t b pooled.den lower.pooled.den at_most_base
          (lower.costs (meet a base) (in_part s base a) (lower_part s places piece base a (base_in s.count piece base child parts) low) top lower.top_below (both_and (a top) (base top) in_top lower.top_in)))
          (omega (arith, ints, split_sum a (greatest_at m s t) inside, child_costs t pooled.den h a low))

    gains : (v : Fraction) → 0 < v.den → Below v t → (a : ℕ → Bool) → IsWithin s piece a → IsLowerIn s piece a → (g : ℕ) → g < s.count → a g ≡ true → pos 0 <ℤ set_sum a (greatest_at m s v) s.count
    gains v lv below a inside low g l u = by_lt_z (c.num *ℤ pos v.den) (v.num *ℤ pos c.den) above level where
      in_top : a top ≡ true
      in_top = reaches a inside low g l u

      above : Below c v → pos 0 <ℤ set_sum a (greatest_at m s v) s.count
      above h = omega (
        arith,
        ints,
        rest_sum a (greatest_at m s v) inside,
        greatest_follows m s law (difference piece a) c v upper.pooled.den lv h (rest_risen a inside low in_top),
        pooled.smaller v lv below,
        least_at_most_greatest m s law piece v lv,
      )

      level : AtMost v c → pos 0 <ℤ set_sum a (greatest_at m s v) s.count
      level h = omega (
        arith,
        ints,
        split_sum a (greatest_at m s v) inside,
        child_costs v lv h a low,
        lower.gains v lv (below_trans v t b lv pooled.den lower.pooled.den below at_most_base) (meet a base) (in_part s base a) (lower_part s places piece base a (base_in s.count piece base child parts) low) top lower.top_below (both_and (a top) (base top) in_top lower.top_in),
      )

    pub low_absorbed : IsLowBlock m s strict piece top t c
    low_absorbed = record {
      top_below = lower.top_below;
      top_in = base_in s.count piece base child parts top lower.top_below lower.top_in;
      reaches = reaches;
      pooled = pooled;
      pooled_costs = pooled_costs;
      limit_den = upper.pooled.den;
      within = at_least_child;
      raised = risen;
      costs = costs;
      gains = gains;
    }
