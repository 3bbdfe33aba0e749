-- A group by itself is a block, with any limit.
use Rattle.std.proofs.Common.{◌≡◌, ℕ, ◌<◌, refl, sym, subst, arith, Bool, true, false}
use Rattle.std.proofs.lemmas.Int.{ints}
use Rattle.std.proofs.lemmas.Bool.{both_ways}
use Rattle.std.specs.Prelude.{ℤ, pos, ◌≤ℤ◌}
use Rattle.ofit_num.specs.Problem.{Problem}
use Rattle.ofit_num.specs.Meaning.{Meaning}
use Rattle.ofit_num.specs.Fraction.{Fraction, AtMost}
use Rattle.ofit_num.specs.Law.{least_at, greatest_at}
use Rattle.ofit_num.specs.Sets.{set_sum, IsWithin}
use Rattle.ofit_num.specs.Block.{IsPooled, IsBlock, IsCost}
use Rattle.ofit_num.specs.Steep.{IsSteep}
use Rattle.ofit_num.proofs.Blocks.{set_sum-none, set_sum-equal}
use Rattle.ofit_num.proofs.Division.{same_test}

module _ (s : Problem) (piece : ℕ → Bool) (top : ℕ) (alone : (g : ℕ) → g < s.count → piece g ≡ true → g ≡ top) where
  -- a set of the piece with a place has the top, one without the top has none, and one with the top is the piece
  pub lone : (a : ℕ → Bool) → IsWithin s piece a → (g : ℕ) → g < s.count → a g ≡ true → a top ≡ true
  lone a inside g l u = subst (λ (x : ℕ). a x ≡ true) (alone g l (inside.each g l u)) u

  pub none_without : (a : ℕ → Bool) → IsWithin s piece a → a top ≡ false → (g : ℕ) → g < s.count → a g ≡ false
  none_without a inside out g l = go (a g) refl where
    go : (x : Bool) → a g ≡ x → a g ≡ false
    go false e = e
    go true e = absurd (both_ways (a top) out (lone a inside g l e))

  pub whole_with : (a : ℕ → Bool) → IsWithin s piece a → a top ≡ true → (g : ℕ) → g < s.count → piece g ≡ a g
  whole_with a inside t g l = same_test _ _ (λ u. subst (λ (x : ℕ). a x ≡ true) (sym (alone g l u)) t) (λ u. inside.each g l u)

module _ (m : Meaning) (s : Problem) (strict : Bool) (piece : ℕ → Bool) (top : ℕ) (value limit : Fraction) (below : top < s.count) (top_in : piece top ≡ true) (alone : (g : ℕ) → g < s.count → piece g ≡ true → g ≡ top)
    (pooled : IsPooled m s piece value) (pooled_costs : IsCost strict (set_sum piece (greatest_at m s value) s.count)) (limit_den : 0 < limit.den) (within : AtMost value limit) where
  lone_raised : (a : ℕ → Bool) → IsWithin s piece a → (x : Bool) → a top ≡ x → set_sum a (least_at m s value) s.count ≤ℤ pos 0
  lone_raised a inside true t = subst (λ (z : ℤ). z ≤ℤ pos 0) (set_sum-equal piece a (least_at m s value) s.count (whole_with s piece top alone a inside t)) pooled.least
  lone_raised a inside false t = omega (arith, ints, set_sum-none a (least_at m s value) s.count (none_without s piece top alone a inside t))

  pub lone_block : IsBlock m s strict piece top value limit
  lone_block = record {
    top_below = below;
    top_in = top_in;
    reaches = λ a inside up g l u. lone s piece top alone a inside g l u;
    pooled = pooled;
    pooled_costs = pooled_costs;
    limit_den = limit_den;
    within = within;
    raised = λ a inside up. lone_raised a inside (a top) refl;
    costs = λ b inside low out g l u. absurd (both_ways (b top) out (lone s piece top alone b inside g l u));
  }

  pub lone_steep : IsSteep m s piece top limit
  lone_steep = record { gains = λ b lb h a inside low out g l u. absurd (both_ways (a top) out (lone s piece top alone a inside g l u)) }
