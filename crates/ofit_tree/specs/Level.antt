-- Blocks of a tree whose root is greatest or least.
use Rattle.std.specs.Prelude.{◌≡◌, ℕ, ◌<◌, Bool, true, false, pos, ◌≤ℤ◌, ◌<ℤ◌}
use Rattle.ofit_num.specs.Problem.{Problem}
use Rattle.ofit_num.specs.Meaning.{Meaning}
use Rattle.ofit_num.specs.Fraction.{Fraction, AtMost}
use Rattle.ofit_num.specs.Below.{Below}
use Rattle.ofit_num.specs.Law.{least_at, greatest_at}
use Rattle.ofit_num.specs.Sets.{set_sum, IsWithin, IsUpperIn, IsLowerIn}
use Rattle.ofit_num.specs.Block.{IsPooled, IsBlock, IsCost}
use Rattle.ofit_num.specs.Steep.{IsSteep}
use Rattle.ofit_tree.specs.declared.direction.Direction.{Direction}
use Rattle.ofit_tree.specs.declared.direction.Direction.TheVariants.{RootGreatest, RootLeast}

-- A block whose top is in each of its lower sets that has a place. Its rows together have their least minimiser at value; none of its upper sets that leaves out the top gains by rising from limit.
pub record IsLowBlock (m : Meaning) (s : Problem) (strict : Bool) (piece : ℕ → Bool) (top : ℕ) (value limit : Fraction) : Type 0 where
  pub top_below : top < s.count
  pub top_in : piece top ≡ true
  pub reaches : (a : ℕ → Bool) → IsWithin s piece a → IsLowerIn s piece a → (g : ℕ) → g < s.count → a g ≡ true → a top ≡ true
  pub pooled : IsPooled m s piece value
  pub pooled_costs : IsCost strict (set_sum piece (greatest_at m s value) s.count)
  pub limit_den : 0 < limit.den
  pub within : AtMost limit value
  pub raised : (a : ℕ → Bool) → IsWithin s piece a → IsUpperIn s piece a → a top ≡ false → set_sum a (least_at m s limit) s.count ≤ℤ pos 0
  pub costs : (a : ℕ → Bool) → IsWithin s piece a → IsLowerIn s piece a → (g : ℕ) → g < s.count → a g ≡ true → IsCost strict (set_sum a (greatest_at m s value) s.count)
  pub gains : (b : Fraction) → 0 < b.den → Below b value → (a : ℕ → Bool) → IsWithin s piece a → IsLowerIn s piece a → (g : ℕ) → g < s.count → a g ≡ true → pos 0 <ℤ set_sum a (greatest_at m s b) s.count

-- a block of a tree, which absorbed child blocks of values up to the limit, where the root is greatest, or down to it, where it is least
abbrev pub IsTreeBlock : Direction → Meaning → Problem → Bool → (ℕ → Bool) → ℕ → Fraction → Fraction → Type 0
IsTreeBlock RootGreatest m s strict piece top value limit = IsBlock m s strict piece top value limit × IsSteep m s piece top limit
IsTreeBlock RootLeast m s strict piece top value limit = IsLowBlock m s strict piece top value limit
