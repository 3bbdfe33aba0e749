-- Pieces of one value: the value that pools a piece, floors and ceilings of pieces, pooled blocks.
use Rattle.std.specs.Prelude.{◌≡◌, ℕ, ◌<◌, Bool, true, false, ℤ, pos, ◌≤ℤ◌, ◌<ℤ◌}
use Rattle.ofit_num.specs.Problem.{Problem}
use Rattle.ofit_num.specs.Meaning.{Meaning}
use Rattle.ofit_num.specs.Fraction.{Fraction, AtMost}
use Rattle.ofit_num.specs.Below.{Below}
use Rattle.ofit_num.specs.Law.{least_at, greatest_at}
use Rattle.ofit_num.specs.Sets.{set_sum, IsWithin, IsUpperIn, IsLowerIn}

-- the least minimiser of a piece's rows taken together
pub record IsPooled (m : Meaning) (s : Problem) (piece : ℕ → Bool) (c : Fraction) : Type 0 where
  pub den : 0 < c.den
  pub least : set_sum piece (least_at m s c) s.count ≤ℤ pos 0
  pub smaller : (b : Fraction) → 0 < b.den → Below b c → pos 0 <ℤ set_sum piece (least_at m s b) s.count

-- every lower set of the piece that has a place would gain by rising above a
pub record HasFloor (m : Meaning) (s : Problem) (piece : ℕ → Bool) (a : Fraction) : Type 0 where
  pub den : 0 < a.den
  pub floor : (b : ℕ → Bool) → IsWithin s piece b → IsLowerIn s piece b → (g : ℕ) → g < s.count → b g ≡ true → pos 0 <ℤ set_sum b (least_at m s a) s.count

-- no upper set of the piece would gain by rising above b
pub record HasCeiling (m : Meaning) (s : Problem) (piece : ℕ → Bool) (b : Fraction) : Type 0 where
  pub den : 0 < b.den
  pub ceiling : (a : ℕ → Bool) → IsWithin s piece a → IsUpperIn s piece a → set_sum a (least_at m s b) s.count ≤ℤ pos 0

-- What lowering a set costs: nothing less than 0 where the loss is strict, and more than 0 where it is not.
abbrev pub IsCost : Bool → ℤ → Type 0
IsCost true x = pos 0 ≤ℤ x
IsCost false x = pos 0 <ℤ x

-- A block is a piece of one value. Its top is in each of its upper sets that has a place. Its rows together have their least minimiser at value;
-- each of its lower sets that leaves out the top and has a place would cost by falling from limit.
pub record IsBlock (m : Meaning) (s : Problem) (strict : Bool) (piece : ℕ → Bool) (top : ℕ) (value limit : Fraction) : Type 0 where
  pub top_below : top < s.count
  pub top_in : piece top ≡ true
  pub reaches : (a : ℕ → Bool) → IsWithin s piece a → IsUpperIn s piece a → (g : ℕ) → g < s.count → a g ≡ true → a top ≡ true
  pub pooled : IsPooled m s piece value
  pub pooled_costs : IsCost strict (set_sum piece (greatest_at m s value) s.count)
  pub limit_den : 0 < limit.den
  pub within : AtMost value limit
  pub raised : (a : ℕ → Bool) → IsWithin s piece a → IsUpperIn s piece a → set_sum a (least_at m s value) s.count ≤ℤ pos 0
  pub costs : (b : ℕ → Bool) → IsWithin s piece b → IsLowerIn s piece b → b top ≡ false → (g : ℕ) → g < s.count → b g ≡ true → IsCost strict (set_sum b (greatest_at m s limit) s.count)
