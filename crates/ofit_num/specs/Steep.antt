-- Pieces of which each part below the top would gain by rising again from a smaller value.
use Rattle.std.specs.Prelude.{◌≡◌, ℕ, ◌<◌, Bool, true, false, pos, ◌<ℤ◌}
use Rattle.ofit_num.specs.Problem.{Problem}
use Rattle.ofit_num.specs.Meaning.{Meaning}
use Rattle.ofit_num.specs.Fraction.{Fraction}
use Rattle.ofit_num.specs.Below.{Below}
use Rattle.ofit_num.specs.Law.{least_at}
use Rattle.ofit_num.specs.Sets.{set_sum, IsWithin, IsLowerIn}

-- At each value below the limit, each lower set of the piece that leaves out the top and has a place would gain by rising.
pub record IsSteep (m : Meaning) (s : Problem) (piece : ℕ → Bool) (top : ℕ) (limit : Fraction) : Type 0 where
  pub gains : (b : Fraction) → 0 < b.den → Below b limit → (a : ℕ → Bool) → IsWithin s piece a → IsLowerIn s piece a → a top ≡ false → (g : ℕ) → g < s.count → a g ≡ true → pos 0 <ℤ set_sum a (least_at m s b) s.count
