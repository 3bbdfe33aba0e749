-- Fractions, compared by cross products.
use Rattle.std.specs.Prelude.{◌≡◌, ℕ, ◌<◌, ℤ, pos, ◌*ℤ◌, ◌≤ℤ◌, unsigned_abs}
use Rattle.std.specs.Int.{IsGcd}

-- the value num/den
pub record Fraction : Type 0 where
  pub num : ℤ
  pub den : ℕ

abbrev pub AtMost : Fraction → Fraction → Type 0
AtMost c b = (c.num *ℤ pos b.den) ≤ℤ (b.num *ℤ pos c.den)

abbrev pub SameValue : Fraction → Fraction → Type 0
SameValue c b = c.num *ℤ pos b.den ≡ b.num *ℤ pos c.den

-- no number but 1 divides both parts
pub record IsLowest (c : Fraction) : Type 0 where
  pub den : 0 < c.den
  pub coprime : IsGcd (unsigned_abs c.num) c.den 1
