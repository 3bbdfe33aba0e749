-- One fraction below another.
use Rattle.std.specs.Prelude.{◌<◌, pos, ◌*ℤ◌, ◌<ℤ◌}
use Rattle.ofit_num.specs.Fraction.{Fraction}

abbrev pub Below : Fraction → Fraction → Type 0
Below c b = (c.num *ℤ pos b.den) <ℤ (b.num *ℤ pos c.den)
