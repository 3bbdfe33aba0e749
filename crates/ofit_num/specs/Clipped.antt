-- Values cut off at a lower and an upper bound in whole units, each where there is one.
use Rattle.std.specs.Prelude.{◌≡◌, ℕ, ◌<◌, cond, List, length, slice_get, Option, Some, None, ℤ, pos, ◌*ℤ◌, int_lt}
use Rattle.std.specs.Int.{int_max, int_min}
use Rattle.ofit_num.specs.Problem.{Problem, Bounds}
use Rattle.ofit_num.specs.Fraction.{Fraction}
use Rattle.ofit_num.specs.Trial.{Trial}

-- each place has these bounds
pub record HasConstantBounds (s : Problem) (lo hi : Option ℤ) : Type 0 where
  pub each : (g : ℕ) → g < s.count → ◌≡◌ {A = Bounds} (s.bounds g) (record { lo = lo; hi = hi })

-- a whole number as a fraction
abbrev pub whole : ℤ → Fraction
whole v = record { num = v; den = 1 }

-- the fraction, or the lower bound where the fraction is below it
abbrev pub clip_low : Option ℤ → Fraction → Fraction
clip_low None f = f
clip_low (Some lo) f = cond (int_lt f.num (lo *ℤ pos f.den)) (whole lo) f

-- the fraction, or the upper bound where the fraction is above it
abbrev pub clip_high : Option ℤ → Fraction → Fraction
clip_high None f = f
clip_high (Some hi) f = cond (int_lt (hi *ℤ pos f.den) f.num) (whole hi) f

-- the fraction, cut off at both bounds
abbrev pub clip : Option ℤ → Option ℤ → Fraction → Fraction
clip lo hi f = clip_high hi (clip_low lo f)

-- each value, cut off at the bounds of its place
pub record AreClipped (s : Problem) (before after : List Fraction) : Type 0 where
  pub count : length after ≡ length before
  pub each : (g : ℕ) (f : Fraction) → slice_get before g ≡ Some f → slice_get after g ≡ Some (clip (s.bounds g).lo (s.bounds g).hi f)

-- the same of the value v/q, by its numerator
abbrev pub raised_to : Option ℤ → ℕ → ℤ → ℤ
raised_to None q v = v
raised_to (Some lo) q v = int_max v (lo *ℤ pos q)

abbrev pub lowered_to : Option ℤ → ℕ → ℤ → ℤ
lowered_to None q v = v
lowered_to (Some hi) q v = int_min v (hi *ℤ pos q)

-- the trial with each of its values cut off
abbrev pub clipped : Option ℤ → Option ℤ → Trial → Trial
clipped lo hi t = record { value = λ g. lowered_to hi t.scale (raised_to lo t.scale (t.value g)); scale = t.scale }
