-- The limits of settings.
use Rattle.std.specs.Prelude.{◌≤◌, ℤ, unsigned_abs, Option, Some, None, ⊤}
use Rattle.ofit_num.specs.declared.limits.TheConstants.{MOST_UNITS}
use Rattle.ofit_study.specs.declared.settings.Settings.{Settings}
use Rattle.ofit_study.specs.Loss.{IsListed}
pub use Rattle.ofit_num.specs.BoundOrder.{AreOrdered as InOrder}

-- a bound in units, where one stands
abbrev pub IsBoundInLimits : Option ℤ → Type 0
IsBoundInLimits None = ⊤
IsBoundInLimits (Some z) = unsigned_abs z ≤ MOST_UNITS

pub record InLimits (settings : Settings) : Type 0 where
  pub loss : IsListed settings.loss
  pub places : settings.places ≤ 6
  pub lo : IsBoundInLimits settings.lo
  pub hi : IsBoundInLimits settings.hi
  pub order : InOrder settings.lo settings.hi
