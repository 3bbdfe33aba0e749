-- The parts of which a sheet is made.
use Rattle.std.specs.Prelude.{◌<◌, ◌≤◌, ◌^◌, ℕ, ℤ, pos, ◌≤ℤ◌, List, length, Option, IfSome, All, AllPairs}
use Rattle.ofit_num.specs.Fraction.{Fraction}
use Rattle.ofit_study.specs.declared.settings.Settings.{Settings}
use Rattle.ofit_study.specs.Settings.{InLimits}
use Rattle.ofit_sheet.specs.declared.size.Size.{Size}
use Rattle.ofit_num.specs.declared.limits.TheConstants.{MOST_AMOUNT as most_amount}
use Rattle.ofit_sheet.specs.Kept.{IsSizeInLimits, IsFractionInLimits}

-- the parts of which a sheet is made: places that rise, amounts and a size within their limits
pub record ArePartsOfSheet (size : Option Size) (values : List (ℕ × Fraction)) (flows : List (ℕ × ℕ × ℤ)) : Type 0 where
  pub sized : IfSome size (λ z. IsSizeInLimits z.rows z.weight)
  pub rising : AllPairs (λ e f. e.0 < f.0) values
  pub amounts : All (λ f. (pos 1 ≤ℤ f.2) × (f.2 ≤ℤ pos most_amount)) flows

-- what is known of the parts of a sheet
pub record HasParts (settings : Settings) (size : Option Size) (values : List (ℕ × Fraction)) (flows : List (ℕ × ℕ × ℤ)) : Type 0 where
  pub in_limits : InLimits settings
  pub parts : ArePartsOfSheet size values flows
  pub fractions : All (λ e. IsFractionInLimits e.1) values
  pub few_values : length values < 2 ^ 32
  pub few_flows : length flows < 2 ^ 32
