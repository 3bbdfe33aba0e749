-- What a sheet keeps.
use Rattle.std.specs.Prelude.{◌<◌, ◌≤◌, ℕ, IfSome, All, AllPairs}
use Rattle.ofit_num.specs.Fraction.{Fraction, IsLowest}
use Rattle.ofit_num.specs.Reduced as frac
use Rattle.ofit_num.specs.Sheet as num
use Rattle.ofit_study.specs.declared.settings.Settings.{Settings}
use Rattle.ofit_study.specs.Settings.{InLimits}
pub use Rattle.ofit_num.specs.declared.limits.TheConstants.{MOST_AMOUNT as most_amount, MOST_ROWS as most_rows, MOST_WEIGHT as most_weight}

pub record IsSizeInLimits (rows weight : ℕ) : Type 0 where
  pub few : rows ≤ most_rows
  pub light : weight ≤ most_weight

pub record IsAmountInLimits (amount : ℕ) : Type 0 where
  pub least : 1 ≤ amount
  pub most : amount ≤ most_amount

pub record IsFractionInLimits (value : Fraction) : Type 0 where
  pub lowest : IsLowest value
  pub limits : frac.InLimits value

-- the places of the values rise, the values are fractions in lowest terms, and all numbers are within their limits
pub record IsKept (x : num.Sheet Settings) : Type 0 where
  pub settings : InLimits x.settings
  pub size : IfSome x.size (λ z. IsSizeInLimits z.rows z.weight)
  pub rising : AllPairs (λ e f. e.place < f.place) x.values
  pub fractions : All (λ e. IsFractionInLimits e.value) x.values
  pub amounts : All (λ f. IsAmountInLimits f.amount) x.flows
