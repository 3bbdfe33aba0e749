-- What a loss means, apart from any one loss.
use Rattle.std.specs.Prelude.{ℕ, List, ℤ}
use Rattle.ofit_num.specs.declared.row.Row.{Row}

-- its degree, the cost of rows at p/q in units of (1/q) to the degree, and the two ends of their span at p/q: the negated subgradient interval
pub record Meaning : Type 0 where
  pub degree : ℕ
  pub cost : List Row → ℤ → ℕ → ℕ
  pub least : List Row → ℤ → ℕ → ℤ
  pub greatest : List Row → ℤ → ℕ → ℤ
