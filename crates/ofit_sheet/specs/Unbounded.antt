-- Problems in which no group has a bound.
use Rattle.std.specs.Prelude.{◌≡◌, ◌<◌, ℕ, None}
use Rattle.ofit_num.specs.Problem.{Problem, Bounds}

-- neither bound stands
pub record IsUnbounded (b : Bounds) : Type 0 where
  pub lo : b.lo ≡ None
  pub hi : b.hi ≡ None

-- no group of the problem has a bound
abbrev pub HasNoBounds : Problem → Type 0
HasNoBounds s = (g : ℕ) → g < s.count → IsUnbounded (s.bounds g)
