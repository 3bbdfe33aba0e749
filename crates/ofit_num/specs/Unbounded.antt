-- Problems without bounds.
use Rattle.std.specs.Prelude.{ℕ, None}
use Rattle.ofit_num.specs.Problem.{Bounds, Problem}

abbrev pub no_bounds : ℕ → Bounds
no_bounds g = record { lo = None; hi = None }

-- the problem with no bound at any place
abbrev pub without_bounds : Problem → Problem
without_bounds s = record { count = s.count; rows = s.rows; pairs = s.pairs; bounds = no_bounds }
