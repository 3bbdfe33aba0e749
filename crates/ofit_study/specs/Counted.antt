-- How many components a problem has.
use Rattle.std.specs.Prelude.{ℕ}
use Rattle.ofit_num.specs.Problem.{Problem}
use Rattle.ofit_order.specs.Component.{IsComponentCount}

abbrev pub HasComponentCount : Problem → ℕ → Type 0
HasComponentCount s n = IsComponentCount (record { places = s.count; pairs = s.pairs }) n
