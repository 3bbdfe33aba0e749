-- Bounds in order.
use Rattle.std.specs.Prelude.{Option, Some, None, ℤ, ◌≤ℤ◌, ⊤}

-- the lower bound is at most the upper one, where both stand
abbrev pub AreOrdered : Option ℤ → Option ℤ → Type 0
AreOrdered None hi = ⊤
AreOrdered (Some l) None = ⊤
AreOrdered (Some l) (Some h) = l ≤ℤ h
