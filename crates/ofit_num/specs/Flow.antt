-- Flows along pairs of the order, and their balances.
use Rattle.std.specs.Prelude.{ℕ, cond, nat_eq, List, [], ◌∷◌, ℤ, pos, ◌+ℤ◌, ◌-ℤ◌}

-- a flow along the pair (low, high)
pub record Flow : Type 0 where
  pub low : ℕ
  pub high : ℕ
  pub amount : ℕ

-- what flows out of a place less what flows into it
abbrev pub balance : List Flow → ℕ → ℤ
balance [] g = pos 0
balance (f ∷ fs) g = balance fs g +ℤ (pos (cond (nat_eq g f.low) f.amount 0) -ℤ pos (cond (nat_eq g f.high) f.amount 0))
