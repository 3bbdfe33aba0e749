-- Flows along tight pairs.
use Rattle.std.specs.Prelude.{◌<◌, ℕ, zero, suc, Bool, true, false, List, map, filter, ℤ, pos, negsuc}
use Rattle.std.specs.List.{zip}
use Rattle.ofit_num.specs.Fraction.{Fraction}
use Rattle.ofit_num.specs.Meaning.{Meaning}
use Rattle.ofit_num.specs.Problem.{Problem}
use Rattle.ofit_num.specs.Span.{InOpenSpan}
use Rattle.ofit_cut.specs.declared.balanced.Balanced.{Balanced}
use Rattle.ofit_cut.specs.declared.span.Span.{Span}
use Rattle.ofit_cut.specs.Balance.{AreFlows, balance}
use Rattle.ofit_cut.specs.Balanced.{Tells}
use Rattle.ofit_cert.specs.OpenSpans.{AreOpenSpans}
use Rattle.ofit_cert.specs.Tight.{own}

-- what a balance of flows along the pairs answers for the open spans of the groups
pub record TellsOfGroups (m : Meaning) (s : Problem) (fs : List Fraction) (pairs : List (ℕ × ℕ)) (answer : Balanced) : Type 0 where
  pub spans : List Span
  pub of_groups : AreOpenSpans m s fs spans
  pub told : Tells pairs spans answer

-- an amount for each pair, such that the balance of each group is in its open span at its own value
pub record Certify (m : Meaning) (s : Problem) (fs : List Fraction) (pairs : List (ℕ × ℕ)) (amounts : List ℤ) : Type 0 where
  pub flows : AreFlows pairs amounts
  pub balances : (g : ℕ) → g < s.count → InOpenSpan m (s.rows g) (s.bounds g) (own fs g).num (own fs g).den (balance pairs amounts g)

abbrev pub is_above_zero : ℤ → Bool
is_above_zero (pos zero) = false
is_above_zero (pos (suc n)) = true
is_above_zero (negsuc n) = false

-- the pairs that carry something, each with what it carries
abbrev pub flows_along : List (ℕ × ℕ) → List ℤ → List (ℕ × ℕ × ℤ)
flows_along pairs amounts = map (λ e. (e.0.0, e.0.1, e.1)) (filter (λ e. is_above_zero e.1) (zip pairs amounts))
