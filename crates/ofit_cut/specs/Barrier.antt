-- Sets that no flow can balance: what their spans ask for would have to leave an upper set, or to enter a lower one (Hoffman 1960).
use Rattle.std.specs.Prelude.{◌≡◌, ◌<◌, ℕ, Bool, true, List, length, IsSome, pos, ◌<ℤ◌}
use Rattle.ofit_cut.specs.declared.span.Span.{Span}
use Rattle.ofit_cut.specs.Sets.{IsUpper, IsLower, set_sum}
use Rattle.ofit_cut.specs.Span.{span_at, end_or_zero}

-- an upper set without an open least end has a positive sum of least balances
pub record IsAbove (pairs : List (ℕ × ℕ)) (spans : List Span) (set : ℕ → Bool) : Type 0 where
  pub upper : IsUpper pairs set
  pub closed : (node : ℕ) → node < length spans → set node ≡ true → IsSome (span_at spans node).least
  pub positive : pos 0 <ℤ set_sum set (λ node. end_or_zero (span_at spans node).least) (length spans)

-- a lower set without an open greatest end has a negative sum of greatest balances
pub record IsBelow (pairs : List (ℕ × ℕ)) (spans : List Span) (set : ℕ → Bool) : Type 0 where
  pub lower : IsLower pairs set
  pub closed : (node : ℕ) → node < length spans → set node ≡ true → IsSome (span_at spans node).greatest
  pub negative : set_sum set (λ node. end_or_zero (span_at spans node).greatest) (length spans) <ℤ pos 0
