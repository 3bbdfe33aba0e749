-- Flows along pairs (low, high): an amount for each pair, in the order of the pairs.
use Rattle.std.specs.Prelude.{◌≡◌, ◌<◌, ◌*◌, ◌^◌, ℕ, cond, nat_eq, List, [], ◌∷◌, All, length, slice_index_or, ℤ, pos, ◌+ℤ◌, ◌-ℤ◌, ◌≤ℤ◌}
use Rattle.ofit_cut.specs.declared.span.Span.{Span}
use Rattle.ofit_cut.specs.Span.{span_at, IsInSpan}

-- what flows out of a node less what flows into it
abbrev pub balance : List (ℕ × ℕ) → List ℤ → ℕ → ℤ
balance [] amounts node = pos 0
balance (pair ∷ pairs) [] node = pos 0
balance (pair ∷ pairs) (amount ∷ amounts) node =
    balance pairs amounts node +ℤ (cond (nat_eq node pair.0) amount (pos 0) -ℤ cond (nat_eq node pair.1) amount (pos 0))

-- the pair of this number
abbrev pub pair_at : List (ℕ × ℕ) → ℕ → ℕ × ℕ
pair_at pairs k = slice_index_or pairs k (0, 0)

-- an amount from 0 to 2·10^33 for each pair, 0 where its ends are equal
pub record AreFlows (pairs : List (ℕ × ℕ)) (amounts : List ℤ) : Type 0 where
  pub counted : length amounts ≡ length pairs
  pub low : All (λ amount. pos 0 ≤ℤ amount) amounts
  pub high : All (λ amount. amount ≤ℤ pos (2 * 10 ^ 33)) amounts
  pub loops : (k : ℕ) → k < length pairs → (pair_at pairs k).0 ≡ (pair_at pairs k).1 → slice_index_or amounts k (pos 0) ≡ pos 0

-- flows whose balance at each node lies in the node's span
pub record AreBalanced (pairs : List (ℕ × ℕ)) (spans : List Span) (amounts : List ℤ) : Type 0 where
  pub flows : AreFlows pairs amounts
  pub within : (node : ℕ) → node < length spans → IsInSpan (span_at spans node) (balance pairs amounts node)
