-- The balances of all nodes, and the amounts that pairs may carry.
use Rattle.std.specs.Prelude.{◌≡◌, ◌<◌, ◌*◌, ◌^◌, ℕ, List, length, ℤ, pos, ◌≤ℤ◌}
use Rattle.ofit_cut.specs.Sets.{weight_at}
use Rattle.ofit_cut.specs.Balance.{balance}

-- from 0 to 2·10^33, and 0 where the pair's ends are equal
pub record IsAmount (pair : ℕ × ℕ) (amount : ℤ) : Type 0 where
  pub low : pos 0 ≤ℤ amount
  pub high : amount ≤ℤ pos (2 * 10 ^ 33)
  pub loop : pair.0 ≡ pair.1 → amount ≡ pos 0

-- for each node below `nodes` its balance
pub record AreBalances (nodes : ℕ) (pairs : List (ℕ × ℕ)) (amounts : List ℤ) (balances : List ℤ) : Type 0 where
  pub counted : length balances ≡ nodes
  pub each : (node : ℕ) → node < nodes → weight_at balances node ≡ balance pairs amounts node
