-- The least minimiser of rows, and how great their balances are there.
use Rattle.std.specs.Prelude.{ℕ, ◌*◌, ◌^◌, ◌<◌, ◌≤◌, Bool, List, [], ◌∷◌, sum_by, max, pos, ◌≤ℤ◌, ◌<ℤ◌, unsigned_abs}
use Rattle.ofit_num.specs.declared.row.Row.{Row}
use Rattle.ofit_num.specs.Meaning.{Meaning}
use Rattle.ofit_num.specs.Fraction.{Fraction}
use Rattle.ofit_num.specs.Below.{Below}
use Rattle.ofit_num.specs.Block.{IsCost}

-- The span at c holds the balance 0, and goes above it where the loss is not strict; at each smaller value the whole span is above 0.
pub record IsLeastMinimiser (m : Meaning) (strict : Bool) (rows : List Row) (c : Fraction) : Type 0 where
  pub den : 0 < c.den
  pub least : m.least rows c.num c.den ≤ℤ pos 0
  pub greatest : IsCost strict (m.greatest rows c.num c.den)
  pub smaller : (b : Fraction) → 0 < b.den → Below b c → pos 0 <ℤ m.least rows b.num b.den

-- the greater absolute value of the two ends of each row's span, summed
abbrev pub balance_sizes : Meaning → List Row → Fraction → ℕ
balance_sizes m rows c = sum_by (λ r. max (unsigned_abs (m.least (r ∷ []) c.num c.den)) (unsigned_abs (m.greatest (r ∷ []) c.num c.den))) rows

-- no value costs less than c, and each smaller one costs more
pub record IsLeastOfCheapest (m : Meaning) (rows : List Row) (c : Fraction) : Type 0 where
  pub cheapest : (b : Fraction) → 0 < b.den → m.cost rows c.num c.den * b.den ^ m.degree ≤ m.cost rows b.num b.den * c.den ^ m.degree
  pub least : (b : Fraction) → 0 < b.den → Below b c → m.cost rows c.num c.den * b.den ^ m.degree < m.cost rows b.num b.den * c.den ^ m.degree
