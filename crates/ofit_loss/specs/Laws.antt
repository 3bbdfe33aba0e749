-- The laws of a loss, each over one list of rows. Costs and spans are at p/q, with q at least 1.
use Rattle.std.specs.Prelude.{◌≡◌, ℕ, ◌+◌, ◌*◌, ◌-◌, ◌^◌, ◌<◌, ◌⊎◌, Bool, true, List, [], ◌++◌, Any, ℤ, pos, ◌+ℤ◌, ◌-ℤ◌, ◌*ℤ◌, ◌≤ℤ◌, ◌<ℤ◌}
use Rattle.ofit_num.specs.declared.row.Row.{Row}
use Rattle.ofit_num.specs.Problem.{Problem}
use Rattle.ofit_num.specs.Meaning.{Meaning}
use Rattle.ofit_num.specs.Fraction.{Fraction}
use Rattle.ofit_num.specs.Below.{Below}
use Rattle.ofit_loss.specs.Rows.{IsPlain, AreFittable}

-- the span is an interval, and each number in it supports the cost from below
pub record IsSupported (m : Meaning) (rows : List Row) : Type 0 where
  pub ordered : (p : ℤ) (q : ℕ) → 0 < q → m.least rows p q ≤ℤ m.greatest rows p q
  pub support : (p p' : ℤ) (q q' : ℕ) → 0 < q → 0 < q' → (b : ℤ) → m.least rows p q ≤ℤ b → b ≤ℤ m.greatest rows p q
      → pos (m.cost rows p q * q' ^ m.degree) ≤ℤ (pos (m.cost rows p' q' * q ^ m.degree) +ℤ pos (m.degree * q' ^ (m.degree - 1)) *ℤ (b *ℤ (p' *ℤ pos q -ℤ p *ℤ pos q')))

-- the span falls as the value rises: at a greater value it lies at or below that at a smaller one
pub record Falls (m : Meaning) (rows : List Row) : Type 0 where
  pub falls : (c b : Fraction) → 0 < c.den → 0 < b.den → Below c b
      → (m.greatest rows b.num b.den *ℤ pos (c.den ^ (m.degree - 1))) ≤ℤ (m.least rows c.num c.den *ℤ pos (b.den ^ (m.degree - 1)))

-- and below it
pub record FallsStrictly (m : Meaning) (rows : List Row) : Type 0 where
  pub falls : (c b : Fraction) → 0 < c.den → 0 < b.den → Below c b
      → (m.greatest rows b.num b.den *ℤ pos (c.den ^ (m.degree - 1))) <ℤ (m.least rows c.num c.den *ℤ pos (b.den ^ (m.degree - 1)))

-- no rows cost nothing, and their span is 0
pub record IsZeroWithoutRows (m : Meaning) : Type 0 where
  pub cost : (p : ℤ) (q : ℕ) → 0 < q → m.cost [] p q ≡ 0
  pub least : (p : ℤ) (q : ℕ) → 0 < q → m.least [] p q ≡ pos 0
  pub greatest : (p : ℤ) (q : ℕ) → 0 < q → m.greatest [] p q ≡ pos 0

-- costs and spans of two lists of rows add
pub record Adds (m : Meaning) (xs ys : List Row) : Type 0 where
  pub cost : (p : ℤ) (q : ℕ) → 0 < q → m.cost (xs ++ ys) p q ≡ m.cost xs p q + m.cost ys p q
  pub least : (p : ℤ) (q : ℕ) → 0 < q → m.least (xs ++ ys) p q ≡ m.least xs p q +ℤ m.least ys p q
  pub greatest : (p : ℤ) (q : ℕ) → 0 < q → m.greatest (xs ++ ys) p q ≡ m.greatest xs p q +ℤ m.greatest ys p q

-- at k·p, k·q the cost is k to the degree times that at p, q, and each end k to one power less
pub record Scales (m : Meaning) (rows : List Row) : Type 0 where
  pub cost : (k q : ℕ) (p : ℤ) → 0 < k → 0 < q → m.cost rows (p *ℤ pos k) (q * k) ≡ m.cost rows p q * k ^ m.degree
  pub least : (k q : ℕ) (p : ℤ) → 0 < k → 0 < q → m.least rows (p *ℤ pos k) (q * k) ≡ m.least rows p q *ℤ pos (k ^ (m.degree - 1))
  pub greatest : (k q : ℕ) (p : ℤ) → 0 < k → 0 < q → m.greatest rows (p *ℤ pos k) (q * k) ≡ m.greatest rows p q *ℤ pos (k ^ (m.degree - 1))

-- What a fit knows of its loss. A strict one falls strictly wherever there is a plain row.
pub record HasLossLaws (m : Meaning) (strict : Bool) : Type 0 where
  pub degree : (m.degree ≡ 1) ⊎ (m.degree ≡ 2)
  pub none : IsZeroWithoutRows m
  pub sums : (xs ys : List Row) → AreFittable (xs ++ ys) → Adds m xs ys
  pub scaling : (rows : List Row) → AreFittable rows → Scales m rows
  pub support : (rows : List Row) → AreFittable rows → IsSupported m rows
  pub falling : (rows : List Row) → AreFittable rows → Falls m rows
  pub strictness : strict ≡ true → (rows : List Row) → AreFittable rows → Any IsPlain rows → FallsStrictly m rows

-- each group of the problem has rows that a loss takes
pub record HasFittableGroups (s : Problem) : Type 0 where
  pub groups : (g : ℕ) → g < s.count → AreFittable (s.rows g)
