-- Support, falling spans and scaling, the laws of a loss that fits and certificates rest on, each over the rows of one problem's groups.
use Rattle.std.specs.Prelude.{◌≡◌, ℕ, ◌*◌, ◌-◌, ◌^◌, ◌<◌, ℤ, pos, ◌+ℤ◌, ◌-ℤ◌, ◌*ℤ◌, ◌≤ℤ◌}
use Rattle.ofit_num.specs.Problem.{Problem}
use Rattle.ofit_num.specs.Meaning.{Meaning}
use Rattle.ofit_num.specs.Fraction.{Fraction, SameValue}
use Rattle.ofit_num.specs.Below.{Below}

-- each number in the span at p/q supports the cost from below
pub record HasSupport (m : Meaning) (s : Problem) : Type 0 where
  pub ordered : (g : ℕ) → g < s.count → (p : ℤ) (q : ℕ) → 0 < q → m.least (s.rows g) p q ≤ℤ m.greatest (s.rows g) p q
  pub support : (g : ℕ) → g < s.count → (p p' : ℤ) (q q' : ℕ) → 0 < q → 0 < q' → (b : ℤ) → m.least (s.rows g) p q ≤ℤ b → b ≤ℤ m.greatest (s.rows g) p q
      → pos (m.cost (s.rows g) p q * q' ^ m.degree) ≤ℤ (pos (m.cost (s.rows g) p' q' * q ^ m.degree) +ℤ pos (m.degree * q' ^ (m.degree - 1)) *ℤ (b *ℤ (p' *ℤ pos q -ℤ p *ℤ pos q')))

-- the ends of a group's span at a fraction
abbrev pub least_at : Meaning → Problem → Fraction → ℕ → ℤ
least_at m s c g = m.least (s.rows g) c.num c.den

abbrev pub greatest_at : Meaning → Problem → Fraction → ℕ → ℤ
greatest_at m s c g = m.greatest (s.rows g) c.num c.den

-- equal values have proportional spans, and spans fall as the value rises
pub record HasFallingSpans (m : Meaning) (s : Problem) : Type 0 where
  pub ordered : (g : ℕ) → g < s.count → (c : Fraction) → 0 < c.den → least_at m s c g ≤ℤ greatest_at m s c g
  pub least : (g : ℕ) → g < s.count → (c b : Fraction) → 0 < c.den → 0 < b.den → SameValue c b
      → least_at m s c g *ℤ pos (b.den ^ (m.degree - 1)) ≡ least_at m s b g *ℤ pos (c.den ^ (m.degree - 1))
  pub greatest : (g : ℕ) → g < s.count → (c b : Fraction) → 0 < c.den → 0 < b.den → SameValue c b
      → greatest_at m s c g *ℤ pos (b.den ^ (m.degree - 1)) ≡ greatest_at m s b g *ℤ pos (c.den ^ (m.degree - 1))
  pub falls : (g : ℕ) → g < s.count → (c b : Fraction) → 0 < c.den → 0 < b.den → Below c b
      → (greatest_at m s b g *ℤ pos (c.den ^ (m.degree - 1))) ≤ℤ (least_at m s c g *ℤ pos (b.den ^ (m.degree - 1)))

-- at k·p, k·q the cost is k to the degree times that at p, q, and each end k to one power less
pub record HasScaling (m : Meaning) (s : Problem) : Type 0 where
  pub cost : (g : ℕ) → g < s.count → (k q : ℕ) (p : ℤ) → 0 < k → 0 < q → m.cost (s.rows g) (p *ℤ pos k) (q * k) ≡ m.cost (s.rows g) p q * k ^ m.degree
  pub least : (g : ℕ) → g < s.count → (k q : ℕ) (p : ℤ) → 0 < k → 0 < q → m.least (s.rows g) (p *ℤ pos k) (q * k) ≡ m.least (s.rows g) p q *ℤ pos (k ^ (m.degree - 1))
  pub greatest : (g : ℕ) → g < s.count → (k q : ℕ) (p : ℤ) → 0 < k → 0 < q → m.greatest (s.rows g) (p *ℤ pos k) (q * k) ≡ m.greatest (s.rows g) p q *ℤ pos (k ^ (m.degree - 1))
