-- Which trials obey, which of them cost least, and which of these is the least fit.
use Rattle.std.specs.Prelude.{◌≡◌, ℕ, ◌+◌, ◌*◌, ◌^◌, ◌<◌, ◌≤◌, List, length, IfSome, All, pos, ◌*ℤ◌, ◌≤ℤ◌, zero, suc}
use Rattle.ofit_num.specs.Problem.{Problem}
use Rattle.ofit_num.specs.Meaning.{Meaning}
use Rattle.ofit_num.specs.Fraction.{Fraction}
use Rattle.ofit_num.specs.Trial.{Trial, trial_of}

-- the values rise along each pair and are within each bound
pub record Obeys (s : Problem) (t : Trial) : Type 0 where
  pub scale : 0 < t.scale
  pub pairs : All (λ e. t.value e.0 ≤ℤ t.value e.1) s.pairs
  pub low : (g : ℕ) → g < s.count → IfSome (s.bounds g).lo (λ lo. (lo *ℤ pos t.scale) ≤ℤ t.value g)
  pub high : (g : ℕ) → g < s.count → IfSome (s.bounds g).hi (λ hi. t.value g ≤ℤ (hi *ℤ pos t.scale))

-- the sum of f over the numbers below n
abbrev pub sum_below : (ℕ → ℕ) → ℕ → ℕ
sum_below f zero = 0
sum_below f (suc n) = sum_below f n + f n

-- the cost of all rows, in units of (1/scale) to the degree
abbrev pub trial_cost : Meaning → Problem → Trial → ℕ
trial_cost m s t = sum_below (λ g. m.cost (s.rows g) (t.value g) t.scale) s.count

-- t costs at most what u costs, both over one denominator
pub record NoDearer (m : Meaning) (s : Problem) (t u : Trial) : Type 0 where
  pub costs : trial_cost m s t * u.scale ^ m.degree ≤ trial_cost m s u * t.scale ^ m.degree

-- no obedient trial costs less
pub record Best (m : Meaning) (s : Problem) (t : Trial) : Type 0 where
  pub obeys : Obeys s t
  pub cheapest : (u : Trial) → Obeys s u → NoDearer m s t u

-- and none of equal cost is lower at any place
pub record LeastBest (m : Meaning) (s : Problem) (t : Trial) : Type 0 where
  pub best : Best m s t
  pub least : (u : Trial) → Best m s u → (g : ℕ) → g < s.count → (t.value g *ℤ pos u.scale) ≤ℤ (u.value g *ℤ pos t.scale)

-- a list of one fraction for each group is best, or least best, where its trial is
pub record BestValues (m : Meaning) (s : Problem) (fs : List Fraction) : Type 0 where
  pub count : length fs ≡ s.count
  pub best : Best m s (trial_of fs)

pub record LeastBestValues (m : Meaning) (s : Problem) (fs : List Fraction) : Type 0 where
  pub count : length fs ≡ s.count
  pub least_best : LeastBest m s (trial_of fs)
