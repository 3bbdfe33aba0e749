-- Flows that certify a trial.
use Rattle.std.specs.Prelude.{◌≡◌, ℕ, ◌<◌, List, Contains}
use Rattle.std.specs.List.{AllByRecursion}
use Rattle.ofit_num.specs.Problem.{Problem}
use Rattle.ofit_num.specs.Meaning.{Meaning}
use Rattle.ofit_num.specs.Trial.{Trial}
use Rattle.ofit_num.specs.Fit.{Obeys}
use Rattle.ofit_num.specs.Span.{InOpenSpan}
use Rattle.ofit_num.specs.Flow.{Flow, balance}

-- the flow joins equal values along a pair of the problem
pub record IsTight (s : Problem) (t : Trial) (f : Flow) : Type 0 where
  pub pair : Contains s.pairs (f.low, f.high)
  pub low : f.low < s.count
  pub high : f.high < s.count
  pub equal : t.value f.low ≡ t.value f.high

-- the flows are a certificate of the trial: tight, with each balance in the open span, both over the trial's scale
pub record Certifies (m : Meaning) (s : Problem) (t : Trial) (flows : List Flow) : Type 0 where
  pub obeys : Obeys s t
  pub tight : AllByRecursion (IsTight s t) flows
  pub balances : (g : ℕ) → g < s.count → InOpenSpan m (s.rows g) (s.bounds g) (t.value g) t.scale (balance flows g)
