-- What the fit of a component takes.
use Rattle.std.specs.Prelude.{ℕ, ◌<◌, ◌≤◌, ◌^◌, ◌↔◌, List, length}
use Rattle.std.specs.List.{Contains, All, Any}
use Rattle.std.specs.List.Sorted.{IsStrictlyIncreasing}
use Rattle.ofit_num.specs.RowTotals.{all_rows}
use Rattle.ofit_order.specs.Relation.{Relation}
use Rattle.ofit_order.specs.Connection.{LeadsUp}
use Rattle.ofit_loss.specs.Rows.{AreFittable, IsPlain}
use Rattle.ofit_study.specs.Study.{Study, groups_of, most_groups, most_pairs, problem_stated}
use Rattle.ofit_fit.specs.OrderOf.{IsOrderOf}

-- a study whose groups have observations that a loss takes together, with its order
pub record IsFittable (s : Study) (order : Relation) : Type 0 where
  pub of : IsOrderOf order (problem_stated s)
  pub filled : All (λ rows. 0 < length rows) (groups_of s)
  pub plain : All (λ rows. Any IsPlain rows) (groups_of s)
  pub fittable : AreFittable (all_rows (groups_of s))
  pub few_groups : length (groups_of s) ≤ most_groups
  pub few_pairs : length order.pairs ≤ most_pairs

-- some of the study's places, with each place that a pair joins with one of them
pub record ArePlaces (s : Study) (order : Relation) (members : List ℕ) : Type 0 where
  pub rising : IsStrictlyIncreasing members
  pub inside : All (λ g. g < length (groups_of s)) members
  pub closed : (a b : ℕ) → LeadsUp order.pairs a b → Contains members a ↔ Contains members b
  pub some : 0 < length members
  pub few : length members < 2 ^ 32
