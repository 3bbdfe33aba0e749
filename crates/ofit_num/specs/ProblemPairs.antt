-- What is asked of the pairs of a problem.
use Rattle.std.specs.Prelude.{◌≡◌, ◌<◌, All, AllPairs}
use Rattle.ofit_num.specs.Problem.{Problem}

-- no pair stands twice
abbrev pub HasDistinctPairs : Problem → Type 0
HasDistinctPairs s = AllPairs (λ e f. e ≡ f → ⊥) s.pairs

-- the order is between places of the problem
abbrev pub HasPlaces : Problem → Type 0
HasPlaces s = All (λ e. (e.0 < s.count) × (e.1 < s.count)) s.pairs
