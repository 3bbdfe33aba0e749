-- What the sides on both ends of a split cost together.
use Rattle.std.specs.Prelude.{◌+◌, ◌-◌, ◌<◌, ◌≤◌, ℕ, suc, ℤ, List, [], map, slice_index_or}
use Rattle.std.specs.List.{range_with_len}
use Rattle.ofit_num.specs.Fit.{sum_below}
use Rattle.ofit_num.specs.Loss.{median}
use Rattle.ofit_num.specs.Problem.{Problem}
use Rattle.ofit_sheet.specs.PeakVerdict.{value_at}

-- what the rise of the first i groups costs, and the fall of those from the place i on; 0 where there are none
abbrev pub rise_cost : Problem → List (List (ℤ × ℤ)) → ℕ → ℕ
rise_cost s rises i = sum_below (λ j. median.cost (s.rows j) (value_at (slice_index_or rises (i - 1) []) j) 1) i

abbrev pub fall_cost : Problem → List (List (ℤ × ℤ)) → ℕ → ℕ
fall_cost s falls i = sum_below (λ j. median.cost (s.rows (i + j)) (value_at (slice_index_or falls i []) j) 1) (s.count - i)

abbrev pub split_cost : Problem → List (List (ℤ × ℤ)) → List (List (ℤ × ℤ)) → ℕ → ℕ
split_cost s rises falls i = rise_cost s rises i + fall_cost s falls i

-- of each split, from that before all groups to that behind them
abbrev pub split_costs : Problem → List (List (ℤ × ℤ)) → List (List (ℤ × ℤ)) → List ℕ
split_costs s rises falls = map (split_cost s rises falls) (range_with_len 0 (suc s.count))

-- the first of the splits that cost least
pub record IsCheapest (s : Problem) (rises falls : List (List (ℤ × ℤ))) (split : ℕ) : Type 0 where
  pub inside : split ≤ s.count
  pub least : (i : ℕ) → i ≤ s.count → split_cost s rises falls split ≤ split_cost s rises falls i
  pub first : (i : ℕ) → i < split → split_cost s rises falls split < split_cost s rises falls i
