-- Rows put in place of one by a change.
use Rattle.std.specs.Prelude.{◌≡◌, ◌+◌, ◌++◌, ℕ, List, Some, map, take, drop, slice_get}
use Rattle.ofit_num.specs.declared.row.Row.{Row}
use Rattle.ofit_study.specs.Added.{observation}
use Rattle.ofit_study.specs.Change.{Change, IsChangeOf, changed}
use Rattle.ofit_study.specs.Kept.{name_at}
use Rattle.ofit_study.specs.Study.{Observation, Study, names_of}

-- the change puts rows of one group in place of the row at the index
pub record PutsAt (s : Study) (index : ℕ) (put : List Row) (c : Change) : Type 0 where
  pub of : IsChangeOf s c
  pub row : Observation
  pub at : slice_get s.rows index ≡ Some row
  pub after : changed s c ≡ record s { rows = take index s.rows ++ (map (observation row.group) put ++ drop (index + 1) s.rows) }
  pub group : name_at (names_of s) c.place ≡ row.group
