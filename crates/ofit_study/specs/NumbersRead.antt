-- Weights and row numbers, as they are read.
use Rattle.std.specs.Prelude.{ℕ, List, Result, Ok, Err}
use Rattle.ofit_study.specs.declared.field.BadWeight.{BadWeight}
use Rattle.ofit_study.specs.declared.field.BadRow.{BadRow}
use Rattle.ofit_study.specs.FieldRead.{IsWeight, IsRowNumber}

abbrev pub WeightRead : List ℕ → Result ℕ BadWeight → Type 0
WeightRead text (Ok weight) = IsWeight text weight
WeightRead text (Err fault) = (weight : ℕ) → IsWeight text weight → ⊥

abbrev pub RowNumberRead : List ℕ → Result ℕ BadRow → Type 0
RowNumberRead text (Ok n) = IsRowNumber text n
RowNumberRead text (Err fault) = (n : ℕ) → IsRowNumber text n → ⊥
