-- Rows by their indexes.
use Rattle.std.specs.Prelude.{◌≡◌, ◌≢◌, ◌≤◌, ◌<◌, ◌+◌, ◌-◌, ◌++◌, ℕ, List, length, take, drop, slice_index_or, All, AllPairs}
use Rattle.ofit_num.specs.declared.row.Row.{Row}
use Rattle.ofit_study.specs.declared.entry.Entry.{Entry}
use Rattle.ofit_study.specs.Study.{Observation, Study}

-- the rows from the one index on, up to the other
abbrev pub rows_between : List Observation → ℕ → ℕ → List Observation
rows_between rows start end = take (end - start) (drop start rows)

-- the row at the index has the number
pub record IsRowAt (s : Study) (index number : ℕ) : Type 0 where
  pub inside : index < length s.rows
  pub is : (d : Observation) → (slice_index_or s.rows index d).number ≡ number

-- the numbers of the entries rise, and each is at least 1
pub record RiseFromOne (entries : List Entry) : Type 0 where
  pub least : All (λ e. 1 ≤ e.row.number) entries
  pub rising : AllPairs (λ e f. e.row.number < f.row.number) entries

-- so many of the entries, and not more, have the numbers from 1 on
pub record IsGapAmong (entries : List Entry) (place : ℕ) : Type 0 where
  pub inside : place ≤ length entries
  pub before : (k : ℕ) (d : Entry) → k < place → (slice_index_or entries k d).row.number ≡ k + 1
  pub at : (d : Entry) → place < length entries → (slice_index_or entries place d).row.number ≢ place + 1

-- just the first so many of a list have numbers below this one
pub record IsCut {X : Type 0} (number_of : X → ℕ) (list : List X) (number cut : ℕ) : Type 0 where
  pub inside : cut ≤ length list
  pub below : (k : ℕ) (d : X) → k < cut → number_of (slice_index_or list k d) < number
  pub from : (k : ℕ) (d : X) → cut ≤ k → k < length list → number ≤ number_of (slice_index_or list k d)

-- the rows with so many of those from the number on taken out, and others put in their place
pub record IsSpliced (rows : List Row) (number taken : ℕ) (put made : List Row) : Type 0 where
  pub cut : ℕ
  pub is : IsCut (λ r. r.number) rows number cut
  pub made_of : made ≡ take cut rows ++ (put ++ drop (cut + taken) rows)

-- the entry at the index has the number
pub record IsEntryAt (entries : List Entry) (index number : ℕ) : Type 0 where
  pub inside : index < length entries
  pub is : (d : Entry) → (slice_index_or entries index d).row.number ≡ number
