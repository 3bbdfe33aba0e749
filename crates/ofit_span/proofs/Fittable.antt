-- The rows of a valid study are rows that a loss takes.
use Rattle.std.proofs.Common.{◌≡◌, ℕ, List, arith}
use Rattle.std.specs.Prelude.{All, slice_get, Some}
use Rattle.ofit_num.specs.declared.row.Row.{Row}
use Rattle.ofit_num.specs.RowTotals.{all_rows}
use Rattle.ofit_loss.specs.Rows.{IsPlain, AreFittable}
use Rattle.ofit_loss.proofs.Plain.{plain_upto, plain_fittable}
use Rattle.ofit_loss.proofs.ProblemLaws.{group_fittable}
use Rattle.ofit_study.specs.Study.{Study, IsValid, groups_of, most_rows}
use Rattle.ofit_study.proofs.Stating.{rows_within, numbers_within}

pub all_plain : (s : Study) → IsValid s → All IsPlain (all_rows (groups_of s))
all_plain s v = plain_upto most_rows (omega arith) (all_rows (groups_of s)) (numbers_within s v)

pub all_fittable : (s : Study) → IsValid s → AreFittable (all_rows (groups_of s))
all_fittable s v = plain_fittable (all_rows (groups_of s)) (rows_within s v) (all_plain s v)

pub rows_fittable : (s : Study) → IsValid s → (g : ℕ) (rows : List Row) → slice_get (groups_of s) g ≡ Some rows → AreFittable rows
rows_fittable s v g rows e = group_fittable (groups_of s) g rows e (all_fittable s v)
