-- The rows of some of a study's groups.
use Rattle.std.proofs.Common.{◌≡◌, ℕ, ◌+◌, ◌<◌, List, [], ◌∷◌, ◌++◌, take, length, get_or, map, refl, sym, ap, ◌∙◌, append_assoc, append-nil}
use Rattle.std.proofs.lemmas.List.{take_more, map-append}
use Rattle.std.specs.Prelude.{slice_get, Some, Option, unwrap_or}
use Rattle.ofit_num.specs.declared.row.Row.{Row}
use Rattle.ofit_num.specs.RowTotals.{all_rows}
use Rattle.ofit_study.specs.Study.{Study, groups_of, problem_stated}
use Rattle.ofit_report.specs.Cost.{rows_among}

all_rows-append : (xs ys : List (List Row)) → all_rows (xs ++ ys) ≡ all_rows xs ++ all_rows ys
all_rows-append [] ys = refl
all_rows-append (x ∷ xs) ys = ap (λ (t : List Row). x ++ t) (all_rows-append xs ys) ∙ sym (append_assoc x (all_rows xs) (all_rows ys))

-- one group more
pub among_more : (s : Study) (members : List ℕ) (i : ℕ) (before these after : List Row) → i < length members → slice_get (groups_of s) (get_or members i 0) ≡ Some these → before ≡ rows_among s (take i members) → after ≡ before ++ these → after ≡ rows_among s (take (i + 1) members)
among_more s members i before these after l at so_far new =
    let rows = (problem_stated s).rows in
    let here : rows (get_or members i 0) ≡ these = ap (λ (o : Option (List Row)). unwrap_or o []) at in
    new ∙ ap (λ (t : List Row). t ++ these) so_far
    ∙ ap (λ (t : List Row). rows_among s (take i members) ++ t) (sym here ∙ sym (append-nil (rows (get_or members i 0))))
    ∙ sym (all_rows-append (map rows (take i members)) (rows (get_or members i 0) ∷ []))
    ∙ ap all_rows (sym (map-append rows (take i members) (get_or members i 0 ∷ [])))
    ∙ ap (rows_among s) (sym (take_more members i 0 l))
