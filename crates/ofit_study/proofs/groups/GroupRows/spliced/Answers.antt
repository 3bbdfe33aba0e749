use Rattle.std.proofs.Common.{◌≡◌, ◌<◌, ◌+◌, ◌++◌, ◌∙◌, ℕ, [], List, ap, sym, subst, take, drop, Vec, Global}
use Rattle.std.proofs.lemmas.Option.{get_or_from_slice_get}
use Rattle.std.specs.Prelude.{AllPairs, IfOk, Result, Ok, Err}
use Rattle.ofit_num.specs.declared.row.Row.{Row}
use Rattle.ofit_study.specs.Splice.{IsCut, IsSpliced}
use Rattle.ofit_study.proofs.Respliced.{drop_least}
use Rattle.ofit_study.proofs.groups.GroupRows.spliced.Goals as goal

-- what was made of the cut
made_so : {E : Type 0} (rows put : List Row) (number taken start end : ℕ) → IsCut (λ (r : Row). r.number) rows number start → drop end rows ≡ drop (start + taken) rows
    → (r : Result (Vec Row Global) E) → IfOk r (λ made. made.items ≡ take start rows ++ (put ++ drop end rows)) → IfOk r (λ made. IsSpliced rows number taken put made.items)
made_so rows put number taken start end cut rest (Ok made) e = record { cut = start; is = cut; made_of = e ∙ ap (λ (t : List Row). take start rows ++ (put ++ t)) rest }
made_so rows put number taken start end cut rest (Err x) e = tt

pub rows_below-start-requires : goal.rows_below-start-requires
rows_below-start-requires c =
    subst (AllPairs (λ q r. q.number < r.number)) (get_or_from_slice_get c.args.self.now c.args.place c.at-rows.result.now [] c.at-rows.ensures) c.requires.rising

pub returns : goal.returns
returns c =
    subst (λ (t : List Row). IfOk c.spliced.result (λ made. IsSpliced t c.args.number c.args.taken c.args.put.now made.items)) (sym (get_or_from_slice_get c.args.self.now c.args.place c.at-rows.result.now [] c.at-rows.ensures))
    (made_so c.at-rows.result.now c.args.put.now c.args.number c.args.taken c.rows_below-start.result c.min-end.result c.rows_below-start.ensures
    (drop_least c.at-rows.result.now (c.rows_below-start.result + c.args.taken) c.min-end.result c.min-end.ensures) c.spliced.result c.spliced.ensures)
