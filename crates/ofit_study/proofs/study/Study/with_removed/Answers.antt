use Rattle.std.proofs.Common.{◌≡◌, ◌+◌, ◌++◌, [], subst, get_or, take, drop}
use Rattle.std.proofs.lemmas.Option.{slice_get-get_or}
use Rattle.std.proofs.lemmas.Result.{IfOk-weaker}
use Rattle.std.specs.Prelude.{pos}
use Rattle.ofit_study.specs.declared.edit.Edit.TheVariants.{Remove}
use Rattle.ofit_study.specs.Edited.{HasRow, IsAfter, IsInUse}
use Rattle.ofit_study.specs.Study.{Observation}
use Rattle.ofit_study.proofs.Earlier.{only_row, row_put}
use Rattle.ofit_study.proofs.Editing.{valid-remove}
use Rattle.ofit_study.proofs.study.Study.with_removed.Goals as goal

pub without_row-requires-clause-valid : goal.without_row-requires-clause-valid
without_row-requires-clause-valid c =
    let s = c.args.self.now in
    let v = c.keeps_limits.ensures.valid in
    let d : Observation = record { number = 0; group = []; value = pos 0; weight = 0 } in
    let at : HasRow s c.args.number = row_put s v c.in-Some.index c.args.number c.in-Some.ensures (get_or s.rows c.in-Some.index d) (slice_get-get_or s.rows c.in-Some.index d c.in-Some.ensures.inside) in
    valid-remove s v c.args.number at (λ used. c.requires.1 (subst (λ (o : Observation). IsInUse s o.group) (only_row s v c.args.number at c.requires.0) used))

pub returns : goal.returns
returns c =
    let s = c.args.self.now in
    let v = c.keeps_limits.ensures.valid in
    let index = c.in-Some.index in
    let d : Observation = record { number = 0; group = []; value = pos 0; weight = 0 } in
    let at : HasRow s c.args.number = row_put s v index c.args.number c.in-Some.ensures (get_or s.rows index d) (slice_get-get_or s.rows index d c.in-Some.ensures.inside) in
    IfOk-weaker c.without_row.result (λ t. t ≡ record s { rows = take index s.rows ++ drop (index + 1) s.rows }) (IsAfter s (Remove c.args.number)) (λ t e. (at, e)) c.without_row.ensures
