use Rattle.std.proofs.Common.{◌<◌, List, length}
use Rattle.std.proofs.lemmas.Bool.{lt-ltb, ltb-true}
use Rattle.std.proofs.lemmas.List.Elements.{All-contains}
use Rattle.ofit_num.specs.declared.row.Row.{Row}
use Rattle.ofit_study.specs.Study.{groups_of}
use Rattle.ofit_study.proofs.Earlier.{before_from, before_to}
use Rattle.ofit_study.proofs.Pushing.{slice_get-Contains}
use Rattle.ofit_study.proofs.Stating.{groups_filled}
use Rattle.ofit_study.proofs.study.Study.stands_before.Goals as goal

pub bounds-rows-0 : goal.bounds-rows-0
bounds-rows-0 c =
    let s = c.args.self.now in
    All-contains (λ rows. 0 < length rows) (groups_of s) c.rows_of-rows.result.now (groups_filled s) (slice_get-Contains (groups_of s) c.args.place c.rows_of-rows.result.now c.rows_of-rows.ensures)

pub returns : goal.returns
returns c =
    let s = c.args.self.now in
    let v = c.keeps_limits.ensures.valid in
    let rows = c.rows_of-rows.result.now in
    let filled : 0 < length rows = All-contains (λ (r : List Row). 0 < length r) (groups_of s) rows (groups_filled s) (slice_get-Contains (groups_of s) c.args.place rows c.rows_of-rows.ensures) in (
      λ t. before_from s v c.args.place c.requires rows c.rows_of-rows.ensures c.args.number _ filled (ltb-true _ _ t),
      λ h. lt-ltb _ _ (before_to s v c.args.place c.requires rows c.rows_of-rows.ensures c.args.number _ h),
    )
