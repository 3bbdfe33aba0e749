use Rattle.std.proofs.Common.{◌≡◌, ◌+◌, ◌++◌, [], ◌∙◌, List, length, ap, refl, sym, append-nil, take, drop}
use Rattle.ofit_study.specs.Study.{Observation}
use Rattle.ofit_study.specs.Splice.{rows_between}
use Rattle.ofit_study.proofs.Splicing.{bare, bare_known, bare_more, bare_valid, without_first, without_second}
use Rattle.ofit_study.proofs.study.Study.take_without_row.Goals as goal

pub push_rows-requires-clause-valid : goal.push_rows-requires-clause-valid
push_rows-requires-clause-valid c =
    let s = c.args.of.now in
    bare_valid s c.args.self.now [] (rows_between s.rows 0 c.args.index) (drop (c.args.index + 1) s.rows) (take c.args.index s.rows ++ drop (c.args.index + 1) s.rows) c.requires.emptied c.requires.valid
    (without_first s c.args.index (c.args.index + 1) (length s.rows) refl)

pub push_rows-requires-2-clause-valid : goal.push_rows-requires-2-clause-valid
push_rows-requires-2-clause-valid c =
    let s = c.args.of.now in
    let first : List Observation = rows_between s.rows 0 c.args.index in
    let rest : List Observation = rows_between s.rows (c.args.index + 1) c.row_count.result in
    let one : c.push_rows.new.self ≡ bare s first = bare_more s c.args.self.now c.push_rows.new.self [] first c.requires.emptied c.in_ok-push_rows.ensures in
    bare_valid s c.push_rows.new.self first rest [] (take c.args.index s.rows ++ drop (c.args.index + 1) s.rows) one c.requires.valid
    (sym (without_second s c.args.index (c.args.index + 1) c.row_count.result c.row_count.ensures.count) ∙ sym (append-nil (first ++ rest)))

pub take_pairs-requires : goal.take_pairs-requires
take_pairs-requires c =
    let s = c.args.of.now in
    let first : List Observation = rows_between s.rows 0 c.args.index in
    let rest : List Observation = rows_between s.rows (c.args.index + 1) c.row_count.result in
    let whole : List Observation = take c.args.index s.rows ++ drop (c.args.index + 1) s.rows in
    let one : c.push_rows.new.self ≡ bare s first = bare_more s c.args.self.now c.push_rows.new.self [] first c.requires.emptied c.in_ok-push_rows.ensures in
    let two : c.push_rows-2.new.self ≡ bare s whole = bare_more s c.push_rows.new.self c.push_rows-2.new.self first rest one c.in_ok-push_rows-2.ensures ∙ ap (bare s) (without_second s c.args.index (c.args.index + 1) c.row_count.result c.row_count.ensures.count) in
    bare_known s c.push_rows-2.new.self whole two c.requires.valid
