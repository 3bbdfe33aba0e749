use Rattle.std.proofs.Common.{◌≡◌, ◌++◌, ◌∷◌, [], ◌∙◌, List, length, ap, refl, sym, append-nil, take, drop}
use Rattle.ofit_study.specs.Study.{Observation}
use Rattle.ofit_study.specs.Added.{observation}
use Rattle.ofit_study.specs.Splice.{rows_between}
use Rattle.ofit_study.proofs.Splicing.{bare, bare_known, bare_more, bare_valid, with_first, with_second, with_third}
use Rattle.ofit_study.proofs.study.Study.take_with_row_at.Goals as goal

pub push_rows-requires-clause-valid : goal.push_rows-requires-clause-valid
push_rows-requires-clause-valid c =
    let s = c.args.of.now in
    let r : Observation = observation c.args.name.now c.args.row in
    bare_valid s c.args.self.now [] (rows_between s.rows 0 c.args.start) (r ∷ drop c.args.end s.rows) (take c.args.start s.rows ++ r ∷ drop c.args.end s.rows) c.requires.emptied c.requires.valid
    (with_first s c.args.start c.args.end (length s.rows) r refl)

pub push-requires : goal.push-requires
push-requires c =
    let s = c.args.of.now in
    let r : Observation = observation c.args.name.now c.args.row in
    let first : List Observation = rows_between s.rows 0 c.args.start in
    let one : c.push_rows.new.self ≡ bare s first = bare_more s c.args.self.now c.push_rows.new.self [] first c.requires.emptied c.in_ok-push_rows.ensures in
    bare_valid s c.push_rows.new.self first (r ∷ []) (drop c.args.end s.rows) (take c.args.start s.rows ++ r ∷ drop c.args.end s.rows) one c.requires.valid (with_second s c.args.start c.args.end (length s.rows) r refl)

pub push_rows-requires-2-clause-valid : goal.push_rows-requires-2-clause-valid
push_rows-requires-2-clause-valid c =
    let s = c.args.of.now in
    let r : Observation = observation c.args.name.now c.args.row in
    let first : List Observation = rows_between s.rows 0 c.args.start in
    let rest : List Observation = rows_between s.rows c.args.end c.row_count.result in
    let one : c.push_rows.new.self ≡ bare s first = bare_more s c.args.self.now c.push_rows.new.self [] first c.requires.emptied c.in_ok-push_rows.ensures in
    let two : c.push.new.self ≡ bare s (first ++ r ∷ []) = bare_more s c.push_rows.new.self c.push.new.self first (r ∷ []) one c.in_ok-push.ensures.ok in
    bare_valid s c.push.new.self (first ++ r ∷ []) rest [] (take c.args.start s.rows ++ r ∷ drop c.args.end s.rows) two c.requires.valid
    (sym (with_third s c.args.start c.args.end c.row_count.result r c.row_count.ensures.count) ∙ sym (append-nil ((first ++ r ∷ []) ++ rest)))

pub take_pairs-requires : goal.take_pairs-requires
take_pairs-requires c =
    let s = c.args.of.now in
    let r : Observation = observation c.args.name.now c.args.row in
    let first : List Observation = rows_between s.rows 0 c.args.start in
    let rest : List Observation = rows_between s.rows c.args.end c.row_count.result in
    let whole : List Observation = take c.args.start s.rows ++ r ∷ drop c.args.end s.rows in
    let one : c.push_rows.new.self ≡ bare s first = bare_more s c.args.self.now c.push_rows.new.self [] first c.requires.emptied c.in_ok-push_rows.ensures in
    let two : c.push.new.self ≡ bare s (first ++ r ∷ []) = bare_more s c.push_rows.new.self c.push.new.self first (r ∷ []) one c.in_ok-push.ensures.ok in
    let three : c.push_rows-2.new.self ≡ bare s whole = bare_more s c.push.new.self c.push_rows-2.new.self (first ++ r ∷ []) rest two c.in_ok-push_rows-2.ensures ∙ ap (bare s) (with_third s c.args.start c.args.end c.row_count.result r c.row_count.ensures.count) in
    bare_known s c.push_rows-2.new.self whole three c.requires.valid
