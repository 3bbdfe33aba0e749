use Rattle.std.proofs.Common.{◌∙◌, sym, true≢false}
use Rattle.ofit_study.specs.Study.{Observation}
use Rattle.ofit_study.specs.Added.{observation}
use Rattle.ofit_study.specs.Edited.{HasRow}
use Rattle.ofit_study.proofs.Edits.{its_number, row_of}
use Rattle.ofit_study.proofs.Pushing.{slice_get-Contains}
use Rattle.ofit_study.proofs.Splicing.{row_name}
use Rattle.ofit_study.proofs.study.Study.check_removed.Goals as goal

pub is_in_use-requires : goal.is_in_use-requires
is_in_use-requires c =
    let s = c.args.self.now in
    let r : Observation = observation c.row_at.result.0.now c.row_at.result.1 in
    row_name s.rows r (slice_get-Contains s.rows c.in-Some.index r c.row_at.ensures)

pub returns-then-is_in_use-clause-refused : goal.returns-then-is_in_use-clause-refused
returns-then-is_in_use-clause-refused c =
    let s = c.args.self.now in
    let r : Observation = observation c.row_at.result.0.now c.row_at.result.1 in
    let at : HasRow s c.args.number = row_of s c.in-Some.index c.args.number r c.row_at.ensures (its_number s c.in-Some.index c.args.number r c.in-Some.ensures c.row_at.ensures) in
    (at, c.is_in_use.ensures.0 c.if-is_in_use.true)

pub returns-clause-accepted : goal.returns-clause-accepted
returns-clause-accepted c =
    let s = c.args.self.now in
    let r : Observation = observation c.row_at.result.0.now c.row_at.result.1 in
    let at : HasRow s c.args.number = row_of s c.in-Some.index c.args.number r c.row_at.ensures (its_number s c.in-Some.index c.args.number r c.in-Some.ensures c.row_at.ensures) in
    (at, λ used. true≢false (sym (c.is_in_use.ensures.1 used) ∙ c.if-is_in_use.false))
