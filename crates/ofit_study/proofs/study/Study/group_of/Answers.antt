use Rattle.ofit_study.specs.Study.{Observation}
use Rattle.ofit_study.specs.Added.{observation}
use Rattle.ofit_study.proofs.Edits.{its_number, row_of}
use Rattle.ofit_study.proofs.Touching.{numbered_none, numbered_one}
use Rattle.ofit_study.proofs.study.Study.group_of.Goals as goal

pub returns-in-Some : goal.returns-in-Some
returns-in-Some c =
    let s = c.args.self.now in
    let r : Observation = observation c.row_at.result.0.now c.row_at.result.1 in
    numbered_one s c.keeps_limits.ensures.valid c.args.number (row_of s c.in-Some.index c.args.number r c.row_at.ensures (its_number s c.in-Some.index c.args.number r c.in-Some.ensures c.row_at.ensures))

pub returns-in-None : goal.returns-in-None
returns-in-None c = numbered_none c.args.self.now c.args.number c.in-None.ensures
