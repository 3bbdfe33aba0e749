use Rattle.ofit_study.proofs.Edits.{row_here_of}
use Rattle.ofit_study.proofs.study.Study.check_value.Goals as goal

pub returns-in-Some-clause-accepted : goal.returns-in-Some-clause-accepted
returns-in-Some-clause-accepted c = λ value. row_here_of c.args.self.now _ c.args.number c.in-Some.ensures
