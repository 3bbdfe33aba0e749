use Rattle.ofit_num.proofs.Certified.{certified_best}
use Rattle.ofit_num.proofs.Passing as num
use Rattle.ofit_loss.proofs.ProblemLaws.{problem_support, problem_scaling}
use Rattle.ofit_check.proofs.laws.passing_is_best.Goals as goal

pub returns-clause-sheets : goal.returns-clause-sheets
returns-clause-sheets g c = λ s own x places fit fits pass.
    num.passing_is_best g.L.Loss.meaning s own x places fits pass (problem_support g.L.Loss.meaning g.L.Loss.STRICT g.met.L.Loss.laws s fit) (problem_scaling g.L.Loss.meaning g.L.Loss.STRICT g.met.L.Loss.laws s fit)

pub returns-clause-flows : goal.returns-clause-flows
returns-clause-flows g c = λ s t flows fit certifies. certified_best g.L.Loss.meaning s t flows (problem_support g.L.Loss.meaning g.L.Loss.STRICT g.met.L.Loss.laws s fit) certifies
