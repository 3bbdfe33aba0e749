use Rattle.ofit_loss.proofs.ProblemLaws.{problem_support, problem_falling, problem_scaling}
use Rattle.ofit_loss.proofs.laws.problems_have_the_laws.Goals as goal

pub returns-clause-support : goal.returns-clause-support
returns-clause-support g c = λ s fit. problem_support g.L.Loss.meaning g.L.Loss.STRICT g.met.L.Loss.laws s fit

pub returns-clause-falling : goal.returns-clause-falling
returns-clause-falling g c = λ s fit. problem_falling g.L.Loss.meaning g.L.Loss.STRICT g.met.L.Loss.laws s fit

pub returns-clause-scaling : goal.returns-clause-scaling
returns-clause-scaling g c = λ s fit. problem_scaling g.L.Loss.meaning g.L.Loss.STRICT g.met.L.Loss.laws s fit
