use Rattle.std.proofs.Common.{subst}
use Rattle.ofit_script.specs.Script.{IsScript}
use Rattle.ofit_script.proofs.script.Script.count.Goals as goal

pub returns-clause-kept : goal.returns-clause-kept
returns-clause-kept c = subst IsScript c.self.view_is c.self.invariant.0
