use Rattle.std.proofs.Common.{rules, sym, subst}
use Rattle.ofit_script.specs.Script.{IsScript}
use Rattle.ofit_script.proofs.NextRecord.{no_lines}
use Rattle.ofit_script.proofs.script.Script.empty.Goals as goal

pub invariant_of-result : goal.invariant_of-result
invariant_of-result c = (subst IsScript (sym c.new.ensures.items) no_lines, search rules)
