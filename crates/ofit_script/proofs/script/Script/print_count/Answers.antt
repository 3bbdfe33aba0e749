use Rattle.std.proofs.Common.{◌∙◌, ap}
use Rattle.ofit_script.specs.Lines.{print_count}
use Rattle.ofit_script.proofs.script.Script.print_count.Goals as goal

pub returns : goal.returns
returns c = c.self.invariant.1 ∙ ap print_count c.self.view_is
