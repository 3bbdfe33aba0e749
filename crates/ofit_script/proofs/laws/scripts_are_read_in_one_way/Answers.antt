use Rattle.ofit_script.proofs.ScriptReadings.{one_script}
use Rattle.ofit_script.proofs.laws.scripts_are_read_in_one_way.Goals as goal

pub returns : goal.returns
returns c = one_script
