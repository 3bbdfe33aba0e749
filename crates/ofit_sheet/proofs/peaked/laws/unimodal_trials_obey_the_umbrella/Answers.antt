use Rattle.ofit_sheet.proofs.Umbrella.{umbrella_told}
use Rattle.ofit_sheet.proofs.peaked.laws.unimodal_trials_obey_the_umbrella.Goals as goal

pub returns : goal.returns
returns c = umbrella_told
