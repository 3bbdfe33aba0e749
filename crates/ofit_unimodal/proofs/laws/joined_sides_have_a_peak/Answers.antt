use Rattle.ofit_unimodal.proofs.Joined.{joined_peak}
use Rattle.ofit_unimodal.proofs.laws.joined_sides_have_a_peak.Goals as goal

pub returns : goal.returns
returns c = λ n i t some l scale rises falls. joined_peak n t some scale i l rises falls
