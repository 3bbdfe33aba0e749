use Rattle.std.proofs.Common.{subst}
use Rattle.ofit_study.specs.Edited.{IsAccepted}
use Rattle.ofit_study.proofs.study.Study.row_change.Goals as goal

pub weight_change-requires-clause-accepted : goal.weight_change-requires-clause-accepted
weight_change-requires-clause-accepted c = subst (IsAccepted c.args.self.now) c.in-Weight.is c.in_ok-check_edit.ensures.accepted
