use Rattle.std.proofs.Common.{◌≡◌, take}
use Rattle.ofit_num.specs.NumberText.{spelled_after}
use Rattle.ofit_num.proofs.whole.number_of.Given as goal

abbrev pub invariant-loop-digit : goal.invariant-loop-digit
invariant-loop-digit l = l.number ≡ spelled_after 0 (take l.digit-index l.digits)
