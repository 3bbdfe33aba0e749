use Rattle.std.proofs.Common.{All, take}
use Rattle.ofit_num.specs.Fraction.{IsLowest}
use Rattle.ofit_num.proofs.frac.tell_lowest.Given as goal

abbrev pub invariant-loop-value : goal.invariant-loop-value
invariant-loop-value l = All IsLowest (take l.value-index l.values)
