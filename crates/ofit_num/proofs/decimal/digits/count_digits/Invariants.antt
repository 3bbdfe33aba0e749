use Rattle.std.proofs.Common.{take}
use Rattle.std.specs.List.{AllByRecursion}
use Rattle.ofit_num.specs.NumberText.{IsDigit}
use Rattle.ofit_num.proofs.decimal.digits.count_digits.Given as goal

abbrev pub invariant-loop-count : goal.invariant-loop-count
invariant-loop-count l = AllByRecursion IsDigit (take l.count l.text)
