use Rattle.std.proofs.Common.{◌≡◌, ◌≤◌, take}
use Rattle.ofit_num.specs.NumberText.{spelled_after}
use Rattle.ofit_num.proofs.decimal.digits.spelled.Given as goal

abbrev pub invariant-loop-digit : goal.invariant-loop-digit
invariant-loop-digit l = record { value : l.longer ≡ spelled_after l.number (take l.digit-index l.digits); in_limit : l.longer ≤ l.limit }
