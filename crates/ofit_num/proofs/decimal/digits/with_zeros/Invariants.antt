use Rattle.std.proofs.Common.{◌≡◌, ◌≤◌, ◌*◌, ◌^◌}
use Rattle.ofit_num.proofs.decimal.digits.with_zeros.Given as goal

abbrev pub invariant-loop : goal.invariant-loop
invariant-loop l = record { value : l.longer ≡ l.number * 10 ^ l.counter; in_limit : l.longer ≤ l.limit }
