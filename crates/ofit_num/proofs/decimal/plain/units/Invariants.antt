use Rattle.std.proofs.Common.{◌≡◌, ◌*◌, ◌^◌}
use Rattle.ofit_num.proofs.decimal.plain.units.Given as goal

abbrev pub invariant-loop : goal.invariant-loop
invariant-loop l = l.size * 10 ^ l.fn.spelled.behind ≡ l.fn.spelled.number * 10 ^ l.counter
