use Rattle.std.proofs.Common.{◌+◌, arith}
use Rattle.std.proofs.lemmas.Grind.{get_or_default_zero}
use Rattle.ofit_outside.proofs.schedule.Schedule.call.Goals as goal

pub returns-in-None-clause-listed : goal.returns-in-None-clause-listed
returns-in-None-clause-listed c = (
  (λ no. absurd (grind arith)),
  λ (k, below, is). absurd (omega (arith, get_or_default_zero c.args.self.now.fails.items k (c.args.self.now.calls + 1) below, c.args.self.now.in_range k, is)),
)
