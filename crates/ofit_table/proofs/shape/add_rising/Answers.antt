use Rattle.std.proofs.Common.{ℕ, ◌+◌}
use Rattle.ofit_num.proofs.Ranges.{pushed-first}
use Rattle.ofit_table.proofs.shape.add_rising.Goals as goal

pub loop-i-preserved : goal.loop-i-preserved
loop-i-preserved c = pushed-first (λ (i : ℕ). (i, i + 1)) c.loop-i.i c.args.pairs.now.items c.loop-i.pairs.items c.push.new.self.items c.loop-i.invariant c.in_ok-push.ensures.items
