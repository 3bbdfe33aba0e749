use Rattle.std.proofs.Common.{ℕ, ◌+◌}
use Rattle.ofit_num.proofs.Ranges.{pushed-next}
use Rattle.ofit_table.proofs.shape.add_falling.Goals as goal

pub loop-i-preserved : goal.loop-i-preserved
loop-i-preserved c = pushed-next (λ (i : ℕ). (i + 1, i)) c.args.first c.loop-i.i c.args.pairs.now.items c.loop-i.pairs.items c.push.new.self.items c.loop-i.auto.i c.loop-i.invariant c.in_ok-push.ensures.items
