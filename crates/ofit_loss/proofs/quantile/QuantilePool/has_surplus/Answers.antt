use Rattle.std.proofs.Common.{arith, ◌+◌}
use Rattle.std.specs.BinaryHeap.{heap_items}
use Rattle.ofit_loss.proofs.Heaps.{under_top, under_share, not_both}
use Rattle.ofit_loss.proofs.quantile.QuantilePool.has_surplus.Goals as goal

pub returns-in-Some-clause-none : goal.returns-in-Some-clause-none
returns-in-Some-clause-none c = λ fails k d l. under_share (c.args.factors.above + c.args.factors.below) _ _ _ _ _
    (under_top (heap_items c.args.self.now.low) c.in-Some.top.now (omega (arith, l)) c.in-Some.ensures.lookup (c.in-Some.ensures.greatest c.requires.split.low_order) k d l)
    c.requires.split.low_weight (λ h. not_both c.is_share.result (c.is_share.ensures.1 h) fails)
