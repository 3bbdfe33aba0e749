use Rattle.std.proofs.Common.{arith}
use Rattle.std.proofs.lemmas.Int.{ints}
use Rattle.std.specs.BinaryHeap.{heap_items}
use Rattle.ofit_loss.proofs.Heaps.{above_top}
use Rattle.ofit_loss.proofs.quantile.QuantilePool.is_above_top.Goals as goal

pub returns-in-Some : goal.returns-in-Some
returns-in-Some c = λ holds. above_top (heap_items c.args.self.now.low) c.in-Some.top.now c.args.entry.value (omega (arith, ints, holds)) (c.in-Some.ensures.greatest c.requires.low_order)
