use Rattle.std.proofs.Common.{arith, refl}
use Rattle.std.proofs.lemmas.Int.{ints}
use Rattle.std.specs.BinaryHeap.{heap_items}
use Rattle.ofit_loss.proofs.Heaps.{above_low, below_high}
use Rattle.ofit_loss.proofs.quantile.QuantilePool.is_above_least.Goals as goal

pub returns-in-Some-clause-high : goal.returns-in-Some-clause-high
returns-in-Some-clause-high c = λ yes.
    above_low (heap_items c.args.self.now.low) (heap_items c.args.self.now.high) c.in-Some.least.now c.args.entry.value (omega (arith, c.in-Some.ensures.variant.0 refl, c.args.self.now.high.data.ok.0)) c.in-Some.ensures.lookup c.requires.apart (omega (arith, ints, yes))

pub returns-in-Some-clause-low : goal.returns-in-Some-clause-low
returns-in-Some-clause-low c = λ no.
    below_high (heap_items c.args.self.now.high) c.in-Some.least.now c.args.entry.value (omega (arith, ints, no)) (c.in-Some.ensures.greatest c.requires.high_order)
