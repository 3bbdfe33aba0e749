use Rattle.std.proofs.Common.{arith, refl}
use Rattle.std.proofs.lemmas.List.Sorted.{sum_by_pushed, sum_by_popped}
use Rattle.std.specs.BinaryHeap.{heap_items}
use Rattle.std.specs.declared.cmp.Reverse.{Reverse}
use Rattle.ofit_loss.specs.declared.entry.Entry.{Entry}
use Rattle.ofit_loss.proofs.Heaps.{apart_raised}
use Rattle.ofit_loss.proofs.quantile.QuantilePool.raise.Goals as goal

pub returns-clause-split : goal.returns-clause-split
returns-clause-split c = record {
  low_order = (c.in-Some.ensures.heap_order c.requires.split.low_order).0;
  high_order = c.in_ok-push.ensures.heap_order c.requires.split.high_order;
  apart = apart_raised (heap_items c.args.self.now.low) (heap_items c.pop.new.self) (heap_items c.args.self.now.high) (heap_items c.push.new.self) c.in-Some.top (record { 0 = c.in-Some.top }) c.requires.split.apart
      (c.in-Some.ensures.heap_order c.requires.split.low_order).1 c.in-Some.ensures.permutation refl c.in_ok-push.ensures.permutation;
  low_weight = omega (
    arith,
    c.requires.split.low_weight,
    sum_by_popped (λ (e : Entry). e.weight) c.in-Some.top (heap_items c.args.self.now.low) (heap_items c.pop.new.self) c.in-Some.ensures.permutation,
  );
  weight = omega (
    arith,
    c.requires.split.weight,
    sum_by_popped (λ (e : Entry). e.weight) c.in-Some.top (heap_items c.args.self.now.low) (heap_items c.pop.new.self) c.in-Some.ensures.permutation,
    sum_by_pushed (λ (r : Reverse Entry). r.0.weight) (record { 0 = c.in-Some.top }) (heap_items c.args.self.now.high) (heap_items c.push.new.self) c.in_ok-push.ensures.permutation,
  );
}

pub returns-clause-rows : goal.returns-clause-rows
returns-clause-rows c = λ f. omega (
  arith,
  sum_by_popped f c.in-Some.top (heap_items c.args.self.now.low) (heap_items c.pop.new.self) c.in-Some.ensures.permutation,
  sum_by_pushed (λ (r : Reverse Entry). f r.0) (record { 0 = c.in-Some.top }) (heap_items c.args.self.now.high) (heap_items c.push.new.self) c.in_ok-push.ensures.permutation,
)
