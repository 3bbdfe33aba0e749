use Rattle.std.proofs.Common.{arith}
use Rattle.std.proofs.lemmas.List.Sorted.{sum_by_pushed, sum_by_popped}
use Rattle.std.specs.BinaryHeap.{heap_items}
use Rattle.std.specs.declared.cmp.Reverse.{Reverse}
use Rattle.ofit_loss.specs.declared.entry.Entry.{Entry}
use Rattle.ofit_loss.proofs.Heaps.{apart_lowered, under_lowered, low_at_most}
use Rattle.ofit_loss.proofs.quantile.QuantilePool.lower.Goals as goal

pub returns-clause-split : goal.returns-clause-split
returns-clause-split c = record {
  low_order = c.in_ok-push.ensures.heap_order c.requires.split.low_order;
  high_order = (c.in-Some.ensures.heap_order c.requires.split.high_order).0;
  apart = apart_lowered (heap_items c.args.self.now.low) (heap_items c.push.new.self) (heap_items c.args.self.now.high) (heap_items c.pop.new.self) c.in-Some.least c.requires.split.apart
      (c.in-Some.ensures.heap_order c.requires.split.high_order).1 c.in-Some.ensures.permutation c.in_ok-push.ensures.permutation;
  low_weight = omega (
    arith,
    c.requires.split.low_weight,
    sum_by_pushed (λ (e : Entry). e.weight) c.in-Some.least.0 (heap_items c.args.self.now.low) (heap_items c.push.new.self) c.in_ok-push.ensures.permutation,
  );
  weight = omega (
    arith,
    c.requires.split.weight,
    sum_by_pushed (λ (e : Entry). e.weight) c.in-Some.least.0 (heap_items c.args.self.now.low) (heap_items c.push.new.self) c.in_ok-push.ensures.permutation,
    sum_by_popped (λ (r : Reverse Entry). r.0.weight) c.in-Some.least (heap_items c.args.self.now.high) (heap_items c.pop.new.self) c.in-Some.ensures.permutation,
  );
}

pub returns-clause-rows : goal.returns-clause-rows
returns-clause-rows c = λ f. omega (
  arith,
  sum_by_pushed f c.in-Some.least.0 (heap_items c.args.self.now.low) (heap_items c.push.new.self) c.in_ok-push.ensures.permutation,
  sum_by_popped (λ (r : Reverse Entry). f r.0) c.in-Some.least (heap_items c.args.self.now.high) (heap_items c.pop.new.self) c.in-Some.ensures.permutation,
)

pub returns-clause-below : goal.returns-clause-below
returns-clause-below c = λ k d l. omega (
  arith,
  under_lowered (heap_items c.args.self.now.low) (heap_items c.push.new.self) c.in-Some.least.0
      (low_at_most (heap_items c.args.self.now.low) (heap_items c.args.self.now.high) (heap_items c.pop.new.self) c.in-Some.least c.requires.split.apart c.in-Some.ensures.permutation)
      c.in_ok-push.ensures.permutation k d l,
  c.requires.split.low_weight,
)
