use Rattle.std.proofs.Common.{arith, refl}
use Rattle.std.proofs.lemmas.List.Sorted.{sum_by_pushed}
use Rattle.std.specs.BinaryHeap.{heap_items}
use Rattle.std.specs.declared.cmp.Reverse.{Reverse}
use Rattle.ofit_loss.specs.declared.entry.Entry.{Entry}
use Rattle.ofit_loss.proofs.Heaps.{apart_low, apart_high}
use Rattle.ofit_loss.proofs.quantile.QuantilePool.insert.Goals as goal

pub returns-in_ok-push-clause-split : goal.returns-in_ok-push-clause-split
returns-in_ok-push-clause-split c = record {
  low_order = c.requires.split.low_order;
  high_order = c.in_ok-push.ensures.heap_order c.requires.split.high_order;
  apart = apart_high (heap_items c.args.self.now.low) (heap_items c.args.self.now.high) (heap_items c.push.new.self) (record { 0 = c.args.entry }) c.requires.split.apart (c.if-is_high.ensures.high refl) c.in_ok-push.ensures.permutation;
  low_weight = c.requires.split.low_weight;
  weight = omega (
    arith,
    c.requires.split.weight,
    sum_by_pushed (λ (r : Reverse Entry). r.0.weight) (record { 0 = c.args.entry }) (heap_items c.args.self.now.high) (heap_items c.push.new.self) c.in_ok-push.ensures.permutation,
  );
}

pub returns-in_ok-push-clause-rows : goal.returns-in_ok-push-clause-rows
returns-in_ok-push-clause-rows c = λ f. omega (
  arith,
  sum_by_pushed (λ (r : Reverse Entry). f r.0) (record { 0 = c.args.entry }) (heap_items c.args.self.now.high) (heap_items c.push.new.self) c.in_ok-push.ensures.permutation,
)

pub returns-in_ok-push-2-clause-split : goal.returns-in_ok-push-2-clause-split
returns-in_ok-push-2-clause-split c = record {
  low_order = c.in_ok-push-2.ensures.heap_order c.requires.split.low_order;
  high_order = c.requires.split.high_order;
  apart = apart_low (heap_items c.args.self.now.low) (heap_items c.push-else-is_high.new.self) (heap_items c.args.self.now.high) c.args.entry c.requires.split.apart (c.if-is_high.ensures.low refl) c.in_ok-push-2.ensures.permutation;
  low_weight = omega (
    arith,
    c.requires.split.low_weight,
    sum_by_pushed (λ (e : Entry). e.weight) c.args.entry (heap_items c.args.self.now.low) (heap_items c.push-else-is_high.new.self) c.in_ok-push-2.ensures.permutation,
  );
  weight = omega (
    arith,
    c.requires.split.weight,
    sum_by_pushed (λ (e : Entry). e.weight) c.args.entry (heap_items c.args.self.now.low) (heap_items c.push-else-is_high.new.self) c.in_ok-push-2.ensures.permutation,
  );
}

pub returns-in_ok-push-2-clause-rows : goal.returns-in_ok-push-2-clause-rows
returns-in_ok-push-2-clause-rows c = λ f. omega (
  arith,
  sum_by_pushed f c.args.entry (heap_items c.args.self.now.low) (heap_items c.push-else-is_high.new.self) c.in_ok-push-2.ensures.permutation,
)
