use Rattle.std.proofs.Common.{rules}
use Rattle.std.proofs.lemmas.Fn.{always_returns_same}
use Rattle.std.proofs.lemmas.List.Sorted.{searchable_from_sorted}
use Rattle.ofit_study.specs.PairOrder.{pair_order}
use Rattle.ofit_study.proofs.PairLists.{pair_order_total, sorted, sought_nowhere, sought_here}
use Rattle.ofit_study.proofs.pairs.index_of.Goals as goal

pub returns-in-Ok : goal.returns-in-Ok
returns-in-Ok c =
    let names = c.args.names.now in
    let found = c.in-Ok.ensures.position (λ e. pair_order names e c.args.sought) (always_returns_same _ _ _ (λ a r q k. search rules)) in
    sought_here names c.args.pairs.now c.requires.in_order c.args.sought c.in-Ok.index c.in-Ok.ensures.bound (found c.args.sought)

pub returns-in-Err : goal.returns-in-Err
returns-in-Err c =
    let names = c.args.names.now in
    let found = c.in-Err.ensures.position (λ e. pair_order names e c.args.sought) (always_returns_same _ _ _ (λ a r q k. search rules)) in
    sought_nowhere names c.args.pairs.now c.requires.in_order c.args.sought c.in-Err.field-0 (found (searchable_from_sorted (pair_order_total names) (λ e. e) c.args.pairs.now c.args.sought (sorted names c.args.pairs.now c.requires.in_order)))
