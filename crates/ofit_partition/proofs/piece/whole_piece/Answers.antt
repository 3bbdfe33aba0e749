use Rattle.std.proofs.Common.{◌≡◌, refl, arith, IfOk}
use Rattle.std.proofs.lemmas.Iterator.{items_from_collect, YieldsList-from_range}
use Rattle.std.specs.List.{range_with_len}
use Rattle.ofit_partition.proofs.piece.whole_piece.Goals as goal

pub returns-clause-places : goal.returns-clause-places
returns-clause-places c =
    let h : IfOk c.collect.result (λ w. w.items ≡ range_with_len 0 c.args.count) = items_from_collect _ c.collect.ensures.ran (YieldsList-from_range 0 c.args.count c.args.count refl (omega arith)) in
    rw c.in_ok-places.was at h
