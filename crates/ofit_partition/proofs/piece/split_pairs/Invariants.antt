use Rattle.std.proofs.Common.{◌≡◌, not, ◌&&◌, take}
use Rattle.std.specs.List.{filter}
use Rattle.ofit_partition.specs.Piece.{is_marked}
use Rattle.ofit_partition.proofs.piece.split_pairs.Given as goal

abbrev pub invariant-loop-pair : goal.invariant-loop-pair
invariant-loop-pair l = (l.chosen.items ≡ filter (λ e. is_marked l.positions l.set e.0 && is_marked l.positions l.set e.1) (take l.pair-index l.pairs))
    × (l.rest.items ≡ filter (λ e. not (is_marked l.positions l.set e.0) && not (is_marked l.positions l.set e.1)) (take l.pair-index l.pairs))
