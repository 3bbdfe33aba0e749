use Rattle.std.proofs.Common.{◌≡◌, map, slice_index, take}
use Rattle.ofit_partition.proofs.upper.turned_pairs.Given as goal

abbrev pub invariant-loop-pair : goal.invariant-loop-pair
invariant-loop-pair l = l.round.items ≡ map (λ e. (slice_index l.positions e.1, slice_index l.positions e.0)) (take l.pair-index l.pairs)
