use Rattle.std.proofs.Common.{◌≡◌, ◌<◌, slice_index, ℕ}
use Rattle.ofit_partition.proofs.piece.number_places.Given as goal

abbrev pub invariant-loop-position : goal.invariant-loop-position
invariant-loop-position l = (i : ℕ) → i < l.position → slice_index l.positions (slice_index l.places i) ≡ i
