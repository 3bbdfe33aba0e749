use Rattle.std.proofs.Common.{◌≡◌, take}
use Rattle.std.specs.List.{flat_map}
use Rattle.ofit_partition.specs.Piece.{rows_of}
use Rattle.ofit_partition.proofs.pool.rows_at.Given as goal

abbrev pub invariant-loop-place : goal.invariant-loop-place
invariant-loop-place l = l.rows.items ≡ flat_map (rows_of l.groups) (take l.place-index l.places)
