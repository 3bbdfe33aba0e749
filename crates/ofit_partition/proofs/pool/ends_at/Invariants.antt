use Rattle.std.proofs.Common.{◌≡◌, map, take}
use Rattle.ofit_partition.specs.Piece.{rows_of}
use Rattle.ofit_partition.proofs.pool.ends_at.Given as goal

abbrev pub invariant-loop-place : goal.invariant-loop-place
invariant-loop-place g l = (l.least.items ≡ map (λ x. g.L.Loss.meaning.least (rows_of l.groups x) l.value.num l.value.den) (take l.place-index l.places))
    × (l.greatest.items ≡ map (λ x. g.L.Loss.meaning.greatest (rows_of l.groups x) l.value.num l.value.den) (take l.place-index l.places))
