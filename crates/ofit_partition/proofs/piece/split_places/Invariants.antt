use Rattle.std.proofs.Common.{◌≡◌, not, take}
use Rattle.std.specs.List.{filter}
use Rattle.ofit_partition.specs.Piece.{is_marked}
use Rattle.ofit_partition.proofs.piece.split_places.Given as goal

abbrev pub invariant-loop-place : goal.invariant-loop-place
invariant-loop-place l = (l.chosen.items ≡ filter (is_marked l.positions l.set) (take l.place-index l.places))
    × (l.rest.items ≡ filter (λ g. not (is_marked l.positions l.set g)) (take l.place-index l.places))
