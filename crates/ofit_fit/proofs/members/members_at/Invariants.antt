use Rattle.std.proofs.Common.{◌≡◌, map, take, slice_index}
use Rattle.ofit_fit.proofs.members.members_at.Given as goal

abbrev pub invariant-loop-position : goal.invariant-loop-position
invariant-loop-position l = l.places.items ≡ map (slice_index l.members) (take l.position-index l.positions)
