use Rattle.std.proofs.Common.{◌≡◌, length}
use Rattle.ofit_partition.specs.Piece.{partition_problem}
use Rattle.ofit_partition.specs.Work.{IsWork, steps_left}
use Rattle.ofit_partition.proofs.work.settled_values.Given as goal

abbrev pub invariant-loop-piece : goal.invariant-loop-piece
invariant-loop-piece g l = IsWork g.L.Loss.meaning (partition_problem l.ordered.groups.now l.ordered.pairs.now) g.L.Loss.STRICT l.work.pieces.items l.work.values.items × (length l.work.positions.items ≡ length l.ordered.groups.now)

abbrev pub decreases-loop-piece : goal.decreases-loop-piece
decreases-loop-piece g l = steps_left l.work.pieces.items
