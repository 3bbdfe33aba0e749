use Rattle.ofit_partition.specs.Piece.{partition_problem}
use Rattle.ofit_partition.proofs.Works.{take_last}
use Rattle.ofit_partition.proofs.work.settled_values.Goals as goal

pub take_up-requires-clause-work : goal.take_up-requires-clause-work
take_up-requires-clause-work g c = take_last g.L.Loss.meaning (partition_problem c.args.ordered.groups.now c.args.ordered.pairs.now) g.L.Loss.STRICT c.pop.new.self.items c.in-Some.piece c.loop-piece.work.values.items c.loop-piece.work.pieces.items c.in-Some.ensures.items c.loop-piece.invariant.0
