use Rattle.std.proofs.Common.{ap, ◌∙◌, not, ◌&&◌}
use Rattle.std.proofs.lemmas.List.{take_all}
use Rattle.std.specs.List.{filter}
use Rattle.ofit_partition.specs.Piece.{is_marked}
use Rattle.ofit_partition.proofs.piece.split_pairs.Goals as goal

pub returns-clause-chosen : goal.returns-clause-chosen
returns-clause-chosen c = c.loop-pair.invariant.0 ∙ ap (filter (λ e. is_marked c.args.positions.now c.args.set.now e.0 && is_marked c.args.positions.now c.args.set.now e.1))
    (take_all c.loop-pair.pair-index c.args.pairs.now c.loop-pair-test.false)

pub returns-clause-rest : goal.returns-clause-rest
returns-clause-rest c = c.loop-pair.invariant.1 ∙ ap (filter (λ e. not (is_marked c.args.positions.now c.args.set.now e.0) && not (is_marked c.args.positions.now c.args.set.now e.1)))
    (take_all c.loop-pair.pair-index c.args.pairs.now c.loop-pair-test.false)
