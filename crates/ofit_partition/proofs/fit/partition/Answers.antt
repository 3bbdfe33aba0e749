use Rattle.std.proofs.Common.{◌≡◌, sym, subst}
use Rattle.std.specs.Prelude.{All, None}
use Rattle.ofit_partition.specs.Piece.{partition_problem}
use Rattle.ofit_partition.proofs.Works.{none_missing}
use Rattle.ofit_partition.proofs.Ending.{fit_least_best, fit_settled, fit_least_settled}
use Rattle.ofit_partition.proofs.fit.partition.Goals as goal

pub values_of-requires : goal.values_of-requires
values_of-requires g c = subst (All (λ v. v ≡ None → ⊥)) (sym c.deref.ensures.value)
    (none_missing g.L.Loss.meaning (partition_problem c.args.groups.now c.args.pairs.now) g.L.Loss.STRICT c.requires.places c.in_ok-settled.settled.items c.in_ok-settled.ensures)

pub returns-clause-least_best : goal.returns-clause-least_best
returns-clause-least_best g c = fit_least_best g.L.Loss.meaning g.L.Loss.STRICT g.met.L.Loss.laws c.args.groups.now c.args.pairs.now c.requires.fittable c.requires.places c.in_ok-settled.settled.items c.in_ok-settled.ensures c.values_of.result
    c.deref.result.now c.deref.ensures.value c.values_of.ensures

pub returns-clause-settled : goal.returns-clause-settled
returns-clause-settled g c = fit_settled g.L.Loss.meaning g.L.Loss.STRICT g.met.L.Loss.laws c.args.groups.now c.args.pairs.now c.requires.fittable c.requires.places c.in_ok-settled.settled.items c.in_ok-settled.ensures c.values_of.result
    c.deref.result.now c.deref.ensures.value c.values_of.ensures

pub returns-clause-least_settled : goal.returns-clause-least_settled
returns-clause-least_settled g c = fit_least_settled g.L.Loss.meaning g.L.Loss.STRICT g.met.L.Loss.laws c.args.groups.now c.args.pairs.now c.requires.fittable c.requires.places c.in_ok-settled.settled.items c.in_ok-settled.ensures c.values_of.result
    c.deref.result.now c.deref.ensures.value c.values_of.ensures
