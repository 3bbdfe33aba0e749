use Rattle.std.proofs.Common.{◌^◌, refl, arith, pos, ◌*ℤ◌, to_z, of_z}
use Rattle.std.proofs.lemmas.Int.{ints}
use Rattle.std.specs.Int.{w128}
use Rattle.ofit_report.proofs.Products.{times_is, read_as, weighted_fits, weighted_size}
use Rattle.ofit_report.proofs.rows.weighted_value.Goals as goal

pub returns-clause-exact : goal.returns-clause-exact
returns-clause-exact c =
    let row = c.args.row.now in
    let value = to_z w128 (of_z w128 c.from.result) in
    read_as c.weighted.result (row.value *ℤ pos row.weight)
    (weighted_fits value c.weighted.result row.weight (10 ^ 9) (omega (arith, ints, c.from.ensures, c.requires.value)) c.requires.weight (omega arith) c.weighted.ensures.size)
    (times_is c.weighted.result value (pos row.weight) row.value (pos row.weight) c.weighted.ensures.exact (omega (arith, ints, c.from.ensures)) refl)

pub returns-clause-size : goal.returns-clause-size
returns-clause-size c =
    weighted_size (to_z w128 (of_z w128 c.from.result)) c.weighted.result c.args.row.now.weight (10 ^ 9)
    (omega (arith, ints, c.from.ensures, c.requires.value)) c.requires.weight (omega arith) c.weighted.ensures.size
