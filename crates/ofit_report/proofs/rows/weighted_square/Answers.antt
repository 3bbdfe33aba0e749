use Rattle.std.proofs.Common.{◌≡◌, ◌^◌, refl, arith, pos, ◌*ℤ◌, to_z, of_z}
use Rattle.std.proofs.lemmas.Int.{ints}
use Rattle.std.specs.Int.{w128}
use Rattle.ofit_report.proofs.Products.{times_is, read_as, weighted_fits, weighted_size}
use Rattle.ofit_report.proofs.rows.weighted_square.Goals as goal

pub returns-clause-exact : goal.returns-clause-exact
returns-clause-exact c =
    let row = c.args.row.now in
    let square = to_z w128 (of_z w128 c.square.result) in
    let read : to_z w128 (of_z w128 c.from.result) ≡ row.value = omega (arith, ints, c.from.ensures) in
    let squared : c.square.result ≡ row.value *ℤ row.value = times_is _ (to_z w128 (of_z w128 c.from.result)) (to_z w128 (of_z w128 c.from.result)) row.value row.value c.square.ensures.exact read read in
    read_as c.weighted.result ((row.value *ℤ row.value) *ℤ pos row.weight)
    (weighted_fits square c.weighted.result row.weight (10 ^ 18) (omega (arith, ints, c.square.ensures.size)) c.requires.weight (omega arith) c.weighted.ensures.size)
    (times_is c.weighted.result square (pos row.weight) (row.value *ℤ row.value) (pos row.weight) c.weighted.ensures.exact (read_as c.square.result _ (omega (arith, c.square.ensures.size)) squared) refl)

pub returns-clause-size : goal.returns-clause-size
returns-clause-size c =
    weighted_size (to_z w128 (of_z w128 c.square.result)) c.weighted.result c.args.row.now.weight (10 ^ 18)
    (omega (arith, ints, c.square.ensures.size)) c.requires.weight (omega arith) c.weighted.ensures.size
