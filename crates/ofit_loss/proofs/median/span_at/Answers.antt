use Rattle.std.proofs.Common.{arith, ap, get_or, unsigned_abs, ◌≡◌, to_z, of_z}
use Rattle.std.proofs.lemmas.Int.{ints}
use Rattle.std.specs.Int.{w128}
use Rattle.ofit_num.specs.Loss.{residual, absolute_least, absolute_greatest}
use Rattle.ofit_loss.proofs.AbsoluteEnds.{once, least_size, greatest_size}
use Rattle.ofit_loss.proofs.MedianSpan.{no_row, least_more, greatest_more, least_upto, greatest_upto, row_weight}
use Rattle.ofit_loss.proofs.median.span_at.Goals as goal

pub plus-least-requires-clause-left : goal.plus-least-requires-clause-left
plus-least-requires-clause-left c =
    omega (arith, ints, ap unsigned_abs c.loop-row.invariant.least, least_upto c.args.rows.now c.args.at.now.num c.args.at.now.den c.loop-row.row-index, c.requires.together)

pub plus-least-requires-clause-right : goal.plus-least-requires-clause-right
plus-least-requires-clause-right c = omega (
  arith,
  ints,
  ap unsigned_abs c.ends-row_least.ensures.least,
  least_size (get_or c.args.rows.now c.loop-row.row-index no_row).weight (to_z w128 (of_z w128 c.residual_at.result)),
  row_weight c.args.rows.now c.loop-row.row-index c.loop-row-test.true,
  c.requires.together,
)

pub plus-greatest-requires-clause-left : goal.plus-greatest-requires-clause-left
plus-greatest-requires-clause-left c =
    omega (arith, ints, ap unsigned_abs c.loop-row.invariant.greatest, greatest_upto c.args.rows.now c.args.at.now.num c.args.at.now.den c.loop-row.row-index, c.requires.together)

pub plus-greatest-requires-clause-right : goal.plus-greatest-requires-clause-right
plus-greatest-requires-clause-right c = omega (
  arith,
  ints,
  ap unsigned_abs c.ends-row_least.ensures.greatest,
  greatest_size (get_or c.args.rows.now c.loop-row.row-index no_row).weight (to_z w128 (of_z w128 c.residual_at.result)),
  row_weight c.args.rows.now c.loop-row.row-index c.loop-row-test.true,
  c.requires.together,
)

pub loop-row-preserved : goal.loop-row-preserved
loop-row-preserved c =
    let exact : to_z w128 (of_z w128 c.residual_at.result) ≡ residual (get_or c.args.rows.now c.loop-row.row-index no_row) c.args.at.now.num c.args.at.now.den = omega (arith, ints, c.residual_at.ensures) in
    record {
      least = omega (
        arith,
        ints,
        c.plus-least.ensures.exact,
        c.ends-row_least.ensures.least,
        c.loop-row.invariant.least,
        ap (absolute_least once (get_or c.args.rows.now c.loop-row.row-index no_row).weight) exact,
        least_more c.args.rows.now c.args.at.now.num c.args.at.now.den c.loop-row.row-index c.loop-row-test.true,
      );
      greatest = omega (
        arith,
        ints,
        c.plus-greatest.ensures.exact,
        c.ends-row_least.ensures.greatest,
        c.loop-row.invariant.greatest,
        ap (absolute_greatest once (get_or c.args.rows.now c.loop-row.row-index no_row).weight) exact,
        greatest_more c.args.rows.now c.args.at.now.num c.args.at.now.den c.loop-row.row-index c.loop-row-test.true,
      );
    }
