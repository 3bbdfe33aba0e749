use Rattle.std.proofs.Common.{arith, pos, ◌*ℤ◌}
use Rattle.std.proofs.lemmas.Int.{ints}
use Rattle.std.proofs.lemmas.Grind.{common_steps}
use Rattle.ofit_num.specs.declared.row.Row.{Row}
use Rattle.ofit_loss.proofs.Sizes.{int_row_sum-take_more}
use Rattle.ofit_report.proofs.rows.sums_of.Goals as goal

pub loop-row-preserved : goal.loop-row-preserved
loop-row-preserved c = record {
  weight = grind (arith, common_steps);
  sum = omega (
    arith,
    ints,
    c.plus-sum.ensures.exact,
    c.weighted_value.ensures.exact,
    c.loop-row.invariant.sum,
    int_row_sum-take_more (λ (r : Row). r.value *ℤ pos r.weight) c.args.rows.now c.loop-row.row-index (record { number = 0; value = pos 0; weight = 0 }) c.loop-row-test.true,
  );
  squares = omega (
    arith,
    ints,
    c.plus-squares.ensures.exact,
    c.weighted_square.ensures.exact,
    c.loop-row.invariant.squares,
    int_row_sum-take_more (λ (r : Row). (r.value *ℤ r.value) *ℤ pos r.weight) c.args.rows.now c.loop-row.row-index (record { number = 0; value = pos 0; weight = 0 }) c.loop-row-test.true,
  );
  most_weight = grind (arith, common_steps);
  most_sum = grind (arith, common_steps);
  most_squares = grind (arith, common_steps);
}
