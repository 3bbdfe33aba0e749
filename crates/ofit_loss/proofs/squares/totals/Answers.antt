use Rattle.std.proofs.Common.{arith, pos, ◌*ℤ◌}
use Rattle.std.proofs.lemmas.Int.{ints}
use Rattle.std.proofs.lemmas.Grind.{common_steps}
use Rattle.ofit_num.specs.declared.row.Row.{Row}
use Rattle.ofit_loss.proofs.Sizes.{int_row_sum-take_more}
use Rattle.ofit_loss.proofs.squares.totals.Goals as goal

pub loop-row-preserved : goal.loop-row-preserved
loop-row-preserved c = record {
  sum = omega (
    arith,
    ints,
    c.plus-sum.ensures.exact,
    c.weighted.ensures.exact,
    c.loop-row.invariant.sum,
    int_row_sum-take_more (λ (r : Row). r.value *ℤ pos r.weight) c.args.rows.now c.loop-row.row-index (record { number = 0; value = pos 0; weight = 0 }) c.loop-row-test.true,
  );
  weight = grind (arith, common_steps);
  within = grind (arith, common_steps);
  size = grind (arith, common_steps);
}
