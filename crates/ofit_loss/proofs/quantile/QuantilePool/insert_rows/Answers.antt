use Rattle.std.proofs.Common.{◌≡◌, ℤ, arith, ap, get_or, to_z, of_z}
use Rattle.std.proofs.lemmas.Int.{ints}
use Rattle.std.proofs.lemmas.List.Sums.{sum_by_more}
use Rattle.std.specs.Int.{w64}
use Rattle.ofit_num.specs.declared.row.Row.{Row}
use Rattle.ofit_loss.specs.Entry.{entry_of}
use Rattle.ofit_loss.proofs.MedianSpan.{no_row}
use Rattle.ofit_loss.proofs.quantile.QuantilePool.insert_rows.Goals as goal

pub loop-row-preserved : goal.loop-row-preserved
loop-row-preserved c =
    let exact : to_z w64 (of_z w64 (get_or c.args.rows.now c.loop-row.row-index no_row).value) ≡ (get_or c.args.rows.now c.loop-row.row-index no_row).value = omega (arith, ints) in
    record {
      split = c.in_ok-insert.ensures.split;
      same = λ f. omega (
        arith,
        c.in_ok-insert.ensures.rows f,
        c.loop-row.invariant.same f,
        ap (λ (v : ℤ). f (record { value = v; weight = (get_or c.args.rows.now c.loop-row.row-index no_row).weight })) exact,
        sum_by_more (λ (r : Row). f (entry_of r)) c.args.rows.now c.loop-row.row-index no_row c.loop-row-test.true,
      );
    }
