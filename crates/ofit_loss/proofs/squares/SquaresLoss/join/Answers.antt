use Rattle.std.proofs.Common.{arith, ap, pos, ◌*ℤ◌, unsigned_abs}
use Rattle.std.proofs.lemmas.Int.{ints}
use Rattle.std.proofs.lemmas.List.Sums.{sum_by-append}
use Rattle.ofit_num.specs.declared.row.Row.{Row}
use Rattle.ofit_num.proofs.RowSums.{int_row_sum-append}
use Rattle.ofit_num.proofs.RowLists.{within-front, within-back}
use Rattle.ofit_loss.proofs.Sizes.{weighted_limit}
use Rattle.ofit_loss.proofs.squares.SquaresLoss.join.Goals as goal

pub plus-requires-clause-left : goal.plus-requires-clause-left
plus-requires-clause-left c =
    omega (arith, ints, ap unsigned_abs c.requires.left_pooled.0, weighted_limit c.requires.front (within-front c.requires.front c.requires.back c.requires.fittable.limits))

pub plus-requires-clause-right : goal.plus-requires-clause-right
plus-requires-clause-right c =
    omega (arith, ints, ap unsigned_abs c.requires.right_pooled.0, weighted_limit c.requires.back (within-back c.requires.front c.requires.back c.requires.fittable.limits))

pub returns : goal.returns
returns c = λ xs ys left right. (
  omega (arith, ints, c.plus.ensures.exact, left.0, right.0, int_row_sum-append (λ (r : Row). r.value *ℤ pos r.weight) xs ys),
  omega (arith, left.1, right.1, sum_by-append (λ (r : Row). r.weight) xs ys),
)
