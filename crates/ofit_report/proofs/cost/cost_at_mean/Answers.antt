use Rattle.std.proofs.Common.{◌≡◌, ◌≤◌, ◌^◌, arith, to_z, of_z}
use Rattle.std.proofs.lemmas.Int.{ints}
use Rattle.std.specs.Int.{w128}
use Rattle.std.specs.Prelude.{pos, ◌*ℤ◌, ◌-ℤ◌, unsigned_abs}
use Rattle.ofit_num.proofs.Gap.{square-nonneg}
use Rattle.ofit_report.proofs.Products.{times_is, reduces_as, at_most}
use Rattle.ofit_report.proofs.cost.cost_at_mean.Goals as goal

pub product-whole-requires : goal.product-whole-requires
product-whole-requires c =
    let squares : unsigned_abs (to_z w128 (of_z w128 c.args.all.squares)) ≤ 10 ^ 28 = omega (arith, ints, c.requires.most_squares) in
    let weight : unsigned_abs (to_z w128 (of_z w128 c.from-weight.result)) ≤ 10 ^ 10 = omega (arith, ints, c.from-weight.ensures, c.requires.most_weight) in
    at_most (unsigned_abs (to_z w128 (of_z w128 c.args.all.squares))) (unsigned_abs (to_z w128 (of_z w128 c.from-weight.result))) (10 ^ 28) (10 ^ 10) (10 ^ 38) squares weight (omega arith)

pub product-part-requires : goal.product-part-requires
product-part-requires c =
    let sum : unsigned_abs (to_z w128 (of_z w128 c.args.all.sum)) ≤ 10 ^ 19 = omega (arith, ints, c.requires.most_sum) in
    at_most (unsigned_abs (to_z w128 (of_z w128 c.args.all.sum))) (unsigned_abs (to_z w128 (of_z w128 c.args.all.sum))) (10 ^ 19) (10 ^ 19) (10 ^ 38) sum sum (omega arith)

pub overflow_sub-whole : goal.overflow_sub-whole
overflow_sub-whole c =
    let all = c.args.all in
    let weight = to_z w128 (of_z w128 c.from-weight.result) in
    let whole : c.product-whole.result ≡ all.squares *ℤ pos all.weight = times_is _ (to_z w128 (of_z w128 all.squares)) weight all.squares (pos all.weight) c.product-whole.ensures.exact (omega (arith, ints)) (omega (arith, ints, c.from-weight.ensures)) in
    let part : c.product-part.result ≡ all.sum *ℤ all.sum = times_is _ (to_z w128 (of_z w128 all.sum)) (to_z w128 (of_z w128 all.sum)) all.sum all.sum c.product-part.ensures.exact (omega (arith, ints)) (omega (arith, ints)) in
    omega (arith, ints, whole, part, c.requires.spread, square-nonneg all.sum, c.product-whole.ensures.most)

pub lowest-requires-clause-num : goal.lowest-requires-clause-num
lowest-requires-clause-num c =
    let all = c.args.all in
    let weight = to_z w128 (of_z w128 c.from-weight.result) in
    let whole : c.product-whole.result ≡ all.squares *ℤ pos all.weight = times_is _ (to_z w128 (of_z w128 all.squares)) weight all.squares (pos all.weight) c.product-whole.ensures.exact (omega (arith, ints)) (omega (arith, ints, c.from-weight.ensures)) in
    let part : c.product-part.result ≡ all.sum *ℤ all.sum = times_is _ (to_z w128 (of_z w128 all.sum)) (to_z w128 (of_z w128 all.sum)) all.sum all.sum c.product-part.ensures.exact (omega (arith, ints)) (omega (arith, ints)) in
    omega (arith, ints, whole, part, c.requires.spread, square-nonneg all.sum, c.product-whole.ensures.most)

pub returns-clause-reduced : goal.returns-clause-reduced
returns-clause-reduced c =
    let all = c.args.all in
    let weight = to_z w128 (of_z w128 c.from-weight.result) in
    let whole : c.product-whole.result ≡ all.squares *ℤ pos all.weight = times_is _ (to_z w128 (of_z w128 all.squares)) weight all.squares (pos all.weight) c.product-whole.ensures.exact (omega (arith, ints)) (omega (arith, ints, c.from-weight.ensures)) in
    let part : c.product-part.result ≡ all.sum *ℤ all.sum = times_is _ (to_z w128 (of_z w128 all.sum)) (to_z w128 (of_z w128 all.sum)) all.sum all.sum c.product-part.ensures.exact (omega (arith, ints)) (omega (arith, ints)) in
    reduces_as (to_z w128 (of_z w128 (to_z w128 (of_z w128 c.product-whole.result) -ℤ to_z w128 (of_z w128 c.product-part.result)))) weight (all.squares *ℤ pos all.weight -ℤ all.sum *ℤ all.sum) (pos all.weight) _ c.lowest.ensures.reduced
    (omega (arith, ints, whole, part, c.requires.spread, square-nonneg all.sum, c.product-whole.ensures.most)) (omega (arith, ints, c.from-weight.ensures))
