use Rattle.std.proofs.Common.{◌≡◌, refl, sym, subst, arith, to_z, of_z}
use Rattle.std.proofs.lemmas.Int.{ints}
use Rattle.std.specs.Int.{w128}
use Rattle.std.specs.Prelude.{ℤ, pos, ◌≤ℤ◌, ◌*ℤ◌, ◌+ℤ◌, ◌-ℤ◌}
use Rattle.ofit_report.proofs.Products.{times_is, reduces_as, gathered, read_as, plus_is, minus_is}
use Rattle.ofit_report.proofs.cost.cost_at_whole.Goals as goal

pub lowest-requires-clause-num : goal.lowest-requires-clause-num
lowest-requires-clause-num c =
    let value = c.args.value in
    let all = c.args.all in
    let v = to_z w128 (of_z w128 value) in
    let cross : c.term-cross.result ≡ value *ℤ all.sum = times_is _ v (to_z w128 (of_z w128 all.sum)) value all.sum c.term-cross.ensures.exact (omega (arith, ints)) (omega (arith, ints)) in
    let squared : c.square.result ≡ value *ℤ value = times_is _ v v value value c.square.ensures.exact (omega (arith, ints)) (omega (arith, ints)) in
    let last : c.term-last.result ≡ (value *ℤ value) *ℤ pos all.weight =
    times_is _ (to_z w128 (of_z w128 c.square.result)) (to_z w128 (of_z w128 c.from.result)) (value *ℤ value) (pos all.weight) c.term-last.ensures.exact (omega (arith, ints, squared)) (omega (arith, ints, c.from.ensures)) in
    let first : c.minus.result ≡ all.squares -ℤ value *ℤ all.sum = minus_is _ (to_z w128 (of_z w128 all.squares)) _ all.squares (value *ℤ all.sum) c.minus.ensures.exact (omega (arith, ints)) (read_as c.term-cross.result _ (omega (arith, c.term-cross.ensures.size)) cross) in
    let second : c.minus-2.result ≡ c.minus.result -ℤ value *ℤ all.sum = minus_is _ _ _ c.minus.result (value *ℤ all.sum) c.minus-2.ensures.exact (read_as c.minus.result _ (omega (arith, c.minus.ensures.most)) refl) (read_as c.term-cross.result _ (omega (arith, c.term-cross.ensures.size)) cross) in
    let third : c.plus.result ≡ c.minus-2.result +ℤ (value *ℤ value) *ℤ pos all.weight = plus_is _ _ _ c.minus-2.result ((value *ℤ value) *ℤ pos all.weight) c.plus.ensures.exact (read_as c.minus-2.result _ (omega (arith, c.minus-2.ensures.most)) refl) (read_as c.term-last.result _ (omega (arith, c.term-last.ensures.size)) last) in
    let whole : c.plus.result ≡ (all.squares -ℤ pos 2 *ℤ (value *ℤ all.sum)) +ℤ (value *ℤ value) *ℤ pos all.weight =
    gathered all.squares (value *ℤ all.sum) ((value *ℤ value) *ℤ pos all.weight) c.minus.result c.minus-2.result c.plus.result first second third in
    subst (λ (z : ℤ). pos 0 ≤ℤ z) (sym (read_as c.plus.result _ (omega (arith, c.plus.ensures.most)) whole)) c.requires.cost

pub returns-clause-reduced : goal.returns-clause-reduced
returns-clause-reduced c =
    let value = c.args.value in
    let all = c.args.all in
    let v = to_z w128 (of_z w128 value) in
    let cross : c.term-cross.result ≡ value *ℤ all.sum = times_is _ v (to_z w128 (of_z w128 all.sum)) value all.sum c.term-cross.ensures.exact (omega (arith, ints)) (omega (arith, ints)) in
    let squared : c.square.result ≡ value *ℤ value = times_is _ v v value value c.square.ensures.exact (omega (arith, ints)) (omega (arith, ints)) in
    let last : c.term-last.result ≡ (value *ℤ value) *ℤ pos all.weight =
    times_is _ (to_z w128 (of_z w128 c.square.result)) (to_z w128 (of_z w128 c.from.result)) (value *ℤ value) (pos all.weight) c.term-last.ensures.exact (omega (arith, ints, squared)) (omega (arith, ints, c.from.ensures)) in
    let first : c.minus.result ≡ all.squares -ℤ value *ℤ all.sum = minus_is _ (to_z w128 (of_z w128 all.squares)) _ all.squares (value *ℤ all.sum) c.minus.ensures.exact (omega (arith, ints)) (read_as c.term-cross.result _ (omega (arith, c.term-cross.ensures.size)) cross) in
    let second : c.minus-2.result ≡ c.minus.result -ℤ value *ℤ all.sum = minus_is _ _ _ c.minus.result (value *ℤ all.sum) c.minus-2.ensures.exact (read_as c.minus.result _ (omega (arith, c.minus.ensures.most)) refl) (read_as c.term-cross.result _ (omega (arith, c.term-cross.ensures.size)) cross) in
    let third : c.plus.result ≡ c.minus-2.result +ℤ (value *ℤ value) *ℤ pos all.weight = plus_is _ _ _ c.minus-2.result ((value *ℤ value) *ℤ pos all.weight) c.plus.ensures.exact (read_as c.minus-2.result _ (omega (arith, c.minus-2.ensures.most)) refl) (read_as c.term-last.result _ (omega (arith, c.term-last.ensures.size)) last) in
    let whole : c.plus.result ≡ (all.squares -ℤ pos 2 *ℤ (value *ℤ all.sum)) +ℤ (value *ℤ value) *ℤ pos all.weight =
    gathered all.squares (value *ℤ all.sum) ((value *ℤ value) *ℤ pos all.weight) c.minus.result c.minus-2.result c.plus.result first second third in
    reduces_as (to_z w128 (of_z w128 c.plus.result)) (pos 1) ((all.squares -ℤ pos 2 *ℤ (value *ℤ all.sum)) +ℤ (value *ℤ value) *ℤ pos all.weight) (pos 1) _ c.lowest.ensures.reduced
    (read_as c.plus.result _ (omega (arith, c.plus.ensures.most)) whole) refl
