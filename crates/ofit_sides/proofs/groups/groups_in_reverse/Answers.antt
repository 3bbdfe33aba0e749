use Rattle.std.proofs.Common.{◌≡◌, ◌-◌, ◌∙◌, ℕ, ◌∷◌, ◌++◌, [], length, sym, ap, arith}
use Rattle.std.proofs.lemmas.List.{take_all, length-take, length-reverse}
use Rattle.std.specs.Prelude.{reverse, slice_get, Some}
use Rattle.ofit_num.specs.Groups.{RowLists}
use Rattle.ofit_study.specs.Study.{groups_of}
use Rattle.ofit_study.proofs.Places.{group_count}
use Rattle.ofit_chain.proofs.Stacks.{take_next}
use Rattle.ofit_sides.proofs.FirstRows.{reversed_get}
use Rattle.ofit_sides.proofs.groups.groups_in_reverse.Goals as goal

pub add-requires : goal.add-requires
add-requires c = omega (
  arith,
  ap (λ (gs : RowLists). length gs) c.loop-place.invariant,
  length-take c.loop-place.place (reverse (groups_of c.args.study.now)),
  length-reverse (groups_of c.args.study.now),
  group_count c.args.study.now,
  c.group_count-count.ensures.valid.groups,
  c.loop-place-test.true,
)

pub loop-place-preserved : goal.loop-place-preserved
loop-place-preserved c =
    let groups = groups_of c.args.study.now in
    let k = c.loop-place.place in
    let count : length groups ≡ c.group_count-count.result = omega (arith, group_count c.args.study.now, c.group_count-count.ensures.count) in
    let index : c.group_count-count.result - 1 - k ≡ length groups - 1 - k = ap (λ (n : ℕ). n - 1 - k) (sym count) in
    let at : slice_get (reverse groups) k ≡ Some c.rows_of.result.now = reversed_get groups k c.rows_of.result.now (omega (arith, count, c.loop-place-test.true)) (ap (slice_get groups) (sym index) ∙ c.rows_of.ensures) in
    c.in_ok-add.ensures.ok ∙ ap (λ (gs : RowLists). gs ++ c.rows_of.result.now ∷ []) c.loop-place.invariant ∙ sym (take_next (reverse groups) k c.rows_of.result.now at)

pub returns : goal.returns
returns c = c.loop-place.invariant ∙ take_all c.loop-place.place (reverse (groups_of c.args.study.now)) (omega (arith, length-reverse (groups_of c.args.study.now), group_count c.args.study.now, c.loop-place-test.false))
