use Rattle.std.proofs.Common.{◌∙◌, ◌∷◌, ◌++◌, [], length, sym, ap, arith}
use Rattle.std.proofs.lemmas.List.{take_all, length-take}
use Rattle.ofit_num.specs.Groups.{RowLists}
use Rattle.ofit_study.specs.Study.{groups_of}
use Rattle.ofit_study.proofs.Places.{group_count}
use Rattle.ofit_chain.proofs.Stacks.{take_next}
use Rattle.ofit_sides.proofs.groups.groups_in_order.Goals as goal

pub add-requires : goal.add-requires
add-requires c = omega (arith, ap (λ (gs : RowLists). length gs) c.loop-place.invariant, length-take c.loop-place.place (groups_of c.args.study.now), group_count c.args.study.now, c.group_count-place-end.ensures.valid.groups, c.loop-place-test.true)

pub loop-place-preserved : goal.loop-place-preserved
loop-place-preserved c =
    c.in_ok-add.ensures.ok ∙ ap (λ (gs : RowLists). gs ++ c.rows_of.result.now ∷ []) c.loop-place.invariant ∙ sym (take_next (groups_of c.args.study.now) c.loop-place.place c.rows_of.result.now c.rows_of.ensures)

pub returns : goal.returns
returns c = c.loop-place.invariant ∙ take_all c.loop-place.place (groups_of c.args.study.now) (omega (arith, group_count c.args.study.now, c.loop-place-test.false))
