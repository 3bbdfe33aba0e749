use Rattle.std.proofs.Common.{arith, ◌≡◌, ℕ, replicate, sym, ap, subst, ◌∙◌, refl, pos, to_z, of_z}
use Rattle.std.specs.List.{All}
use Rattle.std.specs.Prelude.{◌<ℤ◌}
use Rattle.std.proofs.lemmas.Int.{ints, to_z-of_z}
use mir.Syntax.{w128}
use Rattle.ofit_flow.specs.declared.step.Step.{Step}
use Rattle.ofit_flow.proofs.Augmenting.{rising}
use Rattle.ofit_flow.proofs.Block.{blocking_first, blocking_more, blocking_done, path_rooms, walks_as, is_sent}
use Rattle.ofit_flow.proofs.blocking.block.Goals as goal

pub loop-walk-init : goal.loop-walk-init
loop-walk-init c =
    blocking_first c.restart.new.self.spent.items c.args.flow.now.value c.requires.net c.requires.incidence c.requires.flow c.requires.value c.requires.gained c.requires.searched
    (c.restart.ensures ∙ ap (λ (n : ℕ). replicate n 0) c.requires.spent)

pub find_path-requires-clause-rows : goal.find_path-requires-clause-rows
find_path-requires-clause-rows c = λ node b. c.requires.rows node (omega (arith, c.loop-walk.invariant.can.counted))

pub width_of-by-requires : goal.width_of-by-requires
width_of-by-requires c =
    let w = walks_as c.in_ok-find_path.ensures c.as_slice.ensures.value c.loop-walk.invariant.can.counted c.if-branch.true in
    subst (All (λ (s : Step). pos 0 <ℤ s.room)) (sym c.as_slice-in-loop-walk.ensures.value) (path_rooms (w.leads refl))

pub overflow_add-flow : goal.overflow_add-flow
overflow_add-flow c =
    let w = walks_as c.in_ok-find_path.ensures c.as_slice.ensures.value c.loop-walk.invariant.can.counted c.if-branch.true in
    let by_is : to_z w128 (of_z w128 c.width_of-by.result) ≡ c.width_of-by.result = to_z-of_z w128 c.width_of-by.result (omega (arith, ints)) in
    let s = is_sent c.loop-walk.invariant w c.as_slice-in-loop-walk-2.ensures.value (c.augment.ensures c.find_path.new.levels.items c.args.source c.args.sink c.requires.apart c.loop-walk.invariant.flow) c.requires.apart c.requires.few (omega (arith, ints, by_is, c.width_of-by.ensures.positive)) in
    omega (arith, ints, s.small, by_is, s.kept.value_is, c.loop-walk.invariant.gained)

pub loop-walk-smaller : goal.loop-walk-smaller
loop-walk-smaller c =
    let w = walks_as c.in_ok-find_path.ensures c.as_slice.ensures.value c.loop-walk.invariant.can.counted c.if-branch.true in
    let by_is : to_z w128 (of_z w128 c.width_of-by.result) ≡ c.width_of-by.result = to_z-of_z w128 c.width_of-by.result (omega (arith, ints)) in
    let s = is_sent c.loop-walk.invariant w c.as_slice-in-loop-walk-2.ensures.value (c.augment.ensures c.find_path.new.levels.items c.args.source c.args.sink c.requires.apart c.loop-walk.invariant.flow) c.requires.apart c.requires.few (omega (arith, ints, by_is, c.width_of-by.ensures.positive)) in
    rising c.args.edges.now c.args.source c.args.sink c.loop-walk.flow.amounts.items c.augment.new.amounts.items c.loop-walk.flow.value (to_z w128 (of_z w128 c.width_of-by.result)) _
    c.requires.apart s.sent.flow c.loop-walk.invariant.valued s.sent.value (omega (arith, ints, by_is, c.width_of-by.ensures.positive)) (omega (arith, ints, s.kept.sum_is, by_is))

pub loop-walk-preserved : goal.loop-walk-preserved
loop-walk-preserved c =
    let w = walks_as c.in_ok-find_path.ensures c.as_slice.ensures.value c.loop-walk.invariant.can.counted c.if-branch.true in
    let by_is : to_z w128 (of_z w128 c.width_of-by.result) ≡ c.width_of-by.result = to_z-of_z w128 c.width_of-by.result (omega (arith, ints)) in
    let s = is_sent c.loop-walk.invariant w c.as_slice-in-loop-walk-2.ensures.value (c.augment.ensures c.find_path.new.levels.items c.args.source c.args.sink c.requires.apart c.loop-walk.invariant.flow) c.requires.apart c.requires.few (omega (arith, ints, by_is, c.width_of-by.ensures.positive)) in
    blocking_more _ c.loop-walk.invariant w s.sent (omega (arith, ints, s.kept.sum_is, by_is)) (omega (arith, ints, by_is, c.width_of-by.ensures.positive))

pub returns-clause-further : goal.returns-clause-further
returns-clause-further c =
    let w = walks_as c.in_ok-find_path.ensures c.as_slice.ensures.value c.loop-walk.invariant.can.counted c.if-branch.false in
    blocking_done c.requires.apart c.requires.searched.levelling.started c.loop-walk.invariant w
