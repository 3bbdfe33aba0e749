use Rattle.std.proofs.Common.{arith, ◌≡◌, ◌<◌, ◌+◌, ◌++◌, ◌∷◌, [], ℕ, length, sym, ap, subst, ◌∙◌, refl}
use Rattle.std.specs.List.{All}
use Rattle.std.proofs.lemmas.List.{length_push, nil_from_length}
use Rattle.ofit_flow.specs.declared.step.Step.{Step}
use Rattle.ofit_flow.specs.Flow.{edge_at}
use Rattle.ofit_flow.specs.Incidence.{row_at}
use Rattle.ofit_flow.specs.Residual.{Touches}
use Rattle.ofit_flow.specs.Walk.{IsStepUp}
use Rattle.ofit_flow.proofs.Searching.{row_below, row_touches}
use Rattle.ofit_flow.proofs.Walking.{node_in, path_short, walking_advanced, walking_push, walking_pop, walking_ended, fewer}
use Rattle.ofit_flow.proofs.walk.find_path.Goals as goal

pub overflow_cast-above : goal.overflow_cast-above
overflow_cast-above c = omega (arith, path_short c.loop-node.invariant, c.requires.can.net.few, c.loop-node.walk.path.ok.0)

pub overflow_add-above : goal.overflow_add-above
overflow_add-above c = omega (arith, path_short c.loop-node.invariant, c.requires.can.net.few, c.loop-node.walk.path.ok.0)

pub row-row-requires : goal.row-row-requires
row-row-requires c = c.requires.rows c.loop-node.node (node_in c.loop-node.invariant)

pub advance-requires-clause-node : goal.advance-requires-clause-node
advance-requires-clause-node c = omega (arith, node_in c.loop-node.invariant, c.loop-node.invariant.can.kept.counted)

pub advance-requires-clause-kept : goal.advance-requires-clause-kept
advance-requires-clause-kept c =
    omega (arith, c.loop-node.invariant.can.kept.within c.loop-node.node (node_in c.loop-node.invariant), ap (length {A = ℕ}) c.row-row.ensures)

pub advance-requires-clause-numbered : goal.advance-requires-clause-numbered
advance-requires-clause-numbered c =
    subst (All (λ k. k < length c.args.edges.now)) (sym c.row-row.ensures)
    (row_below c.args.edges.now (length c.args.levels.now.items) c.loop-node.node (row_at c.args.rows.now) (node_in c.loop-node.invariant) c.requires.can.rows)

pub advance-requires-clause-touches : goal.advance-requires-clause-touches
advance-requires-clause-touches c =
    subst (All (λ k. Touches (edge_at c.args.edges.now k) c.loop-node.node)) (sym c.row-row.ensures)
    (row_touches c.args.edges.now (length c.args.levels.now.items) c.loop-node.node (row_at c.args.rows.now) (node_in c.loop-node.invariant) c.requires.can.rows)

pub index_mut-requires : goal.index_mut-requires
index_mut-requires c = omega (arith, node_in c.loop-node.invariant, c.loop-node.invariant.can.counted, c.loop-node.levels.ok.0)

pub loop-node-smaller-in-Some : goal.loop-node-smaller-in-Some
loop-node-smaller-in-Some c =
    omega (arith, path_short c.loop-node.invariant, ap (length {A = Step}) c.in_ok-push-in-Some.ensures.items, length_push c.loop-node.walk.path.items c.in-Some.step)

pub loop-node-preserved-in-Some : goal.loop-node-preserved-in-Some
loop-node-preserved-in-Some c =
    let above : c.len.result + 1 ≡ length c.loop-node.walk.path.items + 1 = omega (arith, c.len.ensures, c.loop-node.walk.path.ok.0) in
    let up : IsStepUp c.args.edges.now c.args.amounts.now c.loop-node.levels.items c.loop-node.node (length c.loop-node.walk.path.items + 1) c.in-Some.step = subst (λ (l : ℕ). IsStepUp c.args.edges.now c.args.amounts.now c.loop-node.levels.items c.loop-node.node l c.in-Some.step) above c.in-Some.ensures.some in
    let w = walking_advanced c.loop-node.invariant c.row-row.result.now (c.len.result + 1) c.advance.new.spent.items c.row-row.ensures above c.advance.ensures.spent c.advance.ensures.within c.advance.ensures.passed in
    rw c.in_ok-push-in-Some.ensures.items (walking_push w c.in-Some.step up)

pub loop-node-smaller : goal.loop-node-smaller
loop-node-smaller c =
    let popped : c.loop-node.walk.path.items ≡ c.pop.new.self.items ++ c.in-Some-pop.step ∷ [] = c.in-Some-pop.ensures.items in
    omega (arith, fewer c.loop-node.invariant, path_short c.loop-node.invariant, ap (length {A = Step}) popped, length_push c.pop.new.self.items c.in-Some-pop.step)

pub loop-node-preserved : goal.loop-node-preserved
loop-node-preserved c =
    let above : c.len.result + 1 ≡ length c.loop-node.walk.path.items + 1 = omega (arith, c.len.ensures, c.loop-node.walk.path.ok.0) in
    let w = walking_advanced c.loop-node.invariant c.row-row.result.now (c.len.result + 1) c.advance.new.spent.items c.row-row.ensures above c.advance.ensures.spent c.advance.ensures.within c.advance.ensures.passed in
    walking_pop c.in-Some-pop.step (rw c.in-Some-pop.ensures.items at w) c.loop-node-test.true (c.in-None.ensures.none refl ∙ ap (length {A = ℕ}) c.row-row.ensures)

pub returns-in-None-pop : goal.returns-in-None-pop
returns-in-None-pop c =
    let above : c.len.result + 1 ≡ length c.loop-node.walk.path.items + 1 = omega (arith, c.len.ensures, c.loop-node.walk.path.ok.0) in
    let w = walking_advanced c.loop-node.invariant c.row-row.result.now (c.len.result + 1) c.advance.new.spent.items c.row-row.ensures above c.advance.ensures.spent c.advance.ensures.within c.advance.ensures.passed in
    let none : c.loop-node.walk.path.items ≡ [] = nil_from_length c.loop-node.walk.path.items (omega (arith, c.loop-node.walk.path.ok.0, c.in-None-pop.ensures.cases)) in
    walking_ended w none c.loop-node-test.true (c.in-None.ensures.none refl ∙ ap (length {A = ℕ}) c.row-row.ensures) c.pop.new.self.items
