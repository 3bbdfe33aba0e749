use Rattle.std.proofs.Common.{arith, ◌≡◌, ◌+◌, ℕ, ℤ, sym, subst, length, to_z, of_z}
use Rattle.std.proofs.lemmas.Int.{ints, to_z-of_z}
use mir.Syntax.{w128}
use Rattle.ofit_flow.specs.Walk.{IsWay}
use Rattle.ofit_flow.proofs.Augmenting.{IsSent, sent_none, step_room, sent_more, sent_all}
use Rattle.ofit_flow.proofs.augment.augment.Goals as goal

pub loop-step-init : goal.loop-step-init
loop-step-init c =
    subst (λ (by : ℤ). IsSent c.args.edges.now c.args.amounts.now.items c.args.path.now by 0 c.args.amounts.now.items) (sym (to_z-of_z w128 c.args.by c.ranges.by))
    (sent_none c.args.edges.now c.args.amounts.now.items c.args.path.now c.args.by c.requires.way)

pub loop-step-preserved : goal.loop-step-preserved
loop-step-preserved c =
    let by : ℤ = to_z w128 (of_z w128 c.args.by) in
    let way : IsWay c.args.edges.now c.args.amounts.now.items c.args.path.now by = subst (IsWay c.args.edges.now c.args.amounts.now.items c.args.path.now) (sym (to_z-of_z w128 c.args.by c.ranges.by)) c.requires.way in
    subst (IsSent c.args.edges.now c.args.amounts.now.items c.args.path.now by (c.loop-step.step-index + 1)) (sym c.send.ensures)
    (sent_more c.args.edges.now c.args.amounts.now.items c.args.path.now by c.loop-step.step-index c.loop-step.amounts.items way (omega (arith, ints)) c.loop-step-test.true c.loop-step.invariant)

pub send-requires-clause-room : goal.send-requires-clause-room
send-requires-clause-room c =
    let by : ℤ = to_z w128 (of_z w128 c.args.by) in
    let way : IsWay c.args.edges.now c.args.amounts.now.items c.args.path.now by = subst (IsWay c.args.edges.now c.args.amounts.now.items c.args.path.now) (sym (to_z-of_z w128 c.args.by c.ranges.by)) c.requires.way in
    step_room c.args.edges.now c.args.amounts.now.items c.args.path.now by c.loop-step.step-index c.loop-step.amounts.items way (omega (arith, ints)) c.loop-step-test.true c.loop-step.invariant

pub returns : goal.returns
returns c = λ levels source sink apart flow path.
    let all : c.loop-step.step-index ≡ length c.args.path.now = omega arith in
    let done : IsSent c.args.edges.now c.args.amounts.now.items c.args.path.now c.args.by c.loop-step.step-index c.loop-step.amounts.items = subst (λ (by : ℤ). IsSent c.args.edges.now c.args.amounts.now.items c.args.path.now by c.loop-step.step-index c.loop-step.amounts.items) (to_z-of_z w128 c.args.by c.ranges.by) c.loop-step.invariant in
    sent_all c.args.edges.now c.args.amounts.now.items c.args.path.now c.args.by c.loop-step.amounts.items levels source sink
    (subst (λ (i : ℕ). IsSent c.args.edges.now c.args.amounts.now.items c.args.path.now c.args.by i c.loop-step.amounts.items) all done) apart flow path
