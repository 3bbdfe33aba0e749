use Rattle.std.proofs.Common.{arith, ◌≡◌, ℕ, length, subst}
use Rattle.ofit_flow.proofs.Listing.{IsFilled, ends_in, from_in, to_in, filled_more, filled_all, filled_none}
use Rattle.ofit_flow.proofs.incidence.list_edges.Goals as goal

pub loop-number-init : goal.loop-number-init
loop-number-init c = filled_none c.args.edges.now c.args.nodes c.args.starts.now c.args.places.now.items c.args.numbers.now.items c.requires.counted (λ v b. c.requires.places v (omega arith))

pub list_edge-requires-clause-place : goal.list_edge-requires-clause-place
list_edge-requires-clause-place c =
    from_in c.args.edges.now c.args.nodes (length c.args.numbers.now.items) c.loop-number.number c.args.starts.now c.loop-number.places.items c.loop-number.numbers.items c.requires.starts c.requires.room (ends_in c.args.edges.now c.args.nodes c.requires.edges_in) c.loop-number-test.true c.loop-number.invariant

pub list_edge-requires-in-loop-number-clause-place : goal.list_edge-requires-in-loop-number-clause-place
list_edge-requires-in-loop-number-clause-place c =
    rw (c.list_edge.ensures.places, c.list_edge.ensures.numbers)
    (to_in c.args.edges.now c.args.nodes (length c.args.numbers.now.items) c.loop-number.number c.args.starts.now c.loop-number.places.items c.loop-number.numbers.items c.requires.starts c.requires.room (ends_in c.args.edges.now c.args.nodes c.requires.edges_in) c.loop-number-test.true c.loop-number.invariant)

pub loop-number-preserved : goal.loop-number-preserved
loop-number-preserved c =
    rw (c.list_edge-in-loop-number.ensures.places, c.list_edge-in-loop-number.ensures.numbers, c.list_edge.ensures.places, c.list_edge.ensures.numbers)
    (filled_more c.args.edges.now c.args.nodes (length c.args.numbers.now.items) c.loop-number.number c.args.starts.now c.loop-number.places.items c.loop-number.numbers.items c.requires.starts c.requires.room (ends_in c.args.edges.now c.args.nodes c.requires.edges_in) c.loop-number-test.true c.loop-number.invariant)

pub returns-clause-listing : goal.returns-clause-listing
returns-clause-listing c =
    let all : c.loop-number.number ≡ length c.args.edges.now = omega arith in
    filled_all c.args.edges.now c.args.nodes (length c.args.numbers.now.items) c.args.starts.now c.loop-number.places.items c.loop-number.numbers.items c.requires.starts (ends_in c.args.edges.now c.args.nodes c.requires.edges_in)
    (subst (λ (k : ℕ). IsFilled c.args.edges.now c.args.nodes (length c.args.numbers.now.items) k c.args.starts.now c.loop-number.places.items c.loop-number.numbers.items) all c.loop-number.invariant)
