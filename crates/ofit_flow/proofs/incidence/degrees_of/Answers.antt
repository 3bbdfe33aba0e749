use Rattle.std.proofs.Common.{arith, ◌≡◌, ◌+◌, ℕ, sym, ◌∙◌, ap, set, take, get_or, add-one}
use Rattle.std.proofs.lemmas.List.{length-set, length-take-le, get_or-set_other, get_or_read}
use Rattle.ofit_flow.specs.declared.edge.Edge.{Edge}
use Rattle.ofit_flow.specs.Flow.{edge_at}
use Rattle.ofit_flow.specs.Incidence.{degree}
use Rattle.ofit_flow.proofs.Listing.{degree-more, degree-small, raised_ends, ends_in}
use Rattle.ofit_flow.proofs.incidence.degrees_of.Goals as goal

pub overflow_add-index_mut : goal.overflow_add-index_mut
overflow_add-index_mut c =
    let es = c.args.edges.now in
    let e : Edge = edge_at es c.loop-edge.edge-index in
    let ends = ends_in es c.args.nodes c.requires.edges_in c.loop-edge.edge-index c.loop-edge-test.true in
    let read : c.index_mut.result.now ≡ get_or c.loop-edge.degrees.items e.from 0 = get_or_read c.loop-edge.degrees.items e.from c.index_mut.result.now (omega (arith, ends.0, c.loop-edge.invariant.0)) c.index_mut.ensures.value 0 in
    omega (arith, read, c.loop-edge.invariant.1 e.from ends.0, degree-small (take c.loop-edge.edge-index es) e.from, length-take-le c.loop-edge.edge-index es (omega arith), c.requires.few)

pub overflow_add-index_mut-in-loop-edge : goal.overflow_add-index_mut-in-loop-edge
overflow_add-index_mut-in-loop-edge c =
    let es = c.args.edges.now in
    let e : Edge = edge_at es c.loop-edge.edge-index in
    let ends = ends_in es c.args.nodes c.requires.edges_in c.loop-edge.edge-index c.loop-edge-test.true in
    let read : c.index_mut-in-loop-edge.result.now ≡ get_or (set c.loop-edge.degrees.items e.from (c.index_mut.result.now + 1)) e.to 0 = get_or_read (set c.loop-edge.degrees.items e.from (c.index_mut.result.now + 1)) e.to c.index_mut-in-loop-edge.result.now (omega (arith, ends.1, c.loop-edge.invariant.0, length-set c.loop-edge.degrees.items e.from (c.index_mut.result.now + 1))) c.index_mut-in-loop-edge.ensures.value 0 in
    omega (arith, read, get_or-set_other c.loop-edge.degrees.items e.from e.to (c.index_mut.result.now + 1) 0 (λ h. ends.2 (sym h)), c.loop-edge.invariant.1 e.to ends.1, degree-small (take c.loop-edge.edge-index es) e.to, length-take-le c.loop-edge.edge-index es (omega arith), c.requires.few)

pub loop-edge-preserved : goal.loop-edge-preserved
loop-edge-preserved c =
    let es = c.args.edges.now in
    let ds = c.loop-edge.degrees.items in
    let e : Edge = edge_at es c.loop-edge.edge-index in
    let ends = ends_in es c.args.nodes c.requires.edges_in c.loop-edge.edge-index c.loop-edge-test.true in
    let from : c.index_mut.result.now ≡ get_or ds e.from 0 = get_or_read ds e.from c.index_mut.result.now (omega (arith, ends.0, c.loop-edge.invariant.0)) c.index_mut.ensures.value 0 in
    let to : c.index_mut-in-loop-edge.result.now ≡ get_or ds e.to 0 =
    get_or_read (set ds e.from (c.index_mut.result.now + 1)) e.to c.index_mut-in-loop-edge.result.now (omega (arith, ends.1, c.loop-edge.invariant.0, length-set ds e.from (c.index_mut.result.now + 1))) c.index_mut-in-loop-edge.ensures.value 0
    ∙ get_or-set_other ds e.from e.to (c.index_mut.result.now + 1) 0 (λ h. ends.2 (sym h)) in (
      length-set (set ds e.from (c.index_mut.result.now + 1)) e.to (c.index_mut-in-loop-edge.result.now + 1) ∙ length-set ds e.from (c.index_mut.result.now + 1) ∙ c.loop-edge.invariant.0,
      λ v b.
          ap (λ (x : ℕ). get_or (set (set ds e.from (x + 1)) e.to (c.index_mut-in-loop-edge.result.now + 1)) v 0) from
          ∙ ap (λ (x : ℕ). get_or (set (set ds e.from (get_or ds e.from 0 + 1)) e.to (x + 1)) v 0) to
          ∙ raised_ends ds e v ends.2 (omega (arith, ends.0, c.loop-edge.invariant.0)) (omega (arith, ends.1, c.loop-edge.invariant.0))
          ∙ omega (arith, c.loop-edge.invariant.1 v b, degree-more es c.loop-edge.edge-index v c.loop-edge-test.true, ap (λ (k : ℕ). degree (take k es) v) (add-one c.loop-edge.edge-index)),
    )
