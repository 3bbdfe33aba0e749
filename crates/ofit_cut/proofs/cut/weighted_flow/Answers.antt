use Rattle.std.proofs.Common.{arith, ◌≡◌, ◌+◌, ◌++◌, ℕ, List, ap, sym, ◌∙◌, subst, length}
use Rattle.std.proofs.lemmas.Result.{IfOk-weaker}
use Rattle.std.specs.List.{All}
use Rattle.ofit_flow.specs.declared.edge.Edge.{Edge}
use Rattle.ofit_flow.specs.Maximum.{IsMaximumFlow}
use Rattle.ofit_flow.specs.Network.{CanAdd}
use Rattle.ofit_cut.specs.declared.edges.Ends.{Ends}
use Rattle.ofit_cut.specs.Sets.{weight_at}
use Rattle.ofit_cut.specs.Edges.{weight_edges}
use Rattle.ofit_cut.proofs.Adding.{AreEnds, cut-can, cut-long}
use Rattle.ofit_cut.proofs.Picard.{cut_edges, tied_from_maximum}
use Rattle.ofit_cut.proofs.cut.weighted_flow.Goals as goal

-- the source and the sink come after n nodes
abbrev ends_after : ℕ → Ends
ends_after n = record { source = n; sink = n + 1 }

ends_in : (n : ℕ) → AreEnds n (n + 2) (ends_after n)
ends_in n = record { source_in = omega arith; sink_in = omega arith; source_out = omega arith; sink_out = omega arith; apart = λ e. absurd (omega arith) }

pub solve-requires-clause-few : goal.solve-requires-clause-few
solve-requires-clause-few c =
    let ws = c.args.weights.now in
    let pairs = c.args.pairs.now in
    let ends : Ends = ends_after (length ws) in
    let edges_are : c.push_weight_edges.new.edges.items ≡ cut_edges (ends_after (length ws)) pairs ws = c.in_ok-push_weight_edges.ensures ∙ ap (λ (es : List Edge). es ++ weight_edges (ends_after (length ws)) (weight_at ws) (length ws)) c.in_ok-edges.ensures in
    omega (arith, ap (length {A = Edge}) edges_are, cut-long (ends_after (length ws)) pairs ws)

pub solve-requires-clause-edges_in : goal.solve-requires-clause-edges_in
solve-requires-clause-edges_in c =
    let ws = c.args.weights.now in
    let pairs = c.args.pairs.now in
    let edges_are : c.push_weight_edges.new.edges.items ≡ cut_edges (ends_after (length ws)) pairs ws = c.in_ok-push_weight_edges.ensures ∙ ap (λ (es : List Edge). es ++ weight_edges (ends_after (length ws)) (weight_at ws) (length ws)) c.in_ok-edges.ensures in
    subst (All (CanAdd (length ws + 2))) (sym edges_are) (cut-can (length ws + 2) (ends_after (length ws)) pairs ws (ends_in (length ws)) c.requires.pairs_in c.requires.small)

pub returns-clause-tied : goal.returns-clause-tied
returns-clause-tied c =
    let ws = c.args.weights.now in
    let pairs = c.args.pairs.now in
    let n = length ws in
    let ends : Ends = ends_after (length ws) in
    let e = ends_in (length ws) in
    let edges_are : c.push_weight_edges.new.edges.items ≡ cut_edges (ends_after (length ws)) pairs ws = c.in_ok-push_weight_edges.ensures ∙ ap (λ (es : List Edge). es ++ weight_edges (ends_after (length ws)) (weight_at ws) (length ws)) c.in_ok-edges.ensures in
    IfOk-weaker c.solve.result _ _ (λ flowed found tie set same.
    tied_from_maximum (ends_after (length ws)) pairs ws e.source_out e.sink_out e.apart c.requires.pairs_in c.requires.small (n + 2) flowed tie set
    (subst (λ (es : List Edge). IsMaximumFlow es (n + 2) n (n + 1) flowed) edges_are found) same)
    c.solve.ensures
