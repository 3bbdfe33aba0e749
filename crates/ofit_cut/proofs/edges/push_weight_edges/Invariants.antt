use Rattle.std.proofs.Common.{◌≡◌, ◌++◌}
use Rattle.ofit_cut.specs.Sets.{weight_at}
use Rattle.ofit_cut.specs.Edges.{weight_edges}
use Rattle.ofit_cut.proofs.edges.push_weight_edges.Given as goal

abbrev pub invariant-loop-node : goal.invariant-loop-node
invariant-loop-node l =
    l.edges.items ≡ l.initial.edges.items ++ weight_edges l.ends (weight_at l.weights) l.node
