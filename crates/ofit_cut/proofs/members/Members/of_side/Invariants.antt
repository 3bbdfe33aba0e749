use Rattle.std.proofs.Common.{◌≡◌, ◌<◌, ℕ}
use Rattle.ofit_flow.specs.Network.{members}
use Rattle.ofit_cut.specs.Members.{AreNodes, has_node, is_on_side}
use Rattle.ofit_cut.proofs.members.Members.of_side.Given as goal

abbrev pub invariant-loop-node : goal.invariant-loop-node
invariant-loop-node l = record {
  listed : AreNodes l.node l.nodes.items;
  same : (v : ℕ) → v < l.node → has_node l.nodes.items v ≡ is_on_side (members l.flowed.source_side) l.inside v;
}
