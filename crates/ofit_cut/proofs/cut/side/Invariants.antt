use Rattle.std.proofs.Common.{◌≡◌, ◌<◌, ℕ, length}
use Rattle.ofit_flow.specs.Network.{members}
use Rattle.ofit_cut.specs.Greatest.{side_of}
use Rattle.ofit_cut.proofs.cut.side.Given as goal

abbrev pub invariant-loop-node : goal.invariant-loop-node
invariant-loop-node l = record {
  counted : length l.side.items ≡ l.node;
  same : (v : ℕ) → v < l.node → members l.side.items v ≡ side_of l.tie l.flowed v;
}
