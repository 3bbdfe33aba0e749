use Rattle.std.proofs.Common.{◌≡◌, ◌<◌, ℕ, length, take, get_or}
use Rattle.std.specs.Prelude.{pos}
use Rattle.ofit_sides.specs.Leaving.{leaving}
use Rattle.ofit_sides.proofs.steps.leaving_of.Given as goal

abbrev pub invariant-loop-index : goal.invariant-loop-index
invariant-loop-index l = record {
  count : length l.flows.items ≡ l.count;
  each : (node : ℕ) → node < l.count → get_or l.flows.items node (pos 0) ≡ leaving (take l.index l.pairs) (take l.index l.amounts) node;
}
