use Rattle.std.proofs.Common.{◌≡◌, ◌≤◌, ◌-◌, length}
use Rattle.ofit_num.specs.Pairs.{chain_pairs}
use Rattle.ofit_num.specs.Tight.{tight_among}
use Rattle.ofit_sides.proofs.chain.tight_neighbours.Given as goal

abbrev pub invariant-loop-place : goal.invariant-loop-place
invariant-loop-place l = record {
  pairs : l.pairs.items ≡ tight_among l.values (chain_pairs l.place);
  bound : l.place - 1 ≤ length l.values - 1;
}
