use Rattle.std.proofs.Common.{◌≡◌}
use Rattle.ofit_cut.specs.Slack.{supply, demand}
use Rattle.ofit_cut.proofs.slack.totals_of.Given as goal

abbrev pub invariant-loop-base : goal.invariant-loop-base
invariant-loop-base l = record {
  supply : l.totals.supply ≡ supply l.bases l.base-index;
  demand : l.totals.demand ≡ demand l.bases l.base-index;
}
