use Rattle.std.proofs.Common.{◌≡◌, ◌++◌}
use Rattle.ofit_cut.specs.Slack.{slack_edges}
use Rattle.ofit_cut.proofs.slack.push_slack_edges.Given as goal

abbrev pub invariant-loop-node : goal.invariant-loop-node
invariant-loop-node l =
    l.edges.items ≡ l.initial.edges.items ++ slack_edges l.hub l.spans l.bases l.node
