use Rattle.std.proofs.Common.{◌≡◌, ◌<◌, ℕ, length}
use Rattle.ofit_cut.specs.Sets.{weight_at}
use Rattle.ofit_cut.specs.Span.{span_at}
use Rattle.ofit_cut.specs.Slack.{IsBase}
use Rattle.ofit_cut.proofs.slack.bases_of.Given as goal

abbrev pub invariant-loop-span : goal.invariant-loop-span
invariant-loop-span l = record {
  counted : length l.bases.items ≡ l.span-index;
  each : (k : ℕ) → k < l.span-index → IsBase (span_at l.spans k) (weight_at l.bases.items k);
}
