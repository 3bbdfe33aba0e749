use Rattle.std.proofs.Common.{◌≡◌, List, arith, ap, subst, ◌∙◌}
use Rattle.ofit_cut.specs.declared.span.Span.{Span}
use Rattle.ofit_cut.specs.declared.balanced.Balanced.TheVariants.{Above}
use Rattle.ofit_cut.specs.Span.{total_span}
use Rattle.ofit_cut.specs.Balanced.{Tells}
use Rattle.ofit_cut.specs.Members.{has_node}
use Rattle.ofit_cut.proofs.Choices.{above_at_once, below_at_once, no_above, above_of_opened}
use Rattle.ofit_cut.proofs.Duality.{opened, opened-small}
use Rattle.ofit_cut.proofs.balance.balance_flow.Goals as goal

pub settle-requires-in-Below-clause-small : goal.settle-requires-in-Below-clause-small
settle-requires-in-Below-clause-small c =
    let same : c.as_slice.result.now ≡ opened c.args.spans.now = c.as_slice.ensures.value ∙ c.in_ok-opened-in-Below.ensures in
    omega (arith, ap total_span same, opened-small c.args.spans.now)

pub returns-in-Above-clause-told : goal.returns-in-Above-clause-told
returns-in-Above-clause-told c =
    let same : c.as_slice.result.now ≡ opened c.args.spans.now = c.as_slice.ensures.value ∙ c.in_ok-opened-in-Below.ensures in
    above_of_opened c.args.pairs.now c.args.spans.now c.in-Above.above
    (subst (λ (spans : List Span). Tells c.args.pairs.now spans (Above c.in-Above.above)) same (subst (Tells c.args.pairs.now c.as_slice.result.now) c.in-Above.is c.in_ok-above-in-Below.ensures))

pub returns-in-Above-clause-below : goal.returns-in-Above-clause-below
returns-in-Above-clause-below c =
    let same : c.as_slice.result.now ≡ opened c.args.spans.now = c.as_slice.ensures.value ∙ c.in_ok-opened-in-Below.ensures in
    λ set h none. none (has_node c.in-Above.above) (above_of_opened c.args.pairs.now c.args.spans.now c.in-Above.above
    (subst (λ (spans : List Span). Tells c.args.pairs.now spans (Above c.in-Above.above)) same (subst (Tells c.args.pairs.now c.as_slice.result.now) c.in-Above.is c.in_ok-above-in-Below.ensures))).1

pub returns-in_default-2 : goal.returns-in_default-2
returns-in_default-2 c =
    let same : c.as_slice.result.now ≡ opened c.args.spans.now = c.as_slice.ensures.value ∙ c.in_ok-opened-in-Below.ensures in
    record {
      told = subst (Tells c.args.pairs.now c.args.spans.now) c.in-Below.is c.in_ok-other.ensures;
      above = no_above c.args.pairs.now c.args.spans.now c.in_ok-above-in-Below.field-0 c.requires.pairs_in
          (subst (λ (spans : List Span). Tells c.args.pairs.now spans c.in_ok-above-in-Below.field-0) same c.in_ok-above-in-Below.ensures) c.in_default-2.not-Above;
      below = λ set h none. tt;
    }

pub returns-in_default : goal.returns-in_default
returns-in_default c = record {
  told = c.in_ok-other.ensures;
  above = above_at_once c.args.pairs.now c.args.spans.now c.in_ok-other.other c.requires.pairs_in c.in_ok-other.ensures c.in_default.not-Below;
  below = below_at_once c.args.pairs.now c.args.spans.now c.in_ok-other.other c.requires.pairs_in c.in_ok-other.ensures c.in_default.not-Below;
}
