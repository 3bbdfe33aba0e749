use Rattle.std.proofs.Common.{◌≡◌, ◌∙◌, ◌<◌, ◌+◌, ℕ, List, length, get_or, sym, ap, arith, subst, below_more}
use Rattle.std.proofs.lemmas.List.{length_push}
use Rattle.std.proofs.lemmas.Option.{slice_get-get_or, same_Some}
use Rattle.std.specs.Prelude.{slice_get, Some}
use Rattle.ofit_num.specs.Fraction.{Fraction}
use Rattle.ofit_cut.specs.declared.span.Span.{Span}
use Rattle.ofit_cut.specs.Span.{span_at}
use Rattle.ofit_sheet.specs.Kept.{IsFractionInLimits}
use Rattle.ofit_study.specs.Study.{problem_stated, meaning_of}
use Rattle.ofit_cert.specs.Tight.{own}
use Rattle.ofit_cert.specs.OpenSpans.{open_span}
use Rattle.ofit_cert.proofs.Spanning.{own_is, get_is, span_more}
use Rattle.ofit_cert.proofs.spans.spans_of.Goals as goal

pub loop-place-preserved : goal.loop-place-preserved
loop-place-preserved c =
    let s = c.args.study.now in
    let fs = c.args.values.now in
    let k = c.loop-place.place in
    let value = c.index-values-place.result in
    let inside : k < length fs = omega (arith, c.loop-place-test.true) in
    let at : slice_get fs k ≡ Some value = get_is fs k value inside c.index-values-place.is in
    let span_for : ℕ → Fraction → Span = λ g f. open_span (meaning_of s.settings.loss) ((problem_stated s).rows g) ((problem_stated s).bounds g) f in
    record {
      counted = omega (arith, ap length c.in_ok-push.ensures.items, length_push c.loop-place.spans.items c.span_at.result, c.loop-place.invariant.counted);
      each = subst (λ (spans : List Span). (g : ℕ) → g < k + 1 → span_at spans g ≡ span_for g (own fs g)) (sym c.in_ok-push.ensures.items)
          (span_more c.loop-place.spans.items c.span_at.result k (λ g. span_for g (own fs g)) c.loop-place.invariant.counted c.loop-place.invariant.each (c.span_at.ensures.span ∙ ap (span_for k) (sym (own_is fs k value at))));
      fractions = λ g f l e.
          below_more (λ h. (b : Fraction) → slice_get fs h ≡ Some b → IsFractionInLimits b) k (λ h m b d. c.loop-place.invariant.fractions h b m d) (λ b d. subst IsFractionInLimits (same_Some value b (sym at ∙ d)) c.span_at.ensures.fraction) g l f e;
    }

pub returns-clause-fractions : goal.returns-clause-fractions
returns-clause-fractions c = λ k d l. c.loop-place.invariant.fractions k (get_or c.args.values.now k d) (omega (arith, l, c.loop-place-test.false)) (slice_get-get_or c.args.values.now k d l)
