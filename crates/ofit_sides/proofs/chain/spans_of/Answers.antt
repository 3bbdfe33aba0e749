use Rattle.std.proofs.Common.{◌≡◌, ◌∙◌, ◌<◌, ◌+◌, ℕ, List, length, sym, ap, arith, subst}
use Rattle.std.proofs.lemmas.List.{length_push}
use Rattle.std.specs.Prelude.{slice_get, Some}
use Rattle.ofit_num.specs.declared.row.Row.{Row}
use Rattle.ofit_num.specs.Fraction.{Fraction}
use Rattle.ofit_num.specs.Loss.{median}
use Rattle.ofit_num.specs.Unbounded.{no_bounds}
use Rattle.ofit_num.specs.Tight.{value_at as own}
use Rattle.ofit_cut.specs.declared.span.Span.{Span}
use Rattle.ofit_cut.specs.Span.{span_at}
use Rattle.ofit_cert.specs.OpenSpans.{open_span}
use Rattle.ofit_cert.proofs.Spanning.{own_is, get_is, span_more}
use Rattle.ofit_sides.specs.FirstFit.{rows_at}
use Rattle.ofit_sides.proofs.FirstRows.{first_rows}
use Rattle.ofit_sides.proofs.Neighbours.{first_count}
use Rattle.ofit_sides.proofs.chain.spans_of.Goals as goal

pub loop-place-preserved : goal.loop-place-preserved
loop-place-preserved c =
    let fs = c.args.values.now in
    let k = c.loop-place.place in
    let value = c.index-values-place.result in
    let at : slice_get fs k ≡ Some value = get_is fs k value c.loop-place-test.true c.index-values-place.is in
    let span_for : ℕ → Fraction → Span = λ g f. open_span median (rows_at c.args.groups.now g) (no_bounds g) f in
    record {
      counted = omega (arith, ap length c.in_ok-push.ensures.items, length_push c.loop-place.spans.items c.span_at.result, c.loop-place.invariant.counted);
      each = subst (λ (spans : List Span). (g : ℕ) → g < k + 1 → span_at spans g ≡ span_for g (own fs g)) (sym c.in_ok-push.ensures.items)
          (span_more c.loop-place.spans.items c.span_at.result k (λ g. span_for g (own fs g)) c.loop-place.invariant.counted c.loop-place.invariant.each (c.span_at.ensures ∙ ap (span_for k) (sym (own_is fs k value at))));
    }

pub returns : goal.returns
returns c =
    let fs = c.args.values.now in
    let groups = c.args.groups.now in
    let count = first_count groups (length fs) c.requires.inside in
    record {
      counted = omega (arith, count, c.loop-place.invariant.counted, c.loop-place-test.false);
      each = λ g l. c.loop-place.invariant.each g (omega (arith, l, count, c.loop-place-test.false))
          ∙ ap (λ (rows : List Row). open_span median rows (no_bounds g) (own fs g)) (sym (first_rows groups (length fs) g (omega (arith, l, count))));
    }
