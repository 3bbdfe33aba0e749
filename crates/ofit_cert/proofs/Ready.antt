-- The tight pairs and the open spans of a valid study are such as a balance of flows takes, and best values have flows.
use Rattle.std.proofs.Common.{◌≡◌, ℕ, ◌*◌, ◌<◌, ◌≤◌, ◌^◌, List, [], length, sym, subst, ◌∙◌, arith, Bool, true, false, get_or, mul-le-mul_left}
use Rattle.std.proofs.lemmas.Int.{ints}
use Rattle.std.proofs.lemmas.List.Elements.{All-filter, All-weaker}
use Rattle.std.proofs.lemmas.List.{get_or_default}
use Rattle.std.proofs.lemmas.Option.{slice_get-get_or, same_Some}
use Rattle.std.specs.Prelude.{ℤ, ◌≤ℤ◌, All, slice_get, unwrap_or, Option, Some}
use Rattle.ofit_num.specs.declared.row.Row.{Row}
use Rattle.ofit_num.specs.Fraction.{Fraction, IsLowest}
use Rattle.ofit_num.specs.Fit.{BestValues}
use Rattle.ofit_num.specs.RowTotals.{total_weight, all_rows}
use Rattle.ofit_num.specs.RowLimits.{IsRowWithinLimits, AreWithinLimits}
use Rattle.ofit_num.specs.Meaning.{Meaning}
use Rattle.ofit_num.specs.Problem.{Bounds}
use Rattle.ofit_num.specs.Span.{is_at}
use Rattle.ofit_num.proofs.Lists.{All-slice_get}
use Rattle.ofit_num.proofs.RowLists.{group_within}
use Rattle.ofit_cut.specs.declared.span.Span.{Span}
use Rattle.ofit_cut.specs.Barrier.{IsAbove, IsBelow}
use Rattle.ofit_cut.specs.Sets.{AreWithin}
use Rattle.ofit_cut.specs.Span.{span_size, total_span, IsOrdered, no_limits}
use Rattle.ofit_sheet.specs.Kept.{IsFractionInLimits}
use Rattle.ofit_study.specs.Study.{Study, IsValid, groups_of, places_of, problem_stated, meaning_of}
use Rattle.ofit_study.proofs.Stating.{rows_within, pairs_have_places}
use Rattle.ofit_cert.specs.Tight.{own, is_tight, tight_among}
use Rattle.ofit_cert.specs.OpenSpans.{open_end, open_span, AreOpenSpans}
use Rattle.ofit_span.proofs.StatedLosses.{one_of_two, stated_support}
use Rattle.ofit_cert.proofs.Spanning.{own_at}
use Rattle.ofit_cert.proofs.Sizes.{open_span_within, total_within}
use Rattle.ofit_cert.proofs.Barred.{none_above, none_below}

end_of : (b : Bool) (z e : ℤ) → open_end b z ≡ Some e → z ≡ e
end_of true z e h = cc
end_of false z e h = same_Some z e h

-- a span with such ends is ordered
open_span_ordered : (m : Meaning) (rows : List Row) (bounds : Bounds) (c : Fraction) → m.least rows c.num c.den ≤ℤ m.greatest rows c.num c.den → IsOrdered (open_span m rows bounds c)
open_span_ordered m rows bounds c le least greatest el eg =
    omega (arith, ints, le, end_of (is_at bounds.hi c.num c.den) (m.least rows c.num c.den) least el, end_of (is_at bounds.lo c.num c.den) (m.greatest rows c.num c.den) greatest eg)

module _ (s : Study) (v : IsValid s) (fs : List Fraction) (fractions : All IsFractionInLimits fs) (count : length fs ≡ length (groups_of s)) (spans : List Span) (are : AreOpenSpans (meaning_of s.settings.loss) (problem_stated s) fs spans) where
  own_in_limits : (g : ℕ) → g < length (groups_of s) → IsFractionInLimits (own fs g)
  own_in_limits g l = All-slice_get IsFractionInLimits fs g (own fs g) fractions (own_at fs g (omega (arith, l, count)))

  pub pairs_ready : AreWithin (tight_among fs (places_of s)) (length spans)
  pairs_ready = subst (AreWithin (tight_among fs (places_of s))) (sym are.counted) (All-filter (is_tight fs) (λ e. (e.0 < length (groups_of s)) × (e.1 < length (groups_of s))) (places_of s) (pairs_have_places s v))

  pub ordered_ready : All IsOrdered spans
  ordered_ready g d l least greatest =
      let below : g < length (groups_of s) = omega (arith, l, are.counted) in
      let same : get_or spans g d ≡ open_span (meaning_of s.settings.loss) ((problem_stated s).rows g) ((problem_stated s).bounds g) (own fs g) = get_or_default spans g d no_limits l ∙ are.each g below in
      subst IsOrdered (sym same)
      (open_span_ordered (meaning_of s.settings.loss) ((problem_stated s).rows g) ((problem_stated s).bounds g) (own fs g) ((stated_support s v s.settings.loss).ordered g below (own fs g).num (own fs g).den (own_in_limits g below).lowest.den))
      least greatest

  group_rows : (g : ℕ) → g < length (groups_of s) → All IsRowWithinLimits ((problem_stated s).rows g)
  group_rows g l = go (slice_get-get_or (groups_of s) g [] l) where
    go : slice_get (groups_of s) g ≡ Some (get_or (groups_of s) g []) → All IsRowWithinLimits (unwrap_or (slice_get (groups_of s) g) [])
    go e =
        let within : AreWithinLimits (get_or (groups_of s) g []) = group_within (groups_of s) g (get_or (groups_of s) g []) e (rows_within s v) in
        subst (λ (o : Option (List Row)). All IsRowWithinLimits (unwrap_or o [])) (sym e) within.each

  pub small_ready : total_span spans ≤ 2 * 10 ^ 33
  small_ready =
      let sizes : total_span spans ≤ 2 * 10 ^ 23 * total_weight (all_rows (groups_of s)) = total_within (2 * 10 ^ 23) spans (groups_of s) are.counted
      (λ g l. subst (λ (x : Span). span_size x ≤ 2 * 10 ^ 23 * total_weight ((problem_stated s).rows g)) (sym (are.each g l))
      (open_span_within s.settings.loss v.settings.loss ((problem_stated s).rows g) ((problem_stated s).bounds g) (own fs g) (group_rows g l) (own_in_limits g l).limits)) in
      omega (arith, sizes, mul-le-mul_left (2 * 10 ^ 23) (rows_within s v).together)

  module _ (best : BestValues (meaning_of s.settings.loss) (problem_stated s) fs) (set : ℕ → Bool) where
    lowest : All IsLowest fs
    lowest = All-weaker IsFractionInLimits IsLowest (λ c h. h.lowest) fs fractions

    pub never_above : IsAbove (tight_among fs (places_of s)) spans set → ⊥
    never_above = none_above (meaning_of s.settings.loss) (one_of_two s.settings.loss) (problem_stated s) (pairs_have_places s v) fs lowest best spans are set

    pub never_below : IsBelow (tight_among fs (places_of s)) spans set → ⊥
    never_below = none_below (meaning_of s.settings.loss) (one_of_two s.settings.loss) (problem_stated s) (pairs_have_places s v) fs lowest best spans are set
