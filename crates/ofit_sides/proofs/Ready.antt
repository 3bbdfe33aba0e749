-- The tight neighbours and the spans of the first groups are such as a balance of flows takes, and best values have flows.
use Rattle.std.proofs.Common.{◌≡◌, inr, ℕ, ◌*◌, ◌<◌, ◌≤◌, ◌^◌, List, length, refl, sym, ap, subst, ◌∙◌, arith, Bool, get_or, take, mul-le-mul_left}
use Rattle.std.proofs.lemmas.Int.{ints}
use Rattle.std.proofs.lemmas.List.{get_or_default}
use Rattle.std.proofs.lemmas.Option.{same_Some}
use Rattle.std.specs.Prelude.{ℤ, ◌≤ℤ◌, All}
use Rattle.ofit_num.specs.declared.row.Row.{Row}
use Rattle.ofit_num.specs.Fraction.{Fraction}
use Rattle.ofit_num.specs.Fit.{BestValues}
use Rattle.ofit_num.specs.Groups.{RowLists}
use Rattle.ofit_num.specs.RowTotals.{total_weight, all_rows}
use Rattle.ofit_num.specs.Loss.{median}
use Rattle.ofit_num.specs.Pairs.{chain_pairs}
use Rattle.ofit_num.specs.Unbounded.{no_bounds}
use Rattle.ofit_num.specs.Tight.{value_at as own, tight_among}
use Rattle.ofit_cut.specs.declared.span.Span.{Span}
use Rattle.ofit_cut.specs.Balance.{AreBalanced, balance}
use Rattle.ofit_cut.specs.Barrier.{IsAbove, IsBelow}
use Rattle.ofit_cut.specs.Span.{span_at, span_size, total_span, IsOrdered, no_limits, IsInSpan}
use Rattle.ofit_loss.specs.Rows.{AreFittable}
use Rattle.ofit_loss.specs.TableLaws.{median-laws}
use Rattle.ofit_study.specs.declared.loss.LossKind.TheVariants.{Median}
use Rattle.ofit_cert.specs.OpenSpans.{open_span, AreOpenSpans}
use Rattle.ofit_cert.specs.TightFlows.{Certify}
use Rattle.ofit_cert.proofs.Barred.{none_above, none_below}
use Rattle.ofit_cert.proofs.Sizes.{open_span_within, total_within}
use Rattle.ofit_sides.specs.FirstFit.{rows_at, first_chain, AreWhole}
use Rattle.ofit_sides.proofs.FirstRows.{first_fittable, rows_fittable}
use Rattle.ofit_sides.proofs.Neighbours.{first_count, first_places}
use Rattle.ofit_sides.proofs.OwnWhole.{as_long, own_whole, lowest, own_in_limits}

ordered_span : (rows : List Row) (g : ℕ) (c : Fraction) → median.least rows c.num c.den ≤ℤ median.greatest rows c.num c.den → IsOrdered (open_span median rows (no_bounds g) c)
ordered_span rows g c le least greatest el eg = omega (arith, ints, le, same_Some (median.least rows c.num c.den) least el, same_Some (median.greatest rows c.num c.den) greatest eg)

module _ (groups : RowLists) (fit : AreFittable (all_rows groups)) (fs : List Fraction) (few : length fs ≤ length groups) (w : AreWhole fs) (spans : List Span) (are : AreOpenSpans median (first_chain groups (length fs)) fs spans) where
  count : length (take (length fs) groups) ≡ length fs
  count = first_count groups (length fs) few

  long : length fs ≡ length w.whole
  long = as_long fs w.whole w.same

  fit_at : (g : ℕ) → g < length (take (length fs) groups) → AreFittable (rows_at (take (length fs) groups) g)
  fit_at g l = rows_fittable (take (length fs) groups) (first_fittable groups (length fs) fit) g l

  den_at : (g : ℕ) → g < length fs → 0 < (own fs g).den
  den_at g l = subst (λ (c : Fraction). 0 < c.den) (sym (own_whole fs w.whole w.same g (omega (arith, l, long)))) (omega arith)

  pub spans_counted : length spans ≡ length fs
  spans_counted = are.counted ∙ count

  pub ordered_ready : All IsOrdered spans
  ordered_ready g d l =
      let below : g < length (take (length fs) groups) = omega (arith, l, are.counted) in
      let same : get_or spans g d ≡ open_span median (rows_at (take (length fs) groups) g) (no_bounds g) (own fs g) = get_or_default spans g d no_limits l ∙ are.each g below in
      subst IsOrdered (sym same)
      (ordered_span (rows_at (take (length fs) groups) g) g (own fs g) ((median-laws.support (rows_at (take (length fs) groups) g) (fit_at g below)).ordered (own fs g).num (own fs g).den (den_at g (omega (arith, below, count)))))

  pub small_ready : total_span spans ≤ 2 * 10 ^ 33
  small_ready =
      let sizes : total_span spans ≤ 2 * 10 ^ 23 * total_weight (all_rows (take (length fs) groups)) = total_within (2 * 10 ^ 23) spans (take (length fs) groups) are.counted
      (λ g l. subst (λ (x : Span). span_size x ≤ 2 * 10 ^ 23 * total_weight (rows_at (take (length fs) groups) g)) (sym (are.each g l))
      (open_span_within Median tt (rows_at (take (length fs) groups) g) (no_bounds g) (own fs g) (fit_at g l).limits.each (own_in_limits fs w.whole w.same w.small g (omega (arith, l, count, long))))) in
      omega (arith, sizes, mul-le-mul_left (2 * 10 ^ 23) (first_fittable groups (length fs) fit).limits.together)

  module _ (best : BestValues median (first_chain groups (length fs)) fs) (set : ℕ → Bool) where
    pub never_above : IsAbove (tight_among fs (chain_pairs (length fs))) spans set → ⊥
    never_above h = none_above median (inr refl) (first_chain groups (length fs)) (first_places groups (length fs)) fs (lowest fs w.whole w.same) best spans are set
        (subst (λ (n : ℕ). IsAbove (tight_among fs (chain_pairs n)) spans set) (sym count) h)

    pub never_below : IsBelow (tight_among fs (chain_pairs (length fs))) spans set → ⊥
    never_below h = none_below median (inr refl) (first_chain groups (length fs)) (first_places groups (length fs)) fs (lowest fs w.whole w.same) best spans are set
        (subst (λ (n : ℕ). IsBelow (tight_among fs (chain_pairs n)) spans set) (sym count) h)

  pub flows_certify : (pairs : List (ℕ × ℕ)) (amounts : List ℤ) → AreBalanced pairs spans amounts → Certify median (first_chain groups (length fs)) fs pairs amounts
  flows_certify pairs amounts told = record {
    flows = told.flows;
    balances = λ g l. let within : IsInSpan (span_at spans g) (balance pairs amounts g) = told.within g (omega (arith, l, are.counted)) in record {
      least = λ e. within.least (median.least (rows_at (take (length fs) groups) g) (own fs g).num (own fs g).den) (ap (λ (x : Span). x.least) (are.each g l));
      greatest = λ e. within.greatest (median.greatest (rows_at (take (length fs) groups) g) (own fs g).num (own fs g).den) (ap (λ (x : Span). x.greatest) (are.each g l));
    };
  }
