-- The first of the cheapest splits is the first best peak: the least best values with it are what is looked for.
use Rattle.std.proofs.Common.{◌≡◌, ◌∙◌, ℕ, ◌*◌, ◌^◌, ◌<◌, ◌≤◌, inl, inr, sym, ap, subst, arith, length, List}
use Rattle.std.proofs.Math.Nat.{mul-le-mul_right, mul-lt-mul_of_pos_right}
use Rattle.std.specs.Prelude.{ℤ}
use Rattle.ofit_num.specs.Fit.{trial_cost, LeastBest}
use Rattle.ofit_num.specs.Loss.{median}
use Rattle.ofit_num.specs.Problem.{Problem}
use Rattle.ofit_num.specs.Trial.{Trial}
use Rattle.ofit_num.proofs.TableScaling.{first_power}
use Rattle.ofit_sheet.specs.Unimodal.{IsUnimodal, IsBestPeak, umbrella, whole_trial}
use Rattle.ofit_sheet.specs.Unbounded.{HasNoBounds}
use Rattle.ofit_sheet.proofs.Umbrella.{umbrella_told}
use Rattle.ofit_sides.specs.Sides.{AreRises, AreFalls}
use Rattle.ofit_unimodal.specs.Costs.{rise_cost, fall_cost, split_cost, IsCheapest}
use Rattle.ofit_unimodal.proofs.JoinedSides.{joined, joined_cost, joined_has_peak}
use Rattle.ofit_unimodal.proofs.SideBounds.{rises_bound, falls_bound}
use Rattle.ofit_unimodal.proofs.SplitBounds.{both_splits}

module _ (s : Problem) (rises falls : List (List (ℤ × ℤ))) (up : AreRises s rises) (down : AreFalls s falls) (some : 0 < s.count) (b : ℕ) (h : IsCheapest s rises falls b) where
  abbrev cost : ℕ
  cost = split_cost s rises falls b

  start_bounds : (t : Trial) (k : ℕ) → k < s.count → IsUnimodal s.count k t → split_cost s rises falls k * t.scale ≤ trial_cost median s t
  start_bounds t k l u = (both_splits s (rise_cost s rises) (fall_cost s falls) (rises_bound s rises up) (falls_bound s falls down) t k u l).0

  -- no unimodal trial costs less, and each one with an earlier peak costs more
  none_less : (t : Trial) (k : ℕ) → k < s.count → IsUnimodal s.count k t → cost * t.scale ≤ trial_cost median s t
  none_less t k l u = omega (arith, start_bounds t k l u, mul-le-mul_right t.scale (h.least k (omega (arith, l))))

  earlier_more : (t : Trial) (k : ℕ) → k < s.count → k < b → IsUnimodal s.count k t → cost * t.scale < trial_cost median s t
  earlier_more t k l m u = omega (arith, start_bounds t k l u, mul-lt-mul_of_pos_right (h.first k m) u.scale)

  -- so the sides at the split have a peak there, and not before it
  abbrev own : Trial
  own = joined s rises falls up down b h.inside

  own_cost : trial_cost median s own ≡ cost
  own_cost = joined_cost s rises falls up down b h.inside

  own_peak : (b < s.count) × IsUnimodal s.count b own
  own_peak =
      let has = joined_has_peak s rises falls up down b h.inside some in
      elim has.near [
        | inl at ↦ (omega (arith, at, has.inside), subst (λ (k : ℕ). IsUnimodal s.count k own) at has.unimodal)
        | inr before ↦ absurd (omega (arith, own_cost, earlier_more own has.peak has.inside (omega (arith, before)) has.unimodal))
      ]

  pub peak_inside : b < s.count
  peak_inside = own_peak.0

  module _ (free : HasNoBounds s) (values : List ℤ) (count : length values ≡ s.count) (fit : LeastBest median (umbrella s b) (whole_trial values)) where
    fit_cost : trial_cost median s (whole_trial values) ≡ cost
    fit_cost =
        let least = none_less (whole_trial values) b peak_inside ((umbrella_told s b peak_inside free (whole_trial values)).1 fit.best.obeys) in
        let most = (fit.best.cheapest own ((umbrella_told s b peak_inside free own).0 own_peak.1)).costs in
        omega (arith, least, most, own_cost)

    pub cheapest_best : IsBestPeak s b cost values
    cheapest_best =
        let scaled : (t : Trial) → trial_cost median s (whole_trial values) * t.scale ^ 1 ≡ cost * t.scale = λ t. ap (λ (n : ℕ). trial_cost median s (whole_trial values) * n) (sym (first_power t.scale)) ∙ ap (λ (n : ℕ). n * t.scale) fit_cost in
        record {
          place = peak_inside;
          count = count;
          least_best = fit;
          costs = fit_cost;
          cheapest = λ t k l u. record { costs = omega (arith, scaled t, none_less t k l u) };
          first = λ t k l u. record { costs = omega (arith, scaled t, earlier_more t k (omega (arith, l, h.inside)) l u) };
        }
