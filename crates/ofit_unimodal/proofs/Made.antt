-- The peaked sheet of the best fit and of the sides passes, and has the shape and the limits of what is printed.
use Rattle.std.proofs.Common.{◌≡◌, ◌∙◌, refl, ℕ, zero, suc, ◌+◌, ◌-◌, ◌*◌, ◌^◌, ◌<◌, ◌≤◌, sym, ap, subst, arith, length, List, [], ◌∷◌, Option, Some, None}
use Rattle.std.proofs.Math.Nat.{mul-le-mul_left}
use Rattle.std.proofs.lemmas.Int.{ints}
use Rattle.std.proofs.lemmas.List.{get_or_default, take_all}
use Rattle.std.proofs.lemmas.List.Sums.{sum_by-append}
use Rattle.std.proofs.lemmas.List.Elements.{All-head, All-tail}
use Rattle.std.specs.Prelude.{ℤ, pos, ◌-ℤ◌, All, MatchOption, slice_index_or, unsigned_abs}
use Rattle.ofit_num.specs.declared.row.Row.{Row}
use Rattle.ofit_num.specs.Fit.{sum_below, trial_cost}
use Rattle.ofit_num.specs.RowTotals.{total_weight}
use Rattle.ofit_num.specs.RowLimits.{IsRowWithinLimits, AreWithinLimits}
use Rattle.ofit_num.specs.Loss.{median, row_sum}
use Rattle.ofit_num.specs.Problem.{Problem}
use Rattle.ofit_num.proofs.Sums.{sum_below-mono}
use Rattle.ofit_sheet.specs.declared.peaked.limits.TheConstants.{MOST_COST}
use Rattle.ofit_sheet.specs.Peaked.{Peaked, IsShaped, IsInLimits, IsStepInLimits}
use Rattle.ofit_sheet.specs.PeakVerdict.{PeakPasses, KeepsShape}
use Rattle.ofit_sheet.specs.Unimodal.{IsUnimodal, PeakBest, whole_trial}
use Rattle.ofit_sheet.specs.Unbounded.{HasNoBounds}
use Rattle.ofit_sheet.proofs.Umbrella.{umbrella_told}
use Rattle.ofit_check.specs.PeakSteps.{distance}
use Rattle.ofit_check.proofs.PeakCosts.{distances_cost}
use Rattle.ofit_sides.specs.Sides.{AreRises, AreFalls}
use Rattle.ofit_unimodal.specs.Fitted.{IsFit}

-- what rows cost at a value within their limits
distances_most : (value : ℤ) → unsigned_abs value ≤ 10 ^ 9 → (rows : List Row) → All IsRowWithinLimits rows → row_sum (distance value) rows ≤ 2 * 10 ^ 9 * total_weight rows
distances_most value l [] h = omega arith
distances_most value l (r ∷ rows) h =
    let own = (All-head IsRowWithinLimits r rows h).value in
    let far : unsigned_abs (r.value -ℤ value) ≤ 2 * 10 ^ 9 = omega (arith, ints, own, l) in
    omega (arith, sum_by-append (λ (q : Row). q.weight) (r ∷ []) rows, mul-le-mul_left r.weight far, distances_most value l rows (All-tail IsRowWithinLimits r rows h))

rows_most : (value : ℤ) → unsigned_abs value ≤ 10 ^ 9 → (rows : List Row) → AreWithinLimits rows → median.cost rows value 1 ≤ 2 * 10 ^ 9 * 10 ^ 10
rows_most value l rows h =
    omega (arith, sym (distances_cost value rows (length rows) (omega arith)), ap (row_sum (distance value)) (take_all (length rows) rows (omega arith)), distances_most value l rows h.each, mul-le-mul_left (2 * 10 ^ 9) h.together)

constant : (c n : ℕ) → sum_below (λ g. c) n ≡ c * n
constant c zero = omega arith
constant c (suc n) = omega (arith, constant c n)

module _ (s : Problem) (values : List ℤ) (small : All (λ value. unsigned_abs value ≤ 10 ^ 9) values) (limited : (g : ℕ) → g < s.count → AreWithinLimits (s.rows g)) (few : s.count ≤ 200) where
  small_at : (g : ℕ) → g < length values → unsigned_abs (slice_index_or values g (pos 0)) ≤ 10 ^ 9
  small_at g l = small g (pos 0) l

  values_most : length values ≡ s.count → trial_cost median s (whole_trial values) ≤ MOST_COST
  values_most count =
      let most = sum_below-mono (λ g. median.cost (s.rows g) ((whole_trial values).value g) 1) (λ g. 2 * 10 ^ 9 * 10 ^ 10) s.count (λ g l. rows_most ((whole_trial values).value g) (small_at g (omega (arith, l, count))) (s.rows g) (limited g l)) in
      omega (arith, most, constant (2 * 10 ^ 9 * 10 ^ 10) s.count, mul-le-mul_left (2 * 10 ^ 9 * 10 ^ 10) few)

abbrev pub sheet_of : ℕ → Option ℕ → ℕ → List ℤ → List (List (ℤ × ℤ)) → List (List (ℤ × ℤ)) → Peaked
sheet_of places peak cost values rises falls = record { places = places; peak = peak; cost = cost; values = values; rises = rises; falls = falls }

module _ (s : Problem) (own : ℕ) (rises falls : List (List (ℤ × ℤ))) (up : AreRises s rises) (down : AreFalls s falls) (free : HasNoBounds s) (cost : ℕ) (values : List ℤ) where
  abbrev made : Option ℕ → Peaked
  made peak = sheet_of own peak cost values rises falls

  shape_kept : (peak : Option ℕ) → PeakBest s peak cost values → (g : ℕ) → g < s.count - 1 → KeepsShape (made peak) g
  shape_kept None b g l = tt
  shape_kept (Some k) b g l =
      let uni : IsUnimodal s.count k (whole_trial values) = (umbrella_told s k b.place free (whole_trial values)).1 b.least_best.best.obeys in
      (λ m. uni.rises g (omega (arith, l)) m, λ m. uni.falls g (omega (arith, l)) m)

  cost_is : (peak : Option ℕ) → PeakBest s peak cost values → trial_cost median s (whole_trial values) ≡ cost
  cost_is None b = ap (sum_below (λ g. median.cost (s.rows g) ((whole_trial values).value g) 1)) b.nothing ∙ sym b.free
  cost_is (Some k) b = b.costs

  pub made_passes : (peak : Option ℕ) → IsFit s rises falls peak cost values → PeakPasses s own (made peak)
  made_passes peak fit = record {
    sides = record {
      rises = record {
        costed = record { peaked = record { settings = refl; shape = shape_kept peak fit.best }; cost = cost_is peak fit.best };
        rises = λ i a b. (up.each i a b).steps;
      };
      falls = λ i l. (down.each i l).steps;
    };
    least = λ i l. fit.least i (omega (arith, l));
  }

  peak_there : (peak : Option ℕ) → PeakBest s peak cost values → MatchOption peak (s.count ≡ 0) (λ place. place < s.count)
  peak_there None b = b.nothing
  peak_there (Some k) b = b.place

  values_count : (peak : Option ℕ) → PeakBest s peak cost values → length values ≡ s.count
  values_count None b = omega (arith, ap length b.empty, b.nothing)
  values_count (Some k) b = b.count

  pub made_shaped : (peak : Option ℕ) → own ≤ 6 → PeakBest s peak cost values → IsShaped s.count (made peak)
  made_shaped peak l b = record {
    places = l;
    peak = peak_there peak b;
    values = values_count peak b;
    rises = up.count;
    falls = down.count;
    rise = λ i a b. (up.each i a b).shape;
    fall = λ i l. (down.each i l).shape;
  }

  nothing_free : (peak : Option ℕ) → PeakBest s peak cost values → peak ≡ None → cost ≡ 0
  nothing_free None b e = b.free
  nothing_free (Some k) b e = absurd (cc)

  rises_limited : All (λ side. All IsStepInLimits side) rises
  rises_limited k d l =
      let there : slice_index_or rises k [] ≡ slice_index_or rises k d = get_or_default rises k [] d l in
      let at : k + 1 - 1 ≡ k = omega arith in
      subst (λ (side : List (ℤ × ℤ)). All IsStepInLimits side) (ap (λ (j : ℕ). slice_index_or rises j []) at ∙ there) (up.each (k + 1) (omega arith) (omega (arith, l, up.count))).limits

  falls_limited : All (λ side. All IsStepInLimits side) falls
  falls_limited k d l = subst (λ (side : List (ℤ × ℤ)). All IsStepInLimits side) (get_or_default falls k [] d l) (down.each k (omega (arith, l, down.count))).limits

  pub made_limited : (peak : Option ℕ) → IsFit s rises falls peak cost values → ((g : ℕ) → g < s.count → AreWithinLimits (s.rows g)) → s.count ≤ 200 → IsInLimits (made peak)
  made_limited peak fit limited few = record {
    cost = omega (arith, cost_is peak fit.best, values_most s values fit.small limited few (values_count peak fit.best));
    nothing = nothing_free peak fit.best;
    values = fit.small;
    rises = rises_limited;
    falls = falls_limited;
  }
