-- Under a loss of the table, values that are least best without bounds are, cut off at constant bounds, least best within them.
use Rattle.std.proofs.Common.{◌≡◌, ◌⊎◌, ◌∙◌, inl, inr, ℕ, ◌<◌, sym, ap, subst, arith, List, length, map}
use Rattle.std.proofs.lemmas.List.{length-map}
use Rattle.std.proofs.lemmas.Option.{slice_get-map, slice_get_within, same_Some}
use Rattle.std.specs.Option.{option_map}
use Rattle.std.specs.Prelude.{ℤ, Option, Some, slice_get}
use Rattle.ofit_num.specs.Problem.{Problem, Bounds}
use Rattle.ofit_num.specs.ProblemPairs.{HasPlaces}
use Rattle.ofit_num.specs.Meaning.{Meaning}
use Rattle.ofit_num.specs.Fraction.{Fraction}
use Rattle.ofit_num.specs.Trial.{trial_of}
use Rattle.ofit_num.specs.Fit.{BestValues, LeastBestValues}
use Rattle.ofit_num.specs.Loss.{Factors, squares, median, row_sum, table_loss}
use Rattle.ofit_num.specs.Clipped.{HasConstantBounds, AreClipped, clip}
use Rattle.ofit_num.specs.Unbounded.{without_bounds}
use Rattle.ofit_num.specs.BoundOrder.{AreOrdered}
use Rattle.ofit_num.proofs.Lists.{same_lists}
use Rattle.ofit_num.proofs.Trials.{fraction_at}
use Rattle.ofit_num.proofs.TableSupport.{absolute-support, squared-support}
use Rattle.ofit_num.proofs.TableFalling.{absolute-falling, squared-falling}
use Rattle.ofit_num.proofs.TableSettled.{absolute_least_settled, squared_best_settled}
use Rattle.ofit_num.proofs.StrictBest.{FallStrictly}
use Rattle.ofit_num.proofs.StrictSquares.{squares_least_best_values}
use Rattle.ofit_num.proofs.ClippedValues.{clipped_best_values, clipped_lowest_values, clipped_strict_values}

-- for absolute residuals
pub absolute_clipped : (f : Factors) (s : Problem) (lo hi : Option ℤ) (values : List Fraction) → HasPlaces s → HasConstantBounds s lo hi → AreOrdered lo hi
    → LeastBestValues (table_loss 1 f) (without_bounds s) values → LeastBestValues (table_loss 1 f) s (map (clip lo hi) values)
absolute_clipped f s lo hi values places constant ordered least =
    clipped_lowest_values (table_loss 1 f) s lo hi values places (absolute-falling f s) constant ordered least.count (absolute-support f s) (omega arith)
    (absolute_least_settled f (without_bounds s) (trial_of values) least.least_best)

-- for squared ones
pub squared_clipped : (f : Factors) (s : Problem) (lo hi : Option ℤ) (values : List Fraction) → HasPlaces s → HasConstantBounds s lo hi → AreOrdered lo hi → FallStrictly (table_loss 2 f) s
    → BestValues (table_loss 2 f) (without_bounds s) values → LeastBestValues (table_loss 2 f) s (map (clip lo hi) values)
squared_clipped f s lo hi values places constant ordered strictly best =
    clipped_strict_values (table_loss 2 f) s lo hi values places (squared-falling f s) constant ordered best.count (squared-support f s) (omega arith) strictly
    (squared_best_settled f (without_bounds s) (trial_of values) best.best)

-- and for the two without factors, where each group weighs something
pub median_clipped : (s : Problem) (lo hi : Option ℤ) (values : List Fraction) → HasPlaces s → HasConstantBounds s lo hi → AreOrdered lo hi
    → LeastBestValues median (without_bounds s) values → LeastBestValues median s (map (clip lo hi) values)
median_clipped s lo hi values places constant ordered least = absolute_clipped (record { above = 1; below = 1 }) s lo hi values places constant ordered least

pub squares_clipped : (s : Problem) (lo hi : Option ℤ) (values : List Fraction) → HasPlaces s → HasConstantBounds s lo hi → AreOrdered lo hi → ((g : ℕ) → g < s.count → 0 < row_sum (λ r. r.weight) (s.rows g))
    → LeastBestValues squares (without_bounds s) values → LeastBestValues squares s (map (clip lo hi) values)
squares_clipped s lo hi values places constant ordered weights least =
    squares_least_best_values s (map (clip lo hi) values) weights (clipped_best_values squares s lo hi values places (squared-falling (record { above = 1; below = 1 }) s) constant ordered least.count (squared-support (record { above = 1; below = 1 }) s)
    (squared_best_settled (record { above = 1; below = 1 }) (without_bounds s) (trial_of values) least.least_best.best))

either_clipped : (m : Meaning) → (m ≡ squares) ⊎ (m ≡ median) → (s : Problem) (lo hi : Option ℤ) (values : List Fraction) → HasPlaces s → HasConstantBounds s lo hi → AreOrdered lo hi → ((g : ℕ) → g < s.count → 0 < row_sum (λ r. r.weight) (s.rows g))
    → LeastBestValues m (without_bounds s) values → LeastBestValues m s (map (clip lo hi) values)
either_clipped m kind s lo hi values places constant ordered weights = elim kind [
  | inl e ↦ subst (λ (k : Meaning). LeastBestValues k (without_bounds s) values → LeastBestValues k s (map (clip lo hi) values)) (sym e) (squares_clipped s lo hi values places constant ordered weights)
  | inr e ↦ subst (λ (k : Meaning). LeastBestValues k (without_bounds s) values → LeastBestValues k s (map (clip lo hi) values)) (sym e) (median_clipped s lo hi values places constant ordered)
]

-- where all places have the same bounds, values are cut off there one like another
all_clipped : (s : Problem) (lo hi : Option ℤ) (before after : List Fraction) → length before ≡ s.count → HasConstantBounds s lo hi → AreClipped s before after → after ≡ map (clip lo hi) before
all_clipped s lo hi before after count constant are = same_lists after (map (clip lo hi) before) (are.count ∙ sym (length-map before (clip lo hi))) each where
  each : (k : ℕ) (x y : Fraction) → slice_get after k ≡ Some x → slice_get (map (clip lo hi) before) k ≡ Some y → x ≡ y
  each k x y at to =
      let l : k < length before = omega (arith, slice_get_within after k x at, are.count) in
      let old = fraction_at before k l in
      let own : x ≡ clip (s.bounds k).lo (s.bounds k).hi old.0 = same_Some x _ (sym at ∙ are.each k old.0 old.1) in
      let same : clip (s.bounds k).lo (s.bounds k).hi old.0 ≡ clip lo hi old.0 = ap (λ (b : Bounds). clip b.lo b.hi old.0) (constant.each k (omega (arith, l, count))) in
      let cut : clip lo hi old.0 ≡ y = same_Some _ y (sym (ap (option_map (clip lo hi)) old.1) ∙ sym (slice_get-map (clip lo hi) before k) ∙ to) in
      own ∙ same ∙ cut

-- so least best values without bounds, cut off at bounds that are the same everywhere, are least best within them
pub cut_off_least : (m : Meaning) → (m ≡ squares) ⊎ (m ≡ median) → (s : Problem) (lo hi : Option ℤ) (values within : List Fraction) → HasPlaces s → HasConstantBounds s lo hi → AreOrdered lo hi → ((g : ℕ) → g < s.count → 0 < row_sum (λ r. r.weight) (s.rows g))
    → LeastBestValues m (without_bounds s) values → AreClipped s values within → LeastBestValues m s within
cut_off_least m kind s lo hi values within places constant ordered weights least are =
    subst (LeastBestValues m s) (sym (all_clipped s lo hi values within least.count constant are)) (either_clipped m kind s lo hi values places constant ordered weights least)
