-- Fractions cut off at constant bounds: least best within them, where they are settled without them.
use Rattle.std.proofs.Common.{◌≡◌, ℕ, zero, suc, ◌<◌, refl, sym, ap, subst, ◌∙◌, arith, Bool, true, false, List, [], ◌∷◌, map, length}
use Rattle.std.proofs.lemmas.Int.{ints, clamps}
use Rattle.std.proofs.lemmas.Bool.{cond_both}
use Rattle.std.proofs.lemmas.List.{length-map}
use Rattle.std.specs.Prelude.{ℤ, pos, ◌*ℤ◌, ◌≤ℤ◌, ◌<ℤ◌, Option, Some, None, slice_get, int_lt}
use Rattle.std.specs.Int.{int_max, int_min}
use Rattle.ofit_num.specs.Problem.{Problem}
use Rattle.ofit_num.specs.ProblemPairs.{HasPlaces}
use Rattle.ofit_num.specs.Meaning.{Meaning}
use Rattle.ofit_num.specs.Fraction.{Fraction}
use Rattle.ofit_num.specs.Trial.{Trial, trial_of, scale_of}
use Rattle.ofit_num.specs.TrialValues.{Represents, EqualBelow}
use Rattle.ofit_num.specs.Fit.{BestValues, LeastBestValues}
use Rattle.ofit_num.specs.Law.{HasSupport, HasFallingSpans}
use Rattle.ofit_num.specs.Settled.{IsSettled, IsLeastSettled}
use Rattle.ofit_num.specs.Clipped.{HasConstantBounds, whole, clip, clip_low, clip_high, raised_to, lowered_to, clipped}
use Rattle.ofit_num.specs.Unbounded.{without_bounds}
use Rattle.ofit_num.specs.BoundOrder.{AreOrdered}
use Rattle.ofit_num.proofs.Order.{equal_at_most, equal_at_least}
use Rattle.ofit_num.proofs.TableScaling.{times_one}
use Rattle.ofit_num.proofs.Trials.{scale_above, trial_of-represents, EqualBelow-represents}
use Rattle.ofit_num.proofs.Settled.{settled_best, settled_least}
use Rattle.ofit_num.proofs.StrictBest.{FallStrictly, strict_least_best}
use Rattle.ofit_num.proofs.SettledEqual.{settled_equal, least_settled_equal}
use Rattle.ofit_num.proofs.Clipped.{clipped_settled, clipped_least_settled}

-- the value v/q is that of the fraction
record IsValue (v : ℤ) (q : ℕ) (f : Fraction) : Type 0 where
  den : 0 < f.den
  value : v *ℤ pos f.den ≡ f.num *ℤ pos q

pub test_less : (x y : ℤ) → int_lt x y ≡ true → x <ℤ y
test_less x y e = omega (arith, ints)

pub test_least : (x y : ℤ) → int_lt x y ≡ false → y ≤ℤ x
test_least x y e = omega (arith, ints)

-- what is at most, or at least, a whole number over one denominator is so over another
whole_at_most : (v c : ℤ) (q : ℕ) (f : Fraction) → IsValue v q f → f.num ≤ℤ (c *ℤ pos f.den) → v ≤ℤ (c *ℤ pos q)
whole_at_most v c q f is h = omega (arith, ints, times_one v, times_one f.num, equal_at_most f.num v c f.den q 1 is.den (sym is.value) (omega (arith, ints, times_one f.num)))

whole_at_least : (v c : ℤ) (q : ℕ) (f : Fraction) → IsValue v q f → (c *ℤ pos f.den) ≤ℤ f.num → (c *ℤ pos q) ≤ℤ v
whole_at_least v c q f is h = omega (arith, ints, times_one v, times_one f.num, equal_at_least f.num v c f.den q 1 is.den (sym is.value) (omega (arith, ints, times_one f.num)))

whole_value : (v c : ℤ) (q : ℕ) → v ≡ c *ℤ pos q → IsValue v q (whole c)
whole_value v c q e = record { den = omega arith; value = sym (times_one v) ∙ e }

same_value : (v w : ℤ) (q : ℕ) (f : Fraction) → w ≡ v → IsValue v q f → IsValue w q f
same_value v w q f e is = record { den = is.den; value = ap (λ (z : ℤ). z *ℤ pos f.den) e ∙ is.value }

-- cut off on either side, the value is that of the fraction cut off
value_low : (o : Option ℤ) (v : ℤ) (q : ℕ) (f : Fraction) → IsValue v q f → IsValue (raised_to o q v) q (clip_low o f)
value_low None v q f is = is
value_low (Some lo) v q f is = cond_both (int_lt f.num (lo *ℤ pos f.den)) (whole lo) f (IsValue (int_max v (lo *ℤ pos q)) q)
    (λ e. whole_value _ lo q (omega (arith, ints, clamps, whole_at_most v lo q f is (omega (arith, ints, test_less f.num (lo *ℤ pos f.den) e)))))
    (λ e. same_value v _ q f (omega (arith, ints, clamps, whole_at_least v lo q f is (test_least f.num (lo *ℤ pos f.den) e))) is)

value_high : (o : Option ℤ) (v : ℤ) (q : ℕ) (f : Fraction) → IsValue v q f → IsValue (lowered_to o q v) q (clip_high o f)
value_high None v q f is = is
value_high (Some hi) v q f is = cond_both (int_lt (hi *ℤ pos f.den) f.num) (whole hi) f (IsValue (int_min v (hi *ℤ pos q)) q)
    (λ e. whole_value _ hi q (omega (arith, ints, clamps, whole_at_least v hi q f is (omega (arith, ints, test_less (hi *ℤ pos f.den) f.num e)))))
    (λ e. same_value v _ q f (omega (arith, ints, clamps, whole_at_most v hi q f is (test_least (hi *ℤ pos f.den) f.num e))) is)

-- an element of a list of fractions cut off
from_list : (h : Fraction → Fraction) (fs : List Fraction) (g : ℕ) (c : Fraction) → slice_get (map h fs) g ≡ Some c → (f : Fraction) × (slice_get fs g ≡ Some f) × (h f ≡ c)
from_list h [] g c e = cc
from_list h (f ∷ fs) zero c e = (f, refl, cc)
from_list h (f ∷ fs) (suc g) c e = from_list h fs g c e

-- The trial cut off has the fractions cut off.
pub clipped_represents : (lo hi : Option ℤ) (fs : List Fraction) (t : Trial) → Represents fs t → Represents (map (clip lo hi) fs) (clipped lo hi t)
clipped_represents lo hi fs t has = record {
  scale = has.scale;
  dens = λ g c e. (each g c (from_list (clip lo hi) fs g c e)).den;
  values = λ g c e. (each g c (from_list (clip lo hi) fs g c e)).value;
} where
  each : (g : ℕ) (c : Fraction) → (f : Fraction) × (slice_get fs g ≡ Some f) × (clip lo hi f ≡ c) → IsValue ((clipped lo hi t).value g) t.scale c
  each g c x = subst (IsValue ((clipped lo hi t).value g) t.scale) x.2
      (value_high hi _ t.scale _ (value_low lo (t.value g) t.scale x.0 (record { den = has.dens g x.0 x.1; value = has.values g x.0 x.1 })))

-- A list of values that is settled without bounds, cut off at constant bounds.
module _ (m : Meaning) (s : Problem) (lo hi : Option ℤ) (values : List Fraction) (places : HasPlaces s) (falling : HasFallingSpans m s) (constant : HasConstantBounds s lo hi) (ordered : AreOrdered lo hi) (count : length values ≡ s.count) where
  as_many : length (map (clip lo hi) values) ≡ s.count
  as_many = length-map values (clip lo hi) ∙ count

  represents : 0 < scale_of values → Represents (map (clip lo hi) values) (clipped lo hi (trial_of values))
  represents scale = clipped_represents lo hi values (trial_of values) (trial_of-represents values scale)

  scale_clipped : 0 < scale_of values → 0 < scale_of (map (clip lo hi) values)
  scale_clipped scale = scale_above (map (clip lo hi) values) (represents scale).dens

  same_trial : 0 < scale_of values → EqualBelow s.count (clipped lo hi (trial_of values)) (trial_of (map (clip lo hi) values))
  same_trial scale = subst (λ (n : ℕ). EqualBelow n (clipped lo hi (trial_of values)) (trial_of (map (clip lo hi) values))) as_many
      (EqualBelow-represents (map (clip lo hi) values) _ _ (represents scale) (trial_of-represents (map (clip lo hi) values) (scale_clipped scale)))

  -- It is settled within them.
  pub clipped_settled_values : IsSettled m (without_bounds s) (trial_of values) → IsSettled m s (trial_of (map (clip lo hi) values))
  clipped_settled_values settled = settled_equal m s _ _ places falling (same_trial settled.obeys.scale) settled.obeys.scale (scale_clipped settled.obeys.scale)
      (clipped_settled m s lo hi falling constant ordered (trial_of values) settled)

  pub clipped_least_settled_values : IsLeastSettled m (without_bounds s) (trial_of values) → IsLeastSettled m s (trial_of (map (clip lo hi) values))
  clipped_least_settled_values least = least_settled_equal m s _ _ places falling (same_trial least.settled.obeys.scale) least.settled.obeys.scale (scale_clipped least.settled.obeys.scale)
      (clipped_least_settled m s lo hi falling constant ordered (trial_of values) least)

  -- So it is best; and least best where it loses by lowering any set, and where spans fall strictly, since there a best fit is the only one.
  pub clipped_best_values : HasSupport m s → IsSettled m (without_bounds s) (trial_of values) → BestValues m s (map (clip lo hi) values)
  clipped_best_values support settled = record { count = as_many; best = settled_best m s _ support (clipped_settled_values settled) }

  pub clipped_lowest_values : HasSupport m s → 0 < m.degree → IsLeastSettled m (without_bounds s) (trial_of values) → LeastBestValues m s (map (clip lo hi) values)
  clipped_lowest_values support some least = record { count = as_many; least_best = settled_least m s _ some support (clipped_least_settled_values least) }

  pub clipped_strict_values : HasSupport m s → 0 < m.degree → FallStrictly m s → IsSettled m (without_bounds s) (trial_of values) → LeastBestValues m s (map (clip lo hi) values)
  clipped_strict_values support some strictly settled = record { count = as_many; least_best = strict_least_best m s support some strictly _ (clipped_best_values support settled).best }

-- By what the fits tell of their values, the values cut off are least best within the bounds.
pub clipped_least_best_values : (m : Meaning) (strict : Bool) (s : Problem) (lo hi : Option ℤ) (values : List Fraction)
    → HasPlaces s → HasSupport m s → HasFallingSpans m s → 0 < m.degree → (strict ≡ true → FallStrictly m s)
    → HasConstantBounds s lo hi → AreOrdered lo hi → length values ≡ s.count
    → IsSettled m (without_bounds s) (trial_of values) → (strict ≡ false → IsLeastSettled m (without_bounds s) (trial_of values))
    → LeastBestValues m s (map (clip lo hi) values)
clipped_least_best_values m true s lo hi values places support falling some strictly constant ordered count settled least =
    clipped_strict_values m s lo hi values places falling constant ordered count support some (strictly refl) settled
clipped_least_best_values m false s lo hi values places support falling some strictly constant ordered count settled least =
    clipped_lowest_values m s lo hi values places falling constant ordered count support some (least refl)

-- The values 1, 7/2, 11/2 cut off at 2 and 5 are 2, 7/2, 5.
example_clip : map (clip (Some (pos 2)) (Some (pos 5))) (record { num = pos 1; den = 1 } ∷ record { num = pos 7; den = 2 } ∷ record { num = pos 11; den = 2 } ∷ [])
    ≡ whole (pos 2) ∷ record { num = pos 7; den = 2 } ∷ whole (pos 5) ∷ []
example_clip = refl
