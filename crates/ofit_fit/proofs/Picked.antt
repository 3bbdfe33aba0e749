-- Lists of values of a problem and of its parts.
use Rattle.std.proofs.Common.{◌≡◌, ℕ, ◌<◌, sym, ap, ◌∙◌, arith, List, length, slice_index}
use Rattle.std.proofs.lemmas.List.{get_or-map, length-map}
use Rattle.std.proofs.lemmas.Option.{slice_get_within, slice_get-get_or, unwrap_or-slice_get}
use Rattle.std.specs.Prelude.{slice_get, Some, pos}
use Rattle.ofit_num.specs.Problem.{Problem}
use Rattle.ofit_num.specs.ProblemPairs.{HasPlaces}
use Rattle.ofit_num.specs.Meaning.{Meaning}
use Rattle.ofit_num.specs.Fraction.{Fraction}
use Rattle.ofit_num.specs.Trial.{scale_of, trial_of}
use Rattle.ofit_num.specs.TrialValues.{Represents}
use Rattle.ofit_num.specs.Fit.{LeastBest, LeastBestValues}
use Rattle.ofit_num.specs.Law.{HasScaling}
use Rattle.ofit_num.proofs.Trials.{scale_above, den_above, value_of-den, least_best_values, least_best_trial}
use Rattle.ofit_fit.specs.Part.{value_at, values_at}
use Rattle.ofit_fit.proofs.Parts.{IsPart, along, part_scaling}
use Rattle.ofit_fit.proofs.Down.{least_best_down}
use Rattle.ofit_fit.proofs.Up.{LiesIn, AreParts, least_best_up}

-- the i-th of n values is the one at the i-th place
pub record Picks (values picked : List Fraction) (at : ℕ → ℕ) (n : ℕ) : Type 0 where
  pub count : length picked ≡ n
  pub same : (i : ℕ) → i < n → slice_get picked i ≡ slice_get values (at i)

zero_fraction : Fraction
zero_fraction = record { num = pos 0; den = 1 }

-- the values of a list's places
pub values_at-picks : (values : List Fraction) (places : List ℕ) → ((i : ℕ) → i < length places → slice_index places i < length values) → Picks values (values_at values places) (slice_index places) (length places)
values_at-picks values places inside = record {
  count = length-map places (value_at values);
  same = λ i l.
      slice_get-get_or (values_at values places) i zero_fraction (omega (arith, length-map places (value_at values)))
      ∙ ap (λ (f : Fraction). Some f) (get_or-map (value_at values) places i 0 zero_fraction l ∙ unwrap_or-slice_get values (slice_index places i) (record { num = pos 0; den = 1 }))
      ∙ sym (slice_get-get_or values (slice_index places i) (record { num = pos 0; den = 1 }) (inside i l));
}

picks-represents : (values picked : List Fraction) (at : ℕ → ℕ) (n : ℕ) → 0 < scale_of values → Picks values picked at n → Represents picked (along (trial_of values) at)
picks-represents values picked at n l picks = record {
  scale = l;
  dens = λ i f e. den_above values l (at i) f (found i f e);
  values = λ i f e. value_of-den values (at i) f (found i f e);
} where
  found : (i : ℕ) (f : Fraction) → slice_get picked i ≡ Some f → slice_get values (at i) ≡ Some f
  found i f e =
      let below : i < length picked = slice_get_within picked i f e in
      sym (picks.same i (omega (arith, picks.count, below))) ∙ e

-- what is least best for the problem is so for a part
pub values_down : (m : Meaning) (s p : Problem) (at : ℕ → ℕ) → IsPart s p at → HasScaling m s → (values picked : List Fraction) → Picks values picked at p.count → LeastBestValues m s values → LeastBestValues m p picked
values_down m s p at part law values picked picks low =
    least_best_values m p part.places (part_scaling s p at part m law) picked (along (trial_of values) at) picks.count
    (picks-represents values picked at p.count low.least_best.best.obeys.scale picks)
    (least_best_down m s p at part law (trial_of values) low.least_best)

-- and what is least best for each part is so for the problem
pub values_up : (m : Meaning) (s : Problem) → HasPlaces s → HasScaling m s → (r : ℕ) (p : ℕ → Problem) (at : ℕ → ℕ → ℕ) → AreParts s r p at → (values : List Fraction) → length values ≡ s.count
    → (picked : ℕ → List Fraction) → ((k : ℕ) → k < r → Picks values (picked k) (at k) (p k).count) → ((k : ℕ) → k < r → LeastBestValues m (p k) (picked k)) → LeastBestValues m s values
values_up m s places law r p at parts values count picked picks low = record {
  count = count;
  least_best = least_best_up m s places r p at parts law (trial_of values) scale each;
} where
  den : (g : ℕ) (f : Fraction) → slice_get values g ≡ Some f → LiesIn r p at g → 0 < f.den
  den g f e x =
      let here : slice_get (picked x.part) x.place.0 ≡ slice_get values (at x.part x.place.0) = (picks x.part x.below).same x.place.0 x.place.1 in
      den_above (picked x.part) (low x.part x.below).least_best.best.obeys.scale x.place.0 f (here ∙ ap (slice_get values) x.place.2 ∙ e)

  scale : 0 < scale_of values
  scale = scale_above values (λ g f e. let l : g < length values = slice_get_within values g f e in den g f e (parts.cover g (omega (arith, count, l))))

  each : (k : ℕ) → k < r → LeastBest m (p k) (along (trial_of values) (at k))
  each k l =
      least_best_trial m (p k) (parts.each k l).places (part_scaling s (p k) (at k) (parts.each k l) m law) (picked k) (along (trial_of values) (at k)) (picks k l).count
      (picks-represents values (picked k) (at k) (p k).count scale (picks k l)) (low k l)
