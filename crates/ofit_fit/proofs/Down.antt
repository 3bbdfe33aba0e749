-- What is best, or least best, for a problem is so for each part.
use Rattle.std.proofs.Common.{◌≡◌, ℕ, ◌+◌, ◌*◌, ◌^◌, ◌<◌, ◌≤◌, ap, sym, subst, ◌∙◌, arith, mul-le-mul_left}
use Rattle.std.proofs.lemmas.Int.{ints}
use Rattle.std.proofs.lemmas.Nat.{mul-pow}
use Rattle.std.specs.Prelude.{ℤ, pos, ◌*ℤ◌, ◌≤ℤ◌}
use Rattle.ofit_num.specs.Problem.{Problem}
use Rattle.ofit_num.specs.Meaning.{Meaning}
use Rattle.ofit_num.specs.Trial.{Trial}
use Rattle.ofit_num.specs.Fit.{Obeys, trial_cost, Best, LeastBest}
use Rattle.ofit_num.specs.Law.{HasScaling}
use Rattle.ofit_num.proofs.Order.{mul_pos_mul, pow_above, cancel_le, cancel_le_ℤ}
use Rattle.ofit_num.proofs.Scaling.{NoDearer-trans}
use Rattle.ofit_fit.proofs.Parts.{IsPart, along, joined, moved_in, along_obeys, joined_obeys, rest_cost, split_cost, joined_cost}

-- with a and r the costs of part and rest, and b the part's other cost: at the powers x and y of the scales
take_rest : (a r b x y : ℕ) → 0 < y → (a + r) * (x * y) ≤ (b * y + r * x) * y → a * x ≤ b * y
take_rest a r b x y l h = cancel_le (a * x) (b * y) y l (omega arith)

add_rest : (a r b x y : ℕ) → b * y ≤ a * x → (b * y + r * x) * y ≤ (a + r) * (x * y)
add_rest a r b x y h = omega (arith, mul-le-mul_left y h)

-- a common factor of two values
take_factor : (v w : ℤ) (a b : ℕ) → 0 < b → (v *ℤ pos (a * b)) ≤ℤ ((w *ℤ pos b) *ℤ pos b) → (v *ℤ pos a) ≤ℤ (w *ℤ pos b)
take_factor v w a b l h = cancel_le_ℤ _ _ b l (omega (arith, ints, mul_pos_mul v a b ∙ ap (λ (n : ℕ). v *ℤ pos n) (turn b a))) where
  turn : (a b : ℕ) → a * b ≡ b * a
  turn a b = omega arith

module _ (m : Meaning) (s p : Problem) (at : ℕ → ℕ) (part : IsPart s p at) (law : HasScaling m s) where
  pub best_down : (t : Trial) → Best m s t → Best m p (along t at)
  best_down t best = record {
    obeys = along_obeys s p at part t best.obeys;
    cheapest = λ u ou. record { costs = go u ou ((best.cheapest (joined at p.count u t) (joined_obeys s p at part u t ou best.obeys)).costs) };
  } where
    go : (u : Trial) → Obeys p u → trial_cost m s t * (u.scale * t.scale) ^ m.degree ≤ trial_cost m s (joined at p.count u t) * t.scale ^ m.degree
        → trial_cost m p (along t at) * u.scale ^ m.degree ≤ trial_cost m p u * t.scale ^ m.degree
    go u ou h =
        take_rest (trial_cost m p (along t at)) (rest_cost s p at part m t) (trial_cost m p u) (u.scale ^ m.degree) (t.scale ^ m.degree) (pow_above t.scale m.degree best.obeys.scale)
        (subst (λ (c : ℕ). c * (u.scale ^ m.degree * t.scale ^ m.degree) ≤ (trial_cost m p u * t.scale ^ m.degree + rest_cost s p at part m t * u.scale ^ m.degree) * t.scale ^ m.degree) (split_cost s p at part m t)
        (subst (λ (c : ℕ). trial_cost m s t * (u.scale ^ m.degree * t.scale ^ m.degree) ≤ c * t.scale ^ m.degree) (joined_cost s p at part m law u t ou.scale best.obeys.scale)
        (subst (λ (c : ℕ). trial_cost m s t * c ≤ trial_cost m s (joined at p.count u t) * t.scale ^ m.degree) (mul-pow u.scale t.scale m.degree) h)))

  -- a best trial of the part, in place of a best trial's values there
  pub best_joined : (u t : Trial) → Best m p u → Best m s t → Best m s (joined at p.count u t)
  best_joined u t bu bt = record {
    obeys = joined_obeys s p at part u t bu.obeys bt.obeys;
    cheapest = λ v ov. NoDearer-trans m s (joined at p.count u t) t v bt.obeys.scale (record { costs = go (bu.cheapest (along t at) (along_obeys s p at part t bt.obeys)).costs }) (bt.cheapest v ov);
  } where
    go : trial_cost m p u * t.scale ^ m.degree ≤ trial_cost m p (along t at) * u.scale ^ m.degree → trial_cost m s (joined at p.count u t) * t.scale ^ m.degree ≤ trial_cost m s t * (u.scale * t.scale) ^ m.degree
    go h =
        subst (λ (c : ℕ). c * t.scale ^ m.degree ≤ trial_cost m s t * (u.scale * t.scale) ^ m.degree) (sym (joined_cost s p at part m law u t bu.obeys.scale bt.obeys.scale))
        (subst (λ (c : ℕ). (trial_cost m p u * t.scale ^ m.degree + rest_cost s p at part m t * u.scale ^ m.degree) * t.scale ^ m.degree ≤ c * (u.scale * t.scale) ^ m.degree) (sym (split_cost s p at part m t))
        (subst (λ (c : ℕ). (trial_cost m p u * t.scale ^ m.degree + rest_cost s p at part m t * u.scale ^ m.degree) * t.scale ^ m.degree ≤ (trial_cost m p (along t at) + rest_cost s p at part m t) * c) (sym (mul-pow u.scale t.scale m.degree))
        (add_rest (trial_cost m p (along t at)) (rest_cost s p at part m t) (trial_cost m p u) (u.scale ^ m.degree) (t.scale ^ m.degree) h)))

  pub least_best_down : (t : Trial) → LeastBest m s t → LeastBest m p (along t at)
  least_best_down t low = record {
    best = best_down t low.best;
    least = λ u bu i l.
        take_factor (t.value (at i)) (u.value i) u.scale t.scale low.best.obeys.scale
        (subst (λ (v : ℤ). (t.value (at i) *ℤ pos (u.scale * t.scale)) ≤ℤ (v *ℤ pos t.scale)) (moved_in at p.count u t part.distinct i l)
        (low.least (joined at p.count u t) (best_joined u t bu low.best) (at i) (part.inside i l)));
  }
