-- What is best, or least best, for each of the parts into which a problem falls is so for the problem.
use Rattle.std.proofs.Common.{◌≡◌, ℕ, ◌*◌, ◌^◌, ◌<◌, ◌≤◌, ap, sym, subst, ◌∙◌, arith, get_or, List}
use Rattle.std.proofs.lemmas.Int.{ints}
use Rattle.std.proofs.lemmas.List.Elements.{Contains-get_or, All-contains}
use Rattle.std.specs.Prelude.{pos, ◌*ℤ◌, ◌≤ℤ◌, IfSome}
use Rattle.std.specs.List.{Contains}
use Rattle.ofit_num.specs.declared.row.Row.{Row}
use Rattle.ofit_num.specs.Problem.{Problem, Bounds}
use Rattle.ofit_num.specs.ProblemPairs.{HasPlaces}
use Rattle.ofit_num.specs.Meaning.{Meaning}
use Rattle.ofit_num.specs.Trial.{Trial}
use Rattle.ofit_num.specs.Fit.{Obeys, trial_cost, sum_below, Best, LeastBest}
use Rattle.ofit_num.specs.Law.{HasScaling}
use Rattle.ofit_num.proofs.Sums.{sum_below-same, sum_below-scale, sum_below-mono}
use Rattle.ofit_fit.proofs.Places.{HasPlace, sum_parts}
use Rattle.ofit_fit.proofs.Parts.{IsPart, along, along_obeys}
use Rattle.ofit_fit.proofs.Down.{best_down}

-- a place, as a part and its number in it
pub record LiesIn (r : ℕ) (p : ℕ → Problem) (at : ℕ → ℕ → ℕ) (g : ℕ) : Type 0 where
  pub part : ℕ
  pub below : part < r
  pub place : HasPlace (at part) (p part).count g

-- each place of s lies in just one of r parts
pub record AreParts (s : Problem) (r : ℕ) (p : ℕ → Problem) (at : ℕ → ℕ → ℕ) : Type 0 where
  pub each : (k : ℕ) → k < r → IsPart s (p k) (at k)
  pub cover : (g : ℕ) → g < s.count → LiesIn r p at g
  pub apart : (j k g : ℕ) → j < r → k < r → HasPlace (at j) (p j).count g → HasPlace (at k) (p k).count g → j ≡ k

module _ (m : Meaning) (s : Problem) (places : HasPlaces s) (r : ℕ) (p : ℕ → Problem) (at : ℕ → ℕ → ℕ) (parts : AreParts s r p at) where
  pub obeys_up : (t : Trial) → 0 < t.scale → ((k : ℕ) → k < r → Obeys (p k) (along t (at k))) → Obeys s t
  obeys_up t scale each = record {
    scale = scale;
    pairs = λ i d l. pair (get_or s.pairs i d) (Contains-get_or s.pairs i d l) (parts.cover _ (places i d l).0);
    low = λ g l. low g (parts.cover g l);
    high = λ g l. high g (parts.cover g l);
  } where
    pair : (e : ℕ × ℕ) → Contains s.pairs e → LiesIn r p at e.0 → t.value e.0 ≤ℤ t.value e.1
    pair e c x =
        let part : IsPart s (p x.part) (at x.part) = parts.each x.part x.below in
        let y : HasPlace (at x.part) (p x.part).count e.1 = part.up e.0 e.1 c x.place in
        let into : Contains (p x.part).pairs (x.place.0, y.0) = part.all x.place.0 y.0 x.place.1 y.1 (subst (λ (z : ℕ). Contains s.pairs (z, at x.part y.0)) (sym x.place.2) (subst (λ (z : ℕ). Contains s.pairs (e.0, z)) (sym y.2) c)) in
        let rises : t.value (at x.part x.place.0) ≤ℤ t.value (at x.part y.0) =
        All-contains (λ (f : ℕ × ℕ). t.value (at x.part f.0) ≤ℤ t.value (at x.part f.1)) (p x.part).pairs (x.place.0, y.0) (each x.part x.below).pairs into in
        omega (arith, ints, ap t.value x.place.2, ap t.value y.2)

    low : (g : ℕ) → LiesIn r p at g → IfSome (s.bounds g).lo (λ lo. (lo *ℤ pos t.scale) ≤ℤ t.value g)
    low g x =
        let part : IsPart s (p x.part) (at x.part) = parts.each x.part x.below in
        subst (λ (h : ℕ). IfSome (s.bounds h).lo (λ lo. (lo *ℤ pos t.scale) ≤ℤ t.value h)) x.place.2
        (subst (λ (b : Bounds). IfSome b.lo (λ lo. (lo *ℤ pos t.scale) ≤ℤ t.value (at x.part x.place.0))) (part.bounds x.place.0 x.place.1) ((each x.part x.below).low x.place.0 x.place.1))

    high : (g : ℕ) → LiesIn r p at g → IfSome (s.bounds g).hi (λ hi. t.value g ≤ℤ (hi *ℤ pos t.scale))
    high g x =
        let part : IsPart s (p x.part) (at x.part) = parts.each x.part x.below in
        subst (λ (h : ℕ). IfSome (s.bounds h).hi (λ hi. t.value h ≤ℤ (hi *ℤ pos t.scale))) x.place.2
        (subst (λ (b : Bounds). IfSome b.hi (λ hi. t.value (at x.part x.place.0) ≤ℤ (hi *ℤ pos t.scale))) (part.bounds x.place.0 x.place.1) ((each x.part x.below).high x.place.0 x.place.1))

  -- the cost of all groups is the sum of the parts' costs
  pub parts_cost : (t : Trial) → trial_cost m s t ≡ sum_below (λ k. trial_cost m (p k) (along t (at k))) r
  parts_cost t =
      sum_parts (λ g. m.cost (s.rows g) (t.value g) t.scale) s.count r at (λ k. (p k).count) (λ k i l b. (parts.each k l).inside i b) (λ k l. (parts.each k l).distinct)
      (λ g l. let x : LiesIn r p at g = parts.cover g l in (x.part, x.below, x.place)) parts.apart
      ∙ sum_below-same _ _ r (λ k l. sum_below-same _ _ (p k).count (λ i b. ap (λ (rows : List Row). m.cost rows (t.value (at k i)) t.scale) (sym ((parts.each k l).rows i b))))

  pub best_up : (t : Trial) → 0 < t.scale → ((k : ℕ) → k < r → Best m (p k) (along t (at k))) → Best m s t
  best_up t scale each = record {
    obeys = obeys_up t scale (λ k l. (each k l).obeys);
    cheapest = λ u ou. record { costs = cheaper u ou };
  } where
    cheaper : (u : Trial) → Obeys s u → trial_cost m s t * u.scale ^ m.degree ≤ trial_cost m s u * t.scale ^ m.degree
    cheaper u ou =
        let f : ℕ → ℕ = λ k. trial_cost m (p k) (along t (at k)) in
        let h : ℕ → ℕ = λ k. trial_cost m (p k) (along u (at k)) in
        subst (λ (c : ℕ). c * u.scale ^ m.degree ≤ trial_cost m s u * t.scale ^ m.degree) (sym (parts_cost t))
        (subst (λ (c : ℕ). sum_below f r * u.scale ^ m.degree ≤ c * t.scale ^ m.degree) (sym (parts_cost u))
        (subst (λ (c : ℕ). c ≤ sum_below h r * t.scale ^ m.degree) (sym (sum_below-scale f r (u.scale ^ m.degree)))
        (subst (λ (c : ℕ). sum_below (λ k. f k * u.scale ^ m.degree) r ≤ c) (sym (sum_below-scale h r (t.scale ^ m.degree)))
        (sum_below-mono _ _ r (λ k l. ((each k l).cheapest (along u (at k)) (along_obeys s (p k) (at k) (parts.each k l) u ou)).costs)))))

  pub least_best_up : HasScaling m s → (t : Trial) → 0 < t.scale → ((k : ℕ) → k < r → LeastBest m (p k) (along t (at k))) → LeastBest m s t
  least_best_up law t scale each = record {
    best = best_up t scale (λ k l. (each k l).best);
    least = λ u bu g l. at_place u bu g (parts.cover g l);
  } where
    at_place : (u : Trial) → Best m s u → (g : ℕ) → LiesIn r p at g → (t.value g *ℤ pos u.scale) ≤ℤ (u.value g *ℤ pos t.scale)
    at_place u bu g x =
        subst (λ (h : ℕ). (t.value h *ℤ pos u.scale) ≤ℤ (u.value h *ℤ pos t.scale)) x.place.2
        ((each x.part x.below).least (along u (at x.part)) (best_down m s (p x.part) (at x.part) (parts.each x.part x.below) law u bu) x.place.0 x.place.1)
