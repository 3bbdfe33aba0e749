-- Trials of equal values: they cost the same, obey together and are best together. The loss enters by its scaling alone.
use Rattle.std.proofs.Common.{◌≡◌, ℕ, ◌*◌, ◌^◌, ◌<◌, ◌≤◌, sym, ap₂, ◌∙◌, arith, mul-le-mul_left}
use Rattle.std.proofs.lemmas.Int.{ints}
use Rattle.std.specs.Prelude.{ℤ, pos, ◌*ℤ◌, ◌≤ℤ◌, Option, Some, None, IfSome}
use Rattle.ofit_num.specs.Problem.{Problem}
use Rattle.ofit_num.specs.ProblemPairs.{HasPlaces}
use Rattle.ofit_num.specs.Meaning.{Meaning}
use Rattle.ofit_num.specs.Trial.{Trial}
use Rattle.ofit_num.specs.TrialValues.{EqualBelow}
use Rattle.ofit_num.specs.Fit.{Obeys, trial_cost, NoDearer, Best, LeastBest}
use Rattle.ofit_num.specs.Law.{HasScaling}
use Rattle.ofit_num.proofs.Order.{mul_pos, pow_above, cancel_le, cancel_le_ℤ, assoc_swap, equal_at_most}
use Rattle.ofit_num.proofs.Sums.{sum_below-scale, sum_below-same}

pub EqualBelow-sym : (n : ℕ) (t u : Trial) → EqualBelow n t u → EqualBelow n u t
EqualBelow-sym n t u same = record { values = λ g l. sym (same.values g l) }

-- NoDearer is transitive over three costs and the powers of three scales
chain : (c d e p q r : ℕ) → 0 < q → c * q ≤ d * p → d * r ≤ e * q → c * r ≤ e * p
chain c d e p q r l h k = cancel_le (c * r) (e * p) q l (omega (arith, mul-le-mul_left r h, mul-le-mul_left p k))

pub NoDearer-trans : (m : Meaning) (s : Problem) (t u v : Trial) → 0 < u.scale → NoDearer m s t u → NoDearer m s u v → NoDearer m s t v
NoDearer-trans m s t u v l h k = record { costs = chain (trial_cost m s t) (trial_cost m s u) (trial_cost m s v) _ _ _ (pow_above u.scale m.degree l) h.costs k.costs }

pub NoDearer-refl : (m : Meaning) (s : Problem) (t : Trial) → NoDearer m s t t
NoDearer-refl m s t = record { costs = omega arith }

module _ (m : Meaning) (s : Problem) (law : HasScaling m s) where
  pub group_cost-equal : (t u : Trial) (g : ℕ) → g < s.count → 0 < t.scale → 0 < u.scale → t.value g *ℤ pos u.scale ≡ u.value g *ℤ pos t.scale
      → m.cost (s.rows g) (t.value g) t.scale * u.scale ^ m.degree ≡ m.cost (s.rows g) (u.value g) u.scale * t.scale ^ m.degree
  group_cost-equal t u g l lt lu e =
      sym (law.cost g l u.scale t.scale (t.value g) lu lt)
      ∙ ap₂ (m.cost (s.rows g)) e (omega arith)
      ∙ law.cost g l t.scale u.scale (u.value g) lt lu

  pub trial_cost-equal : (t u : Trial) → 0 < t.scale → 0 < u.scale → EqualBelow s.count t u → trial_cost m s t * u.scale ^ m.degree ≡ trial_cost m s u * t.scale ^ m.degree
  trial_cost-equal t u lt lu same =
      sum_below-scale (λ g. m.cost (s.rows g) (t.value g) t.scale) s.count (u.scale ^ m.degree)
      ∙ sum_below-same _ _ s.count (λ g l. group_cost-equal t u g l lt lu (same.values g l))
      ∙ sym (sum_below-scale (λ g. m.cost (s.rows g) (u.value g) u.scale) s.count (t.scale ^ m.degree))

  pub NoDearer-equal : (t u : Trial) → 0 < t.scale → 0 < u.scale → EqualBelow s.count t u → NoDearer m s t u
  NoDearer-equal t u lt lu same = record { costs = omega (arith, trial_cost-equal t u lt lu same) }

  -- either side may be replaced
  pub NoDearer-replace : (t t' u u' : Trial) → 0 < t.scale → 0 < t'.scale → 0 < u.scale → 0 < u'.scale → EqualBelow s.count t t' → EqualBelow s.count u u' → NoDearer m s t u → NoDearer m s t' u'
  NoDearer-replace t t' u u' lt lt' lu lu' et eu h =
      NoDearer-trans m s t' t u' lt (NoDearer-equal t' t lt' lt (EqualBelow-sym s.count t t' et))
      (NoDearer-trans m s t u u' lu h (NoDearer-equal u u' lu lu' eu))

rises_equal : (a b c d : ℤ) (p q : ℕ) → 0 < p → a *ℤ pos q ≡ c *ℤ pos p → b *ℤ pos q ≡ d *ℤ pos p → a ≤ℤ b → c ≤ℤ d
rises_equal a b c d p q l e f h = cancel_le_ℤ c d p l (omega (arith, ints, mul_pos a b q h))

pub above_equal : (o : Option ℤ) (a c : ℤ) (p q : ℕ) → 0 < p → a *ℤ pos q ≡ c *ℤ pos p → IfSome o (λ lo. (lo *ℤ pos p) ≤ℤ a) → IfSome o (λ lo. (lo *ℤ pos q) ≤ℤ c)
above_equal None a c p q l e h = tt
above_equal (Some lo) a c p q l e h = cancel_le_ℤ _ _ p l (omega (arith, ints, mul_pos _ _ q h, assoc_swap lo (pos p) (pos q)))

pub below_equal : (o : Option ℤ) (a c : ℤ) (p q : ℕ) → 0 < p → a *ℤ pos q ≡ c *ℤ pos p → IfSome o (λ hi. a ≤ℤ (hi *ℤ pos p)) → IfSome o (λ hi. c ≤ℤ (hi *ℤ pos q))
below_equal None a c p q l e h = tt
below_equal (Some hi) a c p q l e h = cancel_le_ℤ _ _ p l (omega (arith, ints, mul_pos _ _ q h, assoc_swap hi (pos p) (pos q)))

pub Obeys-equal : (s : Problem) (t u : Trial) → HasPlaces s → EqualBelow s.count t u → 0 < u.scale → Obeys s t → Obeys s u
Obeys-equal s t u places same lu o = record {
  scale = lu;
  pairs = λ k d l. rises_equal _ _ _ _ t.scale u.scale o.scale (same.values _ (places k d l).0) (same.values _ (places k d l).1) (o.pairs k d l);
  low = λ g l. above_equal (s.bounds g).lo (t.value g) (u.value g) t.scale u.scale o.scale (same.values g l) (o.low g l);
  high = λ g l. below_equal (s.bounds g).hi (t.value g) (u.value g) t.scale u.scale o.scale (same.values g l) (o.high g l);
}

pub Best-equal : (m : Meaning) (s : Problem) (t u : Trial) → HasPlaces s → HasScaling m s → EqualBelow s.count t u → 0 < u.scale → Best m s t → Best m s u
Best-equal m s t u places law same lu best = record {
  obeys = Obeys-equal s t u places same lu best.obeys;
  cheapest = λ v ov.
      NoDearer-trans m s u t v best.obeys.scale (NoDearer-equal m s law u t lu best.obeys.scale (EqualBelow-sym s.count t u same)) (best.cheapest v ov);
}

pub LeastBest-equal : (m : Meaning) (s : Problem) (t u : Trial) → HasPlaces s → HasScaling m s → EqualBelow s.count t u → 0 < u.scale → LeastBest m s t → LeastBest m s u
LeastBest-equal m s t u places law same lu least = record {
  best = Best-equal m s t u places law same lu least.best;
  least = λ v best g l. equal_at_most (t.value g) (u.value g) (v.value g) t.scale u.scale v.scale least.best.obeys.scale (same.values g l) (least.least v best g l);
}
