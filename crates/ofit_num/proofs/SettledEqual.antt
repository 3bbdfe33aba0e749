-- Trials of equal values are settled together.
use Rattle.std.proofs.Common.{◌≡◌, ℕ, ◌-◌, ◌^◌, ◌<◌, refl, sym, ap, ◌∙◌, arith, Bool, true, false, int_eq}
use Rattle.std.proofs.lemmas.Int.{ints}
use Rattle.std.proofs.lemmas.Bool.Decides.{Decides-int_eq, not_from_Decides}
use Rattle.std.specs.Prelude.{ℤ, pos, ◌*ℤ◌, ◌≤ℤ◌, Option, Some, None}
use Rattle.ofit_num.specs.Problem.{Problem}
use Rattle.ofit_num.specs.ProblemPairs.{HasPlaces}
use Rattle.ofit_num.specs.Meaning.{Meaning}
use Rattle.ofit_num.specs.Trial.{Trial}
use Rattle.ofit_num.specs.TrialValues.{EqualBelow}
use Rattle.ofit_num.specs.Span.{is_at}
use Rattle.ofit_num.specs.Law.{HasFallingSpans}
use Rattle.ofit_num.specs.Sets.{set_sum, IsClosedUp, IsClosedDown}
use Rattle.ofit_num.specs.Settled.{IsSettled, IsLeastSettled, CanRise, CanFall}
use Rattle.ofit_num.proofs.Order.{mul_pos, mul_strict, zero_mul_ℤ, pow_above, cancel_ℤ, assoc_swap}
use Rattle.ofit_num.proofs.Scaling.{Obeys-equal}
use Rattle.ofit_num.proofs.Recursion.{set_sum-le, not_above, not_below, above_zero}

-- equal values are at a bound together
at_equal : (o : Option ℤ) (a c : ℤ) (p q : ℕ) → 0 < p → a *ℤ pos q ≡ c *ℤ pos p → is_at o c q ≡ false → is_at o a p ≡ false
at_equal None a c p q l e h = refl
at_equal (Some v) a c p q l e h = go (int_eq (v *ℤ pos p) a) refl where
  go : (x : Bool) → int_eq (v *ℤ pos p) a ≡ x → x ≡ false
  go false f = refl
  go true f = absurd (not_from_Decides (int_eq (v *ℤ pos q) c) (Decides-int_eq (v *ℤ pos q) c) h (cancel_ℤ _ _ p l (assoc_swap v (pos q) (pos p) ∙ ap (λ (z : ℤ). z *ℤ pos q) ((Decides-int_eq _ _).0 f) ∙ e)))

module _ (m : Meaning) (s : Problem) (t u : Trial) (places : HasPlaces s) (law : HasFallingSpans m s) (same : EqualBelow s.count t u) (scale_t : 0 < t.scale) (scale_u : 0 < u.scale) where
  -- places of equal values in the one trial have equal values in the other
  level : (g h : ℕ) → g < s.count → h < s.count → t.value g ≡ t.value h → u.value g ≡ u.value h
  level g h l k e = cancel_ℤ _ _ t.scale scale_t (sym (same.values g l) ∙ ap (λ (z : ℤ). z *ℤ pos u.scale) e ∙ same.values h k)

  closed_up : (a : ℕ → Bool) → IsClosedUp s u a → IsClosedUp s t a
  closed_up a closed i d l e k = closed i d l (level _ _ (places i d l).0 (places i d l).1 e) k

  closed_down : (a : ℕ → Bool) → IsClosedDown s u a → IsClosedDown s t a
  closed_down a closed i d l e k = closed i d l (level _ _ (places i d l).0 (places i d l).1 e) k

  can_rise : (a : ℕ → Bool) → CanRise s u a → CanRise s t a
  can_rise a can g l k = at_equal (s.bounds g).hi (t.value g) (u.value g) t.scale u.scale scale_t (same.values g l) (can g l k)

  can_fall : (a : ℕ → Bool) → CanFall s u a → CanFall s t a
  can_fall a can g l k = at_equal (s.bounds g).lo (t.value g) (u.value g) t.scale u.scale scale_t (same.values g l) (can g l k)

  least_sum : (a : ℕ → Bool) → (set_sum a (λ g. m.least (s.rows g) (u.value g) u.scale) s.count *ℤ pos (t.scale ^ (m.degree - 1))) ≤ℤ (set_sum a (λ g. m.least (s.rows g) (t.value g) t.scale) s.count *ℤ pos (u.scale ^ (m.degree - 1)))
  least_sum a = set_sum-le a _ _ (t.scale ^ (m.degree - 1)) (u.scale ^ (m.degree - 1)) s.count
      (λ g l. omega (arith, ints, law.least g l (record { num = t.value g; den = t.scale }) (record { num = u.value g; den = u.scale }) scale_t scale_u (same.values g l)))

  greatest_sum : (a : ℕ → Bool) → (set_sum a (λ g. m.greatest (s.rows g) (t.value g) t.scale) s.count *ℤ pos (u.scale ^ (m.degree - 1))) ≤ℤ (set_sum a (λ g. m.greatest (s.rows g) (u.value g) u.scale) s.count *ℤ pos (t.scale ^ (m.degree - 1)))
  greatest_sum a = set_sum-le a _ _ (u.scale ^ (m.degree - 1)) (t.scale ^ (m.degree - 1)) s.count
      (λ g l. omega (arith, ints, law.greatest g l (record { num = t.value g; den = t.scale }) (record { num = u.value g; den = u.scale }) scale_t scale_u (same.values g l)))

  pub settled_equal : IsSettled m s t → IsSettled m s u
  settled_equal settled = record {
    obeys = Obeys-equal s t u places same scale_u settled.obeys;
    raised = λ a closed can. not_above _ (t.scale ^ (m.degree - 1)) (pow_above t.scale (m.degree - 1) scale_t)
        (omega (arith, ints, least_sum a, mul_pos _ (pos 0) (u.scale ^ (m.degree - 1)) (settled.raised a (closed_up a closed) (can_rise a can)), zero_mul_ℤ (pos (u.scale ^ (m.degree - 1)))));
    lowered = λ a closed can. not_below _ (t.scale ^ (m.degree - 1)) (pow_above t.scale (m.degree - 1) scale_t)
        (omega (arith, ints, greatest_sum a, mul_pos (pos 0) _ (u.scale ^ (m.degree - 1)) (settled.lowered a (closed_down a closed) (can_fall a can)), zero_mul_ℤ (pos (u.scale ^ (m.degree - 1)))));
  }

  pub least_settled_equal : IsLeastSettled m s t → IsLeastSettled m s u
  least_settled_equal least = record {
    settled = settled_equal least.settled;
    loses = λ a closed can g l k. above_zero _ (t.scale ^ (m.degree - 1)) (pow_above t.scale (m.degree - 1) scale_t)
        (omega (arith, ints, greatest_sum a, mul_strict (pos 0) _ (u.scale ^ (m.degree - 1)) (least.loses a (closed_down a closed) (can_fall a can) g l k) (pow_above u.scale (m.degree - 1) scale_u), zero_mul_ℤ (pos (u.scale ^ (m.degree - 1)))));
  }
