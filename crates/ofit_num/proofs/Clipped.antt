-- Values that are settled without bounds, cut off at constant bounds, are settled within them.
use Rattle.std.proofs.Common.{◌≡◌, ℕ, ◌-◌, ◌^◌, ◌<◌, refl, sym, ap, subst, arith, Bool, false, int_eq}
use Rattle.std.proofs.lemmas.Int.{ints, clamps, by_lt_z}
use Rattle.std.proofs.lemmas.Bool.Decides.{Decides-int_eq, not_from_Decides}
use Rattle.std.specs.Prelude.{ℤ, pos, ◌*ℤ◌, ◌≤ℤ◌, ◌<ℤ◌, Option, Some, None, IfSome}
use Rattle.ofit_num.specs.Problem.{Problem, Bounds}
use Rattle.ofit_num.specs.Meaning.{Meaning}
use Rattle.ofit_num.specs.Trial.{Trial}
use Rattle.ofit_num.specs.Fit.{Obeys}
use Rattle.ofit_num.specs.Span.{is_at}
use Rattle.ofit_num.specs.Law.{HasFallingSpans}
use Rattle.ofit_num.specs.Sets.{set_sum, IsClosedUp, IsClosedDown}
use Rattle.ofit_num.specs.Settled.{IsSettled, IsLeastSettled, CanRise, CanFall}
use Rattle.ofit_num.specs.Clipped.{HasConstantBounds, raised_to, lowered_to, clipped}
use Rattle.ofit_num.specs.Unbounded.{without_bounds}
use Rattle.ofit_num.specs.BoundOrder.{AreOrdered}
use Rattle.ofit_num.proofs.Order.{mul_pos, mul_strict, pow_above, cancel_le_ℤ}
use Rattle.ofit_num.proofs.Falls.{set_sum-members}

-- numbers that rise, still rise when they are cut off
raised_mono : (o : Option ℤ) (q : ℕ) (v w : ℤ) → v ≤ℤ w → raised_to o q v ≤ℤ raised_to o q w
raised_mono None q v w h = h
raised_mono (Some lo) q v w h = omega (arith, ints, clamps)

lowered_mono : (o : Option ℤ) (q : ℕ) (v w : ℤ) → v ≤ℤ w → lowered_to o q v ≤ℤ lowered_to o q w
lowered_mono None q v w h = h
lowered_mono (Some hi) q v w h = omega (arith, ints, clamps)

-- and lie within the bounds
inside_low : (lo hi : Option ℤ) (q : ℕ) (v : ℤ) → AreOrdered lo hi → IfSome lo (λ l. (l *ℤ pos q) ≤ℤ lowered_to hi q (raised_to lo q v))
inside_low None hi q v o = tt
inside_low (Some l) None q v o = omega (arith, ints, clamps)
inside_low (Some l) (Some h) q v o = omega (arith, ints, clamps, mul_pos l h q o)

inside_high : (lo hi : Option ℤ) (q : ℕ) (v : ℤ) → IfSome hi (λ h. lowered_to hi q (raised_to lo q v) ≤ℤ (h *ℤ pos q))
inside_high lo None q v = tt
inside_high lo (Some h) q v = omega (arith, ints, clamps)

-- Below the upper bound nothing was lowered, and above the lower one nothing was raised.
raised_only : (lo hi : Option ℤ) (q : ℕ) (v : ℤ) → is_at hi (lowered_to hi q (raised_to lo q v)) q ≡ false → v ≤ℤ lowered_to hi q (raised_to lo q v)
raised_only lo hi q v e = go hi e where
  upward : (o : Option ℤ) → v ≤ℤ raised_to o q v
  upward None = omega (arith, ints)
  upward (Some l) = omega (arith, ints, clamps)

  go : (hi : Option ℤ) → is_at hi (lowered_to hi q (raised_to lo q v)) q ≡ false → v ≤ℤ lowered_to hi q (raised_to lo q v)
  go None e = upward lo
  go (Some h) e = by_lt_z (raised_to lo q v) (h *ℤ pos q)
      (λ less. omega (arith, ints, clamps, upward lo))
      (λ at_least. absurd (not_from_Decides (int_eq (h *ℤ pos q) _) (Decides-int_eq (h *ℤ pos q) _) e (omega (arith, ints, clamps))))

lowered_only : (lo hi : Option ℤ) (q : ℕ) (v : ℤ) → AreOrdered lo hi → is_at lo (lowered_to hi q (raised_to lo q v)) q ≡ false → lowered_to hi q (raised_to lo q v) ≤ℤ v
lowered_only None None q v o e = omega (arith, ints)
lowered_only None (Some h) q v o e = omega (arith, ints, clamps)
lowered_only (Some l) hi q v o e = by_lt_z v (l *ℤ pos q)
    (λ less. absurd (not_from_Decides (int_eq (l *ℤ pos q) _) (Decides-int_eq (l *ℤ pos q) _) e (at_low hi o less)))
    (λ at_least. within hi at_least)
  where
    at_low : (hi : Option ℤ) → AreOrdered (Some l) hi → v <ℤ (l *ℤ pos q) → l *ℤ pos q ≡ lowered_to hi q (raised_to (Some l) q v)
    at_low None o less = omega (arith, ints, clamps)
    at_low (Some h) o less = omega (arith, ints, clamps, mul_pos l h q o)

    within : (hi : Option ℤ) → (l *ℤ pos q) ≤ℤ v → lowered_to hi q (raised_to (Some l) q v) ≤ℤ v
    within None least = omega (arith, ints, clamps)
    within (Some h) least = omega (arith, ints, clamps)

-- Over one scale the ends of a span only fall as the value rises.
module _ (m : Meaning) (s : Problem) (law : HasFallingSpans m s) (q : ℕ) (scale : 0 < q) (g : ℕ) (l : g < s.count) where
  past : (p p' : ℤ) → p <ℤ p' → m.greatest (s.rows g) p' q ≤ℤ m.least (s.rows g) p q
  past p p' h = cancel_le_ℤ (m.greatest (s.rows g) p' q) (m.least (s.rows g) p q) (q ^ (m.degree - 1)) (pow_above q (m.degree - 1) scale)
      (law.falls g l (record { num = p; den = q }) (record { num = p'; den = q }) scale scale (mul_strict p p' q h scale))

  least_falls : (p p' : ℤ) → p ≤ℤ p' → m.least (s.rows g) p' q ≤ℤ m.least (s.rows g) p q
  least_falls p p' h = by_lt_z p p'
      (λ less. omega (arith, ints, past p p' less, law.ordered g l (record { num = p'; den = q }) scale))
      (λ at_most.
      let e : p ≡ p' = omega (arith, ints) in
      omega (arith, ints, ap (λ (z : ℤ). m.least (s.rows g) z q) e))

  greatest_falls : (p p' : ℤ) → p ≤ℤ p' → m.greatest (s.rows g) p' q ≤ℤ m.greatest (s.rows g) p q
  greatest_falls p p' h = by_lt_z p p'
      (λ less. omega (arith, ints, past p p' less, law.ordered g l (record { num = p; den = q }) scale))
      (λ at_most.
      let e : p ≡ p' = omega (arith, ints) in
      omega (arith, ints, ap (λ (z : ℤ). m.greatest (s.rows g) z q) e))

-- A set that can be raised together once the values are cut off could be raised together before, and cutting off lowered none of its places; the same of sets that can be lowered.
module _ (m : Meaning) (s : Problem) (lo hi : Option ℤ) (law : HasFallingSpans m s) (constant : HasConstantBounds s lo hi) (ordered : AreOrdered lo hi) (t : Trial) where
  pub clipped_obeys : Obeys (without_bounds s) t → Obeys s (clipped lo hi t)
  clipped_obeys obeys = record {
    scale = obeys.scale;
    pairs = λ i d l. lowered_mono hi t.scale _ _ (raised_mono lo t.scale _ _ (obeys.pairs i d l));
    low = λ g l. subst (λ (b : Bounds). IfSome b.lo (λ x. (x *ℤ pos t.scale) ≤ℤ (clipped lo hi t).value g)) (sym (constant.each g l)) (inside_low lo hi t.scale (t.value g) ordered);
    high = λ g l. subst (λ (b : Bounds). IfSome b.hi (λ x. (clipped lo hi t).value g ≤ℤ (x *ℤ pos t.scale))) (sym (constant.each g l)) (inside_high lo hi t.scale (t.value g));
  }

  closed_up : (a : ℕ → Bool) → IsClosedUp s (clipped lo hi t) a → IsClosedUp (without_bounds s) t a
  closed_up a closed i d l e k = closed i d l (ap (λ (v : ℤ). lowered_to hi t.scale (raised_to lo t.scale v)) e) k

  closed_down : (a : ℕ → Bool) → IsClosedDown s (clipped lo hi t) a → IsClosedDown (without_bounds s) t a
  closed_down a closed i d l e k = closed i d l (ap (λ (v : ℤ). lowered_to hi t.scale (raised_to lo t.scale v)) e) k

  least_sum : (a : ℕ → Bool) → 0 < t.scale → CanRise s (clipped lo hi t) a
      → set_sum a (λ g. m.least (s.rows g) ((clipped lo hi t).value g) t.scale) s.count ≤ℤ set_sum a (λ g. m.least (s.rows g) (t.value g) t.scale) s.count
  least_sum a scale can = set_sum-members a _ _ s.count
      (λ g l k. least_falls m s law t.scale scale g l (t.value g) ((clipped lo hi t).value g)
      (raised_only lo hi t.scale (t.value g) (subst (λ (b : Bounds). is_at b.hi ((clipped lo hi t).value g) t.scale ≡ false) (constant.each g l) (can g l k))))

  greatest_sum : (a : ℕ → Bool) → 0 < t.scale → CanFall s (clipped lo hi t) a
      → set_sum a (λ g. m.greatest (s.rows g) (t.value g) t.scale) s.count ≤ℤ set_sum a (λ g. m.greatest (s.rows g) ((clipped lo hi t).value g) t.scale) s.count
  greatest_sum a scale can = set_sum-members a _ _ s.count
      (λ g l k. greatest_falls m s law t.scale scale g l ((clipped lo hi t).value g) (t.value g)
      (lowered_only lo hi t.scale (t.value g) ordered (subst (λ (b : Bounds). is_at b.lo ((clipped lo hi t).value g) t.scale ≡ false) (constant.each g l) (can g l k))))

  -- What is settled without bounds is settled within them when it is cut off.
  pub clipped_settled : IsSettled m (without_bounds s) t → IsSettled m s (clipped lo hi t)
  clipped_settled settled = record {
    obeys = clipped_obeys settled.obeys;
    raised = λ a closed can. omega (arith, ints, least_sum a settled.obeys.scale can, settled.raised a (closed_up a closed) (λ g l k. refl));
    lowered = λ a closed can. omega (arith, ints, greatest_sum a settled.obeys.scale can, settled.lowered a (closed_down a closed) (λ g l k. refl));
  }

  -- And what loses by lowering any set still does.
  pub clipped_least_settled : IsLeastSettled m (without_bounds s) t → IsLeastSettled m s (clipped lo hi t)
  clipped_least_settled least = record {
    settled = clipped_settled least.settled;
    loses = λ a closed can g l k. omega (arith, ints, greatest_sum a least.settled.obeys.scale can, least.loses a (closed_down a closed) (λ g l k. refl) g l k);
  }
