-- what is settled is best: the levels of any other fit are sets that could have been raised or lowered
use Rattle.std.proofs.Common.{◌≡◌, ℕ, zero, suc, ◌*◌, ◌-◌, ◌^◌, ◌<◌, ◌≤◌, ap, ◌∙◌, arith, Bool, true, false, refl, nat_lt, mul-pos}
use Rattle.std.proofs.lemmas.Int.{ints, by_lt_z}
use Rattle.std.proofs.lemmas.Bool.Decides.{nat_tests}
use Rattle.std.proofs.Math.IntN.{*ℤ-negsuc}
use Rattle.std.specs.Prelude.{ℤ, pos, negsuc, ◌+ℤ◌, ◌-ℤ◌, ◌*ℤ◌, ◌≤ℤ◌, ◌<ℤ◌}
use borrow.Author.Differences.{up, down}
use Rattle.ofit_num.proofs.Gap.{is_gap, gap-same, gap-add, gap-sub, gap-mul, pos-gap}
use Rattle.ofit_num.specs.Problem.{Problem}
use Rattle.ofit_num.specs.Meaning.{Meaning}
use Rattle.ofit_num.specs.Trial.{Trial}
use Rattle.ofit_num.specs.Fit.{Obeys, Best, LeastBest, NoDearer, sum_below}
use Rattle.ofit_num.specs.Span.{is_at}
use Rattle.ofit_num.specs.Law.{HasSupport}
use Rattle.ofit_num.specs.Sets.{set_sum, IsClosedUp, IsClosedDown}
use Rattle.ofit_num.specs.Settled.{IsSettled, IsLeastSettled, CanRise, CanFall}
use Rattle.ofit_num.proofs.Order.{swap_ℤ, mul_zero_ℤ, zero_mul_ℤ, mul_pos, mul_strict, pow_above}
use Rattle.ofit_num.proofs.Sums.{int_sum, int_sum-sub, sum_below-scale, sum_below-term, int_sum-add, int_sum-same, int_sum-mono, int_sum-scale, int_sum-pos, int_sum-nonneg, int_sum-above}
use Rattle.ofit_num.proofs.Layers.{layered}
use Rattle.ofit_num.proofs.Certified.{rise, low, high, factor, before, after, Holds, inside, ends_ordered, falls, climbs}

-- the sum of terms that are at most 0
pub none_above : (f : ℕ → ℤ) (n : ℕ) → ((k : ℕ) → k < n → f k ≤ℤ pos 0) → int_sum f n ≤ℤ pos 0
none_above f zero h = omega (arith, ints)
none_above f (suc n) h = omega (arith, ints, none_above f n (λ k l. h k (omega arith)), h n (omega arith))

pub up_mono : (y z : ℤ) → y ≤ℤ z → up y ≤ up z
up_mono (pos a) (pos b) h = omega (arith, ints)
up_mono (pos a) (negsuc b) h = absurd (omega (arith, ints))
up_mono (negsuc a) z h = omega arith

pub down_mono : (y z : ℤ) → y ≤ℤ z → down z ≤ down y
down_mono y (pos b) h = omega arith
down_mono (pos a) (negsuc b) h = absurd (omega (arith, ints))
down_mono (negsuc a) (negsuc b) h = omega (arith, ints)

pub lt_from : (k n : ℕ) → nat_lt k n ≡ true → k < n
lt_from k n e = grind (arith, nat_tests)

pub lt_to : (k n : ℕ) → k < n → nat_lt k n ≡ true
lt_to k n h = grind (arith, nat_tests)

-- between equal values of t, u rises as it does
rise_pair : (t u : Trial) (a b : ℕ) → u.value a ≤ℤ u.value b → t.value a ≡ t.value b → rise t u a ≤ℤ rise t u b
rise_pair t u a b h e = omega (arith, ints, mul_pos _ _ t.scale h, ap (λ (z : ℤ). z *ℤ pos u.scale) e)

-- the places that u raises by more than k, and those that it lowers by more than k
abbrev pub raised_past : Trial → Trial → ℕ → ℕ → Bool
raised_past t u k g = nat_lt k (up (rise t u g))

abbrev pub lowered_past : Trial → Trial → ℕ → ℕ → Bool
lowered_past t u k g = nat_lt k (down (rise t u g))

closed_up : (s : Problem) (t u : Trial) (k : ℕ) → Obeys s u → IsClosedUp s t (raised_past t u k)
closed_up s t u k ou i d l equal into =
    lt_to k _ (omega (arith, lt_from k _ into, up_mono _ _ (rise_pair t u _ _ (ou.pairs i d l) equal)))

closed_down : (s : Problem) (t u : Trial) (k : ℕ) → Obeys s u → IsClosedDown s t (lowered_past t u k)
closed_down s t u k ou i d l equal into =
    lt_to k _ (omega (arith, lt_from k _ into, down_mono _ _ (rise_pair t u _ _ (ou.pairs i d l) equal)))

module _ (m : Meaning) (s : Problem) (t u : Trial) (law : HasSupport m s) (ot : Obeys s t) (ou : Obeys s u) where
  x : ℕ → ℤ
  x g = rise t u g

  -- the end of the span on the side to which u moves
  toward : ℤ → ℤ → ℤ → ℤ
  toward l h (pos n) = l
  toward l h (negsuc n) = h

  parts : (l h y : ℤ) → toward l h y *ℤ y ≡ l *ℤ pos (up y) -ℤ h *ℤ pos (down y)
  unfolding toward
  parts l h (pos n) = omega (arith, ints, mul_zero_ℤ h)
  parts l h (negsuc n) = omega (arith, ints, *ℤ-negsuc h n, mul_zero_ℤ l)

  toward_in : (l h y : ℤ) → l ≤ℤ h → (l ≤ℤ toward l h y) × (toward l h y ≤ℤ h)
  unfolding toward
  toward_in l h (pos n) o = (omega (arith, ints), omega (arith, ints))
  toward_in l h (negsuc n) o = (omega (arith, ints), omega (arith, ints))

  chosen : ℕ → ℤ
  chosen g = toward (low m s t u law ot ou g) (high m s t u law ot ou g) (rise t u g)

  gained : ℕ → ℤ
  gained g = low m s t u law ot ou g *ℤ pos (up (rise t u g))

  lost : ℕ → ℤ
  lost g = high m s t u law ot ou g *ℤ pos (down (rise t u g))

  each : (g : ℕ) → g < s.count → Holds m s t u law ot ou g (chosen g)
  unfolding chosen
  each g l =
      let both : _ = toward_in (low m s t u law ot ou g) (high m s t u law ot ou g) (rise t u g) (ends_ordered m s t u law ot ou g l) in
      inside m s t u law ot ou g l (chosen g) both.0 both.1

  split : (g : ℕ) → chosen g *ℤ rise t u g ≡ gained g -ℤ lost g
  unfolding chosen gained lost
  split g = parts (low m s t u law ot ou g) (high m s t u law ot ou g) (rise t u g)

  total : pos (sum_below (before m s t u law ot ou) s.count) ≤ℤ (pos (sum_below (after m s t u law ot ou) s.count) +ℤ pos (factor m s t u law ot ou) *ℤ (int_sum gained s.count -ℤ int_sum lost s.count))
  total =
      let b : ℕ → ℕ = before m s t u law ot ou in
      let a : ℕ → ℕ = after m s t u law ot ou in
      let k : ℤ = pos (factor m s t u law ot ou) in
      let mono : int_sum (λ g. pos (b g)) s.count ≤ℤ int_sum (λ g. pos (a g) +ℤ k *ℤ (chosen g *ℤ rise t u g)) s.count = int_sum-mono _ _ s.count each in
      let apart : int_sum (λ g. chosen g *ℤ rise t u g) s.count ≡ int_sum gained s.count -ℤ int_sum lost s.count =
      int_sum-same _ (λ g. gained g -ℤ lost g) s.count (λ g l. split g) ∙ int_sum-sub gained lost s.count in
      let scaled : int_sum (λ g. k *ℤ (chosen g *ℤ rise t u g)) s.count ≡ k *ℤ (int_sum gained s.count -ℤ int_sum lost s.count) =
      int_sum-scale k (λ g. chosen g *ℤ rise t u g) s.count ∙ ap (λ (z : ℤ). k *ℤ z) apart in
      omega (arith, ints, int_sum-pos b s.count, int_sum-pos a s.count, int_sum-add (λ g. pos (a g)) (λ g. k *ℤ (chosen g *ℤ rise t u g)) s.count, mono, scaled)

  can_rise : (k : ℕ) → CanRise s t (raised_past t u k)
  can_rise k g l into = go (is_at (s.bounds g).hi (t.value g) t.scale) refl where
    go : (x : Bool) → is_at (s.bounds g).hi (t.value g) t.scale ≡ x → x ≡ false
    go false e = refl
    go true e = absurd (omega (arith, ints, lt_from k _ into, up_mono _ _ (falls m s t u law ot ou g l e)))

  can_fall : (k : ℕ) → CanFall s t (lowered_past t u k)
  can_fall k g l into = go (is_at (s.bounds g).lo (t.value g) t.scale) refl where
    go : (x : Bool) → is_at (s.bounds g).lo (t.value g) t.scale ≡ x → x ≡ false
    go false e = refl
    go true e = absurd (omega (arith, ints, lt_from k _ into, down_mono _ _ (climbs m s t u law ot ou g l e)))

  gained_le : IsSettled m s t → int_sum gained s.count ≤ℤ pos 0
  unfolding gained low
  gained_le settled =
      let y : ℕ → ℕ = λ g. up (rise t u g) in
      let top : ℕ = sum_below y s.count in
      let h : int_sum (λ k. set_sum (raised_past t u k) (low m s t u law ot ou) s.count) top ≤ℤ pos 0 =
      none_above _ top (λ k l. settled.raised (raised_past t u k) (closed_up s t u k ou) (can_rise k)) in
      omega (arith, ints, layered (low m s t u law ot ou) y s.count top (λ g l. sum_below-term y s.count g l), h)

  lost_ge : IsSettled m s t → pos 0 ≤ℤ int_sum lost s.count
  unfolding lost high
  lost_ge settled =
      let y : ℕ → ℕ = λ g. down (rise t u g) in
      let top : ℕ = sum_below y s.count in
      let h : pos 0 ≤ℤ int_sum (λ k. set_sum (lowered_past t u k) (high m s t u law ot ou) s.count) top =
      int_sum-nonneg _ top (λ k l. settled.lowered (lowered_past t u k) (closed_down s t u k ou) (can_fall k)) in
      omega (arith, ints, layered (high m s t u law ot ou) y s.count top (λ g l. sum_below-term y s.count g l), h)

  turned : (a b : ℤ) (f : ℕ) → pos f *ℤ (a -ℤ b) +ℤ (b -ℤ a) *ℤ pos f ≡ pos 0
  turned a b f = rw (is_gap a, is_gap b) (simp (pos-gap, gap-mul, gap-sub, gap-add) (gap-same _ _ _ _ (omega arith)))

  settled_cheaper : IsSettled m s t → NoDearer m s t u
  unfolding before after
  settled_cheaper settled =
      let k : ((int_sum gained s.count -ℤ int_sum lost s.count) *ℤ pos (factor m s t u law ot ou)) ≤ℤ (pos 0 *ℤ pos (factor m s t u law ot ou)) =
      mul_pos (int_sum gained s.count -ℤ int_sum lost s.count) (pos 0) (factor m s t u law ot ou) (omega (arith, ints, gained_le settled, lost_ge settled)) in
      record {
        costs = omega (
          arith,
          ints,
          total,
          k,
          zero_mul_ℤ (pos (factor m s t u law ot ou)),
          swap_ℤ (pos (factor m s t u law ot ou)) (int_sum gained s.count -ℤ int_sum lost s.count),
          sum_below-scale (λ g. m.cost (s.rows g) (t.value g) t.scale) s.count (u.scale ^ m.degree),
          sum_below-scale (λ g. m.cost (s.rows g) (u.value g) u.scale) s.count (t.scale ^ m.degree),
        );
      }

  -- where u is lower at a place, it costs more
  lost_above : IsLeastSettled m s t → (g : ℕ) → g < s.count → rise t u g <ℤ pos 0 → pos 0 <ℤ int_sum lost s.count
  unfolding lost high
  lost_above settled g l fall =
      let y : ℕ → ℕ = λ g. down (rise t u g) in
      let top : ℕ = sum_below y s.count in
      let positive : 0 < y g = omega (arith, ints) in
      let here : y g ≤ top = sum_below-term y s.count g l in
      let h : pos 0 <ℤ int_sum (λ k. set_sum (lowered_past t u k) (high m s t u law ot ou) s.count) top =
      int_sum-above _ top 0 (omega arith) (λ k l. settled.settled.lowered (lowered_past t u k) (closed_down s t u k ou) (can_fall k))
      (settled.loses (lowered_past t u 0) (closed_down s t u 0 ou) (can_fall 0) g l (lt_to 0 (y g) positive)) in
      omega (arith, ints, layered (high m s t u law ot ou) y s.count top (λ g l. sum_below-term y s.count g l), h)

  settled_dearer : IsLeastSettled m s t → 0 < m.degree → NoDearer m s u t → (g : ℕ) → g < s.count → (t.value g *ℤ pos u.scale) ≤ℤ (u.value g *ℤ pos t.scale)
  unfolding before after factor
  settled_dearer settled degree dear g l = by_lt_z (rise t u g) (pos 0) (λ fall. absurd (never fall)) (λ same. omega (arith, ints))
    where
      never : rise t u g <ℤ pos 0 → ⊥
      never fall =
          let f : ℕ = m.degree * u.scale ^ (m.degree - 1) in
          let f_above : 0 < f = mul-pos degree (pow_above u.scale (m.degree - 1) ou.scale) in
          let k : (pos 0 *ℤ pos f) <ℤ ((int_sum lost s.count -ℤ int_sum gained s.count) *ℤ pos f) = mul_strict (pos 0) (int_sum lost s.count -ℤ int_sum gained s.count) f (omega (arith, ints, gained_le settled.settled, lost_above settled g l fall)) f_above in
          omega (
            arith,
            ints,
            total,
            dear.costs,
            k,
            zero_mul_ℤ (pos f),
            turned (int_sum gained s.count) (int_sum lost s.count) f,
            sum_below-scale (λ g. m.cost (s.rows g) (t.value g) t.scale) s.count (u.scale ^ m.degree),
            sum_below-scale (λ g. m.cost (s.rows g) (u.value g) u.scale) s.count (t.scale ^ m.degree),
          )

-- What is settled is best.
pub settled_best : (m : Meaning) (s : Problem) (t : Trial) → HasSupport m s → IsSettled m s t → Best m s t
settled_best m s t law settled = record {
  obeys = settled.obeys;
  cheapest = λ u ou. settled_cheaper m s t u law settled.obeys ou settled;
}

-- What would lose by lowering any set is the least of the best.
pub settled_least : (m : Meaning) (s : Problem) (t : Trial) → 0 < m.degree → HasSupport m s → IsLeastSettled m s t → LeastBest m s t
settled_least m s t degree law low = record {
  best = settled_best m s t law low.settled;
  least = λ u best g l. settled_dearer m s t u law low.settled.obeys best.obeys low degree (best.cheapest t low.settled.obeys) g l;
}
