-- What is best is settled, under each loss whose spans fall slowly: a set that gains by a move could be moved by one step of a fine denominator.
use Rattle.std.proofs.Common.{◌≡◌, ℕ, zero, suc, ◌+◌, ◌*◌, ◌-◌, ◌^◌, ◌<◌, ◌≤◌, refl, sym, ap, arith, cond, Bool, true, false, mul-pos, mul-le-mul_left}
use Rattle.std.proofs.Math.Nat.{pow-zero, pow-succ', one-le-pow}
use Rattle.std.proofs.Math.IntN.{*ℤ-negsuc}
use Rattle.std.proofs.lemmas.Int.{ints, by_lt_z}
use Rattle.std.specs.Prelude.{ℤ, pos, negsuc, ◌+ℤ◌, ◌-ℤ◌, ◌*ℤ◌, ◌≤ℤ◌}
use Rattle.ofit_num.specs.Problem.{Problem}
use Rattle.ofit_num.specs.Meaning.{Meaning}
use Rattle.ofit_num.specs.Trial.{Trial}
use Rattle.ofit_num.specs.Fit.{Obeys, Best, LeastBest, NoDearer, trial_cost, sum_below}
use Rattle.ofit_num.specs.Law.{HasSupport, HasScaling}
use Rattle.ofit_num.specs.Sets.{set_sum, IsClosedUp, IsClosedDown}
use Rattle.ofit_num.specs.Settled.{IsSettled, IsLeastSettled, CanRise, CanFall}
use Rattle.ofit_num.proofs.Gap.{is_gap, gap-same, gap-add, gap-sub, gap-mul, pos-gap, distr}
use Rattle.ofit_num.proofs.Order.{zero_mul_ℤ, swap_ℤ, mul_pos, mul_pos_mul, cancel_le_ℤ, pow_above}
use Rattle.ofit_num.proofs.Scaling.{NoDearer-trans}
use Rattle.ofit_num.proofs.Sums.{int_sum, int_sum-pos, int_sum-add, int_sum-mono, int_sum-scale, sum_below-scale}
use Rattle.ofit_num.proofs.Certified.{rise, low, high, factor, before, after, inside}
use Rattle.ofit_num.proofs.TableScaling.{times_one}
use Rattle.ofit_num.proofs.Moved.{moved, Obeys-raised, Obeys-lowered}

-- From p/q to (p + 1)/q the span falls by no more than a slack, which is one for all p and q: its greatest end there is at most so much below its least end here. At degree 1 it isn't below it.
pub record FallSlowly (m : Meaning) (s : Problem) : Type 0 where
  pub slack : ℕ → ℕ
  pub step : (g : ℕ) → g < s.count → (p : ℤ) (q : ℕ) → 0 < q → m.least (s.rows g) p q ≤ℤ (m.greatest (s.rows g) (p +ℤ pos 1) q +ℤ pos ((m.degree - 1) * slack g))

-- from the moved trial back to the trial each place of the set moves by -e, over both denominators
one_rise : (x : Bool) (b v e : ℤ) (k q : ℕ) → b *ℤ (v *ℤ pos (q * k) -ℤ (v *ℤ pos k +ℤ cond x e (pos 0)) *ℤ pos q) ≡ cond x b (pos 0) *ℤ ((pos 0 -ℤ e) *ℤ pos q)
one_rise true b v e k q = rw (is_gap b, is_gap v, is_gap e) (simp (pos-gap, gap-mul, gap-add, gap-sub) (gap-same _ _ _ _ (omega arith)))
one_rise false b v e k q = rw (is_gap b, is_gap v, is_gap e) (simp (pos-gap, gap-mul, gap-add, gap-sub) (gap-same _ _ _ _ (omega arith)))

rises : (t : Trial) (a : ℕ → Bool) (b : ℕ → ℤ) (e : ℤ) (k n : ℕ) → int_sum (λ g. b g *ℤ rise (moved e k a t) t g) n ≡ set_sum a b n *ℤ ((pos 0 -ℤ e) *ℤ pos t.scale)
rises t a b e k zero = sym (zero_mul_ℤ ((pos 0 -ℤ e) *ℤ pos t.scale))
rises t a b e k (suc n) = omega (
  arith,
  ints,
  rises t a b e k n,
  one_rise (a n) (b n) (t.value n) e k t.scale,
  distr (set_sum a b n) (cond (a n) (b n) (pos 0)) ((pos 0 -ℤ e) *ℤ pos t.scale),
)

-- sums over a set, of terms that are each within a slack of the other
sum_over : (a : ℕ → Bool) (c b : ℕ → ℤ) (slack : ℕ → ℕ) (j d n : ℕ) → ((g : ℕ) → g < n → a g ≡ true → (c g *ℤ pos j) ≤ℤ (b g +ℤ pos (d * slack g))) → (set_sum a c n *ℤ pos j) ≤ℤ (set_sum a b n +ℤ pos (d * sum_below slack n))
sum_over a c b slack j d zero h = omega (arith, ints, zero_mul_ℤ (pos j))
sum_over a c b slack j d (suc n) h = omega (
  arith,
  ints,
  sum_over a c b slack j d n (λ g l. h g (omega arith)),
  here (a n) (h n (omega arith)),
  distr (set_sum a c n) (cond (a n) (c n) (pos 0)) (pos j),
) where
  here : (x : Bool) → (x ≡ true → (c n *ℤ pos j) ≤ℤ (b n +ℤ pos (d * slack n))) → (cond x (c n) (pos 0) *ℤ pos j) ≤ℤ (cond x (b n) (pos 0) +ℤ pos (d * slack n))
  here true k = k refl
  here false k = omega (arith, ints, zero_mul_ℤ (pos j))

sum_under : (a : ℕ → Bool) (c b : ℕ → ℤ) (slack : ℕ → ℕ) (j d n : ℕ) → ((g : ℕ) → g < n → a g ≡ true → b g ≤ℤ (c g *ℤ pos j +ℤ pos (d * slack g))) → set_sum a b n ≤ℤ (set_sum a c n *ℤ pos j +ℤ pos (d * sum_below slack n))
sum_under a c b slack j d zero h = omega (arith, ints, zero_mul_ℤ (pos j))
sum_under a c b slack j d (suc n) h = omega (
  arith,
  ints,
  sum_under a c b slack j d n (λ g l. h g (omega arith)),
  here (a n) (h n (omega arith)),
  distr (set_sum a c n) (cond (a n) (c n) (pos 0)) (pos j),
) where
  here : (x : Bool) → (x ≡ true → b n ≤ℤ (c n *ℤ pos j +ℤ pos (d * slack n))) → cond x (b n) (pos 0) ≤ℤ (cond x (c n) (pos 0) *ℤ pos j +ℤ pos (d * slack n))
  here true k = k refl
  here false k = omega (arith, ints, zero_mul_ℤ (pos j))

-- a denominator so much finer that its power is above the slack
fine : (d w : ℕ) → d * w < (d * w + 1) ^ d
fine zero w = omega (arith, pow-zero (0 * w + 1))
fine (suc d) w =
    let some : 1 ≤ (suc d * w + 1) ^ d = one-le-pow d (suc d * w + 1) (omega arith) in
    omega (arith, pow-succ' (suc d * w + 1) d, mul-le-mul_left (suc d * w + 1) some)

no_gain : (x : ℤ) (j w : ℕ) → w < j → (x *ℤ pos j) ≤ℤ pos w → x ≤ℤ pos 0
no_gain x j w l h = by_lt_z (pos 0) x
    (λ more. absurd (omega (arith, ints, mul_pos (pos 1) x j (omega (arith, ints)))))
    (λ at_most. at_most)

no_loss : (x : ℤ) (j w : ℕ) → w < j → pos 0 ≤ℤ (x *ℤ pos j +ℤ pos w) → pos 0 ≤ℤ x
no_loss x j w l h = by_lt_z x (pos 0)
    (λ less. absurd (omega (arith, ints, mul_pos x (negsuc 0) j (omega (arith, ints)))))
    (λ at_least. at_least)

module _ (m : Meaning) (s : Problem) (t : Trial) (law : HasSupport m s) (some : 0 < m.degree) (ot : Obeys s t) where
  -- The cost of the moved trial, by what supports it there: b, summed over the set, against the move.
  lean : (e : ℤ) (k : ℕ) (a : ℕ → Bool) (b : ℕ → ℤ) → Obeys s (moved e k a t)
      → ((g : ℕ) → g < s.count → m.least (s.rows g) ((moved e k a t).value g) (t.scale * k) ≤ℤ b g)
      → ((g : ℕ) → g < s.count → b g ≤ℤ m.greatest (s.rows g) ((moved e k a t).value g) (t.scale * k))
      → pos (trial_cost m s (moved e k a t) * t.scale ^ m.degree) ≤ℤ (pos (trial_cost m s t * (t.scale * k) ^ m.degree) +ℤ (set_sum a b s.count *ℤ (pos 0 -ℤ e)) *ℤ pos (m.degree * t.scale ^ (m.degree - 1) * t.scale))
  unfolding low high before after factor
  lean e k a b ou over under =
      let u : Trial = moved e k a t in
      let f : ℕ = m.degree * t.scale ^ (m.degree - 1) in
      let mono : int_sum (λ g. pos (before m s u t law ou ot g)) s.count ≤ℤ int_sum (λ g. pos (after m s u t law ou ot g) +ℤ pos f *ℤ (b g *ℤ rise u t g)) s.count =
      int_sum-mono _ _ s.count (λ g l. inside m s u t law ou ot g l (b g) (over g l) (under g l)) in
      omega (
        arith,
        ints,
        mono,
        int_sum-pos (before m s u t law ou ot) s.count,
        int_sum-pos (after m s u t law ou ot) s.count,
        int_sum-add (λ g. pos (after m s u t law ou ot g)) (λ g. pos f *ℤ (b g *ℤ rise u t g)) s.count,
        int_sum-scale (pos f) (λ g. b g *ℤ rise u t g) s.count,
        ap (λ (z : ℤ). pos f *ℤ z) (rises t a b e k s.count),
        gathered f (set_sum a b s.count) (pos 0 -ℤ e) t.scale,
        sum_below-scale (λ g. m.cost (s.rows g) (u.value g) u.scale) s.count (t.scale ^ m.degree),
        sum_below-scale (λ g. m.cost (s.rows g) (t.value g) t.scale) s.count (u.scale ^ m.degree),
      )
    where
      gathered : (f : ℕ) (x y : ℤ) (q : ℕ) → pos f *ℤ (x *ℤ (y *ℤ pos q)) ≡ (x *ℤ y) *ℤ pos (f * q)
      gathered f x y q = rw (is_gap x, is_gap y) (simp (pos-gap, gap-mul) (gap-same _ _ _ _ (omega arith)))

  -- No move of a best trial gains.
  no_lean : Best m s t → (e : ℤ) (k : ℕ) (a : ℕ → Bool) (b : ℕ → ℤ) → Obeys s (moved e k a t)
      → ((g : ℕ) → g < s.count → m.least (s.rows g) ((moved e k a t).value g) (t.scale * k) ≤ℤ b g)
      → ((g : ℕ) → g < s.count → b g ≤ℤ m.greatest (s.rows g) ((moved e k a t).value g) (t.scale * k))
      → pos 0 ≤ℤ (set_sum a b s.count *ℤ (pos 0 -ℤ e))
  no_lean best e k a b ou over under =
      let f : ℕ = m.degree * t.scale ^ (m.degree - 1) * t.scale in
      let f_above : 0 < f = mul-pos (mul-pos some (pow_above t.scale (m.degree - 1) ot.scale)) ot.scale in
      cancel_le_ℤ (pos 0) (set_sum a b s.count *ℤ (pos 0 -ℤ e)) f f_above (omega (arith, ints, lean e k a b ou over under, (best.cheapest (moved e k a t) ou).costs, zero_mul_ℤ (pos f)))

  module _ (scaling : HasScaling m s) (slow : FallSlowly m s) (a : ℕ → Bool) where
    slack : ℕ
    slack = sum_below slow.slack s.count

    finer : ℕ
    finer = (m.degree - 1) * slack + 1

    finer_above : 0 < finer
    unfolding finer
    finer_above = omega arith

    finer_scale : 0 < t.scale * finer
    finer_scale = mul-pos ot.scale finer_above

    greatest_up : ℕ → ℤ
    greatest_up g = m.greatest (s.rows g) ((moved (pos 1) finer a t).value g) (t.scale * finer)

    least_down : ℕ → ℤ
    least_down g = m.least (s.rows g) ((moved (negsuc 0) finer a t).value g) (t.scale * finer)

    -- the ends at the value itself, over the finer denominator, are one step away
    step_up : (g : ℕ) → g < s.count → a g ≡ true → (m.least (s.rows g) (t.value g) t.scale *ℤ pos (finer ^ (m.degree - 1))) ≤ℤ (greatest_up g +ℤ pos ((m.degree - 1) * slow.slack g))
    unfolding finer greatest_up
    step_up g l into = omega (
      arith,
      ints,
      scaling.least g l finer t.scale (t.value g) (omega arith) ot.scale,
      slow.step g l (t.value g *ℤ pos finer) (t.scale * finer) finer_scale,
      ap (λ (x : Bool). m.greatest (s.rows g) (t.value g *ℤ pos finer +ℤ cond x (pos 1) (pos 0)) (t.scale * finer)) into,
    )

    step_down : (g : ℕ) → g < s.count → a g ≡ true → least_down g ≤ℤ (m.greatest (s.rows g) (t.value g) t.scale *ℤ pos (finer ^ (m.degree - 1)) +ℤ pos ((m.degree - 1) * slow.slack g))
    unfolding finer least_down
    step_down g l into = omega (
      arith,
      ints,
      scaling.greatest g l finer t.scale (t.value g) (omega arith) ot.scale,
      slow.step g l (t.value g *ℤ pos finer +ℤ negsuc 0) (t.scale * finer) finer_scale,
      ap (λ (z : ℤ). m.greatest (s.rows g) z (t.scale * finer)) (back (t.value g *ℤ pos finer)),
      ap (λ (x : Bool). m.least (s.rows g) (t.value g *ℤ pos finer +ℤ cond x (negsuc 0) (pos 0)) (t.scale * finer)) into,
    ) where
      back : (z : ℤ) → (z +ℤ negsuc 0) +ℤ pos 1 ≡ z
      back z = omega (arith, ints)

    raised_gain : Best m s t → IsClosedUp s t a → CanRise s t a → set_sum a (λ g. m.least (s.rows g) (t.value g) t.scale) s.count ≤ℤ pos 0
    unfolding slack finer greatest_up
    raised_gain best closed can =
        let ou : Obeys s (moved (pos 1) finer a t) = Obeys-raised s t a finer (omega arith) ot closed can in
        let held : pos 0 ≤ℤ (set_sum a greatest_up s.count *ℤ (pos 0 -ℤ pos 1)) = no_lean best (pos 1) finer a greatest_up ou (λ g l. law.ordered g l _ _ ou.scale) (λ g l. omega (arith, ints)) in
        no_gain _ (finer ^ (m.degree - 1)) ((m.degree - 1) * slack) (fine (m.degree - 1) slack) (omega (
          arith,
          ints,
          held,
          negated (set_sum a greatest_up s.count) (pos 1),
          times_one (set_sum a greatest_up s.count),
          sum_over a (λ g. m.least (s.rows g) (t.value g) t.scale) greatest_up slow.slack (finer ^ (m.degree - 1)) (m.degree - 1) s.count step_up,
        ))
      where
        negated : (x e : ℤ) → x *ℤ (pos 0 -ℤ e) ≡ pos 0 -ℤ x *ℤ e
        negated x e = rw (is_gap x, is_gap e) (simp (pos-gap, gap-mul, gap-sub) (gap-same _ _ _ _ (omega arith)))

    lowered_gain : Best m s t → IsClosedDown s t a → CanFall s t a → pos 0 ≤ℤ set_sum a (λ g. m.greatest (s.rows g) (t.value g) t.scale) s.count
    unfolding slack finer least_down
    lowered_gain best closed can =
        let ou : Obeys s (moved (negsuc 0) finer a t) = Obeys-lowered s t a finer (omega arith) ot closed can in
        let held : pos 0 ≤ℤ (set_sum a least_down s.count *ℤ (pos 0 -ℤ negsuc 0)) = no_lean best (negsuc 0) finer a least_down ou (λ g l. omega (arith, ints)) (λ g l. law.ordered g l _ _ ou.scale) in
        no_loss _ (finer ^ (m.degree - 1)) ((m.degree - 1) * slack) (fine (m.degree - 1) slack) (omega (
          arith,
          ints,
          held,
          times_one (set_sum a least_down s.count),
          sum_under a (λ g. m.greatest (s.rows g) (t.value g) t.scale) least_down slow.slack (finer ^ (m.degree - 1)) (m.degree - 1) s.count step_down,
        ))

    -- At degree 1 a set that wouldn't lose by being lowered can be lowered at no cost.
    lowered_as_cheap : m.degree ≡ 1 → IsClosedDown s t a → CanFall s t a → set_sum a (λ g. m.greatest (s.rows g) (t.value g) t.scale) s.count ≤ℤ pos 0 → NoDearer m s (moved (negsuc 0) finer a t) t
    unfolding slack finer least_down
    lowered_as_cheap one closed can none =
        let ou : Obeys s (moved (negsuc 0) finer a t) = Obeys-lowered s t a finer (omega arith) ot closed can in
        let f : ℕ = m.degree * t.scale ^ (m.degree - 1) * t.scale in
        let no_slack : (m.degree - 1) * slack ≡ 0 = omega (arith, ap (λ (n : ℕ). (n - 1) * slack) one) in
        let down : set_sum a least_down s.count ≤ℤ pos 0 = omega (
          arith,
          ints,
          no_slack,
          mul_pos _ _ (finer ^ (m.degree - 1)) none,
          zero_mul_ℤ (pos (finer ^ (m.degree - 1))),
          sum_under a (λ g. m.greatest (s.rows g) (t.value g) t.scale) least_down slow.slack (finer ^ (m.degree - 1)) (m.degree - 1) s.count step_down,
        ) in
        record {
          costs = omega (
            arith,
            ints,
            lean (negsuc 0) finer a least_down ou (λ g l. omega (arith, ints)) (λ g l. law.ordered g l _ _ ou.scale),
            ap (λ (z : ℤ). z *ℤ pos f) (sym (times_one (set_sum a least_down s.count))),
            mul_pos _ _ f down,
            zero_mul_ℤ (pos f),
          );
        }

-- What is best is settled.
pub best_settled : (m : Meaning) (s : Problem) (t : Trial) → 0 < m.degree → HasSupport m s → HasScaling m s → FallSlowly m s → Best m s t → IsSettled m s t
best_settled m s t some law scaling slow best = record {
  obeys = best.obeys;
  raised = λ a closed can. raised_gain m s t law some best.obeys scaling slow a best closed can;
  lowered = λ a closed can. lowered_gain m s t law some best.obeys scaling slow a best closed can;
}

-- At degree 1 the least of the best loses by lowering any set.
pub least_best_settled : (m : Meaning) (s : Problem) (t : Trial) → m.degree ≡ 1 → HasSupport m s → HasScaling m s → FallSlowly m s → LeastBest m s t → IsLeastSettled m s t
least_best_settled m s t one law scaling slow least = record {
  settled = best_settled m s t (omega arith) law scaling slow least.best;
  loses = λ a closed can g l into. by_lt_z (pos 0) (set_sum a (λ g. m.greatest (s.rows g) (t.value g) t.scale) s.count) (λ more. more) (λ none. absurd (never a closed can g l into none));
} where
  ot : Obeys s t
  ot = least.best.obeys

  some : 0 < m.degree
  some = omega arith

  sunk : (v : ℤ) (k q : ℕ) → 0 < q → (v *ℤ pos (q * k)) ≤ℤ ((v *ℤ pos k +ℤ negsuc 0) *ℤ pos q) → ⊥
  sunk v k q l h = absurd (omega (arith, ints, regrouped v k q)) where
    regrouped : (v : ℤ) (k q : ℕ) → (v *ℤ pos k +ℤ negsuc 0) *ℤ pos q +ℤ pos q ≡ v *ℤ pos (q * k)
    regrouped v k q = omega (arith, ints, distr (v *ℤ pos k) (negsuc 0) (pos q), one_less q, mul_pos_mul v k q) where
      one_less : (q : ℕ) → negsuc 0 *ℤ pos q +ℤ pos q ≡ pos 0
      one_less q = omega (arith, ints, swap_ℤ (negsuc 0) (pos q), *ℤ-negsuc (pos q) 0, times_one (pos q))

  never : (a : ℕ → Bool) → IsClosedDown s t a → CanFall s t a → (g : ℕ) → g < s.count → a g ≡ true → set_sum a (λ g. m.greatest (s.rows g) (t.value g) t.scale) s.count ≤ℤ pos 0 → ⊥
  never a closed can g l into none =
      let k : ℕ = finer m s t law some ot scaling slow a in
      let u : Trial = moved (negsuc 0) k a t in
      let cheap : NoDearer m s u t = lowered_as_cheap m s t law some ot scaling slow a one closed can none in
      let best : Best m s u = record {
        obeys = Obeys-lowered s t a k (finer_above m s t law some ot scaling slow a) ot closed can;
        cheapest = λ v ov. NoDearer-trans m s u t v ot.scale cheap (least.best.cheapest v ov);
      } in
      sunk (t.value g) k t.scale ot.scale (omega (arith, ints, least.least u best g l, ap (λ (x : Bool). (t.value g *ℤ pos k +ℤ cond x (negsuc 0) (pos 0)) *ℤ pos t.scale) into))
