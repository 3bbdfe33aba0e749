-- where all parts are levels whose values rise along the pairs, the values are the fit
use Rattle.std.proofs.Common.{◌≡◌, ℕ, zero, suc, ◌*◌, ◌<◌, refl, sym, ap, subst, ◌∙◌, arith, cond, mul-pos, Bool, true, false, ◌&&◌, List, inl, inr, ◌≢◌}
use Rattle.std.proofs.lemmas.Int.{ints}
use Rattle.std.proofs.lemmas.Bool.{eqb-true, eq-eqb, and_right}
use Rattle.std.proofs.lemmas.Option.{slice_get_within, same_Some}
use Rattle.std.specs.Prelude.{ℤ, pos, ◌-ℤ◌, ◌*ℤ◌, ◌≤ℤ◌, ◌<ℤ◌, All, slice_get, Some, None, IfSome, slice_index_or}
use Rattle.ofit_num.specs.Problem.{Problem, Bounds}
use Rattle.ofit_num.specs.Meaning.{Meaning}
use Rattle.ofit_num.specs.Fraction.{Fraction}
use Rattle.ofit_num.specs.Trial.{trial_of, scale_of, value_of}
use Rattle.ofit_num.specs.Fit.{Obeys, LeastBestValues}
use Rattle.ofit_num.specs.Span.{is_at}
use Rattle.ofit_num.specs.Law.{HasSupport, HasFallingSpans, HasScaling}
use Rattle.ofit_num.specs.Sets.{set_sum, IsWithin, IsLowerIn, IsClosedUp, IsClosedDown, IsClosedUpIn, IsClosedDownIn}
use Rattle.ofit_num.specs.Settled.{IsSettled, IsLeastSettled, IsFitted, LosesByLowering, CanRise, CanFall}
use Rattle.ofit_num.specs.Level.{IsLevel, labelled, AreLevels}
use Rattle.ofit_num.proofs.Sums.{int_sum, int_sum-add, int_sum-at, int_sum-zero, int_sum-nonneg, int_sum-above}
use Rattle.ofit_num.proofs.Trials.{scale_above, value_of-den}
use Rattle.ofit_num.proofs.Order.{cancel_ℤ}
use Rattle.ofit_num.proofs.Pieces.{meet, and_both, both_and}
use Rattle.ofit_num.proofs.Blocks.{member_or_none, set_sum-none}
use Rattle.ofit_num.proofs.Recursion.{part_fitted, part_loses}
use Rattle.ofit_num.proofs.Settled.{none_above}
use Rattle.ofit_num.proofs.Lowered.{settled_lowest}
use Rattle.ofit_num.proofs.Falls.{set_sum-members, cost_least}
use Rattle.ofit_num.proofs.Values.{rising_values, lowered_below}

pub has_label : (label : ℕ → ℕ) (k g : ℕ) → label g ≡ k → labelled label k g ≡ true
has_label label k g e = eq-eqb (label g) k e

pub is_label : (label : ℕ → ℕ) (k g : ℕ) → labelled label k g ≡ true → label g ≡ k
is_label label k g e = eqb-true (label g) k e

-- a sum over a set is that over its parts with each label
one_part : (label : ℕ → ℕ) (a : ℕ → Bool) (f : ℕ → ℤ) (n count : ℕ) → label n < count → cond (a n) (f n) (pos 0) ≡ int_sum (λ k. cond (meet a (labelled label k) n) (f n) (pos 0)) count
one_part label a f n count l = sym (int_sum-at (λ k. cond (meet a (labelled label k) n) (f n) (pos 0)) count (label n) l others ∙ here (a n)) where
  others : (k : ℕ) → k < count → k ≢ label n → cond (a n && labelled label k n) (f n) (pos 0) ≡ pos 0
  others k b away = go (a n) (labelled label k n) refl where
    go : (x y : Bool) → labelled label k n ≡ y → cond (x && y) (f n) (pos 0) ≡ pos 0
    go true true e = absurd (omega (arith, away, is_label label k n e))
    go true false e = refl
    go false y e = refl

  here : (x : Bool) → cond (x && labelled label (label n) n) (f n) (pos 0) ≡ cond x (f n) (pos 0)
  here true = ap (λ (y : Bool). cond y (f n) (pos 0)) (has_label label (label n) n refl)
  here false = refl

pub by_labels : (label : ℕ → ℕ) (a : ℕ → Bool) (f : ℕ → ℤ) (n count : ℕ) → ((g : ℕ) → g < n → label g < count) → set_sum a f n ≡ int_sum (λ k. set_sum (meet a (labelled label k)) f n) count
by_labels label a f zero count below = sym (int_sum-zero (λ k. pos 0) count (λ g l. refl))
by_labels label a f (suc n) count below = omega (
  arith,
  ints,
  by_labels label a f n count (λ g l. below g (omega arith)),
  one_part label a f n count (below n (omega arith)),
  int_sum-add (λ k. set_sum (meet a (labelled label k)) f n) (λ k. cond (meet a (labelled label k) n) (f n) (pos 0)) count,
)

more : {x y : ℤ} → x ≤ℤ y → pos 0 <ℤ x → pos 0 <ℤ y
more {x} {y} p q = omega (arith, ints)

module _ (m : Meaning) (s : Problem) (strict : Bool) (law : HasFallingSpans m s) (places : All (λ e. (e.0 < s.count) × (e.1 < s.count)) s.pairs)
    (free : (g : ℕ) → s.bounds g ≡ record { lo = None; hi = None }) (label : ℕ → ℕ) (top : ℕ) (values : List Fraction) (h : AreLevels m s strict label top values) where
  own : (g : ℕ) (l : g < s.count) → slice_get values g ≡ Some (h.levels g l).value
  own g l = (h.levels g l).alike g l refl

  scale : 0 < scale_of values
  scale = scale_above values (λ g f e.
      let l : g < s.count = subst (λ (n : ℕ). g < n) h.count (slice_get_within values g f e) in
      subst (λ (v : Fraction). 0 < v.den) (same_Some (h.levels g l).value f (sym (own g l) ∙ e)) (h.levels g l).level.den)

  -- the values of a part
  part_at : (k g : ℕ) (l : g < s.count) → label g ≡ k → (x : ℕ) → x < s.count → labelled label k x ≡ true → value_of values x *ℤ pos (h.levels g l).value.den ≡ (h.levels g l).value.num *ℤ pos (scale_of values)
  part_at k g l e x lx u = value_of-den values x (h.levels g l).value ((h.levels g l).alike x lx (is_label label k x u ∙ sym e))

  level_of : (k g : ℕ) (l : g < s.count) → label g ≡ k → IsLevel m s strict (labelled label k) (h.levels g l).value
  level_of k g l e = subst (λ (i : ℕ). IsLevel m s strict (labelled label i) (h.levels g l).value) e (h.levels g l).level

  obeys : Obeys s (trial_of values)
  obeys = record {
    scale = scale;
    pairs = λ i d l.
        let e : ℕ × ℕ = slice_index_or s.pairs i d in
        let one : _ = h.levels e.0 (places i d l).0 in
        let two : _ = h.levels e.1 (places i d l).1 in
        rising_values (value_of values e.0) (value_of values e.1) one.value.num two.value.num one.value.den two.value.den (scale_of values) one.level.den two.level.den
        (value_of-den values e.0 one.value (own e.0 (places i d l).0)) (value_of-den values e.1 two.value (own e.1 (places i d l).1))
        (h.rises i d l one.value two.value (own e.0 (places i d l).0) (own e.1 (places i d l).1));
    low = λ g l. subst (λ (b : Bounds). IfSome b.lo (λ lo. (lo *ℤ pos (scale_of values)) ≤ℤ value_of values g)) (sym (free g)) tt;
    high = λ g l. subst (λ (b : Bounds). IfSome b.hi (λ hi. value_of values g ≤ℤ (hi *ℤ pos (scale_of values)))) (sym (free g)) tt;
  }

  -- sums over the parts of a set
  parted : (a : ℕ → Bool) (f : ℕ → ℤ) → set_sum a f s.count ≡ int_sum (λ k. set_sum (meet a (labelled label k)) f s.count) top
  parted a f = by_labels label a f s.count top h.below

  no_part : (a : ℕ → Bool) (f : ℕ → ℤ) (k : ℕ) → ((g : ℕ) → g < s.count → labelled label k g ≡ false) → set_sum (meet a (labelled label k)) f s.count ≡ pos 0
  no_part a f k none = set_sum-none (meet a (labelled label k)) f s.count (λ g l. and_right (a g) (labelled label k g) (none g l))

  within : (a : ℕ → Bool) (k : ℕ) → IsWithin s (labelled label k) (meet a (labelled label k))
  within a k = record { each = λ g l u. (and_both (a g) (labelled label k g) u).1 }

  up_part : (a : ℕ → Bool) (k : ℕ) → IsClosedUp s (trial_of values) a → IsClosedUpIn s (trial_of values) (labelled label k) (meet a (labelled label k))
  up_part a k closed i e l low high same u = both_and _ _ (closed i e l same (and_both _ _ u).0) high

  down_part : (a : ℕ → Bool) (k : ℕ) → IsClosedDown s (trial_of values) a → IsClosedDownIn s (trial_of values) (labelled label k) (meet a (labelled label k))
  down_part a k closed i e l low high same u = both_and _ _ (closed i e l same (and_both _ _ u).0) low

  fitted : (k g : ℕ) → g < s.count → label g ≡ k → IsFitted m s (trial_of values) (labelled label k)
  fitted k g l e = part_fitted m s law (trial_of values) (labelled label k) (h.levels g l).value scale (h.levels g l).level.den (part_at k g l e) places (level_of k g l e).raised
      (λ a inside low. elim (member_or_none a s.count) [
        | inl x ↦ cost_least strict _ ((level_of k g l e).costs a inside low x.0 x.1 x.2)
        | inr none ↦ omega (arith, ints, set_sum-none a (λ x. m.greatest (s.rows x) (h.levels g l).value.num (h.levels g l).value.den) s.count none)
      ])

  loses : strict ≡ false → (k g : ℕ) → g < s.count → label g ≡ k → LosesByLowering m s (trial_of values) (labelled label k)
  loses lax k g l e = part_loses m s law (trial_of values) (labelled label k) (h.levels g l).value scale (h.levels g l).level.den (part_at k g l e) places
      (subst (λ (x : Bool). IsLevel m s x (labelled label k) (h.levels g l).value) lax (level_of k g l e)).costs

  abbrev greatest_ends : ℕ → ℤ
  greatest_ends g = m.greatest (s.rows g) (value_of values g) (scale_of values)

  abbrev least_ends : ℕ → ℤ
  least_ends g = m.least (s.rows g) (value_of values g) (scale_of values)

  lowered_part : (a : ℕ → Bool) → IsClosedDown s (trial_of values) a → (k : ℕ) → pos 0 ≤ℤ set_sum (meet a (labelled label k)) greatest_ends s.count
  lowered_part a closed k = elim (member_or_none (labelled label k) s.count) [
    | inl g ↦ (fitted k g.0 g.1 (is_label label k g.0 g.2)).lowered (meet a (labelled label k)) (within a k) (down_part a k closed)
    | inr none ↦ omega (arith, ints, no_part a greatest_ends k none)
  ]

  raised_part : (a : ℕ → Bool) → IsClosedUp s (trial_of values) a → (k : ℕ) → set_sum (meet a (labelled label k)) least_ends s.count ≤ℤ pos 0
  raised_part a closed k = elim (member_or_none (labelled label k) s.count) [
    | inl g ↦ (fitted k g.0 g.1 (is_label label k g.0 g.2)).raised (meet a (labelled label k)) (within a k) (up_part a k closed)
    | inr none ↦ omega (arith, ints, no_part a least_ends k none)
  ]

  -- the values are settled
  pub levels_settled : IsSettled m s (trial_of values)
  levels_settled = record {
    obeys = obeys;
    raised = λ a closed can. omega (arith, ints, parted a least_ends, none_above (λ k. set_sum (meet a (labelled label k)) least_ends s.count) top (λ k l. raised_part a closed k));
    lowered = λ a closed can. omega (arith, ints, parted a greatest_ends, int_sum-nonneg (λ k. set_sum (meet a (labelled label k)) greatest_ends s.count) top (λ k l. lowered_part a closed k));
  }

  in_own : (a : ℕ → Bool) (g : ℕ) → a g ≡ true → meet a (labelled label (label g)) g ≡ true
  in_own a g u = both_and (a g) (labelled label (label g) g) u (has_label label (label g) g refl)

  -- and each set that could be lowered together loses by it, where the loss is not strict
  pub levels_least_settled : strict ≡ false → IsLeastSettled m s (trial_of values)
  levels_least_settled lax = record {
    settled = levels_settled;
    loses = λ a closed can g l u. omega (
      arith,
      ints,
      parted a greatest_ends,
      int_sum-above (λ k. set_sum (meet a (labelled label k)) greatest_ends s.count) top (label g) (h.below g l) (λ k b. lowered_part a closed k)
          ((loses lax (label g) g l refl).loses (meet a (labelled label (label g))) (within a (label g)) (down_part a (label g) closed) g l (in_own a g u)),
    );
  }

  -- At a value that lies below each group's by as much, a part that has a place gains by rising again.
  module _ (r i : ℕ) (lr : 0 < r) (li : 0 < i) where
    abbrev lower_ends : ℕ → ℤ
    lower_ends g = m.greatest (s.rows g) (value_of values g *ℤ pos r -ℤ pos i) (scale_of values * r)

    part_gains : (a : ℕ → Bool) → IsClosedDown s (trial_of values) a → (k g : ℕ) → g < s.count → meet a (labelled label k) g ≡ true → pos 0 <ℤ set_sum (meet a (labelled label k)) lower_ends s.count
    part_gains a closed k g l u = more (set_sum-members (meet a (labelled label k)) _ _ s.count same) gains where
      e : label g ≡ k
      e = is_label label k g (and_both (a g) (labelled label k g) u).1

      here : value_of values g *ℤ pos (h.levels g l).value.den ≡ (h.levels g l).value.num *ℤ pos (scale_of values)
      here = part_at k g l e g l (and_both (a g) (labelled label k g) u).1

      level : (x : ℕ) → x < s.count → labelled label k x ≡ true → value_of values x ≡ value_of values g
      level x lx ux = cancel_ℤ (value_of values x) (value_of values g) (h.levels g l).value.den (h.levels g l).level.den (part_at k g l e x lx ux ∙ sym here)

      low : IsLowerIn s (labelled label k) (meet a (labelled label k))
      low n x ln first second into = both_and _ _ (closed n x ln (level _ (places n x ln).0 first ∙ sym (level _ (places n x ln).1 second)) (and_both _ _ into).0) first

      gains : pos 0 <ℤ set_sum (meet a (labelled label k)) (λ x. m.greatest (s.rows x) (value_of values g *ℤ pos r -ℤ pos i) (scale_of values * r)) s.count
      gains = (level_of k g l e).gains (record { num = value_of values g *ℤ pos r -ℤ pos i; den = scale_of values * r }) (mul-pos scale lr)
          (lowered_below (value_of values g) (h.levels g l).value.num (h.levels g l).value.den (scale_of values) r i (h.levels g l).level.den li here)
          (meet a (labelled label k)) (within a k) low g l u

      same : (x : ℕ) → x < s.count → meet a (labelled label k) x ≡ true → m.greatest (s.rows x) (value_of values g *ℤ pos r -ℤ pos i) (scale_of values * r) ≤ℤ m.greatest (s.rows x) (value_of values x *ℤ pos r -ℤ pos i) (scale_of values * r)
      same x lx ux = omega (arith, ints, ap (λ (z : ℤ). m.greatest (s.rows x) (z *ℤ pos r -ℤ pos i) (scale_of values * r)) (level x lx (and_both (a x) (labelled label k x) ux).1))

    part_stays : (a : ℕ → Bool) → IsClosedDown s (trial_of values) a → (k : ℕ) → pos 0 ≤ℤ set_sum (meet a (labelled label k)) lower_ends s.count
    part_stays a closed k = elim (member_or_none (meet a (labelled label k)) s.count) [
      | inl x ↦ omega (arith, ints, part_gains a closed k x.0 x.1 x.2)
      | inr none ↦ omega (arith, ints, set_sum-none (meet a (labelled label k)) lower_ends s.count none)
    ]

    all_gain : (a : ℕ → Bool) → IsClosedDown s (trial_of values) a → (g : ℕ) → g < s.count → a g ≡ true → pos 0 <ℤ set_sum a lower_ends s.count
    all_gain a closed g l u = omega (
      arith,
      ints,
      parted a lower_ends,
      int_sum-above (λ k. set_sum (meet a (labelled label k)) lower_ends s.count) top (label g) (h.below g l) (λ k b. part_stays a closed k) (part_gains a closed (label g) g l (in_own a g u)),
    )

  -- The values are the least of the best.
  pub levels_least_best : HasSupport m s → HasScaling m s → 0 < m.degree → LeastBestValues m s values
  levels_least_best support scaling degree = record {
    count = h.count;
    least_best = settled_lowest m s places support scaling degree (trial_of values) levels_settled rises sinks
        (record { gains = λ r k lr lk a closed g l u. all_gain r k lr lk a closed g l u });
  } where
    rises : (a : ℕ → Bool) → CanRise s (trial_of values) a
    rises a g l u = ap (λ (b : Bounds). is_at b.hi (value_of values g) (scale_of values)) (free g)

    sinks : (a : ℕ → Bool) → CanFall s (trial_of values) a
    sinks a g l u = ap (λ (b : Bounds). is_at b.lo (value_of values g) (scale_of values)) (free g)
