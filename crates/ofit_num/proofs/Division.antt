-- cuts of pieces at the value that pools them, and the values between the parts that they leave
use Rattle.std.proofs.Common.{◌≡◌, ℕ, zero, suc, ◌-◌, ◌^◌, ◌<◌, refl, sym, ap, subst, ◌∙◌, arith, cond, Bool, true, false, ◌||◌, ◌⊎◌, inl, inr}
use Rattle.std.proofs.lemmas.Int.{ints, by_lt_z}
use Rattle.std.proofs.lemmas.Bool.{both_ways, cases_eq, cases_order}
use Rattle.std.specs.Prelude.{ℤ, pos, ◌+ℤ◌, ◌*ℤ◌, ◌≤ℤ◌, ◌<ℤ◌, All, slice_index_or}
use Rattle.ofit_num.specs.Problem.{Problem}
use Rattle.ofit_num.specs.Meaning.{Meaning}
use Rattle.ofit_num.specs.Fraction.{Fraction, AtMost}
use Rattle.ofit_num.specs.Below.{Below}
use Rattle.ofit_num.specs.Law.{least_at, greatest_at, HasFallingSpans}
use Rattle.ofit_num.specs.Sets.{set_sum, IsWithin, IsUpperIn, IsLowerIn, IsSplit, IsGreatestUpper, IsSmallest}
use Rattle.ofit_num.specs.Block.{IsPooled, IsCost, HasFloor, HasCeiling}
use Rattle.ofit_num.specs.Level.{IsLevel, HasBase, IsTieOf, IsCut, labelled, HasBetween, AreDivided}
use Rattle.ofit_num.proofs.Gap.{distr}
use Rattle.ofit_num.proofs.Order.{mul_pos, mul_strict, pow_above, zero_mul_ℤ}
use Rattle.ofit_num.proofs.Cuts.{or_true, chosen_loses_nothing, chosen_loses, within_rest, lower_of_rest}
use Rattle.ofit_num.proofs.Blocks.{member_or_none, set_sum-none, set_sum-equal, below_trans}
use Rattle.ofit_num.proofs.Recursion.{set_sum-le, not_above, above_zero, sum_falls, pooled_at_most, chosen_floor, rest_ceiling, rest_ceiling_second, chosen_ceiling}
use Rattle.ofit_num.proofs.StrictBest.{FallStrictly}
use Rattle.ofit_num.proofs.Levels.{has_label, is_label}
use Rattle.ofit_num.proofs.Falls.{set_sum-members}

pub same_test : (x y : Bool) → (x ≡ true → y ≡ true) → (y ≡ true → x ≡ true) → x ≡ y
same_test true y f h = sym (f refl)
same_test false true f h = h refl
same_test false false f h = refl

pub at_most_trans : (a b c : Fraction) → 0 < a.den → 0 < b.den → 0 < c.den → AtMost a b → AtMost b c → AtMost a c
at_most_trans a b c la lb lc h k = by_lt_z (c.num *ℤ pos a.den) (a.num *ℤ pos c.den)
    (λ back. absurd (omega (arith, ints, below_trans c a b lc la lb back h, k))) (λ h. h)

-- sums over a set that has a place, each term less
set_sum-less : (a : ℕ → Bool) (f h : ℕ → ℤ) (j k n : ℕ) → ((g : ℕ) → g < n → (f g *ℤ pos j) <ℤ (h g *ℤ pos k)) → (g : ℕ) → g < n → a g ≡ true → (set_sum a f n *ℤ pos j) <ℤ (set_sum a h n *ℤ pos k)
set_sum-less a f h j k zero less g l u = absurd (omega arith)
set_sum-less a f h j k (suc n) less g l u = elim (cases_order g n) [
  | inl e ↦ here (a n) (ap a (sym e) ∙ u) (set_sum-le a f h j k n (λ i b. omega (arith, ints, less i (omega arith)))) (less n (omega arith))
  | inr o ↦ elim o [
    | inl b ↦ there (a n) (set_sum-less a f h j k n (λ i c. less i (omega arith)) g b u) (less n (omega arith))
    | inr b ↦ absurd (omega arith)
  ]
] where
  here : (x : Bool) → x ≡ true → (set_sum a f n *ℤ pos j) ≤ℤ (set_sum a h n *ℤ pos k) → (f n *ℤ pos j) <ℤ (h n *ℤ pos k)
      → ((set_sum a f n +ℤ cond x (f n) (pos 0)) *ℤ pos j) <ℤ ((set_sum a h n +ℤ cond x (h n) (pos 0)) *ℤ pos k)
  here true e p q = omega (arith, ints, distr (set_sum a f n) (f n) (pos j), distr (set_sum a h n) (h n) (pos k))
  here false e p q = cc

  there : (x : Bool) → (set_sum a f n *ℤ pos j) <ℤ (set_sum a h n *ℤ pos k) → (f n *ℤ pos j) <ℤ (h n *ℤ pos k)
      → ((set_sum a f n +ℤ cond x (f n) (pos 0)) *ℤ pos j) <ℤ ((set_sum a h n +ℤ cond x (h n) (pos 0)) *ℤ pos k)
  there true p q = omega (arith, ints, distr (set_sum a f n) (f n) (pos j), distr (set_sum a h n) (h n) (pos k))
  there false p q = omega (arith, ints, distr (set_sum a f n) (pos 0) (pos j), distr (set_sum a h n) (pos 0) (pos k), zero_mul_ℤ (pos j), zero_mul_ℤ (pos k))

-- the places of one part keep their label, and those of the chosen one get a new one
abbrev pub relabelled : (ℕ → ℕ) → (ℕ → Bool) → ℕ → ℕ → ℕ
relabelled label chosen top g = cond (chosen g) top (label g)

pub at_chosen : (label : ℕ → ℕ) (chosen : ℕ → Bool) (top g : ℕ) → chosen g ≡ true → relabelled label chosen top g ≡ top
at_chosen label chosen top g u = ap (λ (b : Bool). cond b top (label g)) u

pub at_other : (label : ℕ → ℕ) (chosen : ℕ → Bool) (top g : ℕ) → chosen g ≡ false → relabelled label chosen top g ≡ label g
at_other label chosen top g u = ap (λ (b : Bool). cond b top (label g)) u

module _ (m : Meaning) (s : Problem) (places : All (λ e. (e.0 < s.count) × (e.1 < s.count)) s.pairs) where
  -- pieces of the same places
  module _ (p q : ℕ → Bool) (same : (g : ℕ) → g < s.count → p g ≡ q g) where
    within_same : (a : ℕ → Bool) → IsWithin s q a → IsWithin s p a
    within_same a inside = record { each = λ g l u. same g l ∙ inside.each g l u }

    upper_same : (a : ℕ → Bool) → IsUpperIn s q a → IsUpperIn s p a
    upper_same a up i d l low high = up i d l (sym (same _ (places i d l).0) ∙ low) (sym (same _ (places i d l).1) ∙ high)

    lower_same : (a : ℕ → Bool) → IsLowerIn s q a → IsLowerIn s p a
    lower_same a down i d l low high = down i d l (sym (same _ (places i d l).0) ∙ low) (sym (same _ (places i d l).1) ∙ high)

    pub ceiling_same : (c : Fraction) → HasCeiling m s p c → HasCeiling m s q c
    ceiling_same c h = record { den = h.den; ceiling = λ a inside up. h.ceiling a (within_same a inside) (upper_same a up) }

    pub base_same : (c : Fraction) → HasBase m s p c → HasBase m s q c
    base_same c h = record { den = h.den; base = λ b lb below x inside down. h.base b lb below x (within_same x inside) (lower_same x down) }

    pub level_same : (strict : Bool) (c : Fraction) → IsLevel m s strict p c → IsLevel m s strict q c
    level_same strict c h = record {
      den = h.den;
      raised = λ a inside up. h.raised a (within_same a inside) (upper_same a up);
      costs = λ a inside down. h.costs a (within_same a inside) (lower_same a down);
      gains = λ b lb below a inside down. h.gains b lb below a (within_same a inside) (lower_same a down);
    }

  itself : (p : ℕ → Bool) → IsWithin s p p
  itself p = record { each = λ g l u. u }

  -- the base of a piece that has a place is at most its ceiling, and at most the value that pools it
  pub base_at_most_ceiling : (p : ℕ → Bool) (a c : Fraction) (g : ℕ) → g < s.count → p g ≡ true → HasBase m s p a → HasCeiling m s p c → AtMost a c
  base_at_most_ceiling p a c g l u base ceiling = by_lt_z (c.num *ℤ pos a.den) (a.num *ℤ pos c.den)
      (λ below. absurd (omega (arith, ints, base.base c ceiling.den below p (itself p) (λ i d b low high k. low) g l u, ceiling.ceiling p (itself p) (λ i d b low high k. high)))) (λ h. h)

  base_at_most_pooled : (p : ℕ → Bool) (a c : Fraction) (g : ℕ) → g < s.count → p g ≡ true → HasBase m s p a → IsPooled m s p c → AtMost a c
  base_at_most_pooled p a c g l u base pooled = by_lt_z (c.num *ℤ pos a.den) (a.num *ℤ pos c.den)
      (λ below. absurd (omega (arith, ints, base.base c pooled.den below p (itself p) (λ i d b low high k. low) g l u, pooled.least))) (λ h. h)

  -- a smaller value is a base too
  base_falls : (p : ℕ → Bool) (a c : Fraction) → 0 < c.den → AtMost c a → HasBase m s p a → HasBase m s p c
  base_falls p a c lc h base = record { den = lc; base = λ b lb below. base.base b lb (below_trans b c a lb lc base.den below h) }

  module _ (law : HasFallingSpans m s) where
    -- a greater value is a ceiling too
    ceiling_rises : (p : ℕ → Bool) (a c : Fraction) → 0 < c.den → AtMost a c → HasCeiling m s p a → HasCeiling m s p c
    ceiling_rises p a c lc h ceiling = record {
      den = lc;
      ceiling = λ x inside up. not_above _ (a.den ^ (m.degree - 1)) (pow_above a.den (m.degree - 1) ceiling.den)
          (omega (arith, ints, sum_falls m s law x a c ceiling.den lc h, mul_pos _ (pos 0) (c.den ^ (m.degree - 1)) (ceiling.ceiling x inside up), zero_mul_ℤ (pos (c.den ^ (m.degree - 1)))));
    }

    -- what a set gains at a value it gains at each smaller one
    floor_base : (p : ℕ → Bool) (a : Fraction) → HasFloor m s p a → HasBase m s p a
    floor_base p a floor = record {
      den = floor.den;
      base = λ b lb below x inside down g l u. above_zero _ (a.den ^ (m.degree - 1)) (pow_above a.den (m.degree - 1) floor.den)
          (omega (
            arith,
            ints,
            sum_falls m s law x b a lb floor.den (omega (arith, ints)),
            mul_strict (pos 0) _ (b.den ^ (m.degree - 1)) (floor.floor x inside down g l u) (pow_above b.den (m.degree - 1) lb),
            zero_mul_ℤ (pos (b.den ^ (m.degree - 1))),
          ));
    }

    -- A cut keeps a value between each two parts that a pair joins.
    module _ (piece chosen rest : ℕ → Bool) (value : Fraction) (cut : IsCut m s piece chosen rest value) (label : ℕ → ℕ) (k top : ℕ)
        (part : (g : ℕ) → g < s.count → labelled label k g ≡ piece g) (fresh : (g : ℕ) → g < s.count → label g < top) (old : k < top) where
      after : ℕ → ℕ
      after = relabelled label chosen top

      from_chosen : (g : ℕ) → g < s.count → chosen g ≡ true → piece g ≡ true
      from_chosen g l u = cut.greatest.within.each g l u

      in_piece : (g : ℕ) → g < s.count → piece g ≡ true → label g ≡ k
      in_piece g l u = is_label label k g (part g l ∙ u)

      to_rest : (g : ℕ) → g < s.count → piece g ≡ true → chosen g ≡ false → rest g ≡ true
      to_rest g l u out = ap (λ (b : Bool). b || rest g) (sym out) ∙ sym (cut.split.parts g l) ∙ u

      from_rest : (g : ℕ) → g < s.count → rest g ≡ true → piece g ≡ true
      from_rest g l u = cut.split.parts g l ∙ or_true (chosen g) (rest g) u

      rest_out : (g : ℕ) → g < s.count → rest g ≡ true → (x : Bool) → chosen g ≡ x → x ≡ false
      rest_out g l u false e = refl
      rest_out g l u true e = absurd (both_ways (rest g) (cut.split.apart g l e) u)

      pub chosen_part : (g : ℕ) → g < s.count → labelled (relabelled label chosen top) top g ≡ chosen g
      chosen_part g l = same_test _ _ (λ u. go (chosen g) refl (is_label (relabelled label chosen top) top g u)) (λ u. has_label (relabelled label chosen top) top g (at_chosen label chosen top g u)) where
        go : (x : Bool) → chosen g ≡ x → cond (chosen g) top (label g) ≡ top → x ≡ true
        go true e h = refl
        go false e h = absurd (omega (arith, fresh g l, sym (at_other label chosen top g e) ∙ h))

      pub rest_part : (g : ℕ) → g < s.count → labelled (relabelled label chosen top) k g ≡ rest g
      rest_part g l = same_test _ _ (λ u. go (chosen g) refl (is_label (relabelled label chosen top) k g u))
          (λ u. has_label (relabelled label chosen top) k g (at_other label chosen top g (rest_out g l u (chosen g) refl) ∙ in_piece g l (from_rest g l u))) where
            go : (x : Bool) → chosen g ≡ x → cond (chosen g) top (label g) ≡ k → rest g ≡ true
            go true e h = absurd (omega (arith, old, sym (at_chosen label chosen top g e) ∙ h))
            go false e h = to_rest g l (sym (part g l) ∙ has_label label k g (sym (at_other label chosen top g e) ∙ h)) e

      pub other_part : (j : ℕ) → (j ≡ k → ⊥) → j < top → (g : ℕ) → g < s.count → labelled label j g ≡ labelled (relabelled label chosen top) j g
      other_part j away low g l = same_test _ _ (λ u. has_label (relabelled label chosen top) j g (at_other label chosen top g (out (is_label label j g u) (chosen g) refl) ∙ is_label label j g u))
          (λ u. go (chosen g) refl (is_label (relabelled label chosen top) j g u)) where
            out : label g ≡ j → (x : Bool) → chosen g ≡ x → x ≡ false
            out e false u = refl
            out e true u = absurd (away (sym e ∙ in_piece g l (from_chosen g l u)))

            go : (x : Bool) → chosen g ≡ x → cond (chosen g) top (label g) ≡ j → labelled label j g ≡ true
            go true e h = absurd (omega (arith, low, sym (at_chosen label chosen top g e) ∙ h))
            go false e h = has_label label j g (sym (at_other label chosen top g e) ∙ h)

      -- ceilings and bases of the parts after the cut
      piece_ceiling : (c : Fraction) (j : ℕ) → j ≡ k → HasCeiling m s (labelled label j) c → HasCeiling m s piece c
      piece_ceiling c j e h = ceiling_same (labelled label k) piece part c (subst (λ (i : ℕ). HasCeiling m s (labelled label i) c) e h)

      piece_base : (c : Fraction) (j : ℕ) → j ≡ k → HasBase m s (labelled label j) c → HasBase m s piece c
      piece_base c j e h = base_same (labelled label k) piece part c (subst (λ (i : ℕ). HasBase m s (labelled label i) c) e h)

      chosen_ceils : (c : Fraction) (g : ℕ) → g < s.count → chosen g ≡ true → HasCeiling m s piece c → HasCeiling m s (labelled (relabelled label chosen top) (relabelled label chosen top g)) c
      chosen_ceils c g l u h = subst (λ (i : ℕ). HasCeiling m s (labelled (relabelled label chosen top) i) c) (sym (at_chosen label chosen top g u))
          (ceiling_same chosen _ (λ x b. sym (chosen_part x b)) c (chosen_ceiling m s law piece chosen rest cut.ends c cut.split places cut.greatest h))

      chosen_bases : (c : Fraction) (g : ℕ) → g < s.count → chosen g ≡ true → 0 < c.den → AtMost c value → HasBase m s (labelled (relabelled label chosen top) (relabelled label chosen top g)) c
      chosen_bases c g l u lc h = subst (λ (i : ℕ). HasBase m s (labelled (relabelled label chosen top) i) c) (sym (at_chosen label chosen top g u))
          (base_same chosen _ (λ x b. sym (chosen_part x b)) c (base_falls chosen value c lc h cut.base))

      rest_ceils : (c : Fraction) (g : ℕ) → g < s.count → chosen g ≡ false → label g ≡ k → 0 < c.den → AtMost value c → HasCeiling m s (labelled (relabelled label chosen top) (relabelled label chosen top g)) c
      rest_ceils c g l out e lc h = subst (λ (i : ℕ). HasCeiling m s (labelled (relabelled label chosen top) i) c) (sym (at_other label chosen top g out ∙ e))
          (ceiling_same rest _ (λ x b. sym (rest_part x b)) c (ceiling_rises rest value c lc h cut.ceiling))

      rest_bases : (c : Fraction) → HasBase m s piece c → HasBase m s rest c
      rest_bases c h = record {
        den = h.den;
        base = λ b lb below x inside down. h.base b lb below x (within_rest s piece chosen rest cut.ends cut.split places cut.greatest x inside) (lower_of_rest s piece chosen rest cut.ends cut.split places cut.greatest x inside down);
      }

      kept_ceiling : (c : Fraction) (g : ℕ) → g < s.count → chosen g ≡ false → HasCeiling m s (labelled label (label g)) c → HasCeiling m s (labelled (relabelled label chosen top) (relabelled label chosen top g)) c
      kept_ceiling c g l out h = elim (cases_eq (label g) k) [
        | inl e ↦ rest_ceils c g l out e h.den (pooled_at_most m s law piece c value (piece_ceiling c (label g) e h) cut.pooled)
        | inr away ↦ subst (λ (i : ℕ). HasCeiling m s (labelled (relabelled label chosen top) i) c) (sym (at_other label chosen top g out)) (ceiling_same (labelled label (label g)) _ (other_part (label g) away (fresh g l)) c h)
      ]

      kept_base : (c : Fraction) (g : ℕ) → g < s.count → chosen g ≡ false → HasBase m s (labelled label (label g)) c → HasBase m s (labelled (relabelled label chosen top) (relabelled label chosen top g)) c
      kept_base c g l out h = elim (cases_eq (label g) k) [
        | inl e ↦ subst (λ (i : ℕ). HasBase m s (labelled (relabelled label chosen top) i) c) (sym (at_other label chosen top g out ∙ e))
            (base_same rest _ (λ x b. sym (rest_part x b)) c (rest_bases c (piece_base c (label g) e h)))
        | inr away ↦ subst (λ (i : ℕ). HasBase m s (labelled (relabelled label chosen top) i) c) (sym (at_other label chosen top g out)) (base_same (labelled label (label g)) _ (other_part (label g) away (fresh g l)) c h)
      ]

      -- the same of a pair, by where its ends are
      module _ (e : ℕ × ℕ) (low : e.0 < s.count) (high : e.1 < s.count) (up : piece e.0 ≡ true → piece e.1 ≡ true → chosen e.0 ≡ true → chosen e.1 ≡ true) where
        out_of_chosen : chosen e.0 ≡ true → chosen e.1 ≡ false → (label e.0 ≡ label e.1) ⊎ HasBetween m s label e → HasBetween m s (relabelled label chosen top) e
        out_of_chosen u w (inl same) = absurd (both_ways (chosen e.1) w (up (from_chosen e.0 low u) (sym (part e.1 high) ∙ has_label label k e.1 (sym same ∙ in_piece e.0 low (from_chosen e.0 low u))) u))
        out_of_chosen u w (inr between) = record {
          value = between.value;
          ceiling = chosen_ceils between.value e.0 low u (piece_ceiling between.value (label e.0) (in_piece e.0 low (from_chosen e.0 low u)) between.ceiling);
          base = kept_base between.value e.1 high w between.base;
        }

        at_value : AtMost value value
        at_value = omega (arith, ints)

        into_chosen : chosen e.0 ≡ false → chosen e.1 ≡ true → (label e.0 ≡ label e.1) ⊎ HasBetween m s label e → HasBetween m s (relabelled label chosen top) e
        into_chosen u w (inl same) = record {
          value = value;
          ceiling = rest_ceils value e.0 low u (same ∙ in_piece e.1 high (from_chosen e.1 high w)) cut.pooled.den at_value;
          base = chosen_bases value e.1 high w cut.pooled.den at_value;
        }
        into_chosen u w (inr between) = record {
          value = between.value;
          ceiling = kept_ceiling between.value e.0 low u between.ceiling;
          base = chosen_bases between.value e.1 high w between.base.den
              (base_at_most_pooled piece between.value value e.1 high (from_chosen e.1 high w) (piece_base between.value (label e.1) (in_piece e.1 high (from_chosen e.1 high w)) between.base) cut.pooled);
        }

        outside : chosen e.0 ≡ false → chosen e.1 ≡ false → (label e.0 ≡ label e.1) ⊎ HasBetween m s label e → (relabelled label chosen top e.0 ≡ relabelled label chosen top e.1) ⊎ HasBetween m s (relabelled label chosen top) e
        outside u w (inl same) = inl (at_other label chosen top e.0 u ∙ same ∙ sym (at_other label chosen top e.1 w))
        outside u w (inr between) = inr (record { value = between.value; ceiling = kept_ceiling between.value e.0 low u between.ceiling; base = kept_base between.value e.1 high w between.base })

        pair_divided : (label e.0 ≡ label e.1) ⊎ HasBetween m s label e → (relabelled label chosen top e.0 ≡ relabelled label chosen top e.1) ⊎ HasBetween m s (relabelled label chosen top) e
        pair_divided h = go (chosen e.0) (chosen e.1) refl refl where
          go : (x y : Bool) → chosen e.0 ≡ x → chosen e.1 ≡ y → (relabelled label chosen top e.0 ≡ relabelled label chosen top e.1) ⊎ HasBetween m s (relabelled label chosen top) e
          go true true u w = inl (at_chosen label chosen top e.0 u ∙ sym (at_chosen label chosen top e.1 w))
          go true false u w = inr (out_of_chosen u w h)
          go false true u w = inr (into_chosen u w h)
          go false false u w = outside u w h

      pub cut_divided : AreDivided m s label → AreDivided m s (relabelled label chosen top)
      cut_divided divided i d l = pair_divided (slice_index_or s.pairs i d) (places i d l).0 (places i d l).1 (cut.split.closed i d l) (divided i d l)

    -- Where the greatest upper set has no place, no upper set of the piece gains.
    pub none_gains : (piece chosen : ℕ → Bool) (c : Fraction) → 0 < c.den → IsGreatestUpper s piece (least_at m s c) chosen → ((g : ℕ) → g < s.count → chosen g ≡ false) → HasCeiling m s piece c
    none_gains piece chosen c l best none = record { den = l; ceiling = λ a inside up. omega (arith, ints, best.greatest a inside up, set_sum-none chosen (least_at m s c) s.count none) }

    -- The two kinds of cuts.
    module _ (piece chosen rest : ℕ → Bool) (c : Fraction) (split : IsSplit s piece chosen rest) (pooled : IsPooled m s piece c) where
      pub first_cut : IsGreatestUpper s piece (least_at m s c) chosen → IsSmallest s piece (least_at m s c) chosen → IsCut m s piece chosen rest c
      first_cut best small = record {
        split = split;
        ends = least_at m s c;
        greatest = best;
        pooled = pooled;
        base = floor_base chosen c (chosen_floor m s law piece chosen rest c pooled.den split places best small);
        ceiling = rest_ceiling m s law piece chosen rest c pooled.den split places best;
      }

      -- where the first one has a place, so has the rest
      pub first_rest : IsGreatestUpper s piece (least_at m s c) chosen → IsSmallest s piece (least_at m s c) chosen → (g : ℕ) → g < s.count → chosen g ≡ true → (x : ℕ) × (x < s.count) × (rest x ≡ true)
      first_rest best small g l u = elim (member_or_none rest s.count) [
        | inl x ↦ x
        | inr none ↦ absurd (omega (
          arith,
          ints,
          chosen_loses s piece chosen rest (least_at m s c) split places best small chosen (itself chosen) (λ i d b low high k. low) g l u,
          set_sum-equal piece chosen (least_at m s c) s.count (λ x b. split.parts x b ∙ alone (chosen x) (rest x) (none x b)),
          pooled.least,
        ))
      ] where
        alone : (x y : Bool) → y ≡ false → (x || y) ≡ x
        alone true y e = refl
        alone false y e = e

    module _ (strict : Bool) (piece chosen rest : ℕ → Bool) (c : Fraction) (split : IsSplit s piece chosen rest) (pooled : IsPooled m s piece c) (ceiling : HasCeiling m s piece c)
        (best : IsGreatestUpper s piece (greatest_at m s c) chosen) (tie : IsTieOf strict s piece (greatest_at m s c) chosen) (strictly : strict ≡ true → FallStrictly m s) where
      costs : (t : Bool) → IsTieOf t s piece (greatest_at m s c) chosen → (a : ℕ → Bool) → IsWithin s chosen a → IsLowerIn s chosen a → (g : ℕ) → g < s.count → a g ≡ true → IsCost t (set_sum a (greatest_at m s c) s.count)
      costs true tied a inside down g l u = chosen_loses_nothing s piece chosen rest (greatest_at m s c) split places best a inside down
      costs false tied a inside down g l u = chosen_loses s piece chosen rest (greatest_at m s c) split places best tied a inside down g l u

      gains : (t : Bool) → strict ≡ t → (a : ℕ → Bool) (b : Fraction) → 0 < b.den → Below b c → (g : ℕ) → g < s.count → a g ≡ true → IsCost t (set_sum a (greatest_at m s c) s.count) → pos 0 <ℤ set_sum a (least_at m s b) s.count
      gains true e a b lb below g l u cost = above_zero _ (c.den ^ (m.degree - 1)) (pow_above c.den (m.degree - 1) pooled.den)
          (omega (
            arith,
            ints,
            set_sum-less a (greatest_at m s c) (least_at m s b) (b.den ^ (m.degree - 1)) (c.den ^ (m.degree - 1)) s.count (λ x lx. (strictly e).falls x lx b c lb pooled.den below) g l u,
            mul_pos (pos 0) _ (b.den ^ (m.degree - 1)) cost,
            zero_mul_ℤ (pos (b.den ^ (m.degree - 1))),
          ))
      gains false e a b lb below g l u cost = above_zero _ (c.den ^ (m.degree - 1)) (pow_above c.den (m.degree - 1) pooled.den)
          (omega (
            arith,
            ints,
            set_sum-le a (greatest_at m s c) (least_at m s b) (b.den ^ (m.degree - 1)) (c.den ^ (m.degree - 1)) s.count (λ x lx. law.falls x lx b c lb pooled.den below),
            mul_strict (pos 0) _ (b.den ^ (m.degree - 1)) cost (pow_above b.den (m.degree - 1) lb),
            zero_mul_ℤ (pos (b.den ^ (m.degree - 1))),
          ))

      base : HasBase m s chosen c
      base = record { den = pooled.den; base = λ b lb below a inside down g l u. gains strict refl a b lb below g l u (costs strict tie a inside down g l u) }

      pub second_cut : IsCut m s piece chosen rest c
      second_cut = record {
        split = split;
        ends = greatest_at m s c;
        greatest = best;
        pooled = pooled;
        base = base;
        ceiling = rest_ceiling_second m s law piece chosen rest c pooled.den split places best;
      }

      pub second_level : IsLevel m s strict chosen c
      second_level = record {
        den = pooled.den;
        raised = (chosen_ceiling m s law piece chosen rest (greatest_at m s c) c split places best ceiling).ceiling;
        costs = costs strict tie;
        gains = λ b lb below a inside down g l u. omega (
          arith,
          ints,
          base.base b lb below a inside down g l u,
          set_sum-members a (least_at m s b) (greatest_at m s b) s.count (λ x lx w. law.ordered x lx b lb),
        );
      }

      -- the second one has a place
      pub second_some : IsCost strict (set_sum piece (greatest_at m s c) s.count) → (g : ℕ) → g < s.count → piece g ≡ true → (x : ℕ) × (x < s.count) × (chosen x ≡ true)
      second_some whole g l u = elim (member_or_none chosen s.count) [ inl x ↦ x | inr none ↦ absurd (refuted strict tie whole none) ] where
        all : set_sum piece (greatest_at m s c) s.count ≤ℤ set_sum chosen (greatest_at m s c) s.count
        all = best.greatest piece (itself piece) (λ i d b low high k. high)

        refuted : (t : Bool) → IsTieOf t s piece (greatest_at m s c) chosen → IsCost t (set_sum piece (greatest_at m s c) s.count) → ((x : ℕ) → x < s.count → chosen x ≡ false) → ⊥
        refuted true tied cost none =
            let zero : set_sum chosen (greatest_at m s c) s.count ≡ pos 0 = set_sum-none chosen (greatest_at m s c) s.count none in
            both_ways (chosen g) (none g l) (tied.largest piece (itself piece) (λ i d b low high k. high) (omega (arith, ints, all, cost, zero)) g l u)
        refuted false tied cost none = omega (arith, ints, all, cost, set_sum-none chosen (greatest_at m s c) s.count none)
