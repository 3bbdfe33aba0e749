-- A part of a problem: some of its places, with all pairs that touch them.
use Rattle.std.proofs.Common.{◌≡◌, ℕ, zero, suc, ◌+◌, ◌*◌, ◌^◌, ◌<◌, refl, sym, ap, ap₂, subst, ◌∙◌, arith, inl, inr, cond, nat_eq, Bool, true, false, get_or, ◌-◌, List}
use Rattle.std.proofs.lemmas.Int.{ints}
use Rattle.std.proofs.lemmas.Bool.{cases_order}
use Rattle.std.proofs.lemmas.List.Elements.{Contains-get_or, All-contains}
use Rattle.std.specs.Prelude.{ℤ, pos, ◌*ℤ◌, ◌≤ℤ◌, IfSome}
use Rattle.std.specs.List.{Contains}
use Rattle.ofit_num.specs.declared.row.Row.{Row}
use Rattle.ofit_num.specs.Problem.{Problem, Bounds}
use Rattle.ofit_num.specs.ProblemPairs.{HasPlaces}
use Rattle.ofit_num.specs.Meaning.{Meaning}
use Rattle.ofit_num.specs.Trial.{Trial}
use Rattle.ofit_num.specs.Fit.{Obeys, sum_below, trial_cost}
use Rattle.ofit_num.specs.Law.{HasScaling}
use Rattle.ofit_num.proofs.Order.{mul_pos, mul_pos_mul}
use Rattle.ofit_num.proofs.Sums.{sum_below-same, sum_below-scale}
use Rattle.ofit_num.proofs.Scaling.{above_equal, below_equal}
use Rattle.ofit_fit.proofs.Places.{is_in, HasPlace, in_from, out_from, IsDistinct, same_place, other_place, sum_picked, sum_split}

-- each place of p is one of s, by `at`, with the same rows and bounds; the pairs are those of s that touch these places
pub record IsPart (s p : Problem) (at : ℕ → ℕ) : Type 0 where
  pub inside : (i : ℕ) → i < p.count → at i < s.count
  pub distinct : IsDistinct at p.count
  pub rows : (i : ℕ) → i < p.count → p.rows i ≡ s.rows (at i)
  pub bounds : (i : ℕ) → i < p.count → p.bounds i ≡ s.bounds (at i)
  pub places : HasPlaces p
  pub kept : (i j : ℕ) → Contains p.pairs (i, j) → Contains s.pairs (at i, at j)
  pub all : (i j : ℕ) → i < p.count → j < p.count → Contains s.pairs (at i, at j) → Contains p.pairs (i, j)
  pub up : (a b : ℕ) → Contains s.pairs (a, b) → HasPlace at p.count a → HasPlace at p.count b
  pub down : (a b : ℕ) → Contains s.pairs (a, b) → HasPlace at p.count b → HasPlace at p.count a

turn : (a b : ℕ) → a * b ≡ b * a
turn a b = omega arith

-- the trial at the part's places
abbrev pub along : Trial → (ℕ → ℕ) → Trial
along t at = record { value = λ i. t.value (at i); scale = t.scale }

-- u at the first n places of the numbering and t elsewhere, over both scales
abbrev pub moved : (ℕ → ℕ) → ℕ → Trial → Trial → ℕ → ℤ
moved at zero u t g = t.value g *ℤ pos u.scale
moved at (suc n) u t g = cond (nat_eq (at n) g) (u.value n *ℤ pos t.scale) (moved at n u t g)

abbrev pub joined : (ℕ → ℕ) → ℕ → Trial → Trial → Trial
joined at n u t = record { value = moved at n u t; scale = u.scale * t.scale }

pub moved_in : (at : ℕ → ℕ) (n : ℕ) (u t : Trial) → IsDistinct at n → (i : ℕ) → i < n → moved at n u t (at i) ≡ u.value i *ℤ pos t.scale
moved_in at zero u t distinct i l = absurd (omega arith)
moved_in at (suc n) u t distinct i l = elim (cases_order i n) [
  | inl same ↦ ap (λ (b : Bool). cond b (u.value n *ℤ pos t.scale) (moved at n u t (at i))) (same_place (at n) (at i) (ap at (sym same))) ∙ ap (λ (k : ℕ). u.value k *ℤ pos t.scale) (sym same)
  | inr o ↦ elim o [
    | inl below ↦ ap (λ (b : Bool). cond b (u.value n *ℤ pos t.scale) (moved at n u t (at i))) (other_place (at n) (at i) (λ e. absurd (omega (arith, below, distinct n i (omega arith) l e))))
        ∙ moved_in at n u t (λ j k a b e. distinct j k (omega arith) (omega arith) e) i below
    | inr above ↦ absurd (omega arith)
  ]
]

pub moved_out : (at : ℕ → ℕ) (n : ℕ) (u t : Trial) (g : ℕ) → is_in at n g ≡ false → moved at n u t g ≡ t.value g *ℤ pos u.scale
moved_out at zero u t g h = refl
moved_out at (suc n) u t g h = go (nat_eq (at n) g) refl (moved_out at n u t g) where
  go : (b : Bool) → nat_eq (at n) g ≡ b → (is_in at n g ≡ false → moved at n u t g ≡ t.value g *ℤ pos u.scale) → cond (nat_eq (at n) g) (u.value n *ℤ pos t.scale) (moved at n u t g) ≡ t.value g *ℤ pos u.scale
  go true e rest =
      let f : true ≡ false = ap (λ (b : Bool). cond b true (is_in at n g)) (sym e) ∙ h in
      cc
  go false e rest = ap (λ (b : Bool). cond b (u.value n *ℤ pos t.scale) (moved at n u t g)) e ∙ rest (ap (λ (b : Bool). cond b true (is_in at n g)) (sym e) ∙ h)

module _ (s p : Problem) (at : ℕ → ℕ) (part : IsPart s p at) where
  -- the joined trial has the values of u in the part, and those of t elsewhere
  pub equal_in : (u t : Trial) (g : ℕ) (x : HasPlace at p.count g) → u.value x.0 *ℤ pos (u.scale * t.scale) ≡ moved at p.count u t g *ℤ pos u.scale
  equal_in u t g x =
      sym (mul_pos_mul (u.value x.0) t.scale u.scale)
      ∙ ap (λ (v : ℤ). v *ℤ pos u.scale) (sym (moved_in at p.count u t part.distinct x.0 x.1) ∙ ap (moved at p.count u t) x.2)

  pub equal_out : (u t : Trial) (g : ℕ) → is_in at p.count g ≡ false → t.value g *ℤ pos (u.scale * t.scale) ≡ moved at p.count u t g *ℤ pos t.scale
  equal_out u t g e =
      ap (λ (n : ℕ). t.value g *ℤ pos n) (turn u.scale t.scale) ∙ sym (mul_pos_mul (t.value g) u.scale t.scale)
      ∙ ap (λ (v : ℤ). v *ℤ pos t.scale) (sym (moved_out at p.count u t g e))

  pub along_obeys : (t : Trial) → Obeys s t → Obeys p (along t at)
  along_obeys t o = record {
    scale = o.scale;
    pairs = λ k d l.
        let e : ℕ × ℕ = get_or p.pairs k d in
        All-contains (λ (e : ℕ × ℕ). t.value e.0 ≤ℤ t.value e.1) s.pairs (at e.0, at e.1) o.pairs (part.kept e.0 e.1 (Contains-get_or p.pairs k d l));
    low = λ i l. subst (λ (b : Bounds). IfSome b.lo (λ lo. (lo *ℤ pos t.scale) ≤ℤ t.value (at i))) (sym (part.bounds i l)) (o.low (at i) (part.inside i l));
    high = λ i l. subst (λ (b : Bounds). IfSome b.hi (λ hi. t.value (at i) ≤ℤ (hi *ℤ pos t.scale))) (sym (part.bounds i l)) (o.high (at i) (part.inside i l));
  }

  pub joined_obeys : (u t : Trial) → Obeys p u → Obeys s t → Obeys s (joined at p.count u t)
  joined_obeys u t ou ot = record {
    scale = scale_above u.scale t.scale ou.scale ot.scale;
    pairs = λ k d l.
        let e : ℕ × ℕ = get_or s.pairs k d in
        pair e.0 e.1 (Contains-get_or s.pairs k d l) (is_in at p.count e.0) refl;
    low = λ g l. low g l (is_in at p.count g) refl;
    high = λ g l. high g l (is_in at p.count g) refl;
  } where
    scale_above : (a b : ℕ) → 0 < a → 0 < b → 0 < a * b
    scale_above a b h k = grind arith

    inner : (a b : ℕ) → Contains s.pairs (a, b) → HasPlace at p.count a → HasPlace at p.count b → moved at p.count u t a ≤ℤ moved at p.count u t b
    inner a b c x y =
        let into : Contains p.pairs (x.0, y.0) = part.all x.0 y.0 x.1 y.1 (subst (λ (z : ℕ). Contains s.pairs (z, at y.0)) (sym x.2) (subst (λ (z : ℕ). Contains s.pairs (a, z)) (sym y.2) c)) in
        let rises : u.value x.0 ≤ℤ u.value y.0 = All-contains (λ (e : ℕ × ℕ). u.value e.0 ≤ℤ u.value e.1) p.pairs (x.0, y.0) ou.pairs into in
        omega (
          arith,
          ints,
          mul_pos _ _ t.scale rises,
          ap (moved at p.count u t) (sym x.2) ∙ moved_in at p.count u t part.distinct x.0 x.1,
          ap (moved at p.count u t) (sym y.2) ∙ moved_in at p.count u t part.distinct y.0 y.1,
        )

    pair : (a b : ℕ) → Contains s.pairs (a, b) → (x : Bool) → is_in at p.count a ≡ x → moved at p.count u t a ≤ℤ moved at p.count u t b
    pair a b c true e =
        let x : HasPlace at p.count a = in_from at p.count a e in
        inner a b c x (part.up a b c x)
    pair a b c false e = other (is_in at p.count b) refl where
      other : (y : Bool) → is_in at p.count b ≡ y → moved at p.count u t a ≤ℤ moved at p.count u t b
      other true f = absurd (out_from at p.count a e (part.down a b c (in_from at p.count b f)))
      other false f = omega (arith, ints, mul_pos _ _ u.scale (All-contains (λ (e : ℕ × ℕ). t.value e.0 ≤ℤ t.value e.1) s.pairs (a, b) ot.pairs c), moved_out at p.count u t a e, moved_out at p.count u t b f)

    low : (g : ℕ) → g < s.count → (x : Bool) → is_in at p.count g ≡ x → IfSome (s.bounds g).lo (λ lo. (lo *ℤ pos (u.scale * t.scale)) ≤ℤ moved at p.count u t g)
    low g l true e =
        let x : HasPlace at p.count g = in_from at p.count g e in
        above_equal (s.bounds g).lo (u.value x.0) (moved at p.count u t g) u.scale (u.scale * t.scale) ou.scale (equal_in u t g x)
        (subst (λ (b : Bounds). IfSome b.lo (λ lo. (lo *ℤ pos u.scale) ≤ℤ u.value x.0)) (part.bounds x.0 x.1 ∙ ap s.bounds x.2) (ou.low x.0 x.1))
    low g l false e = above_equal (s.bounds g).lo (t.value g) (moved at p.count u t g) t.scale (u.scale * t.scale) ot.scale (equal_out u t g e) (ot.low g l)

    high : (g : ℕ) → g < s.count → (x : Bool) → is_in at p.count g ≡ x → IfSome (s.bounds g).hi (λ hi. moved at p.count u t g ≤ℤ (hi *ℤ pos (u.scale * t.scale)))
    high g l true e =
        let x : HasPlace at p.count g = in_from at p.count g e in
        below_equal (s.bounds g).hi (u.value x.0) (moved at p.count u t g) u.scale (u.scale * t.scale) ou.scale (equal_in u t g x)
        (subst (λ (b : Bounds). IfSome b.hi (λ hi. u.value x.0 ≤ℤ (hi *ℤ pos u.scale))) (part.bounds x.0 x.1 ∙ ap s.bounds x.2) (ou.high x.0 x.1))
    high g l false e = below_equal (s.bounds g).hi (t.value g) (moved at p.count u t g) t.scale (u.scale * t.scale) ot.scale (equal_out u t g e) (ot.high g l)

  -- the laws of the problem's rows are those of the part's
  pub part_scaling : (m : Meaning) → HasScaling m s → HasScaling m p
  part_scaling m law = record {
    cost = λ i l k q v lk lq. subst (λ (rows : List Row). m.cost rows (v *ℤ pos k) (q * k) ≡ m.cost rows v q * k ^ m.degree) (sym (part.rows i l)) (law.cost (at i) (part.inside i l) k q v lk lq);
    least = λ i l k q v lk lq. subst (λ (rows : List Row). m.least rows (v *ℤ pos k) (q * k) ≡ m.least rows v q *ℤ pos (k ^ (m.degree - 1))) (sym (part.rows i l)) (law.least (at i) (part.inside i l) k q v lk lq);
    greatest = λ i l k q v lk lq. subst (λ (rows : List Row). m.greatest rows (v *ℤ pos k) (q * k) ≡ m.greatest rows v q *ℤ pos (k ^ (m.degree - 1))) (sym (part.rows i l)) (law.greatest (at i) (part.inside i l) k q v lk lq);
  }

  -- what the groups outside the part cost
  pub rest_cost : Meaning → Trial → ℕ
  rest_cost m t = sum_below (λ g. cond (is_in at p.count g) 0 (m.cost (s.rows g) (t.value g) t.scale)) s.count

  part_cost : (m : Meaning) (t : Trial) → sum_below (λ g. cond (is_in at p.count g) (m.cost (s.rows g) (t.value g) t.scale) 0) s.count ≡ trial_cost m p (along t at)
  part_cost m t =
      sum_picked at s.count p.count (λ g. m.cost (s.rows g) (t.value g) t.scale) part.inside part.distinct
      ∙ sum_below-same _ _ p.count (λ i l. ap (λ (rows : List Row). m.cost rows (t.value (at i)) t.scale) (sym (part.rows i l)))

  -- the cost of a trial is that of the part and of the rest
  pub split_cost : (m : Meaning) (t : Trial) → trial_cost m s t ≡ trial_cost m p (along t at) + rest_cost m t
  unfolding rest_cost
  split_cost m t = sum_split (is_in at p.count) (λ g. m.cost (s.rows g) (t.value g) t.scale) s.count ∙ ap (λ (c : ℕ). c + rest_cost m t) (part_cost m t)

  -- and so is the cost of a joined trial, at both scales
  pub joined_cost : (m : Meaning) → HasScaling m s → (u t : Trial) → 0 < u.scale → 0 < t.scale
      → trial_cost m s (joined at p.count u t) ≡ trial_cost m p u * t.scale ^ m.degree + rest_cost m t * u.scale ^ m.degree
  unfolding rest_cost
  joined_cost m law u t lu lt = split_cost m (joined at p.count u t) ∙ ap₂ (λ (a b : ℕ). a + b) inner outer where
    inner : trial_cost m p (along (joined at p.count u t) at) ≡ trial_cost m p u * t.scale ^ m.degree
    inner = sum_below-same _ (λ i. m.cost (p.rows i) (u.value i) u.scale * t.scale ^ m.degree) p.count
        (λ i l. ap (λ (v : ℤ). m.cost (p.rows i) v (u.scale * t.scale)) (moved_in at p.count u t part.distinct i l) ∙ (part_scaling m law).cost i l t.scale u.scale (u.value i) lt lu)
        ∙ sym (sum_below-scale (λ i. m.cost (p.rows i) (u.value i) u.scale) p.count (t.scale ^ m.degree))

    each : (g : ℕ) → g < s.count → (b : Bool) → is_in at p.count g ≡ b
        → cond b 0 (m.cost (s.rows g) (moved at p.count u t g) (u.scale * t.scale)) ≡ cond b 0 (m.cost (s.rows g) (t.value g) t.scale) * u.scale ^ m.degree
    each g l true e = omega arith
    each g l false e =
        ap₂ (λ (v : ℤ) (q : ℕ). m.cost (s.rows g) v q) (moved_out at p.count u t g e) (turn u.scale t.scale) ∙ law.cost g l u.scale t.scale (t.value g) lu lt

    outer : rest_cost m (joined at p.count u t) ≡ rest_cost m t * u.scale ^ m.degree
    outer = sum_below-same _ (λ g. cond (is_in at p.count g) 0 (m.cost (s.rows g) (t.value g) t.scale) * u.scale ^ m.degree) s.count (λ g l. each g l (is_in at p.count g) refl)
        ∙ sym (sum_below-scale (λ g. cond (is_in at p.count g) 0 (m.cost (s.rows g) (t.value g) t.scale)) s.count (u.scale ^ m.degree))
