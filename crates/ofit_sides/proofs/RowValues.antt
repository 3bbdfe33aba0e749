-- Values of least settled trials under the median are values of rows.
use Rattle.std.proofs.Common.{◌≡◌, ℕ, zero, suc, ◌<◌, ◌⊎◌, inl, inr, refl, sym, ap, ◌∙◌, arith, Bool, true, false, cond, int_eq, List, [], ◌∷◌, Option, Some, None}
use Rattle.std.proofs.lemmas.Int.{ints}
use Rattle.std.proofs.lemmas.Bool.Decides.{Decides-int_eq}
use Rattle.std.specs.Prelude.{ℤ, pos, negsuc, ◌+ℤ◌, ◌-ℤ◌, ◌*ℤ◌, slice_get}
use Rattle.ofit_num.specs.declared.row.Row.{Row}
use Rattle.ofit_num.specs.Problem.{Problem}
use Rattle.ofit_num.specs.Loss.{Factors, residual, absolute_least, absolute_greatest, median}
use Rattle.ofit_num.specs.Sets.{set_sum, IsClosedUp, IsClosedDown}
use Rattle.ofit_num.specs.Settled.{IsLeastSettled, CanRise, CanFall}
use Rattle.ofit_num.specs.Span.{is_at}
use Rattle.ofit_num.specs.Trial.{Trial}
use Rattle.ofit_sheet.specs.Unbounded.{HasNoBounds}
use Rattle.ofit_sides.specs.Values.{IsRowValue}

abbrev once : Factors
once = record { above = 1; below = 1 }

is_equal : (x y : ℤ) → int_eq x y ≡ true → x ≡ y
is_equal x y e = grind (arith, Decides-int_eq)

equal_is : (x y : ℤ) → x ≡ y → int_eq x y ≡ true
equal_is x y e = grind (arith, Decides-int_eq)

-- a row at the value, or the two ends of all rows are equal
record HasRowAt (rows : List Row) (p : ℤ) (q : ℕ) : Type 0 where
  index : ℕ
  row : Row
  there : slice_get rows index ≡ Some row
  at : residual row p q ≡ pos 0

ends_part : (w : ℕ) (x : ℤ) → (x ≡ pos 0) ⊎ (absolute_least once w x ≡ absolute_greatest once w x)
ends_part w (pos zero) = inl refl
ends_part w (pos (suc n)) = inr refl
ends_part w (negsuc n) = inr refl

rows_part : (rows : List Row) (p : ℤ) (q : ℕ) → HasRowAt rows p q ⊎ (median.least rows p q ≡ median.greatest rows p q)
rows_part [] p q = inr refl
rows_part (r ∷ rows) p q = elim (ends_part r.weight (residual r p q)) [
  | inl at ↦ inl (record { index = 0; row = r; there = refl; at = at })
  | inr same ↦ elim (rows_part rows p q) [
    | inl h ↦ inl (record { index = suc h.index; row = h.row; there = h.there; at = h.at })
    | inr rest ↦ inr (added (absolute_least once r.weight (residual r p q)) (absolute_greatest once r.weight (residual r p q)) (median.least rows p q) (median.greatest rows p q) same rest)
  ]
]
  where
    added : (a b c d : ℤ) → a ≡ b → c ≡ d → a +ℤ c ≡ b +ℤ d
    added a b c d e f = omega (arith, ints, e, f)

module _ (s : Problem) (t : Trial) where
  -- a group of the set with a row at its value
  record HasGroupAt (a : ℕ → Bool) (n : ℕ) : Type 0 where
    group : ℕ
    inside : group < n
    member : a group ≡ true
    rowed : HasRowAt (s.rows group) (t.value group) t.scale

  abbrev low : ℕ → ℤ
  low g = median.least (s.rows g) (t.value g) t.scale

  abbrev high : ℕ → ℤ
  high g = median.greatest (s.rows g) (t.value g) t.scale

  set_part : (a : ℕ → Bool) (n : ℕ) → HasGroupAt a n ⊎ (set_sum a low n ≡ set_sum a high n)
  set_part a zero = inr refl
  set_part a (suc n) = elim (set_part a n) [
    | inl h ↦ inl (record { group = h.group; inside = omega (arith, h.inside); member = h.member; rowed = h.rowed })
    | inr rest ↦ last (a n) refl (rows_part (s.rows n) (t.value n) t.scale) rest
  ]
    where
      last : (b : Bool) → a n ≡ b → HasRowAt (s.rows n) (t.value n) t.scale ⊎ (low n ≡ high n) → set_sum a low n ≡ set_sum a high n → HasGroupAt a (suc n) ⊎ (set_sum a low (suc n) ≡ set_sum a high (suc n))
      last true e (inl h) rest = inl (record { group = n; inside = omega arith; member = e; rowed = h })
      last true e (inr same) rest = inr (omega (arith, ints, rest, ap (λ (c : Bool). cond c (low n) (pos 0)) e, ap (λ (c : Bool). cond c (high n) (pos 0)) e, same))
      last false e h rest = inr (omega (arith, ints, rest, ap (λ (c : Bool). cond c (low n) (pos 0)) e, ap (λ (c : Bool). cond c (high n) (pos 0)) e))

  no_bound : (o : Option ℤ) (p : ℤ) (q : ℕ) → o ≡ None → is_at o p q ≡ false
  no_bound None p q e = refl
  no_bound (Some z) p q e = absurd (cc)

  module _ (free : HasNoBounds s) (settled : IsLeastSettled median s t) (g : ℕ) (inside : g < s.count) where
    -- the groups of the same value
    abbrev level : ℕ → Bool
    level h = int_eq (t.value h) (t.value g)

    closed_up : IsClosedUp s t level
    closed_up k d l same has = equal_is _ (t.value g) (sym same ∙ is_equal _ (t.value g) has)

    closed_down : IsClosedDown s t level
    closed_down k d l same has = equal_is _ (t.value g) (same ∙ is_equal _ (t.value g) has)

    can_rise : CanRise s t level
    can_rise h l e = no_bound (s.bounds h).hi (t.value h) t.scale (free h l).hi

    can_fall : CanFall s t level
    can_fall h l e = no_bound (s.bounds h).lo (t.value h) t.scale (free h l).lo

    from_zero : (x y : ℤ) → x -ℤ y ≡ pos 0 → y ≡ x
    from_zero x y e = omega (arith, ints, e)

    pub row_value : IsRowValue s t g
    row_value = elim (set_part level s.count) [
      | inl h ↦
          let same : t.value h.group ≡ t.value g = is_equal (t.value h.group) (t.value g) h.member in
          record {
            group = h.group;
            inside = h.inside;
            same = same;
            index = h.rowed.index;
            row = h.rowed.row;
            there = h.rowed.there;
            value = sym same ∙ from_zero (pos t.scale *ℤ h.rowed.row.value) (t.value h.group) h.rowed.at;
          }
      | inr equal ↦ absurd (omega (arith, ints, equal, settled.settled.raised level closed_up can_rise, settled.loses level closed_down can_fall g inside (equal_is (t.value g) (t.value g) refl)))
    ]
