-- What each edit gives.
use Rattle.std.proofs.Common.{◌≡◌, ◌≢◌, ℕ, ◌+◌, ◌<◌, ◌≤◌, ◌^◌, List, [], ◌∷◌, ◌++◌, refl, sym, ap, ap₂, ◌∙◌, subst, arith, length, take, drop, get_or}
use Rattle.std.proofs.lemmas.List.{take-append-drop, take_all, drop_all, drop_more}
use Rattle.std.proofs.lemmas.List.Elements.{All-contains}
use Rattle.std.proofs.lemmas.List.Sums.{sum_by-cons, sum_by-append}
use Rattle.std.proofs.lemmas.Option.{slice_get_within, slice_get-get_or, get_or_from_slice_get}
use Rattle.std.specs.Prelude.{pos, Contains, ℤ, unsigned_abs, slice_get, Some, Ok}
use Rattle.ofit_study.specs.declared.edit.Edit.TheVariants.{Add}
use Rattle.ofit_study.specs.declared.fault.AddFault.{AddFault}
use Rattle.ofit_study.specs.declared.fault.AddFault.TheVariants as add
use Rattle.ofit_study.specs.Adding.{IsTaken, IsRefused}
use Rattle.ofit_study.specs.Added.{IsFirstGap}
use Rattle.ofit_study.specs.Edited.{Edited, HasRow, IsRefusal, with_value, with_weight, weight_with}
use Rattle.ofit_study.specs.EditLimits.{as_edit_fault}
use Rattle.ofit_study.specs.Name.{IsName}
use Rattle.ofit_study.specs.Splice.{IsRowAt}
use Rattle.ofit_study.specs.Study.{Observation, Study, GainsRow, IsObservation, IsValid, total_weight, most_rows}
use Rattle.ofit_study.proofs.Editing.{parts_mid, valid-change, valid-insert}
use Rattle.ofit_study.proofs.Gaps.{numbers, below_row, above_row, gap_gains}

-- the row at an index, between the others
pub row_parted : (rows : List Observation) (index : ℕ) (r : Observation) → slice_get rows index ≡ Some r → rows ≡ take index rows ++ r ∷ drop (index + 1) rows
row_parted rows index r e =
    sym (take-append-drop index rows)
    ∙ ap (λ (x : List Observation). take index rows ++ x)
    (drop_more rows index r (slice_get_within rows index r e) ∙ ap (λ (x : Observation). x ∷ drop (index + 1) rows) (get_or_from_slice_get rows index r r e))

abbrev pub row_of : (s : Study) (index number : ℕ) (r : Observation) → slice_get s.rows index ≡ Some r → r.number ≡ number → HasRow s number
row_of s index number r e n = record { lower = take index s.rows; row = r; higher = drop (index + 1) s.rows; parted = row_parted s.rows index r e; is = n }

pub its_number : (s : Study) (index number : ℕ) (r : Observation) → IsRowAt s index number → slice_get s.rows index ≡ Some r → r.number ≡ number
its_number s index number r at e = ap (λ (x : Observation). x.number) (sym (get_or_from_slice_get s.rows index r r e)) ∙ at.is r

-- the row at the index that has the number
pub row_here_of : (s : Study) (index number : ℕ) → IsRowAt s index number → HasRow s number
row_here_of s index number h =
    let d : Observation = record { number = 0; group = []; value = pos 0; weight = 0 } in
    row_of s index number (get_or s.rows index d) (slice_get-get_or s.rows index d h.inside) (h.is d)

-- a row more
pub added_refusal : (s : Study) (group : List ℕ) (value : ℤ) (weight : ℕ) (fault : AddFault) → IsRefused s group weight fault → fault ≢ add.Memory → IsRefusal s (Add group value weight) (as_edit_fault fault)
added_refusal s group value weight add.TooManyRows h other = h
added_refusal s group value weight add.TooHeavy h other = h
added_refusal s group value weight add.TooManyGroups h other = h
added_refusal s group value weight add.Memory h other = absurd (other refl)

-- a row under the least free number
pub new_row : (s : Study) (place : ℕ) (r : Observation) → place ≤ length s.rows → length s.rows < most_rows → r.number ≡ place + 1 → IsName r.group → unsigned_abs r.value ≤ 10 ^ 9 → 1 ≤ r.weight → IsObservation r
new_row s place r inside few n name value weight = record {
  least_number = omega (arith, n);
  greatest_number = omega (arith, n, inside, few);
  group = name;
  value = value;
  weight = weight;
}

pub gap_valid : (s : Study) → IsValid s → (place : ℕ) → IsFirstGap (numbers s.rows) place → (r : Observation) → r.number ≡ place + 1 → IsObservation r → IsTaken s r.group r.weight → IsValid (record s { rows = take place s.rows ++ r ∷ drop place s.rows })
gap_valid s v place gap r is o taken = valid-insert s v (take place s.rows) (drop place s.rows) (sym (take-append-drop place s.rows)) r taken o (below_row s v place gap r is) (above_row s v place gap r is)

pub added : (s : Study) → IsValid s → (place : ℕ) → IsFirstGap (numbers s.rows) place → (r : Observation) → r.number ≡ place + 1 → IsTaken s r.group r.weight → (after : Study) → after ≡ record s { rows = take place s.rows ++ r ∷ drop place s.rows }
    → Edited s (Add r.group r.value r.weight) (Ok after)
added s v place gap r is taken after e = subst (λ (t : Study). Edited s (Add r.group r.value r.weight) (Ok t)) (sym e) (taken, gap_gains s v place gap r is)

-- the row's other fields within their limits
in_study : (s : Study) → IsValid s → (number : ℕ) (at : HasRow s number) → IsObservation at.row
in_study s v number at = All-contains IsObservation s.rows at.row v.each (subst (λ (x : List Observation). Contains x at.row) (sym at.parted) (parts_mid at.lower (at.row ∷ []) at.higher at.row (0, omega arith, refl)))

weight_of : (lower higher : List Observation) (r : Observation) → total_weight (lower ++ r ∷ higher) ≡ total_weight lower + r.weight + total_weight higher
weight_of lower higher r = omega (arith, sum_by-append (λ (q : Observation). q.weight) lower (r ∷ higher), sum_by-cons (λ (q : Observation). q.weight) r higher)

pub weight_moved : (s : Study) (number : ℕ) (at : HasRow s number) (weight : ℕ) → weight_with at weight + at.row.weight ≡ total_weight s.rows + weight
weight_moved s number at weight = omega (arith, weight_of at.lower at.higher (with_weight at.row weight), weight_of at.lower at.higher at.row, ap total_weight at.parted)

pub weight_inside : (s : Study) (number : ℕ) (at : HasRow s number) → at.row.weight ≤ total_weight s.rows
weight_inside s number at = omega (arith, weight_of at.lower at.higher at.row, ap total_weight at.parted)

module _ (s : Study) (v : IsValid s) (number : ℕ) (at : HasRow s number) where
  pub value_valid : (value : ℤ) → unsigned_abs value ≤ 10 ^ 9 → IsValid (record s { rows = at.lower ++ with_value at.row value ∷ at.higher })
  value_valid value most =
      let o = in_study s v number at in
      valid-change s v number at (with_value at.row value) refl refl (record { least_number = o.least_number; greatest_number = o.greatest_number; group = o.group; value = most; weight = o.weight })
      (omega (arith, v.together, weight_of at.lower at.higher (with_value at.row value), weight_of at.lower at.higher at.row, ap total_weight at.parted))

  pub weight_valid : (weight : ℕ) → 1 ≤ weight → weight_with at weight ≤ 10 ^ 10 → IsValid (record s { rows = at.lower ++ with_weight at.row weight ∷ at.higher })
  weight_valid weight least light =
      let o = in_study s v number at in
      valid-change s v number at (with_weight at.row weight) refl refl (record { least_number = o.least_number; greatest_number = o.greatest_number; group = o.group; value = o.value; weight = least }) light

-- behind all rows
pub at_end : (rows : List Observation) (place : ℕ) (r : Observation) → place ≡ length rows → take place rows ++ r ∷ drop place rows ≡ rows ++ r ∷ []
at_end rows place r e = ap₂ (λ (x y : List Observation). x ++ r ∷ y) (take_all place rows (omega arith)) (drop_all place rows (omega arith))

-- a study gains a row in any case
pub gained : (s : Study) → IsValid s → (place : ℕ) → IsFirstGap (numbers s.rows) place → (r : Observation) → r.number ≡ place + 1 → (after : Study) (rows : List Observation) → after ≡ record s { rows = rows } → rows ≡ take place s.rows ++ r ∷ drop place s.rows
    → (value : ℤ) → r.value ≡ value → GainsRow s r.group value r.weight after
gained s v place gap r is after rows e f value same =
    subst (λ (z : ℤ). GainsRow s r.group z r.weight after) same
    (subst (GainsRow s r.group r.value r.weight) (sym (e ∙ ap (λ (x : List Observation). record s { rows = x }) f)) (gap_gains s v place gap r is))
