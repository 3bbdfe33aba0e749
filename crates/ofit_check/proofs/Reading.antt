-- What the study and the sheet tell of each other.
use Rattle.std.proofs.Common.{◌≡◌, ℕ, ◌<◌, length, sym, ap, subst, ◌∙◌, arith, nat_eq, Ordering}
use Rattle.std.proofs.lemmas.Bool.Decides.{nat_tests}
use Rattle.std.proofs.lemmas.List.{length-map}
use Rattle.std.proofs.lemmas.Option.{slice_get-map, same_Some}
use Rattle.std.specs.Option.{option_map}
use Rattle.std.specs.Ordering.{int_cmp, is_le, is_eq}
use Rattle.std.specs.Prelude.{pos, ◌*ℤ◌, slice_get, Option, Some, IfSome, IsTrue, ◌↔◌}
use Rattle.ofit_num.specs.Fraction.{Fraction, AtMost, SameValue}
use Rattle.ofit_num.specs.Fit.{sum_below}
use Rattle.ofit_num.specs.Flow.{Flow}
use Rattle.ofit_num.specs.Loss.{row_sum}
use Rattle.ofit_num.specs.Sheet as num
use Rattle.ofit_num.specs.Sheet.{Sheet, Entry, sheet_value, sheet_values}
use Rattle.ofit_num.specs.Verdict.{AgreesInSize, RisesAlong, JoinsEqual}
use Rattle.ofit_num.proofs.Lists.{All-slice_get}
use Rattle.ofit_num.proofs.Sheets.{sheet_values-length, sheet_value-get}
use Rattle.ofit_study.specs.Study.{Study, names_of, places_of, problem_stated, total_weight}
use Rattle.ofit_study.specs.declared.settings.Settings.{Settings}
use Rattle.ofit_study.proofs.Stating.{rows_counted, rows_weighed}
use Rattle.ofit_check.specs.Check.{HasValues}
use Rattle.ofit_check.proofs.Comparing.{at_most_told, equal_told}

equal_numbers : (a b : ℕ) → IsTrue (nat_eq a b) → a ≡ b
equal_numbers a b t = grind (arith, nat_tests)

same_numbers : (a b : ℕ) → a ≡ b → IsTrue (nat_eq a b)
same_numbers a b e = grind (arith, nat_tests)

-- a size
module _ (s : Study) (x : Sheet Settings) (z : num.Size) (is : x.size ≡ Some z) where
  abbrev IsSizeOf : num.Size → Type 0
  IsSizeOf t = (t.rows ≡ sum_below (λ g. length ((problem_stated s).rows g)) (problem_stated s).count) × (t.weight ≡ sum_below (λ g. row_sum (λ r. r.weight) ((problem_stated s).rows g)) (problem_stated s).count)

  sized : (z.rows ≡ length s.rows) → (z.weight ≡ total_weight s.rows) → AgreesInSize (problem_stated s) x
  sized r w = subst (λ (o : Option num.Size). IfSome o IsSizeOf) (sym is) (r ∙ rows_counted s, w ∙ rows_weighed s)

  agreed : AgreesInSize (problem_stated s) x → (z.rows ≡ length s.rows) × (z.weight ≡ total_weight s.rows)
  agreed h =
      let both : IsSizeOf z = subst (λ (o : Option num.Size). IfSome o IsSizeOf) is h in
      (both.0 ∙ sym (rows_counted s), both.1 ∙ sym (rows_weighed s))

  pub weight_told : (w : ℕ) → z.rows ≡ length s.rows → w ≡ total_weight s.rows → IsTrue (nat_eq z.weight w) ↔ AgreesInSize (problem_stated s) x
  weight_told w r e = (λ t. sized r (equal_numbers z.weight w t ∙ e), λ h. same_numbers z.weight w ((agreed h).1 ∙ sym e))

  pub rows_told : (n : ℕ) → n ≡ length s.rows → (z.rows ≡ n → ⊥) → IsTrue (nat_eq z.rows n) ↔ AgreesInSize (problem_stated s) x
  rows_told n e d = (λ t. absurd (d (equal_numbers z.rows n t)), λ h. absurd (d ((agreed h).0 ∙ sym e)))

-- values
module _ (s : Study) (x : Sheet Settings) (h : HasValues s x) where
  pub value_inside : (p : ℕ) → p < length (names_of s) → p < length x.values
  value_inside p l = omega (arith, length-map x.values (λ (e : Entry). e.value), sheet_values-length (length (names_of s)) x h.fits h.complete)

  pub value_is : (p : ℕ) (e : Entry) → p < length (names_of s) → slice_get x.values p ≡ Some e → e.value ≡ sheet_value x p
  value_is p e l at =
      same_Some e.value (sheet_value x p) (sym (slice_get-map (λ (t : Entry). t.value) x.values p ∙ ap (option_map (λ (t : Entry). t.value)) at) ∙ sheet_value-get (length (names_of s)) x h.fits h.complete p l)

  pub flow_inside : (i : ℕ) (f : Flow) → slice_get x.flows i ≡ Some f → (f.low < length (names_of s)) × (f.high < length (names_of s))
  flow_inside i f at = All-slice_get (λ g. (g.low < length (names_of s)) × (g.high < length (names_of s))) x.flows i f h.fits.ends at

  pub rises_told : (i : ℕ) (e : ℕ × ℕ) (c b : Fraction) (o : Ordering) → slice_get (places_of s) i ≡ Some e → c ≡ sheet_value x e.0 → b ≡ sheet_value x e.1 → o ≡ int_cmp (c.num *ℤ pos b.den) (b.num *ℤ pos c.den) → IsTrue (is_le o) ↔ RisesAlong (problem_stated s) x i
  rises_told i e c b o at is_c is_b says =
      subst (λ (p : Option (ℕ × ℕ)). IsTrue (is_le o) ↔ IfSome p (λ f. AtMost (sheet_value x f.0) (sheet_value x f.1))) (sym at)
      (subst (λ (t : Fraction). IsTrue (is_le o) ↔ AtMost t (sheet_value x e.1)) is_c (subst (λ (t : Fraction). IsTrue (is_le o) ↔ AtMost c t) is_b (at_most_told (c.num *ℤ pos b.den) (b.num *ℤ pos c.den) o says)))

  pub tight_told : (i : ℕ) (f : Flow) (c b : Fraction) (o : Ordering) → slice_get x.flows i ≡ Some f → c ≡ sheet_value x f.low → b ≡ sheet_value x f.high → o ≡ int_cmp (c.num *ℤ pos b.den) (b.num *ℤ pos c.den) → IsTrue (is_eq o) ↔ JoinsEqual x i
  tight_told i f c b o at is_c is_b says =
      subst (λ (p : Option Flow). IsTrue (is_eq o) ↔ IfSome p (λ g. SameValue (sheet_value x g.low) (sheet_value x g.high))) (sym at)
      (subst (λ (t : Fraction). IsTrue (is_eq o) ↔ SameValue t (sheet_value x f.high)) is_c (subst (λ (t : Fraction). IsTrue (is_eq o) ↔ SameValue c t) is_b (equal_told (c.num *ℤ pos b.den) (b.num *ℤ pos c.den) o says)))
