-- What a told folder's files give for a fit of an unknown peak is given in one way.
use Rattle.std.proofs.Common.{◌≡◌, inl, inr, ℕ, ◌<◌, ◌≤◌, List, length, sym, ap, ◌∙◌, arith}
use Rattle.std.specs.Prelude.{Some, Result, Ok, Err}
use Rattle.ofit_outside.specs.Folder.{Held}
use Rattle.ofit_records.specs.Records.{records_of}
use Rattle.ofit_study.specs.Study.{Study, names_of}
use Rattle.ofit_sheet.specs.declared.fault.SheetFault.TheVariants as sheet_fault
use Rattle.ofit_sheet.specs.declared.peaked.limits.TheConstants.{MOST_PEAK_GROUPS}
use Rattle.ofit_sheet.specs.Peaked.{Peaked}
use Rattle.ofit_sheet.specs.PeakedRead.{PeakedRead}
use Rattle.ofit_input.specs.declared.refusal.Which.TheVariants as which
use Rattle.ofit_input.specs.declared.refusal.Refusal.{Refusal}
use Rattle.ofit_input.specs.declared.refusal.Refusal.TheVariants.{Sheet}
use Rattle.ofit_input.specs.Given.{TableGives}
use Rattle.ofit_input.specs.PeakGiven.{peak_settings, PeakStudyGives, PeakedGives}
use Rattle.ofit_input.proofs.Results.{ok_same, ok_apart}
use Rattle.ofit_input.proofs.OneFile.{IsOneWay, one_from_file}
use Rattle.ofit_input.proofs.OneGiven.{TablesAreOne, one_table}

-- peaked sheets are read in one way
abbrev pub PeakedAreOne : Type 0
PeakedAreOne = (study : Study) (rows : List (List (List ℕ))) → IsOneWay (PeakedRead (names_of study) rows) sheet_fault.Memory

too_many : (s o : Study) → s ≡ o → length (names_of s) ≤ MOST_PEAK_GROUPS → MOST_PEAK_GROUPS < length (names_of o) → ⊥
too_many s o e few many = omega (arith, ap (λ (t : Study). length (names_of t)) e)

module _ (tables : TablesAreOne) (h : Held) (table : List ℕ) (places : ℕ) where
  same : (a b : Result Study Refusal) → TableGives (Some h) table (peak_settings places) a → TableGives (Some h) table (peak_settings places) b → a ≡ b
  same a b = one_table tables h table (peak_settings places) a b

  apart : (s : Study) (refusal : Refusal) → TableGives (Some h) table (peak_settings places) (Ok s) → TableGives (Some h) table (peak_settings places) (Err refusal) → ⊥
  apart s refusal x y = ok_apart s refusal (same (Ok s) (Err refusal) x y)

  pub one_peak_study : (a b : Result Study Refusal) → PeakStudyGives (Some h) table places a → PeakStudyGives (Some h) table places b → a ≡ b
  one_peak_study (Ok s) (Ok o) (x, few, v) (y, also, w) = same (Ok s) (Ok o) x y
  one_peak_study (Ok s) (Err r) (x, few, v) (inl y) = absurd (apart s r x y)
  one_peak_study (Ok s) (Err r) (x, few, v) (inr (o, y, many, e)) = absurd (too_many s o (ok_same s o (same (Ok s) (Ok o) x y)) few many)
  one_peak_study (Err r) (Ok s) (inl y) (x, few, v) = absurd (apart s r x y)
  one_peak_study (Err r) (Ok s) (inr (o, y, many, e)) (x, few, v) = absurd (too_many s o (ok_same s o (same (Ok s) (Ok o) x y)) few many)
  one_peak_study (Err r) (Err t) (inl x) (inl y) = same (Err r) (Err t) x y
  one_peak_study (Err r) (Err t) (inl x) (inr (o, y, many, e)) = absurd (apart o r y x)
  one_peak_study (Err r) (Err t) (inr (o, y, many, e)) (inl x) = absurd (apart o t y x)
  one_peak_study (Err r) (Err t) (inr (s, x, many, e)) (inr (o, y, more, d)) = ap Err (e ∙ sym d)

pub one_peaked : PeakedAreOne → (h : Held) (name : List ℕ) (study : Study) (a b : Result Peaked Refusal) → PeakedGives (Some h) name study a → PeakedGives (Some h) name study b → a ≡ b
one_peaked peaked h name study a b x y =
    one_from_file (λ bytes. PeakedRead (names_of study) (records_of bytes)) Sheet sheet_fault.Memory (λ bytes. peaked study (records_of bytes)) h name which.Sheet a b x y
