-- The sheet that a study's best values and their flows make.
use Rattle.std.proofs.Common.{◌≡◌, ℕ, ◌≤◌, List, length, sym, ap, ap₂, subst, ◌∙◌, arith}
use Rattle.std.proofs.lemmas.List.Elements.{All-weaker}
use Rattle.std.proofs.lemmas.List.FromFn.{length-enumerate_from}
use Rattle.std.specs.List.{enumerate_from}
use Rattle.std.specs.Prelude.{ℤ, All, Option, Some, None}
use Rattle.ofit_num.specs.Fraction.{Fraction, IsLowest}
use Rattle.ofit_num.specs.Fit.{BestValues}
use Rattle.ofit_num.specs.Sheet as num
use Rattle.ofit_num.specs.Sheet.{FitsCount, sheet_values}
use Rattle.ofit_num.specs.Verdict.{Passes}
use Rattle.ofit_sheet.specs.Kept.{IsFractionInLimits}
use Rattle.ofit_sheet.specs.Made.{ArePartsOfSheet}
use Rattle.ofit_sheet.specs.Parts.{sheet_of}
use Rattle.ofit_study.specs.declared.settings.Settings.{Settings}
use Rattle.ofit_study.specs.Study.{Study, IsValid, names_of, places_of, problem_stated, meaning_of, total_weight}
use Rattle.ofit_study.proofs.Stating.{rows_counted, rows_weighed, pairs_have_places}
use Rattle.ofit_cert.specs.Tight.{tight_among}
use Rattle.ofit_cert.specs.TightFlows.{Certify, flows_along}
use Rattle.ofit_cert.proofs.Entering.{entries-values, pairs_rise}
use Rattle.ofit_cert.proofs.Flowing.{flows_limited, flows_few}
use Rattle.ofit_cert.proofs.Passing.{sheet_fits, sheet_passes}
use Rattle.ofit_study.proofs.Places.{group_count}
use Rattle.ofit_cert.proofs.Places.{tight_few}

module _ (s : Study) (v : IsValid s) (fs : List Fraction) (fractions : All IsFractionInLimits fs) (best : BestValues (meaning_of s.settings.loss) (problem_stated s) fs) (amounts : List ℤ) (certify : Certify (meaning_of s.settings.loss) (problem_stated s) fs (tight_among fs (places_of s)) amounts) where
  abbrev size : Option num.Size
  size = Some (record { rows = length s.rows; weight = total_weight s.rows })

  abbrev made : num.Sheet Settings
  made = sheet_of s.settings (Some (record { rows = length s.rows; weight = total_weight s.rows })) (enumerate_from 0 fs) (flows_along (tight_among fs (places_of s)) amounts)

  lowest : All IsLowest fs
  lowest = All-weaker IsFractionInLimits IsLowest (λ c h. h.lowest) fs fractions

  made_fits : FitsCount (length (names_of s)) made
  made_fits = subst (λ (n : ℕ). FitsCount n made) (group_count s) (sheet_fits (meaning_of s.settings.loss) (problem_stated s) s.settings size fs amounts (pairs_have_places s v) lowest best certify (rows_counted s, rows_weighed s))

  made_passes : Passes (meaning_of s.settings.loss) (problem_stated s) s.settings made
  made_passes = sheet_passes (meaning_of s.settings.loss) (problem_stated s) s.settings size fs amounts (pairs_have_places s v) lowest best certify (rows_counted s, rows_weighed s)

  made_values : sheet_values made ≡ fs
  made_values = entries-values fs

  made_parts : ArePartsOfSheet None (enumerate_from 0 fs) (flows_along (tight_among fs (places_of s)) amounts)
  made_parts = record { sized = tt; rising = pairs_rise fs; amounts = flows_limited (tight_among fs (places_of s)) amounts certify.flows.high }

  few_values : length (enumerate_from 0 fs) ≤ 2000
  few_values = omega (arith, length-enumerate_from 0 fs, best.count, group_count s, v.groups)

  few_flows : length (flows_along (tight_among fs (places_of s)) amounts) ≤ 20000
  few_flows = omega (arith, flows_few (tight_among fs (places_of s)) amounts, tight_few s v fs)

-- The same of the parts that the code has: of pairs that are the tight ones, of flows along them, of entries and of a sheet.
module _ (s : Study) (v : IsValid s) (fs : List Fraction) (fractions : All IsFractionInLimits fs) (best : BestValues (meaning_of s.settings.loss) (problem_stated s) fs) (pairs : List (ℕ × ℕ)) (tight : pairs ≡ tight_among fs (places_of s))
    (amounts : List ℤ) (certify : Certify (meaning_of s.settings.loss) (problem_stated s) fs pairs amounts) (entries : List (ℕ × Fraction)) (entries_are : entries ≡ enumerate_from 0 fs) (flows : List (ℕ × ℕ × ℤ)) (flows_are : flows ≡ flows_along pairs amounts) where
  tight_certify : Certify (meaning_of s.settings.loss) (problem_stated s) fs (tight_among fs (places_of s)) amounts
  tight_certify = subst (λ (es : List (ℕ × ℕ)). Certify (meaning_of s.settings.loss) (problem_stated s) fs es amounts) tight certify

  along_tight : flows ≡ flows_along (tight_among fs (places_of s)) amounts
  along_tight = flows_are ∙ ap (λ (es : List (ℕ × ℕ)). flows_along es amounts) tight

  pub told_parts : ArePartsOfSheet None entries flows
  told_parts =
      subst (λ (es : List (ℕ × Fraction)). ArePartsOfSheet None es flows) (sym entries_are)
      (subst (ArePartsOfSheet None (enumerate_from 0 fs)) (sym along_tight) (made_parts s v fs fractions best amounts tight_certify))

  pub told_values_few : length entries ≤ 2000
  told_values_few = omega (arith, ap length entries_are, few_values s v fs fractions best amounts tight_certify)

  pub told_flows_few : length flows ≤ 20000
  told_flows_few = omega (arith, ap length along_tight, few_flows s v fs fractions best amounts tight_certify)

  module _ (x : num.Sheet Settings) (is : x ≡ sheet_of s.settings (Some (record { rows = length s.rows; weight = total_weight s.rows })) entries flows) where
    is_made : x ≡ made s v fs fractions best amounts tight_certify
    is_made = is ∙ ap₂ (λ (es : List (ℕ × Fraction)) (hs : List (ℕ × ℕ × ℤ)). sheet_of s.settings (Some (record { rows = length s.rows; weight = total_weight s.rows })) es hs) entries_are along_tight

    pub told_fits : FitsCount (length (names_of s)) x
    told_fits = subst (FitsCount (length (names_of s))) (sym is_made) (made_fits s v fs fractions best amounts tight_certify)

    pub told_passes : Passes (meaning_of s.settings.loss) (problem_stated s) s.settings x
    told_passes = subst (Passes (meaning_of s.settings.loss) (problem_stated s) s.settings) (sym is_made) (made_passes s v fs fractions best amounts tight_certify)

    pub told_values : sheet_values x ≡ fs
    told_values = ap sheet_values is_made ∙ made_values s v fs fractions best amounts tight_certify
