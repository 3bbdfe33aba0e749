-- The records of a printed peaked sheet, for groups of these names.
use Rattle.std.specs.Prelude.{ℕ, suc, ℤ, List, [], ◌∷◌, ◌++◌, map, Option, Some, None, codes, decimal, unsigned_abs}
use Rattle.std.specs.Fmt.{signed_decimal}
use Rattle.std.specs.List.{enumerate_from, flat_map}
use Rattle.ofit_records.specs.Written.{records_text}
use Rattle.ofit_sheet.specs.declared.peaked.slope.Slope.{Slope}
use Rattle.ofit_sheet.specs.declared.peaked.slope.Slope.TheVariants.{Rise, Fall}
use Rattle.ofit_study.specs.declared.loss.LossKind.TheVariants.{Median}
use Rattle.ofit_study.specs.FieldText.{dash}
use Rattle.ofit_study.specs.Loss.{loss_text}
use Rattle.ofit_sheet.specs.SheetText.{name_at, end_fields}
use Rattle.ofit_sheet.specs.Peaked.{Peaked}

abbrev pub peaked_header_fields : ℕ → List (List ℕ)
peaked_header_fields places = codes "ofit-peaked" ∷ codes "1" ∷ loss_text Median ∷ decimal places ∷ []

-- without groups there is no peak, and nothing costs anything
abbrev pub peak_fields : List (List ℕ) → Option ℕ → ℕ → List (List ℕ)
peak_fields names None cost = codes "peak" ∷ dash ∷ codes "0" ∷ dash ∷ []
peak_fields names (Some place) cost = codes "peak" ∷ name_at names place ∷ decimal cost ∷ dash ∷ []

-- the value of the group at a place
abbrev pub peaked_value_fields : List (List ℕ) → ℕ × ℤ → List (List ℕ)
peaked_value_fields names e = codes "value" ∷ name_at names e.0 ∷ signed_decimal e.1 ∷ dash ∷ []

-- the step of the group at a place
abbrev pub step_fields : List (List ℕ) → ℕ × (ℤ × ℤ) → List (List ℕ)
step_fields names e = codes "step" ∷ name_at names e.0 ∷ signed_decimal e.1.0 ∷ decimal (unsigned_abs e.1.1) ∷ []

abbrev pub slope_name : Slope → List ℕ
slope_name Rise = codes "rise"
slope_name Fall = codes "fall"

-- The sides of a slope in their order, the first of which has the index 0: the number that a side is called by, from 1 for rises and from 0 for falls, and the place of its first group.
abbrev pub side_number : Slope → ℕ → ℕ
side_number Rise k = suc k
side_number Fall k = k

abbrev pub side_start : Slope → ℕ → ℕ
side_start Rise k = 0
side_start Fall k = k

abbrev pub side_fields : Slope → ℕ → List (List ℕ)
side_fields slope k = slope_name slope ∷ decimal (side_number slope k) ∷ dash ∷ dash ∷ []

-- a side with its index
abbrev pub side_records : List (List ℕ) → Slope → ℕ × List (ℤ × ℤ) → List (List (List ℕ))
side_records names slope e = side_fields slope e.0 ∷ map (step_fields names) (enumerate_from (side_start slope e.0) e.1)

abbrev pub sides_records : List (List ℕ) → Slope → List (List (ℤ × ℤ)) → List (List (List ℕ))
sides_records names slope sides = flat_map (side_records names slope) (enumerate_from 0 sides)

abbrev pub value_records : List (List ℕ) → List ℤ → List (List (List ℕ))
value_records names values = map (peaked_value_fields names) (enumerate_from 0 values)

-- the header, the peak, the values, the rises, the falls and the end
abbrev pub peaked_records : List (List ℕ) → Peaked → List (List (List ℕ))
peaked_records names x =
    peaked_header_fields x.places
    ∷ peak_fields names x.peak x.cost
    ∷ (value_records names x.values ++ (sides_records names Rise x.rises ++ (sides_records names Fall x.falls ++ end_fields ∷ [])))

abbrev pub peaked_text : List (List ℕ) → Peaked → List ℕ
peaked_text names x = records_text (peaked_records names x)
