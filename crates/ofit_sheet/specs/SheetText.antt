-- The records of a printed sheet.
use Rattle.std.specs.Prelude.{ℕ, List, [], ◌∷◌, ◌++◌, map, Option, Some, None, codes, decimal, slice_index_or}
use Rattle.std.specs.Fmt.{signed_decimal}
use Rattle.ofit_num.specs.Flow.{Flow}
use Rattle.ofit_num.specs.Sheet as num
use Rattle.ofit_records.specs.Written.{records_text}
use Rattle.ofit_study.specs.declared.settings.Settings.{Settings}
use Rattle.ofit_study.specs.FieldText.{bound_text, dash}
use Rattle.ofit_study.specs.Loss.{loss_text}

-- version 2 for a sheet with a size, version 1 for one without
abbrev pub version_text : Option num.Size → List ℕ
version_text None = codes "1"
version_text (Some z) = codes "2"

abbrev pub header_fields : num.Sheet Settings → List (List ℕ)
header_fields x = codes "ofit-sheet" ∷ version_text x.size ∷ loss_text x.settings.loss ∷ decimal x.settings.places ∷ []

abbrev pub bounds_fields : Settings → List (List ℕ)
bounds_fields settings = codes "bounds" ∷ bound_text settings.lo ∷ bound_text settings.hi ∷ dash ∷ []

abbrev pub size_fields : num.Size → List (List ℕ)
size_fields z = codes "size" ∷ decimal z.rows ∷ decimal z.weight ∷ dash ∷ []

abbrev pub size_records : Option num.Size → List (List (List ℕ))
size_records None = []
size_records (Some z) = size_fields z ∷ []

-- the name of the group at a place
abbrev pub name_at : List (List ℕ) → ℕ → List ℕ
name_at names g = slice_index_or names g []

abbrev pub value_fields : List (List ℕ) → num.Entry → List (List ℕ)
value_fields names e = codes "value" ∷ name_at names e.place ∷ signed_decimal e.value.num ∷ decimal e.value.den ∷ []

abbrev pub flow_fields : List (List ℕ) → Flow → List (List ℕ)
flow_fields names f = codes "flow" ∷ name_at names f.low ∷ name_at names f.high ∷ decimal f.amount ∷ []

abbrev pub end_fields : List (List ℕ)
end_fields = codes "end" ∷ dash ∷ dash ∷ dash ∷ []

-- the header, the bounds, the size where there is one, the values, the flows and the end, for groups of these names
abbrev pub sheet_records : List (List ℕ) → num.Sheet Settings → List (List (List ℕ))
sheet_records names x =
    header_fields x ∷ bounds_fields x.settings ∷ (size_records x.size ++ map (value_fields names) x.values ++ map (flow_fields names) x.flows ++ end_fields ∷ [])

abbrev pub sheet_text : List (List ℕ) → num.Sheet Settings → List ℕ
sheet_text names x = records_text (sheet_records names x)
