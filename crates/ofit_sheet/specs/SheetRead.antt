-- How a sheet's records are read, for a study with these group names: the sheet, or the first fault.
use Rattle.std.specs.Prelude.{◌≡◌, ℕ, ℤ, List, Option, Some, None, Result, slice_get}
use Rattle.std.specs.List.{filter_map}
use Rattle.ofit_num.specs.Sheet as num
use Rattle.ofit_study.specs.declared.settings.Settings.{Settings}
use Rattle.ofit_sheet.specs.declared.size.Size as size
use Rattle.ofit_sheet.specs.declared.item.Item.{Item}
use Rattle.ofit_sheet.specs.declared.item.Item.TheVariants as it
use Rattle.ofit_sheet.specs.declared.header.Header.{Header}
use Rattle.ofit_sheet.specs.declared.fault.SheetFault.{SheetFault}
use Rattle.ofit_sheet.specs.Frame.{Grammar, FrameRead}
use Rattle.ofit_sheet.specs.Parts.{sheet_of}
use Rattle.ofit_sheet.specs.Spelling.{IsHeader}
use Rattle.ofit_sheet.specs.Rules.{values_of, flows_of, sheet_rules}

abbrev pub bounds_in : Item → Option (Option ℤ × Option ℤ)
bounds_in (it.Bounds lo hi) = Some (lo, hi)
bounds_in (it.Size z) = None
bounds_in (it.Value place value) = None
bounds_in (it.Flow low high amount) = None
bounds_in it.End = None

abbrev pub size_in : Item → Option size.Size
size_in (it.Bounds lo hi) = None
size_in (it.Size z) = Some z
size_in (it.Value place value) = None
size_in (it.Flow low high amount) = None
size_in it.End = None

-- the first bounds and the first size that stand
abbrev pub first_bounds : List Item → Option (Option ℤ × Option ℤ)
first_bounds items = slice_get (filter_map bounds_in items) 0

abbrev pub first_size : List Item → Option size.Size
first_size items = slice_get (filter_map size_in items) 0

abbrev pub settings_of : Header → Option (Option ℤ × Option ℤ) → Settings
settings_of head None = record { loss = head.loss; places = head.places; lo = None; hi = None }
settings_of head (Some b) = record { loss = head.loss; places = head.places; lo = b.0; hi = b.1 }

-- the sheet that a header and the records behind it spell
abbrev pub sheet_spelled : Header → List Item → num.Sheet Settings
sheet_spelled head items = sheet_of (settings_of head (first_bounds items)) (first_size items) (values_of items) (flows_of items)

-- headers of both versions, and what the records behind each may be
abbrev pub sheet_grammar : List (List ℕ) → Grammar Header Item
sheet_grammar names = record {
  IsHeader = IsHeader;
  rules = λ head. sheet_rules names head.sized;
}

-- what a reading answers; want of memory tells nothing
abbrev pub SheetRead : List (List ℕ) → List (List (List ℕ)) → Result (num.Sheet Settings) SheetFault → Type 0
SheetRead names rows result = FrameRead (sheet_grammar names) (λ head items x. x ≡ sheet_spelled head items) rows result
