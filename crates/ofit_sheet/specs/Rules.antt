-- Where a record may stand in a sheet, and the limits on its numbers.
use Rattle.std.specs.Prelude.{◌≡◌, ◌<◌, ◌≤◌, ℕ, ℤ, List, [], length, All, Bool, true, false, Option, Some, None, ⊤, unsigned_abs}
use Rattle.std.specs.List.{filter_map, list_any}
use Rattle.ofit_num.specs.Fraction.{Fraction, IsLowest}
use Rattle.ofit_num.specs.Reduced as frac
use Rattle.ofit_study.specs.Settings.{IsBoundInLimits, InOrder}
use Rattle.ofit_sheet.specs.declared.item.Item.{Item}
use Rattle.ofit_sheet.specs.declared.item.Item.TheVariants as it
use Rattle.ofit_sheet.specs.Frame.{Rules}
use Rattle.ofit_sheet.specs.Kept.{IsSizeInLimits, most_amount}
use Rattle.ofit_sheet.specs.Spelling.{Spells}

abbrev pub value_in : Item → Option (ℕ × Fraction)
value_in (it.Bounds lo hi) = None
value_in (it.Size z) = None
value_in (it.Value place value) = Some (place, value)
value_in (it.Flow low high amount) = None
value_in it.End = None

abbrev pub flow_in : Item → Option (ℕ × ℕ × ℤ)
flow_in (it.Bounds lo hi) = None
flow_in (it.Size z) = None
flow_in (it.Value place value) = None
flow_in (it.Flow low high amount) = Some (low, high, amount)
flow_in it.End = None

abbrev pub is_end : Item → Bool
is_end (it.Bounds lo hi) = false
is_end (it.Size z) = false
is_end (it.Value place value) = false
is_end (it.Flow low high amount) = false
is_end it.End = true

abbrev pub values_of : List Item → List (ℕ × Fraction)
values_of items = filter_map value_in items

abbrev pub flows_of : List Item → List (ℕ × ℕ × ℤ)
flows_of items = filter_map flow_in items

abbrev pub has_end : List Item → Bool
has_end items = list_any is_end items

-- how many records stand between the header and the values: the bounds, and in version 2 the size
abbrev pub leading : Bool → ℕ
leading true = 2
leading false = 1

-- no value stands after a flow, places rise, and a fraction whose numbers are within their limits is in lowest terms
pub record MayStand (before : List Item) (place : ℕ) (value : Fraction) : Type 0 where
  pub no_flow : flows_of before ≡ []
  pub rises : All (λ e. e.0 < place) (values_of before)
  pub lowest : frac.InLimits value → IsLowest value

-- the record may stand behind those before it
abbrev pub IsAllowed : Bool → List Item → Item → Type 0
IsAllowed sized before (it.Bounds lo hi) = (before ≡ []) × InOrder lo hi
IsAllowed sized before (it.Size z) = (sized ≡ true) × (length before ≡ 1)
IsAllowed sized before (it.Value place value) = (leading sized ≤ length before) × MayStand before place value
IsAllowed sized before (it.Flow low high amount) = leading sized ≤ length before
IsAllowed sized before it.End = leading sized ≤ length before

abbrev pub IsWithinLimits : Item → Type 0
IsWithinLimits (it.Bounds lo hi) = IsBoundInLimits lo × IsBoundInLimits hi
IsWithinLimits (it.Size z) = IsSizeInLimits z.rows z.weight
IsWithinLimits (it.Value place value) = frac.InLimits value
IsWithinLimits (it.Flow low high amount) = unsigned_abs amount ≤ most_amount
IsWithinLimits it.End = ⊤

-- a record spells an item that may stand behind those before it
abbrev pub sheet_rules : List (List ℕ) → Bool → Rules Item
sheet_rules names sized = record {
  Spells = λ before fields item. Spells names fields item × IsAllowed sized before item;
  IsWithin = IsWithinLimits;
  has_end = has_end;
}
