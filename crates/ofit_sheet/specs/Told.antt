-- What the records behind the header have told so far.
use Rattle.std.specs.Prelude.{◌+◌, ◌++◌, ◌∷◌, ℕ, ℤ, List, [], length, Bool, true, Option, Some}
use Rattle.ofit_num.specs.Fraction.{Fraction}
use Rattle.ofit_sheet.specs.declared.size.Size as size
use Rattle.ofit_sheet.specs.declared.item.Item.{Item}
use Rattle.ofit_sheet.specs.declared.item.Item.TheVariants as it
use Rattle.ofit_sheet.specs.declared.draft.Draft.{Draft}
use Rattle.ofit_sheet.specs.Rules.{values_of, flows_of, has_end}
use Rattle.ofit_sheet.specs.SheetRead.{first_bounds, first_size}

pub record Told : Type 0 where
  pub bounds : Option (Option ℤ × Option ℤ)
  pub size : Option size.Size
  pub values : List (ℕ × Fraction)
  pub flows : List (ℕ × ℕ × ℤ)
  pub count : ℕ
  pub least : ℕ
  pub has_ended : Bool

abbrev pub seen : Draft → Told
seen d = record { bounds = d.bounds; size = d.size; values = d.values.items; flows = d.flows.items; count = d.count; least = d.least; has_ended = d.has_ended }

-- the least place behind those of the values
abbrev pub place_after : ℕ → List (ℕ × Fraction) → ℕ
place_after n [] = n
place_after n (e ∷ es) = place_after (e.0 + 1) es

abbrev pub told_of : List Item → Told
told_of items = record {
  bounds = first_bounds items;
  size = first_size items;
  values = values_of items;
  flows = flows_of items;
  count = length items;
  least = place_after 0 (values_of items);
  has_ended = has_end items;
}

-- with what one record more tells
abbrev pub told_with : Told → Item → Told
told_with t (it.Bounds lo hi) = record t { bounds = Some (lo, hi); count = t.count + 1 }
told_with t (it.Size z) = record t { size = Some z; count = t.count + 1 }
told_with t (it.Value place value) = record t { values = t.values ++ (place, value) ∷ []; count = t.count + 1; least = place + 1 }
told_with t (it.Flow low high amount) = record t { flows = t.flows ++ (low, high, amount) ∷ []; count = t.count + 1 }
told_with t it.End = record t { count = t.count + 1; has_ended = true }
