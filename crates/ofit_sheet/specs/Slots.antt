-- What each record behind the header of a peaked sheet has to be, in their order.
use Rattle.std.specs.Prelude.{◌+◌, ◌-◌, ℕ, suc, List, [], ◌∷◌, ◌++◌, map}
use Rattle.std.specs.List.{range_with_len, flat_map}
use Rattle.ofit_sheet.specs.declared.peaked.slope.Slope.{Slope}
use Rattle.ofit_sheet.specs.declared.peaked.slope.Slope.TheVariants.{Rise, Fall}
use Rattle.ofit_sheet.specs.PeakedText.{side_start}

-- the peak; the value of the group at a place; the record before the steps of a side, by its slope and its index; a step of the group at a place that isn't the last one of its side, and one that is; the end
pub data Slot : Type 0 where
  peak_slot : Slot
  value_slot : ℕ → Slot
  side_slot : Slope → ℕ → Slot
  step_slot : ℕ → Slot
  last_slot : ℕ → Slot
  end_slot : Slot

-- how many steps the side of this index, of n groups, has before its last one
abbrev pub steps_before_last : Slope → ℕ → ℕ → ℕ
steps_before_last Rise n k = k
steps_before_last Fall n k = n - suc k

abbrev pub step_slots : ℕ → ℕ → List Slot
step_slots start more = map step_slot (range_with_len start more) ++ last_slot (start + more) ∷ []

abbrev pub side_slots : Slope → ℕ → ℕ → List Slot
side_slots slope n k = side_slot slope k ∷ step_slots (side_start slope k) (steps_before_last slope n k)

abbrev pub sides_slots : Slope → ℕ → List Slot
sides_slots slope n = flat_map (side_slots slope n) (range_with_len 0 n)

abbrev pub value_slots : ℕ → List Slot
value_slots n = map value_slot (range_with_len 0 n)

-- the peak, the values, the rises, the falls and the end
abbrev pub slots : ℕ → List Slot
slots n = peak_slot ∷ (value_slots n ++ (sides_slots Rise n ++ (sides_slots Fall n ++ end_slot ∷ [])))
