-- The text of a report: header, size, a record for each group, a record for each block, and the end, of eight fields each.
use Rattle.std.specs.Prelude.{◌≡◌, ◌+◌, ◌<◌, ◌^◌, ℕ, ℤ, List, [], ◌∷◌, ◌++◌, length, slice_index_or, codes, decimal, pos, ◌+ℤ◌, ◌*ℤ◌, ◌≤ℤ◌, ◌<ℤ◌}
use Rattle.std.specs.Fmt.{signed_decimal}
use Rattle.ofit_num.specs.declared.row.Row.{Row}
use Rattle.ofit_num.specs.DecimalText.{IsFixed}
use Rattle.ofit_num.specs.Fraction.{Fraction}
use Rattle.ofit_num.specs.RowTotals.{total_weight}
use Rattle.ofit_order.specs.Component.{IsComponentCount, AreMembers}
use Rattle.ofit_records.specs.Written.{records_text}
use Rattle.ofit_study.specs.declared.settings.Settings.{Settings}
use Rattle.ofit_study.specs.FieldText.{bound_text, dash}
use Rattle.ofit_study.specs.Loss.{loss_text, meaning_of}
use Rattle.ofit_study.specs.Study.{Study, names_of, problem_stated}
use Rattle.ofit_report.specs.Tight.{value_at}
use Rattle.ofit_report.specs.Blocks.{order_of, block_order, IsBlockOf}
use Rattle.ofit_report.specs.Cost.{rows_among, block_value, IsCost}

abbrev pub header_fields : Settings → List (List ℕ)
header_fields x = codes "ofit-report" ∷ codes "1" ∷ loss_text x.loss ∷ decimal x.places ∷ bound_text x.lo ∷ bound_text x.hi ∷ dash ∷ dash ∷ []

-- groups, rows, pairs, components and blocks
abbrev pub size_fields : Study → ℕ → ℕ → List (List ℕ)
size_fields s components blocks = codes "size" ∷ decimal (length (names_of s)) ∷ decimal (length s.rows) ∷ decimal (length s.pairs) ∷ decimal components ∷ decimal blocks ∷ dash ∷ dash ∷ []

-- the name, its rows, their total weight, the block, the value and the value as a decimal
abbrev pub group_fields : List ℕ → List Row → ℕ → Fraction → List ℕ → List (List ℕ)
group_fields name rows block value rounded = codes "group" ∷ name ∷ decimal (length rows) ∷ decimal (total_weight rows) ∷ decimal block ∷ signed_decimal value.num ∷ decimal value.den ∷ rounded ∷ []

-- the number, how many groups, the total weight of their rows, the value and the cost
abbrev pub block_fields : ℕ → ℕ → List Row → Fraction → Fraction → List (List ℕ)
block_fields block groups rows value cost = codes "block" ∷ decimal block ∷ decimal groups ∷ decimal (total_weight rows) ∷ signed_decimal value.num ∷ decimal value.den ∷ signed_decimal cost.num ∷ decimal cost.den ∷ []

abbrev pub end_fields : List (List ℕ)
end_fields = codes "end" ∷ dash ∷ dash ∷ dash ∷ dash ∷ dash ∷ dash ∷ dash ∷ []

-- the name of the group at a place
abbrev pub name_at : Study → ℕ → List ℕ
name_at s g = slice_index_or (names_of s) g []

-- the value, rounded down to three decimals more than the places
pub record IsRoundedDown (value : Fraction) (places : ℕ) (text : List ℕ) : Type 0 where
  pub units : ℤ
  pub at_most : (units *ℤ pos value.den) ≤ℤ (value.num *ℤ pos (10 ^ 3))
  pub greatest : (value.num *ℤ pos (10 ^ 3)) <ℤ ((units +ℤ pos 1) *ℤ pos value.den)
  pub spells : IsFixed text units (places + 3)

-- the record of the group at a place
pub record IsGroupRecord (s : Study) (values : List Fraction) (g : ℕ) (fields : List (List ℕ)) : Type 0 where
  pub block : ℕ
  pub is_block : IsBlockOf s values block g
  pub rounded : List ℕ
  pub is_rounded : IsRoundedDown (value_at values g) s.settings.places rounded
  pub spells : fields ≡ group_fields (name_at s g) ((problem_stated s).rows g) block (value_at values g) rounded

-- the record of a block, where k counts the blocks from 0
pub record IsBlockRecord (s : Study) (values : List Fraction) (k : ℕ) (fields : List (List ℕ)) : Type 0 where
  pub members : List ℕ
  pub are_members : AreMembers (block_order s values) k members
  pub cost : Fraction
  pub is_cost : IsCost (meaning_of s.settings.loss) (rows_among s members) (block_value values members) cost
  pub spells : fields ≡ block_fields (k + 1) (length members) (rows_among s members) (block_value values members) cost

-- a record for each number below the count
pub record AreRecords (IsRecord : ℕ → List (List ℕ) → Type 0) (count : ℕ) (records : List (List (List ℕ))) : Type 0 where
  pub counted : length records ≡ count
  pub each : (k : ℕ) → k < count → IsRecord k (slice_index_or records k [])

-- the report of a study with these values
pub record ReportText (s : Study) (values : List Fraction) (text : List ℕ) : Type 0 where
  pub components : ℕ
  pub is_count : IsComponentCount (order_of s) components
  pub blocks : ℕ
  pub is_block_count : IsComponentCount (block_order s values) blocks
  pub group_records : List (List (List ℕ))
  pub are_groups : AreRecords (IsGroupRecord s values) (length (names_of s)) group_records
  pub block_records : List (List (List ℕ))
  pub are_blocks : AreRecords (IsBlockRecord s values) blocks block_records
  pub spells : text ≡ records_text (header_fields s.settings ∷ size_fields s components blocks ∷ (group_records ++ block_records ++ end_fields ∷ []))
