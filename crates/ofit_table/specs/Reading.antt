-- What the parts of a reading of a data table or an order file say.
use Rattle.std.specs.Prelude.{◌≡◌, ◌≢◌, ◌≤◌, ◌+◌, ◌⊎◌, ◌++◌, ◌∷◌, [], ℕ, ℤ, List, Result, Ok, Err, All, Contains, length}
use Rattle.std.specs.List.{AllZip}
use Rattle.ofit_num.specs.declared.decimal.NumFault.{NumFault}
use Rattle.ofit_num.specs.declared.decimal.NumFault.TheVariants as num
use Rattle.ofit_study.specs.declared.fault.AddFault.{AddFault}
use Rattle.ofit_study.specs.declared.fault.AddFault.TheVariants as add
use Rattle.ofit_study.specs.declared.settings.Settings.{Settings}
use Rattle.ofit_table.specs.Numbered.{AreNumbered}
use Rattle.ofit_study.specs.Study.{GainsRow, Study, most_pairs, names_of}
use Rattle.ofit_table.specs.declared.fault.DataFault.{DataFault}
use Rattle.ofit_table.specs.declared.fault.DataFault.TheVariants.{NotNumber, TooFine, TooLarge, TooManyRows, TooHeavy, TooManyGroups, Memory}
use Rattle.ofit_table.specs.declared.fault.OrderFault.{OrderFault}
use Rattle.ofit_table.specs.declared.fault.OrderFault.TheVariants as order
use Rattle.ofit_table.specs.declared.header.DataColumns.{DataColumns}
use Rattle.ofit_table.specs.declared.header.OrderColumns.{OrderColumns}
use Rattle.ofit_table.specs.Columns.{AreColumns, HeaderFault}
use Rattle.ofit_table.specs.DataRead.{data_table}
use Rattle.ofit_table.specs.Pairs.{AreDistinct, AreOrderColumns, IsPair, OrderHeaderFault}
use Rattle.ofit_table.specs.PairsRead.{order_table}
use Rattle.ofit_table.specs.Rows.{AreRows, IsGood, IsRow}
use Rattle.ofit_table.specs.TableRead.{HasFault}

-- what a data table's header is read as
abbrev pub HeaderRead : List (List ℕ) → Result DataColumns DataFault → Type 0
HeaderRead header (Ok columns) = AreColumns header columns
HeaderRead header (Err fault) = HeaderFault header fault

-- what an order file's header is read as
abbrev pub OrderHeaderRead : List (List ℕ) → Result OrderColumns OrderFault → Type 0
OrderHeaderRead header (Ok columns) = AreOrderColumns header columns
OrderHeaderRead header (Err fault) = OrderHeaderFault header fault

-- the fault of a record with this number whose value isn't read
abbrev pub value_fault : NumFault → ℕ → DataFault
value_fault num.NotNumber number = NotNumber number
value_fault num.TooFine number = TooFine number
value_fault num.TooLarge number = TooLarge number

-- the fault of a record with this number that a study doesn't take
abbrev pub limit_fault : AddFault → ℕ → DataFault
limit_fault add.TooManyRows number = TooManyRows number
limit_fault add.TooHeavy number = TooHeavy number
limit_fault add.TooManyGroups number = TooManyGroups number
limit_fault add.Memory number = Memory

-- the study has the record's row besides
pub record GainsRecord (places : ℕ) (columns : DataColumns) (fields : List (List ℕ)) (before after : Study) : Type 0 where
  pub group : List ℕ
  pub value : ℤ
  pub weight : ℕ
  pub good : IsGood places columns fields group value weight
  pub gains : GainsRow before group value weight after

-- so far the study has the rows of the records before those that are left
pub record IsSoFar (columns : DataColumns) (records left : List (List (List ℕ))) (settings : Settings) (study : Study) : Type 0 where
  pub done : List (List (List ℕ))
  pub parted : records ≡ done ++ left
  pub each : AllZip (IsRow settings.places columns) done study.rows
  pub numbered : AreNumbered study.rows
  pub same : study.settings ≡ settings
  pub without : study.pairs ≡ []

-- what the records behind the header are read as
abbrev pub RowsRead : DataColumns → List (List (List ℕ)) → Settings → Result Study DataFault → Type 0
RowsRead columns records settings (Ok study) = AreRows settings.places columns records study.rows × (study.settings ≡ settings) × (study.pairs ≡ [])
RowsRead columns records settings (Err fault) = (fault ≡ Memory) ⊎ HasFault (data_table settings) columns records fault

-- so far these pairs were read, which are known each once
pub record IsReadSoFar (columns : OrderColumns) (names : List (List ℕ)) (records left : List (List (List ℕ))) (number : ℕ) (known : List (ℕ × ℕ)) : Type 0 where
  pub done : List (List (List ℕ))
  pub pairs : List (ℕ × ℕ)
  pub parted : records ≡ done ++ left
  pub each : AllZip (IsPair columns names) done pairs
  pub distinct : AreDistinct pairs known
  pub few : length known ≤ most_pairs
  pub next : number ≡ length done + 2

-- what the records behind the header of an order file are read as: their pairs, each once
abbrev pub KnownRead : OrderColumns → Study → List (List (List ℕ)) → Result (List (ℕ × ℕ)) OrderFault → Type 0
KnownRead columns study records (Ok known) =
    (pairs : List (ℕ × ℕ)) × AllZip (IsPair columns (names_of study)) records pairs × AreDistinct pairs known × (length known ≤ most_pairs)
KnownRead columns study records (Err fault) = (fault ≡ order.Memory) ⊎ HasFault (order_table study) columns records fault

-- the pairs with a further one, if it is new
abbrev pub KnowsPair : List (ℕ × ℕ) → ℕ × ℕ → List (ℕ × ℕ) → Type 0
KnowsPair before pair after = (Contains before pair × (after ≡ before)) ⊎ (All (λ known. known ≢ pair) before × (after ≡ before ++ pair ∷ []))

-- the pair is new behind as many as there may be
pub record IsNotTaken (before : List (ℕ × ℕ)) (pair : ℕ × ℕ) (number : ℕ) (fault : OrderFault) : Type 0 where
  pub is : fault ≡ order.TooManyPairs number
  pub new : All (λ known. known ≢ pair) before
  pub full : most_pairs ≤ length before
