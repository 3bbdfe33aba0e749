-- What the bytes of an order file are read as: the study with the file's pairs in place of its own, or the first fault.
use Rattle.std.specs.Prelude.{ℕ, List, Result}
use Rattle.ofit_records.specs.Records.{records_of}
use Rattle.ofit_study.specs.Study.{HasPairs, Study, names_of}
use Rattle.ofit_table.specs.declared.fault.OrderFault.{OrderFault}
use Rattle.ofit_table.specs.declared.fault.OrderFault.TheVariants.{NoHeader, Memory}
use Rattle.ofit_table.specs.declared.header.OrderColumns.{OrderColumns}
use Rattle.ofit_table.specs.Pairs.{AreOrderColumns, ArePairs, OrderHeaderFault, PairFault}
use Rattle.ofit_table.specs.TableRead.{Table, TableRead}

-- an order file: each record behind the header relates two groups of the study
abbrev pub order_table : Study → Table OrderColumns (ℕ × ℕ) OrderFault
order_table study = record {
  AreColumns = AreOrderColumns;
  HeaderFault = OrderHeaderFault;
  AreParts = λ columns. ArePairs columns (names_of study);
  RecordFault = λ columns. PairFault columns (names_of study);
  IsMade = HasPairs study;
  no_header = NoHeader;
  memory = Memory;
}

-- what the bytes are read as for this study
abbrev pub PairsRead : List ℕ → Study → Result Study OrderFault → Type 0
PairsRead bytes study result = TableRead (order_table study) (records_of bytes) result
