-- What the bytes of a data table are read as: a study without pairs, or the first fault.
use Rattle.std.specs.Prelude.{◌≡◌, [], ℕ, List, Result}
use Rattle.ofit_records.specs.Records.{records_of}
use Rattle.ofit_study.specs.Study.{Observation, Study}
use Rattle.ofit_study.specs.declared.settings.Settings.{Settings}
use Rattle.ofit_table.specs.declared.fault.DataFault.{DataFault}
use Rattle.ofit_table.specs.declared.fault.DataFault.TheVariants.{NoHeader, Memory}
use Rattle.ofit_table.specs.declared.header.DataColumns.{DataColumns}
use Rattle.ofit_table.specs.Columns.{AreColumns, HeaderFault}
use Rattle.ofit_table.specs.Rows.{AreRows, RowFault}
use Rattle.ofit_table.specs.TableRead.{Table, TableRead}

-- a data table: each record behind the header is a row of the study
abbrev pub data_table : Settings → Table DataColumns Observation DataFault
data_table settings = record {
  AreColumns = AreColumns;
  HeaderFault = HeaderFault;
  AreParts = AreRows settings.places;
  RecordFault = RowFault settings.places;
  IsMade = λ rows study. study ≡ record { settings = settings; rows = rows; pairs = [] };
  no_header = NoHeader;
  memory = Memory;
}

-- what the bytes are read as with these settings
abbrev pub DataRead : List ℕ → Settings → Result Study DataFault → Type 0
DataRead bytes settings result = TableRead (data_table settings) (records_of bytes) result
