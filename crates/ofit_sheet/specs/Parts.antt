-- A sheet by the parts that it is made of: pairs of a place and a fraction, and flows by low place, high place and amount.
use Rattle.std.specs.Prelude.{ℕ, ℤ, List, map, Option, unsigned_abs, option_map}
use Rattle.ofit_num.specs.Fraction.{Fraction}
use Rattle.ofit_num.specs.Flow.{Flow}
use Rattle.ofit_num.specs.Sheet as num
use Rattle.ofit_study.specs.declared.settings.Settings.{Settings}
use Rattle.ofit_sheet.specs.declared.size.Size.{Size}

abbrev pub size_of : Size → num.Size
size_of z = record { rows = z.rows; weight = z.weight }

abbrev pub entry_of : ℕ × Fraction → num.Entry
entry_of e = record { place = e.0; value = e.1 }

abbrev pub flow_of : ℕ × ℕ × ℤ → Flow
flow_of f = record { low = f.0; high = f.1; amount = unsigned_abs f.2 }

abbrev pub sheet_of : Settings → Option Size → List (ℕ × Fraction) → List (ℕ × ℕ × ℤ) → num.Sheet Settings
sheet_of settings size values flows = record {
  settings = settings;
  size = option_map size_of size;
  values = map entry_of values;
  flows = map flow_of flows;
}
