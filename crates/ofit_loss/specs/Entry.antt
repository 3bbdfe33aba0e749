-- A row as a pool keeps it.
use Rattle.std.specs.Ordering.{int_cmp, on}
use Rattle.std.specs.declared.cmp.Ordering.{Ordering}
use Rattle.ofit_num.specs.declared.row.Row.{Row}
use Rattle.ofit_loss.specs.declared.entry.Entry.{Entry}

-- entries go by their values
abbrev pub entry_cmp : Entry → Entry → Ordering
entry_cmp x y = on (λ e. e.value) int_cmp x y

abbrev pub entry_of : Row → Entry
entry_of r = record { value = r.value; weight = r.weight }
