-- The header of an order file is read in one way.
use Rattle.std.proofs.Common.{◌≡◌, ℕ, List, [], ◌∷◌, inl, inr, refl}
use Rattle.ofit_table.specs.declared.column.Column.{Column}
use Rattle.ofit_table.specs.declared.column.Column.TheVariants.{Low, High}
use Rattle.ofit_table.specs.declared.fault.OrderFault.{OrderFault}
use Rattle.ofit_table.specs.declared.fault.OrderFault.TheVariants.{NoColumn, ColumnTwice}
use Rattle.ofit_table.specs.declared.header.OrderColumns.{OrderColumns}
use Rattle.ofit_table.specs.Pairs.{AreOrderColumns, OrderHeaderFault}
use Rattle.ofit_table.proofs.HeaderReadings.{FirstWant, none_wants, place_one, want_one}

abbrev both : List Column
both = Low ∷ High ∷ []

module _ (header : List (List ℕ)) where
  pub columns_one : (a b : OrderColumns) → AreOrderColumns header a → AreOrderColumns header b → a ≡ b
  columns_one a b h k =
      let l : a.low ≡ b.low = place_one header Low a.low b.low h.low k.low in
      let u : a.high ≡ b.high = place_one header High a.high b.high h.high k.high in
      λ i. record { low = l i; high = u i }

  want : (fault : OrderFault) → OrderHeaderFault header fault → FirstWant header NoColumn ColumnTwice both fault
  want (NoColumn Low) h = inl (inl (h, refl))
  want (ColumnTwice Low) h = inl (inr (h, refl))
  want (NoColumn High) h = inr (h.0, inl (inl (h.1, refl)))
  want (ColumnTwice High) h = inr (h.0, inl (inr (h.1, refl)))
  want fault h = absurd h

  pub header_fault_one : (f g : OrderFault) → OrderHeaderFault header f → OrderHeaderFault header g → f ≡ g
  header_fault_one f g h k = want_one header NoColumn ColumnTwice both f g (want f h) (want g k)

  pub no_header_fault : (f : OrderFault) (columns : OrderColumns) → OrderHeaderFault header f → AreOrderColumns header columns → ⊥
  no_header_fault f columns h a = none_wants header NoColumn ColumnTwice both f ((columns.low, a.low), ((columns.high, a.high), tt)) (want f h)
