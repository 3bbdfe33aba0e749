-- A header is read in one way.
use Rattle.std.proofs.Common.{◌≡◌, ◌⊎◌, ◌∙◌, ℕ, List, [], ◌∷◌, Option, Some, None, inl, inr, refl, sym, ap, arith}
use Rattle.ofit_table.specs.declared.column.Column.{Column}
use Rattle.ofit_table.specs.declared.column.Column.TheVariants.{Group, Value, Weight}
use Rattle.ofit_table.specs.declared.fault.DataFault.{DataFault}
use Rattle.ofit_table.specs.declared.fault.DataFault.TheVariants.{NoColumn, ColumnTwice}
use Rattle.ofit_table.specs.declared.header.DataColumns.{DataColumns}
use Rattle.ofit_table.specs.Columns.{AreColumns, HeaderFault, Lacks, MayStandAt, StandsAt, StandsOnce, StandsTwice}

pub place_one : (header : List (List ℕ)) (column : Column) (a b : ℕ) → StandsAt header column a → StandsAt header column b → a ≡ b
place_one header column a b h k = k.only a h.there

not_lacked : (header : List (List ℕ)) (column : Column) (place : ℕ) → Lacks header column → StandsAt header column place → ⊥
not_lacked header column place h k = h place k.there

not_twice : (header : List (List ℕ)) (column : Column) (place : ℕ) → StandsTwice header column → StandsAt header column place → ⊥
not_twice header column place h k = absurd (omega (arith, k.only h.first h.at_first, k.only h.second h.at_second, h.apart))

lacks_twice : (header : List (List ℕ)) (column : Column) → Lacks header column → StandsTwice header column → ⊥
lacks_twice header column h k = h k.first k.at_first

-- each of the columns stands once
abbrev pub AllStand : List (List ℕ) → List Column → Type 0
AllStand header [] = Unit {0}
AllStand header (column ∷ columns) = StandsOnce header column × AllStand header columns

-- the first of the columns that a header lacks or has twice
module _ {F : Type 0} (header : List (List ℕ)) (lacks twice : Column → F) where
  abbrev IsWanting : Column → F → Type 0
  IsWanting column fault = (Lacks header column × (fault ≡ lacks column)) ⊎ (StandsTwice header column × (fault ≡ twice column))

  abbrev pub FirstWant : List Column → F → Type 0
  FirstWant [] fault = ⊥
  FirstWant (column ∷ columns) fault = IsWanting column fault ⊎ (StandsOnce header column × FirstWant columns fault)

  wanting_one : (column : Column) (f g : F) → IsWanting column f → IsWanting column g → f ≡ g
  wanting_one column f g (inl h) (inl k) = h.1 ∙ sym k.1
  wanting_one column f g (inl h) (inr k) = absurd (lacks_twice header column h.0 k.0)
  wanting_one column f g (inr h) (inl k) = absurd (lacks_twice header column k.0 h.0)
  wanting_one column f g (inr h) (inr k) = h.1 ∙ sym k.1

  not_wanting : (column : Column) (f : F) → IsWanting column f → StandsOnce header column → ⊥
  not_wanting column f (inl h) s = not_lacked header column s.0 h.0 s.1
  not_wanting column f (inr h) s = not_twice header column s.0 h.0 s.1

  pub want_one : (columns : List Column) (f g : F) → FirstWant columns f → FirstWant columns g → f ≡ g
  want_one [] f g h k = absurd h
  want_one (c ∷ cs) f g (inl h) (inl k) = wanting_one c f g h k
  want_one (c ∷ cs) f g (inl h) (inr (s, k)) = absurd (not_wanting c f h s)
  want_one (c ∷ cs) f g (inr (s, h)) (inl k) = absurd (not_wanting c g k s)
  want_one (c ∷ cs) f g (inr (s, h)) (inr (r, k)) = want_one cs f g h k

  pub none_wants : (columns : List Column) (f : F) → AllStand header columns → FirstWant columns f → ⊥
  none_wants [] f all h = h
  none_wants (c ∷ cs) f (s, all) (inl h) = not_wanting c f h s
  none_wants (c ∷ cs) f (s, all) (inr (r, h)) = none_wants cs f all h

weight_one : (header : List (List ℕ)) (a b : Option ℕ) → MayStandAt header Weight a → MayStandAt header Weight b → a ≡ b
weight_one header None None h k = refl
weight_one header None (Some b) h k = absurd (not_lacked header Weight b h k)
weight_one header (Some a) None h k = absurd (not_lacked header Weight a k h)
weight_one header (Some a) (Some b) h k = ap Some (place_one header Weight a b h k)

weight_twice : (header : List (List ℕ)) (a : Option ℕ) → StandsTwice header Weight → MayStandAt header Weight a → ⊥
weight_twice header None h k = lacks_twice header Weight k h
weight_twice header (Some a) h k = not_twice header Weight a h k

pub columns_one : (header : List (List ℕ)) (a b : DataColumns) → AreColumns header a → AreColumns header b → a ≡ b
columns_one header a b h k =
    let g : a.group ≡ b.group = place_one header Group a.group b.group h.group k.group in
    let v : a.value ≡ b.value = place_one header Value a.value b.value h.value k.value in
    let w : a.weight ≡ b.weight = weight_one header a.weight b.weight h.weight k.weight in
    λ i. record { group = g i; value = v i; weight = w i }

-- the columns that a data table has to have
abbrev needed : List Column
needed = Group ∷ Value ∷ []

-- a column that has to stand is wanting, or all stand and there are two weights
abbrev DataWant : List (List ℕ) → DataFault → Type 0
DataWant header fault = FirstWant header NoColumn ColumnTwice needed fault ⊎ (AllStand header needed × StandsTwice header Weight × (fault ≡ ColumnTwice Weight))

module _ (header : List (List ℕ)) where
  want : (fault : DataFault) → HeaderFault header fault → DataWant header fault
  want (NoColumn Group) h = inl (inl (inl (h, refl)))
  want (ColumnTwice Group) h = inl (inl (inr (h, refl)))
  want (NoColumn Value) h = inl (inr (h.0, inl (inl (h.1, refl))))
  want (ColumnTwice Value) h = inl (inr (h.0, inl (inr (h.1, refl))))
  want (ColumnTwice Weight) h = inr ((h.0, (h.1, tt)), h.2, refl)
  want fault h = absurd h

  by_case : (f g : DataFault) → DataWant header f → DataWant header g → f ≡ g
  by_case f g (inl h) (inl k) = want_one header NoColumn ColumnTwice needed f g h k
  by_case f g (inl h) (inr (all, k, q)) = absurd (none_wants header NoColumn ColumnTwice needed f all h)
  by_case f g (inr (all, h, e)) (inl k) = absurd (none_wants header NoColumn ColumnTwice needed g all k)
  by_case f g (inr (all, h, e)) (inr (others, k, q)) = e ∙ sym q

  pub header_fault_one : (f g : DataFault) → HeaderFault header f → HeaderFault header g → f ≡ g
  header_fault_one f g h k = by_case f g (want f h) (want g k)

  not_wanting_any : (f : DataFault) (columns : DataColumns) → DataWant header f → AreColumns header columns → ⊥
  not_wanting_any f columns (inl h) a = none_wants header NoColumn ColumnTwice needed f ((columns.group, a.group), ((columns.value, a.value), tt)) h
  not_wanting_any f columns (inr (all, h, e)) a = weight_twice header columns.weight h a.weight

  pub no_header_fault : (f : DataFault) (columns : DataColumns) → HeaderFault header f → AreColumns header columns → ⊥
  no_header_fault f columns h a = not_wanting_any f columns (want f h) a
