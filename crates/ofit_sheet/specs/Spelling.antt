-- What the records of a sheet spell, whatever the limits on their numbers.
use Rattle.std.specs.Prelude.{◌≡◌, ◌≤◌, ℕ, ℤ, pos, List, [], ◌∷◌, Bool, true, false, Option, Some, None, codes, slice_get}
use Rattle.ofit_num.specs.Fraction.{Fraction}
use Rattle.ofit_num.specs.NumberText.{IsWhole, IsSigned}
use Rattle.ofit_sheet.specs.declared.item.Item.{Item}
use Rattle.ofit_sheet.specs.declared.item.Item.TheVariants.{Bounds, Size, Value, Flow, End}
use Rattle.ofit_sheet.specs.declared.fields.Kind.{Kind}
use Rattle.ofit_sheet.specs.declared.fields.Kind.TheVariants as kind
use Rattle.ofit_sheet.specs.declared.header.Header.{Header}
use Rattle.ofit_study.specs.FieldText.{dash}
use Rattle.ofit_study.specs.Loss.{IsListed, loss_text}

-- version 2 has a size record, version 1 has none
abbrev pub version_of : Bool → List ℕ
version_of true = codes "2"
version_of false = codes "1"

pub record IsHeader (fields : List (List ℕ)) (head : Header) : Type 0 where
  pub places_text : List ℕ
  pub spells : fields ≡ codes "ofit-sheet" ∷ version_of head.sized ∷ loss_text head.loss ∷ places_text ∷ []
  pub places : IsWhole places_text head.places
  pub most : head.places ≤ 6
  pub listed : IsListed head.loss

abbrev pub IsBoundText : List ℕ → Option ℤ → Type 0
IsBoundText text None = text ≡ codes "none"
IsBoundText text (Some units) = IsSigned text units

pub record SpellsBounds (first second third : List ℕ) (lo hi : Option ℤ) : Type 0 where
  pub low : IsBoundText first lo
  pub high : IsBoundText second hi
  pub no_more : third ≡ dash

pub record SpellsSize (first second third : List ℕ) (rows weight : ℕ) : Type 0 where
  pub count : IsWhole first rows
  pub total : IsWhole second weight
  pub no_more : third ≡ dash

pub record SpellsFraction (second third : List ℕ) (value : Fraction) : Type 0 where
  pub numerator : IsSigned second value.num
  pub denominator : IsWhole third value.den
  pub positive : 1 ≤ value.den

pub record SpellsValue (names : List (List ℕ)) (first second third : List ℕ) (place : ℕ) (value : Fraction) : Type 0 where
  pub group : slice_get names place ≡ Some first
  pub fraction : SpellsFraction second third value

pub record SpellsFlow (names : List (List ℕ)) (first second third : List ℕ) (low high : ℕ) (amount : ℤ) : Type 0 where
  pub low_group : slice_get names low ≡ Some first
  pub high_group : slice_get names high ≡ Some second
  pub size : ℕ
  pub whole : IsWhole third size
  pub positive : 1 ≤ size
  pub is_size : amount ≡ pos size

pub record SpellsEnd (first second third : List ℕ) : Type 0 where
  pub nothing : first ≡ dash
  pub no_more : second ≡ dash
  pub no_last : third ≡ dash

abbrev pub kind_in : Item → Kind
kind_in (Bounds lo hi) = kind.Bounds
kind_in (Size z) = kind.Size
kind_in (Value place value) = kind.Value
kind_in (Flow low high amount) = kind.Flow
kind_in End = kind.End

-- the first field of each kind of record
abbrev pub kind_name : Kind → List ℕ
kind_name kind.Bounds = codes "bounds"
kind_name kind.Size = codes "size"
kind_name kind.Value = codes "value"
kind_name kind.Flow = codes "flow"
kind_name kind.End = codes "end"

-- and the three fields behind it
abbrev pub FieldsSpell : List (List ℕ) → List ℕ → List ℕ → List ℕ → Item → Type 0
FieldsSpell names first second third (Bounds lo hi) = SpellsBounds first second third lo hi
FieldsSpell names first second third (Size z) = SpellsSize first second third z.rows z.weight
FieldsSpell names first second third (Value place value) = SpellsValue names first second third place value
FieldsSpell names first second third (Flow low high amount) = SpellsFlow names first second third low high amount
FieldsSpell names first second third End = SpellsEnd first second third

-- a record behind the header, of four fields
pub record Spells (names : List (List ℕ)) (fields : List (List ℕ)) (item : Item) : Type 0 where
  pub first : List ℕ
  pub second : List ℕ
  pub third : List ℕ
  pub four : fields ≡ kind_name (kind_in item) ∷ first ∷ second ∷ third ∷ []
  pub spelled : FieldsSpell names first second third item
