-- Decimals, by the cases of their grammar, and the canonical text of a number of units.
use Rattle.std.specs.Prelude.{◌≡◌, ℕ, ◌+◌, ◌*◌, ◌^◌, ◌≤◌, ◌<◌, ◌⊎◌, Bool, true, false, List, [], ◌∷◌, ◌++◌, length, codes, ℤ, pos, negsuc, ◌+ℤ◌, unsigned_abs, Result, Ok, Err}
use Rattle.std.specs.List.{AllByRecursion}
use Rattle.ofit_num.specs.declared.decimal.NumFault.{NumFault}
use Rattle.ofit_num.specs.declared.decimal.NumFault.TheVariants.{NotNumber, TooFine, TooLarge}
use Rattle.ofit_num.specs.NumberText.{IsDigit, IsWhole, spelled_after}
use Rattle.ofit_num.specs.Reduced.{negated}

-- spaces and nothing else
abbrev pub IsSpaces : List ℕ → Type 0
IsSpaces text = AllByRecursion (λ b. b ≡ 32) text

-- no minus sign: nothing or `+`; a minus sign: `-`
abbrev pub IsSign : List ℕ → Bool → Type 0
IsSign sign false = (sign ≡ []) ⊎ (sign ≡ codes "+")
IsSign sign true = sign ≡ codes "-"

-- the number of this size, with or without a minus sign; with one, zero stays zero
abbrev pub with_sign : Bool → ℕ → ℤ
with_sign true n = negated n
with_sign false n = pos n

-- a point; it may be left out where no digits follow it
abbrev pub IsPoint : List ℕ → List ℕ → Type 0
IsPoint point fraction = (point ≡ codes ".") ⊎ ((point ≡ []) × (fraction ≡ []))

-- behind its letter, a power of ten: a sign or none, one to three digits, and then spaces
pub record IsPower (text : List ℕ) (x : ℤ) : Type 0 where
  pub sign : List ℕ
  pub digits : List ℕ
  pub spaces : List ℕ
  pub negative : Bool
  pub spells : text ≡ sign ++ (digits ++ spaces)
  pub is_sign : IsSign sign negative
  pub are_digits : AllByRecursion IsDigit digits
  pub some : 0 < length digits
  pub most : length digits ≤ 3
  pub are_spaces : IsSpaces spaces
  pub power : x ≡ with_sign negative (spelled_after 0 digits)

-- what follows the digits: spaces alone, or `e` or `E` and a power of ten
abbrev pub IsEnd : List ℕ → ℤ → Type 0
IsEnd text x = (IsSpaces text × (x ≡ pos 0)) ⊎ ((rest : List ℕ) × ((text ≡ 101 ∷ rest) ⊎ (text ≡ 69 ∷ rest)) × IsPower rest x)

-- digits with at most one point, at least one digit, and what follows them: m is the number that all of the digits
-- spell, f the count of those behind the point, x the power of ten
pub record IsUnsigned (text : List ℕ) (m f : ℕ) (x : ℤ) : Type 0 where
  pub whole : List ℕ
  pub point : List ℕ
  pub fraction : List ℕ
  pub rest : List ℕ
  pub spells : text ≡ whole ++ (point ++ (fraction ++ rest))
  pub are_whole : AllByRecursion IsDigit whole
  pub is_point : IsPoint point fraction
  pub are_fraction : AllByRecursion IsDigit fraction
  pub some : 0 < length (whole ++ fraction)
  pub is_end : IsEnd rest x
  pub digits : m ≡ spelled_after 0 (whole ++ fraction)
  pub behind : f ≡ length fraction

-- a decimal: spaces, a sign or none, and the number m·10^(x - f)
pub record IsDecimal (text : List ℕ) (negative : Bool) (m f : ℕ) (x : ℤ) : Type 0 where
  pub spaces : List ℕ
  pub sign : List ℕ
  pub number : List ℕ
  pub spells : text ≡ spaces ++ (sign ++ number)
  pub are_spaces : IsSpaces spaces
  pub is_sign : IsSign sign negative
  pub is_number : IsUnsigned number m f x

-- size is m·10^(x - f + places), told by whole numbers: up - down is x - f + places
pub record IsScaled (m f : ℕ) (x : ℤ) (places size : ℕ) : Type 0 where
  pub up : ℕ
  pub down : ℕ
  pub shift : x +ℤ pos (places + down) ≡ pos (f + up)
  pub equal : size * 10 ^ down ≡ m * 10 ^ up

-- the text is a decimal of z units of 10^(-places)
pub record IsUnits (text : List ℕ) (places : ℕ) (z : ℤ) : Type 0 where
  pub negative : Bool
  pub m : ℕ
  pub f : ℕ
  pub x : ℤ
  pub decimal : IsDecimal text negative m f x
  pub scaled : IsScaled m f x places (unsigned_abs z)
  pub sign : z ≡ with_sign negative (unsigned_abs z)

-- the text is a decimal
pub record IsNumber (text : List ℕ) : Type 0 where
  pub negative : Bool
  pub m : ℕ
  pub f : ℕ
  pub x : ℤ
  pub decimal : IsDecimal text negative m f x

-- What a text is read as, in units of 10^(-places) and under a limit: the number of units; or the first of three faults:
-- it isn't a decimal, its number isn't a whole number of units, the number passes the limit in absolute value.
abbrev pub UnitsRead : List ℕ → ℕ → ℕ → Result ℤ NumFault → Type 0
UnitsRead text places limit (Ok z) = IsUnits text places z × (unsigned_abs z ≤ limit)
UnitsRead text places limit (Err NotNumber) = IsNumber text → ⊥
UnitsRead text places limit (Err TooFine) = IsNumber text × ((z : ℤ) → IsUnits text places z → ⊥)
UnitsRead text places limit (Err TooLarge) = (z : ℤ) × IsUnits text places z × (limit < unsigned_abs z)

abbrev pub minus_of : ℤ → List ℕ
minus_of (pos n) = []
minus_of (negsuc n) = codes "-"

-- a point and the digits, where there are any
abbrev pub pointed : List ℕ → List ℕ
pointed [] = []
pointed (d ∷ ds) = 46 ∷ (d ∷ ds)

-- the text of z units of 10^(-places) that is written: a sign where z is negative, the whole part and, where places
-- is above 0, a point and exactly that many digits
pub record IsFixed (text : List ℕ) (z : ℤ) (places : ℕ) : Type 0 where
  pub whole : List ℕ
  pub fraction : List ℕ
  pub n : ℕ
  pub spells : text ≡ minus_of z ++ (whole ++ pointed fraction)
  pub is_whole : IsWhole whole n
  pub are_digits : AllByRecursion IsDigit fraction
  pub as_many : length fraction ≡ places
  pub units : unsigned_abs z ≡ spelled_after 0 (whole ++ fraction)
