-- What stands in a written field.
use Rattle.std.specs.Prelude.{ℕ, ℤ, List, Option, Some, None, codes}
use Rattle.std.specs.Fmt.{signed_decimal}

-- a bound in units, where one stands
abbrev pub bound_text : Option ℤ → List ℕ
bound_text None = codes "none"
bound_text (Some units) = signed_decimal units

-- a field without meaning
abbrev pub dash : List ℕ
dash = codes "-"
