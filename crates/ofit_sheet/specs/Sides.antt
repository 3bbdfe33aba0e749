-- The sides of a peaked sheet by their slope.
use Rattle.std.specs.Prelude.{ℤ, List}
use Rattle.ofit_sheet.specs.declared.peaked.slope.Slope.{Slope}
use Rattle.ofit_sheet.specs.declared.peaked.slope.Slope.TheVariants.{Rise, Fall}
use Rattle.ofit_sheet.specs.Peaked.{Peaked}

abbrev pub sides_of : Slope → Peaked → List (List (ℤ × ℤ))
sides_of Rise x = x.rises
sides_of Fall x = x.falls
