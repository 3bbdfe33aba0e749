use Rattle.std.specs.Int.RustNames.{unsigned_abs, FitsSigned}
use Rattle.std.specs.Int.{w64}
use Rattle.std.proofs.lemmas.Int.{to_z-of_z}
use Rattle.ofit_num.specs.declared.decimal.NumFault.TheVariants.{TooFine, TooLarge}
use Rattle.ofit_num.proofs.DecimalTexts.{fine_from, large_from}
use Rattle.ofit_num.proofs.Spelled.{same_fault}
use Rattle.ofit_num.proofs.decimal.units_by_parts.Goals as goal

pub returns-in-None-clause-not_number : goal.returns-in-None-clause-not_number
returns-in-None-clause-not_number c = λ e n. c.in-None.ensures.no n.negative n.m n.f n.x n.decimal

pub returns-in-Err-clause-too_fine : goal.returns-in-Err-clause-too_fine
returns-in-Err-clause-too_fine c = λ e. fine_from c.args.text.now _ _ _ c.args.places _ c.in-Some.ensures.yes (c.in-Err.ensures.too_fine (same_fault c.in-Err.fault TooFine e))

pub returns-in-Err-clause-too_large : goal.returns-in-Err-clause-too_large
returns-in-Err-clause-too_large c = λ e.
    let fits : FitsSigned w64 c.args.limit = c.ranges.limit in
    large_from c.args.text.now _ _ _ c.args.places (unsigned_abs c.args.limit) _ c.in-Some.ensures.yes (simp (to_z-of_z, c.unsigned_abs.ensures.value) at (c.in-Err.ensures.too_large (same_fault c.in-Err.fault TooLarge e)))
