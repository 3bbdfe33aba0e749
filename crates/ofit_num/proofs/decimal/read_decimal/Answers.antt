use Rattle.std.proofs.lemmas.Int.{to_z-of_z}
use Rattle.std.specs.Prelude.{Ok}
use Rattle.std.specs.Int.{w64}
use Rattle.std.specs.Int.RustNames.{FitsSigned, unsigned_abs}
use Rattle.ofit_num.proofs.Fixed.{fixed_units}
use Rattle.ofit_num.proofs.ReadBack.{one_answer, read_from}
use Rattle.ofit_num.proofs.decimal.read_decimal.Goals as goal

pub returns-clause-read : goal.returns-clause-read
returns-clause-read c =
    let fits : FitsSigned w64 c.args.limit = c.ranges.limit in
    read_from c.args.text.now c.args.places (unsigned_abs c.args.limit) c.units_of.result (simp to_z-of_z at c.units_of.ensures.ok) c.units_of.ensures.not_number c.units_of.ensures.too_fine (simp to_z-of_z at c.units_of.ensures.too_large)

pub returns-clause-reads : goal.returns-clause-reads
returns-clause-reads c = λ z u h. one_answer c.args.text.now c.args.places (unsigned_abs c.args.limit) c.units_of.result (Ok z) (returns-clause-read c) (u, h)

pub returns-clause-reads_back : goal.returns-clause-reads_back
returns-clause-reads_back c = λ z t h. returns-clause-reads c z (fixed_units c.args.text.now c.args.places z t) h
