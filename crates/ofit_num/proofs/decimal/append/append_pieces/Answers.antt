use Rattle.std.proofs.Common.{◌≡◌, ◌++◌, ◌/◌, arith}
use Rattle.std.specs.Prelude.{decimal}
use Rattle.std.specs.Int.RustNames.{unsigned_abs, FitsSigned}
use Rattle.std.specs.Int.{w128}
use Rattle.std.proofs.lemmas.Int.{ints, to_z-of_z}
use Rattle.ofit_num.specs.DecimalText.{minus_of, pointed}
use Rattle.ofit_num.proofs.Scaled.{ten_positive}
use Rattle.ofit_num.proofs.Fixed.{fixed_from, joined, ok_weaker}
use Rattle.ofit_num.proofs.decimal.append.append_pieces.Goals as goal

pub nonzero_div-size : goal.nonzero_div-size
nonzero_div-size c = omega (arith, c.pow-one.ensures, ten_positive c.args.places)

pub nonzero_rem-size : goal.nonzero_rem-size
nonzero_rem-size c = omega (arith, c.pow-one.ensures, ten_positive c.args.places)

pub append_pointed-requires : goal.append_pointed-requires
append_pointed-requires c = omega (arith, c.pow-one.ensures, ten_positive c.args.places)

pub returns-clause-ok : goal.returns-clause-ok
returns-clause-ok c =
    let fits : FitsSigned w128 c.args.units = c.ranges.units in
    let size : c.unsigned_abs-size.result ≡ unsigned_abs c.args.units = simp to_z-of_z at c.unsigned_abs-size.ensures.value in
    ok_weaker c.append_pointed.result _ _ (λ d. (
      minus_of c.args.units ++ (decimal (c.unsigned_abs-size.result / c.pow-one.result) ++ pointed d.0),
      fixed_from c.args.units c.args.places c.unsigned_abs-size.result c.pow-one.result d.0 size c.pow-one.ensures (omega (arith, ints, size)) d.1,
      joined c.args.into.now.items (minus_of c.args.units) (decimal (c.unsigned_abs-size.result / c.pow-one.result)) (pointed d.0) _ _ _ (simp to_z-of_z at c.in_ok-append_minus.ensures.ok) c.in_ok-append_whole.ensures.ok d.2,
    )) c.append_pointed.ensures.ok
