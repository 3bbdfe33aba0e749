use Rattle.std.proofs.Common.{◌≡◌, rules}
use Rattle.std.proofs.lemmas.Int.{to_z-of_z}
use Rattle.std.specs.Int.{w128, int_div_euclid}
use Rattle.std.specs.Int.RustNames.{FitsSigned}
use mir.Val.{to_z, of_z}
use Rattle.ofit_num.proofs.Floor.{floor_low, floor_high}
use Rattle.ofit_num.proofs.terms.floor_of.Goals as goal

value : (c : goal.After-div_euclid) → to_z w128 (of_z w128 c.div_euclid.result) ≡ int_div_euclid c.args.num c.args.den
value c =
    let nums : FitsSigned w128 c.args.num = c.ranges.num in
    let dens : FitsSigned w128 c.args.den = c.ranges.den in
    let is : FitsSigned w128 c.div_euclid.result = search rules in
    simp to_z-of_z (simp to_z-of_z at c.div_euclid.ensures)

pub returns-clause-at_most : goal.returns-clause-at_most
returns-clause-at_most c = floor_low c.args.num c.args.den _ c.requires (value c)

pub returns-clause-greatest : goal.returns-clause-greatest
returns-clause-greatest c = floor_high c.args.num c.args.den _ c.requires (value c)
