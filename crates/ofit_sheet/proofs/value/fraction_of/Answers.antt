use Rattle.std.proofs.Common.{◌≡◌, ℤ, pos, ap, subst, ◌∙◌, arith}
use Rattle.std.proofs.lemmas.Int.{to_z_pos, to_z-of_z}
use Rattle.std.specs.Int.{w128}
use mir.Val.{of_z, to_z}
use Rattle.ofit_num.specs.Reduced.{Reduces}
use Rattle.ofit_sheet.proofs.Faults.{lowest_reduced}
use Rattle.ofit_sheet.proofs.value.fraction_of.Goals as goal
use Rattle.ofit_sheet.proofs.value.fraction_of.Goals.{else-num-via-then-num+else-den-below, else-num-via-else-num}

pub returns-else-num-clause-exactly : goal.returns-else-num-clause-exactly
returns-else-num-clause-exactly c = λ lowest.
    let plain : to_z w128 c.args.den ≡ pos c.args.den = to_z_pos w128 c.args.den (omega (arith, c.requires.denominator)) in
    let reduces : Reduces c.args.num (pos c.args.den) c.in-Some.value =
    subst (λ (z : ℤ). Reduces c.args.num z c.in-Some.value) plain (subst (λ (z : ℤ). Reduces z (to_z w128 c.args.den) c.in-Some.value) (to_z-of_z w128 c.args.num c.ranges.num) c.in-Some.ensures.reduced) in
    let same = lowest_reduced c.args.num c.args.den c.in-Some.value reduces lowest in
    elim c.else-num.branch [
      | else-num-via-then-num+else-den-below w ↦ w.if-den-below.false (ap (of_z w128) (w.den.ensures.value ∙ ap pos same.1))
      | else-num-via-else-num w ↦ w.if-num.false (ap (of_z w128) (c.num.ensures.value ∙ same.0))
    ]
