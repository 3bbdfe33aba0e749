use Rattle.std.proofs.Common.{◌<◌, ◌≤◌, ◌^◌, arith}
use Rattle.ofit_study.specs.Study.{Observation}
use Rattle.ofit_study.specs.Added.{observation}
use Rattle.ofit_study.specs.Edited.{HasRow, weight_with}
use Rattle.ofit_study.proofs.Edits.{its_number, row_of, weight_inside, weight_moved}
use Rattle.ofit_study.proofs.study.Study.check_weight.Goals as goal

pub overflow_sub-total_weight : goal.overflow_sub-total_weight
overflow_sub-total_weight c =
    let s = c.args.self.now in
    let r : Observation = observation c.row_at.result.0.now c.row_at.result.1 in
    let at : HasRow s c.args.number = row_of s c.in-Some.index c.args.number r c.row_at.ensures (its_number s c.in-Some.index c.args.number r c.in-Some.ensures c.row_at.ensures) in
    omega (arith, weight_inside s c.args.number at, c.total_weight.ensures)

pub returns-then-total_weight-row-gt-MOST_WEIGHT-clause-refused : goal.returns-then-total_weight-row-gt-MOST_WEIGHT-clause-refused
returns-then-total_weight-row-gt-MOST_WEIGHT-clause-refused c =
    let s = c.args.self.now in
    let r : Observation = observation c.row_at.result.0.now c.row_at.result.1 in
    let at : HasRow s c.args.number = row_of s c.in-Some.index c.args.number r c.row_at.ensures (its_number s c.in-Some.index c.args.number r c.in-Some.ensures c.row_at.ensures) in
    let heavy : 10 ^ 10 < weight_with at c.args.weight = omega (arith, weight_moved s c.args.number at c.args.weight, weight_inside s c.args.number at, c.total_weight.ensures, c.if-total_weight-row-gt-MOST_WEIGHT.true) in
    (at, heavy)

pub returns-clause-accepted : goal.returns-clause-accepted
returns-clause-accepted c =
    let s = c.args.self.now in
    let r : Observation = observation c.row_at.result.0.now c.row_at.result.1 in
    let at : HasRow s c.args.number = row_of s c.in-Some.index c.args.number r c.row_at.ensures (its_number s c.in-Some.index c.args.number r c.in-Some.ensures c.row_at.ensures) in
    let light : weight_with at c.args.weight ≤ 10 ^ 10 = omega (arith, weight_moved s c.args.number at c.args.weight, weight_inside s c.args.number at, c.total_weight.ensures, c.if-total_weight-row-gt-MOST_WEIGHT.false) in
    (at, light)
