use Rattle.std.proofs.Common.{◌≡◌, ◌≤◌, [], length, arith}
use Rattle.ofit_study.specs.Study.{names_of}
use Rattle.ofit_sheet.specs.Rules.{leading, flows_of}
use Rattle.ofit_sheet.proofs.ItemReadings.{value_fault, value_stands, count_is, no_flows, least_is}
use Rattle.ofit_sheet.proofs.items.value_item.Goals as goal

pub returns-in-Ok : goal.returns-in-Ok
returns-in-Ok c = λ rows items f.
    let count = count_is (names_of c.args.study.now) c.args.sized rows items c.args.draft.now f in
    let led : leading c.args.sized ≤ length items = omega (arith, count, c.leading_count.ensures, c.if-draft-leading_count.false) in
    let unflowed : flows_of items ≡ [] = no_flows (names_of c.args.study.now) c.args.sized rows items c.args.draft.now f (c.is_without_flows.ensures.0 c.if-not-is_without_flows.false) in (
      value_stands (names_of c.args.study.now) c.args.sized items c.args.fields.now.first.now c.args.fields.now.second.now c.args.fields.now.third.now c.args.draft.now.least
          (least_is (names_of c.args.study.now) c.args.sized rows items c.args.draft.now f) rows f.good led unflowed c.in-Ok.entry c.in-Ok.ensures.0,
      c.in-Ok.ensures.1,
    )

pub returns-in-Err : goal.returns-in-Err
returns-in-Err c = λ rows items f.
    let count = count_is (names_of c.args.study.now) c.args.sized rows items c.args.draft.now f in
    let led : leading c.args.sized ≤ length items = omega (arith, count, c.leading_count.ensures, c.if-draft-leading_count.false) in
    let unflowed : flows_of items ≡ [] = no_flows (names_of c.args.study.now) c.args.sized rows items c.args.draft.now f (c.is_without_flows.ensures.0 c.if-not-is_without_flows.false) in
    value_fault (names_of c.args.study.now) c.args.sized items c.args.fields.now.first.now c.args.fields.now.second.now c.args.fields.now.third.now c.args.draft.now.least
    (least_is (names_of c.args.study.now) c.args.sized rows items c.args.draft.now f) rows f.good led unflowed c.in-Err.fault c.in-Err.ensures
