use Rattle.ofit_check.proofs.Passed.{passed_best}
use Rattle.ofit_check.proofs.SheetTold.{values_so, missing_told, disobeys_told, bounds_told, off_pairs_told, order_told, loose_told, unbalanced_told, passes_so}
use Rattle.ofit_check.proofs.check.verdict_sheet.Goals as goal

pub returns-in-Some-clause-verdict : goal.returns-in-Some-clause-verdict
returns-in-Some-clause-verdict c =
    missing_told c.args.study.now c.args.sheet.now c.group_count.result c.group_count.ensures.count
    (c.has_settings.ensures.0 c.if-not-has_settings.false) (c.has_size.ensures.0 c.if-not-has_size.false)
    c.in-Some.place c.in-Some.ensures

pub returns-in-Some-first_disobedient-clause-verdict : goal.returns-in-Some-first_disobedient-clause-verdict
returns-in-Some-first_disobedient-clause-verdict c =
    disobeys_told c.args.study.now c.args.sheet.now c.group_count.result c.group_count.ensures.count
    (c.has_settings.ensures.0 c.if-not-has_settings.false) (c.has_size.ensures.0 c.if-not-has_size.false)
    c.in_default.ensures
    c.in-Some-first_disobedient.index c.in-Some-first_disobedient.ensures

pub returns-in-Some-first_out_of_bounds-clause-verdict : goal.returns-in-Some-first_out_of_bounds-clause-verdict
returns-in-Some-first_out_of_bounds-clause-verdict c =
    bounds_told c.args.study.now c.args.sheet.now c.group_count.result c.group_count.ensures.count
    (c.has_settings.ensures.0 c.if-not-has_settings.false) (c.has_size.ensures.0 c.if-not-has_size.false)
    c.in_default.ensures c.in_default-first_disobedient.ensures
    c.in-Some-first_out_of_bounds.place c.in-Some-first_out_of_bounds.ensures

pub returns-in-Some-first_off_pairs-clause-verdict : goal.returns-in-Some-first_off_pairs-clause-verdict
returns-in-Some-first_off_pairs-clause-verdict c =
    off_pairs_told c.args.study.now c.args.sheet.now c.group_count.result c.group_count.ensures.count
    (c.has_settings.ensures.0 c.if-not-has_settings.false) (c.has_size.ensures.0 c.if-not-has_size.false)
    c.in_default.ensures c.in_default-first_disobedient.ensures c.in_default-first_out_of_bounds.ensures
    c.in-Some-first_off_pairs.number c.in-Some-first_off_pairs.ensures

pub returns-in-Some-first_out_of_order-clause-verdict : goal.returns-in-Some-first_out_of_order-clause-verdict
returns-in-Some-first_out_of_order-clause-verdict c =
    order_told c.args.study.now c.args.sheet.now c.group_count.result c.group_count.ensures.count
    (c.has_settings.ensures.0 c.if-not-has_settings.false) (c.has_size.ensures.0 c.if-not-has_size.false)
    c.in_default.ensures c.in_default-first_disobedient.ensures c.in_default-first_out_of_bounds.ensures
    c.in_default-first_off_pairs.ensures
    c.in-Some-first_out_of_order.number c.in-Some-first_out_of_order.ensures

pub returns-in-Some-first_loose-clause-verdict : goal.returns-in-Some-first_loose-clause-verdict
returns-in-Some-first_loose-clause-verdict c =
    loose_told c.args.study.now c.args.sheet.now c.group_count.result c.group_count.ensures.count
    (c.has_settings.ensures.0 c.if-not-has_settings.false) (c.has_size.ensures.0 c.if-not-has_size.false)
    c.in_default.ensures c.in_default-first_disobedient.ensures c.in_default-first_out_of_bounds.ensures
    c.in_default-first_off_pairs.ensures c.in_default-first_out_of_order.ensures
    c.in-Some-first_loose.number c.in-Some-first_loose.ensures

pub returns-in-Some-first_unbalanced-clause-verdict : goal.returns-in-Some-first_unbalanced-clause-verdict
returns-in-Some-first_unbalanced-clause-verdict c =
    unbalanced_told c.args.study.now c.args.sheet.now c.group_count.result c.group_count.ensures.count
    (c.has_settings.ensures.0 c.if-not-has_settings.false) (c.has_size.ensures.0 c.if-not-has_size.false)
    c.in_default.ensures c.in_default-first_disobedient.ensures c.in_default-first_out_of_bounds.ensures
    c.in_default-first_off_pairs.ensures c.in_default-first_out_of_order.ensures c.in_default-first_loose.ensures
    c.in-Some-first_unbalanced.place c.in-Some-first_unbalanced.ensures

pub returns-in-None-clause-verdict : goal.returns-in-None-clause-verdict
returns-in-None-clause-verdict c =
    passes_so c.args.study.now c.args.sheet.now c.group_count.result c.group_count.ensures.count
    (c.has_settings.ensures.0 c.if-not-has_settings.false) (c.has_size.ensures.0 c.if-not-has_size.false)
    c.in_default.ensures c.in_default-first_disobedient.ensures c.in_default-first_out_of_bounds.ensures
    c.in_default-first_off_pairs.ensures c.in_default-first_out_of_order.ensures c.in_default-first_loose.ensures
    c.in-None.ensures

pub returns-in-None-clause-best : goal.returns-in-None-clause-best
returns-in-None-clause-best c =
    λ e. passed_best c.args.study.now c.args.sheet.now c.group_count.ensures.valid c.requires (returns-in-None-clause-verdict c)

pub first_disobedient-requires : goal.first_disobedient-requires
first_disobedient-requires c =
    values_so c.args.study.now c.args.sheet.now c.group_count.result c.group_count.ensures.count c.group_count.ensures.valid c.requires c.in_default.ensures

pub first_out_of_bounds-requires : goal.first_out_of_bounds-requires
first_out_of_bounds-requires c =
    values_so c.args.study.now c.args.sheet.now c.group_count.result c.group_count.ensures.count c.group_count.ensures.valid c.requires c.in_default.ensures

pub first_loose-requires : goal.first_loose-requires
first_loose-requires c =
    values_so c.args.study.now c.args.sheet.now c.group_count.result c.group_count.ensures.count c.group_count.ensures.valid c.requires c.in_default.ensures

pub first_unbalanced-requires-clause-values : goal.first_unbalanced-requires-clause-values
first_unbalanced-requires-clause-values c =
    values_so c.args.study.now c.args.sheet.now c.group_count.result c.group_count.ensures.count c.group_count.ensures.valid c.requires c.in_default.ensures

pub first_unbalanced-requires-clause-flows : goal.first_unbalanced-requires-clause-flows
first_unbalanced-requires-clause-flows c =
    record { valid = c.group_count.ensures.valid; on_pairs = c.in_default-first_off_pairs.ensures; in_order = c.in_default-first_out_of_order.ensures }
