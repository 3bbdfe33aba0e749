use Rattle.ofit_study.specs.Study.{problem_stated}
use Rattle.ofit_num.specs.Unbounded.{without_bounds}
use Rattle.ofit_fit.proofs.Ready.{members_places, for_members}
use Rattle.ofit_fit.proofs.component.fit_form.Goals as goal

pub fit_as_chain-requires-clause-places : goal.fit_as_chain-requires-clause-places
fit_as_chain-requires-clause-places g c =
    members_places c.args.study.now c.args.order.now c.keeps_limits.ensures.valid c.requires.study.of c.args.component c.members-members.result.now c.requires.component
    c.members-members.ensures.members c.members-members.ensures.closed

pub fit_as_tree-requires-clause-places : goal.fit_as_tree-requires-clause-places
fit_as_tree-requires-clause-places g c =
    members_places c.args.study.now c.args.order.now c.keeps_limits.ensures.valid c.requires.study.of c.args.component c.members-members.result.now c.requires.component
    c.members-members.ensures.members c.members-members.ensures.closed

pub fit_as_tree-requires-in-TreeDown-clause-places : goal.fit_as_tree-requires-in-TreeDown-clause-places
fit_as_tree-requires-in-TreeDown-clause-places g c =
    members_places c.args.study.now c.args.order.now c.keeps_limits.ensures.valid c.requires.study.of c.args.component c.members-members.result.now c.requires.component
    c.members-members.ensures.members c.members-members.ensures.closed

pub fit_by_cuts-requires-clause-places : goal.fit_by_cuts-requires-clause-places
fit_by_cuts-requires-clause-places g c =
    members_places c.args.study.now c.args.order.now c.keeps_limits.ensures.valid c.requires.study.of c.args.component c.members-members.result.now c.requires.component
    c.members-members.ensures.members c.members-members.ensures.closed

pub returns-in-Chain-clause-least_best : goal.returns-in-Chain-clause-least_best
returns-in-Chain-clause-least_best g c = for_members c.fit_as_chain.result g.L.Loss.meaning (without_bounds (problem_stated c.args.study.now)) c.args.order.now c.args.component c.members-members.result.now c.members-members.ensures.members c.fit_as_chain.ensures

pub returns-in-TreeUp-clause-least_best : goal.returns-in-TreeUp-clause-least_best
returns-in-TreeUp-clause-least_best g c = for_members c.fit_as_tree.result g.L.Loss.meaning (without_bounds (problem_stated c.args.study.now)) c.args.order.now c.args.component c.members-members.result.now c.members-members.ensures.members c.fit_as_tree.ensures

pub returns-in-TreeDown-clause-least_best : goal.returns-in-TreeDown-clause-least_best
returns-in-TreeDown-clause-least_best g c = for_members c.fit_as_tree-in-TreeDown.result g.L.Loss.meaning (without_bounds (problem_stated c.args.study.now)) c.args.order.now c.args.component c.members-members.result.now c.members-members.ensures.members c.fit_as_tree-in-TreeDown.ensures

pub returns-in-General-clause-least_best : goal.returns-in-General-clause-least_best
returns-in-General-clause-least_best g c = for_members c.fit_by_cuts.result g.L.Loss.meaning (without_bounds (problem_stated c.args.study.now)) c.args.order.now c.args.component c.members-members.result.now c.members-members.ensures.members c.fit_by_cuts.ensures.least_best
