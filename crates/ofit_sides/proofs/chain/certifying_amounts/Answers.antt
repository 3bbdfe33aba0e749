use Rattle.std.proofs.Common.{ℕ, List, subst}
use Rattle.ofit_cut.specs.Balanced.{Tells}
use Rattle.ofit_cut.specs.Barrier.{IsAbove, IsBelow}
use Rattle.ofit_cut.specs.Members.{has_node}
use Rattle.ofit_sides.proofs.Ready.{never_above, never_below, flows_certify}
use Rattle.ofit_sides.proofs.chain.certifying_amounts.Goals as goal

pub unreachable-requires : goal.unreachable-requires
unreachable-requires c =
    let t = c.in_ok-amounts.ensures in
    let told = subst (Tells c.args.pairs.now t.spans) c.in-Above.is t.told in
    never_above c.args.groups.now c.requires.fittable c.args.values.now c.requires.fit.few c.requires.whole t.spans t.of_groups c.requires.fit.best (has_node c.in-Above.field-0)
    (subst (λ (pairs : List (ℕ × ℕ)). IsAbove pairs t.spans (has_node c.in-Above.field-0)) c.requires.tight told.1)

pub unreachable-requires-in-Below : goal.unreachable-requires-in-Below
unreachable-requires-in-Below c =
    let t = c.in_ok-amounts.ensures in
    let told = subst (Tells c.args.pairs.now t.spans) c.in-Below.is t.told in
    never_below c.args.groups.now c.requires.fittable c.args.values.now c.requires.fit.few c.requires.whole t.spans t.of_groups c.requires.fit.best (has_node c.in-Below.field-0)
    (subst (λ (pairs : List (ℕ × ℕ)). IsBelow pairs t.spans (has_node c.in-Below.field-0)) c.requires.tight told.1)

pub returns : goal.returns
returns c =
    let t = c.in_ok-amounts.ensures in
    flows_certify c.args.groups.now c.requires.fittable c.args.values.now c.requires.fit.few c.requires.whole t.spans t.of_groups c.args.pairs.now c.in-Flows.amounts (subst (Tells c.args.pairs.now t.spans) c.in-Flows.is t.told)
