use Rattle.std.proofs.Common.{◌∙◌, ap, arith, length}
use Rattle.std.proofs.lemmas.List.{length_push}
use Rattle.std.proofs.lemmas.Option.{slice_get_within}
use Rattle.ofit_study.specs.Study.{names_of}
use Rattle.ofit_session.proofs.Carrying.{carried_more}
use Rattle.ofit_session.proofs.carry.carried.Goals as goal

pub loop-place-init : goal.loop-place-init
loop-place-init c = (ap length c.new-own.ensures.items, λ g p name l. absurd (omega (arith, l)))

pub group_name-requires : goal.group_name-requires
group_name-requires c = omega (arith, c.loop-place-test.true, c.group_count-place-end.ensures.count)

pub value_named-requires : goal.value_named-requires
value_named-requires c = c.requires

pub loop-place-preserved : goal.loop-place-preserved
loop-place-preserved c =
    let own = c.loop-place.own.items in
    let h = c.loop-place.invariant in (
      omega (arith, ap length c.in_ok-push.ensures.items, length_push own c.value_named.result, h.0),
      carried_more (names_of c.args.after.now) (names_of c.args.before.now) c.args.values.now own c.push.new.self.items c.value_named.result c.loop-place.place c.group_name.result.now h.0 c.in_ok-push.ensures.items c.group_name.ensures c.value_named.ensures h.1,
    )

pub returns-clause-count : goal.returns-clause-count
returns-clause-count c = omega (arith, c.loop-place.invariant.0, c.loop-place-test.false, c.group_count-place-end.ensures.count)

pub returns-clause-same : goal.returns-clause-same
returns-clause-same c = λ g p name e f.
    c.loop-place.invariant.1 g p name (omega (arith, slice_get_within (names_of c.args.after.now) g name e, c.loop-place-test.false, c.group_count-place-end.ensures.count)) e f
