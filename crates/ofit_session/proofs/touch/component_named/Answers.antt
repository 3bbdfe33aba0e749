use Rattle.std.proofs.Common.{arith}
use Rattle.std.proofs.lemmas.List.{length-map}
use Rattle.std.proofs.lemmas.Option.{slice_get_within}
use Rattle.ofit_study.specs.Study.{names_of, rows_named}
use Rattle.ofit_session.proofs.Touches.{named_none, named_some}
use Rattle.ofit_session.proofs.touch.component_named.Goals as goal

pub component_of-requires : goal.component_of-requires
component_of-requires c =
    let s = c.args.study.now in
    omega (arith, slice_get_within (names_of s) c.in-Some.place c.args.name.now c.in-Some.ensures, c.requires.places, length-map (names_of s) (rows_named s.rows))

pub returns-in-Some : goal.returns-in-Some
returns-in-Some c = named_some c.args.order.now c.args.study.now c.args.name.now c.in-Some.place c.component_of.result c.in-Some.ensures c.component_of.ensures.number c.component_of.ensures.only

pub returns-in-None : goal.returns-in-None
returns-in-None c = named_none c.args.order.now c.args.study.now c.args.name.now c.in-None.ensures
