use Rattle.std.proofs.Common.{arith, List, [], ap, sym, length, take}
use Rattle.std.proofs.lemmas.List.{length-map, length-take}
use Rattle.std.specs.Prelude.{Option, unwrap_or}
use Rattle.ofit_num.specs.declared.row.Row.{Row}
use Rattle.ofit_study.specs.Study.{problem_stated}
use Rattle.ofit_fit.proofs.Putting.{mapped_more, mapped_all}
use Rattle.ofit_fit.proofs.members.groups_at.Goals as goal

pub add-requires : goal.add-requires
add-requires c = omega (arith, ap (λ (gs : List (List Row)). length gs) c.loop-place.invariant, length-map (take c.loop-place.place-index c.args.places.now) (problem_stated c.args.study.now).rows, length-take c.loop-place.place-index c.args.places.now)

pub loop-place-preserved : goal.loop-place-preserved
loop-place-preserved c =
    mapped_more (problem_stated c.args.study.now).rows c.args.places.now c.loop-place.place-index c.loop-place.groups c.add.new.self c.rows_of.result.now (omega arith)
    (sym (ap (λ (o : Option (List Row)). unwrap_or o []) c.rows_of.ensures)) c.in_ok-add.ensures.ok c.loop-place.invariant

pub returns : goal.returns
returns c = mapped_all (problem_stated c.args.study.now).rows c.args.places.now c.loop-place.place-index c.loop-place.groups (omega arith) c.loop-place.invariant
