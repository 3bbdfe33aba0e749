use Rattle.std.proofs.Common.{◌≡◌, arith}
use Rattle.ofit_study.specs.Study.{names_of}
use Rattle.ofit_sheet.proofs.Places.{one_place, no_place}
use Rattle.ofit_sheet.proofs.place.place_from.Goals as goal

pub returns-then-from-least : goal.returns-then-from-least
returns-then-from-least c = λ p e l.
    let same : p ≡ c.in-Some.place = one_place c.args.study.now c.args.name.now p c.in-Some.place e c.in-Some.ensures in
    omega (arith, same, l, c.from.ensures, c.if-from-least.true)

pub returns-in-None : goal.returns-in-None
returns-in-None c = λ p e l. no_place (names_of c.args.study.now) c.args.name.now p c.in-None.ensures e
