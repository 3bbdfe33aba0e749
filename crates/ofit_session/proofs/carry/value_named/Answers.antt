use Rattle.std.proofs.Common.{◌≡◌, ◌∙◌, ℕ, Some, slice_get, ap, sym, subst, arith}
use Rattle.std.proofs.lemmas.Option.{slice_get-get_or, slice_get_within}
use Rattle.ofit_num.specs.Fraction.{Fraction}
use Rattle.ofit_study.specs.Study.{names_of}
use Rattle.ofit_session.proofs.Touches.{one_place, unknown_name}
use Rattle.ofit_session.proofs.carry.value_named.Goals as goal

pub returns-in-Some : goal.returns-in-Some
returns-in-Some c = λ p e.
    let s = c.args.study.now in
    subst (λ (q : ℕ). slice_get c.args.values.now q ≡ Some c.index-values-place.result) (one_place s c.in-Some.place p c.args.name.now c.in-Some.ensures e)
    (slice_get-get_or c.args.values.now c.in-Some.place c.index-values-place.result (omega (arith, c.requires, slice_get_within (names_of s) c.in-Some.place c.args.name.now c.in-Some.ensures)) ∙ ap (λ (f : Fraction). Some f) (sym c.index-values-place.is))

pub returns-in-None : goal.returns-in-None
returns-in-None c = λ p e. absurd (unknown_name c.args.study.now c.args.name.now p c.in-None.ensures e)
