use Rattle.std.proofs.Common.{◌≡◌, ℕ, List, sym, subst, slice_get, Some}
use Rattle.std.proofs.lemmas.Option.{slice_get_within}
use Rattle.ofit_study.specs.Study.{IsValid, names_of}
use Rattle.ofit_study.specs.Added.{observation, with_row, IsPlaceOf}
use Rattle.ofit_study.proofs.Pushing.{name_at-get}
use Rattle.ofit_study.proofs.study.Study.push_at.Goals as goal

pub add_to_group-requires-clause-place : goal.add_to_group-requires-clause-place
add_to_group-requires-clause-place c =
    let here : slice_get (names_of c.args.self.now) c.in-Some.place ≡ Some c.args.name.now = subst (IsPlaceOf c.args.self.now c.args.name.now) c.in-Some.is c.requires.place in
    slice_get_within (names_of c.args.self.now) c.in-Some.place c.args.name.now here

pub add_to_group-requires-clause-valid : goal.add_to_group-requires-clause-valid
add_to_group-requires-clause-valid c =
    let here : slice_get (names_of c.args.self.now) c.in-Some.place ≡ Some c.args.name.now = subst (IsPlaceOf c.args.self.now c.args.name.now) c.in-Some.is c.requires.place in
    subst (λ (n : List ℕ). IsValid (with_row c.args.self.now (observation n c.args.row))) (sym (name_at-get (names_of c.args.self.now) c.in-Some.place c.args.name.now here)) c.requires.valid
