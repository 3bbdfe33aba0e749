use Rattle.std.proofs.Common.{◌≡◌, ◌≢◌, List, ℕ, sym, subst, All, slice_get, Some}
use Rattle.ofit_study.proofs.NameSets.{new_name, name_at_place}
use Rattle.ofit_study.proofs.names.Names.place_of.Goals as goal

pub returns-in-Some : goal.returns-in-Some
returns-in-Some c =
    subst (λ (t : List (List ℕ)). slice_get t c.in-Some.place ≡ Some c.args.name.now) c.self.view_is (name_at_place c.args.name.now c.self.inside.set.keys c.in-Some.place c.in-Some.ensures.index)

pub returns-in-None : goal.returns-in-None
returns-in-None c =
    subst (λ (t : List (List ℕ)). All (λ known. known ≢ c.args.name.now) t) c.self.view_is (new_name c.args.name.now c.self.inside.set.keys (sym c.in-None.ensures.found))
