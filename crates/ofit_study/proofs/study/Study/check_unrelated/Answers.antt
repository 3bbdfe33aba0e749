use Rattle.std.proofs.Common.{◌≢◌, ℕ, refl}
use Rattle.std.proofs.lemmas.List.Elements.{All-contains}
use Rattle.ofit_study.specs.Study.{names_of, places_of}
use Rattle.ofit_study.proofs.Pushing.{slice_get-Contains}
use Rattle.ofit_study.proofs.Relating.{low_known, pair_there, places_there}
use Rattle.ofit_study.proofs.study.Study.check_unrelated.Goals as goal

pub returns-in_default-clause-refused : goal.returns-in_default-clause-refused
returns-in_default-clause-refused c =
    let s = c.args.self.now in
    λ there. All-contains (λ known. known ≢ c.args.low.now) (names_of s) c.args.low.now c.in_default.ensures (low_known s c.keeps_limits.ensures.valid (c.args.low.now, c.args.high.now) there).0 refl

pub returns-in_default-place_of-clause-refused : goal.returns-in_default-place_of-clause-refused
returns-in_default-place_of-clause-refused c =
    let s = c.args.self.now in
    λ there. All-contains (λ known. known ≢ c.args.high.now) (names_of s) c.args.high.now c.in_default-place_of.ensures (low_known s c.keeps_limits.ensures.valid (c.args.low.now, c.args.high.now) there).1 refl

pub returns-in-None-clause-refused : goal.returns-in-None-clause-refused
returns-in-None-clause-refused c =
    let s = c.args.self.now in
    λ there. c.in-None.ensures (places_there s c.args.low.now c.args.high.now c.in-Some.low c.in-Some-place_of.high c.in-Some.ensures c.in-Some-place_of.ensures there)

pub returns-in-Some-pair_index-clause-accepted : goal.returns-in-Some-pair_index-clause-accepted
returns-in-Some-pair_index-clause-accepted c =
    let s = c.args.self.now in
    let e : ℕ × ℕ = (c.in-Some.low, c.in-Some-place_of.high) in
    pair_there s c.keeps_limits.ensures.valid c.args.low.now c.args.high.now c.in-Some.low c.in-Some-place_of.high c.in-Some.ensures c.in-Some-place_of.ensures (slice_get-Contains (places_of s) _ e c.in-Some-pair_index.ensures)
