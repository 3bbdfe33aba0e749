use Rattle.std.proofs.Common.{◌≢◌, ◌<◌, ◌∙◌, ℕ, refl, sym, ap, subst, arith, length, All}
use Rattle.std.proofs.lemmas.List.Elements.{All-contains}
use Rattle.std.proofs.lemmas.Option.{slice_get_within}
use Rattle.std.proofs.lemmas.Result.{IfOk-weaker}
use Rattle.ofit_study.specs.declared.edit.Edit.TheVariants.{Unrelate}
use Rattle.ofit_study.specs.Edited.{IsAfter}
use Rattle.ofit_study.specs.Study.{HasPairs, names_of, places_of}
use Rattle.ofit_study.proofs.Relating.{inside, length_places, low_known, places_there, removed_all, removed_just, removed_few, unrelating}
use Rattle.ofit_study.proofs.study.Study.unrelated.Goals as goal

pub unreachable-requires : goal.unreachable-requires
unreachable-requires c =
    let s = c.args.self.now in
    All-contains (λ known. known ≢ c.args.low.now) (names_of s) c.args.low.now c.in_default.ensures (low_known s c.keeps_limits.ensures.valid (c.args.low.now, c.args.high.now) c.requires).0 refl

pub unreachable-requires-in_default-place_of : goal.unreachable-requires-in_default-place_of
unreachable-requires-in_default-place_of c =
    let s = c.args.self.now in
    All-contains (λ known. known ≢ c.args.high.now) (names_of s) c.args.high.now c.in_default-place_of.ensures (low_known s c.keeps_limits.ensures.valid (c.args.low.now, c.args.high.now) c.requires).1 refl

pub unreachable-requires-in_default-pair_index : goal.unreachable-requires-in_default-pair_index
unreachable-requires-in_default-pair_index c =
    c.in_default-pair_index.ensures (places_there c.args.self.now c.args.low.now c.args.high.now c.in-Some.low c.in-Some-place_of.high c.in-Some.ensures c.in-Some-place_of.ensures c.requires)

pub pairs_but-requires : goal.pairs_but-requires
pairs_but-requires c = slice_get_within (places_of c.args.self.now) c.in-Some-pair_index.index (c.in-Some.low, c.in-Some-place_of.high) c.in-Some-pair_index.ensures

pub with_pairs-requires-clause-places : goal.with_pairs-requires-clause-places
with_pairs-requires-clause-places c =
    let s = c.args.self.now in
    subst (All (λ e. (e.0 < length (names_of s)) × (e.1 < length (names_of s)))) (sym (c.as_slice.ensures.value ∙ c.in_ok-pairs.ensures))
    (removed_all (λ e. (e.0 < length (names_of s)) × (e.1 < length (names_of s))) (places_of s) c.in-Some-pair_index.index (inside s c.keeps_limits.ensures.valid))

pub with_pairs-requires-clause-few : goal.with_pairs-requires-clause-few
with_pairs-requires-clause-few c =
    let s = c.args.self.now in
    omega (arith, ap length (c.as_slice.ensures.value ∙ c.in_ok-pairs.ensures), removed_few (places_of s) c.in-Some-pair_index.index, length_places s, c.keeps_limits.ensures.valid.pairs)

pub returns : goal.returns
returns c =
    let s = c.args.self.now in
    let v = c.keeps_limits.ensures.valid in
    let e : ℕ × ℕ = (c.in-Some.low, c.in-Some-place_of.high) in
    IfOk-weaker c.with_pairs.result (HasPairs s c.as_slice.result.now) (IsAfter s (Unrelate c.args.low.now c.args.high.now))
    (λ t h. unrelating s v c.as_slice.result.now t h c.args.low.now c.args.high.now c.in-Some.low c.in-Some-place_of.high c.in-Some.ensures c.in-Some-place_of.ensures
    (removed_just s v c.in-Some-pair_index.index e c.in-Some-pair_index.ensures c.as_slice.result.now (c.as_slice.ensures.value ∙ c.in_ok-pairs.ensures))) c.with_pairs.ensures
