use Rattle.std.proofs.Common.{◌<◌, ◌∙◌, sym, ap, subst, arith, length, All}
use Rattle.std.proofs.lemmas.List.Elements.{All-push}
use Rattle.std.proofs.lemmas.List.{length_push}
use Rattle.std.proofs.lemmas.Option.{slice_get_within}
use Rattle.std.proofs.lemmas.Result.{IfOk-weaker}
use Rattle.ofit_study.specs.declared.edit.Edit.TheVariants.{Relate}
use Rattle.ofit_study.specs.Edited.{IsAfter}
use Rattle.ofit_study.specs.Study.{HasPairs, names_of, places_of}
use Rattle.ofit_study.proofs.Relating.{inside, length_places, relating}
use Rattle.ofit_study.proofs.study.Study.related.Goals as goal

pub with_pairs-requires-clause-places : goal.with_pairs-requires-clause-places
with_pairs-requires-clause-places c =
    let s = c.args.self.now in
    subst (All (λ e. (e.0 < length (names_of s)) × (e.1 < length (names_of s)))) (sym (c.as_slice.ensures.value ∙ c.in_ok-pairs.ensures))
    (All-push (λ e. (e.0 < length (names_of s)) × (e.1 < length (names_of s))) (places_of s) (c.in-Some.low, c.in-Some-place_of.high) (inside s c.keeps_limits.ensures.valid)
    (slice_get_within (names_of s) c.in-Some.low c.args.low.now c.in-Some.ensures, slice_get_within (names_of s) c.in-Some-place_of.high c.args.high.now c.in-Some-place_of.ensures))

pub with_pairs-requires-clause-few : goal.with_pairs-requires-clause-few
with_pairs-requires-clause-few c =
    let s = c.args.self.now in
    omega (arith, ap length (c.as_slice.ensures.value ∙ c.in_ok-pairs.ensures), length_push (places_of s) (c.in-Some.low, c.in-Some-place_of.high), length_places s, c.requires.3)

pub returns : goal.returns
returns c =
    let s = c.args.self.now in
    IfOk-weaker c.with_pairs.result (HasPairs s c.as_slice.result.now) (IsAfter s (Relate c.args.low.now c.args.high.now))
    (λ t h. relating s c.keeps_limits.ensures.valid c.as_slice.result.now t h c.args.low.now c.args.high.now c.in-Some.low c.in-Some-place_of.high c.in-Some.ensures c.in-Some-place_of.ensures (c.as_slice.ensures.value ∙ c.in_ok-pairs.ensures)) c.with_pairs.ensures
