use Rattle.std.proofs.Common.{◌∙◌, sym, arith, true≢false}
use Rattle.ofit_study.specs.Study.{names_of, places_of}
use Rattle.ofit_study.proofs.Pushing.{slice_get-Contains}
use Rattle.ofit_study.proofs.Relating.{index_told, pair_there, places_there}
use Rattle.ofit_study.proofs.study.Study.check_related.Goals as goal

pub returns-then-is_some-clause-refused : goal.returns-then-is_some-clause-refused
returns-then-is_some-clause-refused c =
    let s = c.args.self.now in
    let told = index_told (places_of s) (c.in-Some.low, c.in-Some-place_of.high) c.pair_index.result c.pair_index.ensures c.is_some.result c.is_some.ensures in (
      slice_get-Contains (names_of s) c.in-Some.low c.args.low.now c.in-Some.ensures,
      slice_get-Contains (names_of s) c.in-Some-place_of.high c.args.high.now c.in-Some-place_of.ensures,
      pair_there s c.keeps_limits.ensures.valid c.args.low.now c.args.high.now c.in-Some.low c.in-Some-place_of.high c.in-Some.ensures c.in-Some-place_of.ensures (told.0 c.if-is_some.true),
    )

pub returns-then-pair_count-ge-MOST_PAIRS-clause-refused : goal.returns-then-pair_count-ge-MOST_PAIRS-clause-refused
returns-then-pair_count-ge-MOST_PAIRS-clause-refused c =
    let s = c.args.self.now in
    let told = index_told (places_of s) (c.in-Some.low, c.in-Some-place_of.high) c.pair_index.result c.pair_index.ensures c.is_some.result c.is_some.ensures in (
      slice_get-Contains (names_of s) c.in-Some.low c.args.low.now c.in-Some.ensures,
      slice_get-Contains (names_of s) c.in-Some-place_of.high c.args.high.now c.in-Some-place_of.ensures,
      λ there. true≢false (sym (told.1 (places_there s c.args.low.now c.args.high.now c.in-Some.low c.in-Some-place_of.high c.in-Some.ensures c.in-Some-place_of.ensures there)) ∙ c.if-is_some.false),
      omega (arith, c.pair_count.ensures.count, c.if-pair_count-ge-MOST_PAIRS.true),
    )

pub returns-clause-accepted : goal.returns-clause-accepted
returns-clause-accepted c =
    let s = c.args.self.now in
    let told = index_told (places_of s) (c.in-Some.low, c.in-Some-place_of.high) c.pair_index.result c.pair_index.ensures c.is_some.result c.is_some.ensures in (
      slice_get-Contains (names_of s) c.in-Some.low c.args.low.now c.in-Some.ensures,
      slice_get-Contains (names_of s) c.in-Some-place_of.high c.args.high.now c.in-Some-place_of.ensures,
      λ there. true≢false (sym (told.1 (places_there s c.args.low.now c.args.high.now c.in-Some.low c.in-Some-place_of.high c.in-Some.ensures c.in-Some-place_of.ensures there)) ∙ c.if-is_some.false),
      omega (arith, c.pair_count.ensures.count, c.if-pair_count-ge-MOST_PAIRS.false),
    )
