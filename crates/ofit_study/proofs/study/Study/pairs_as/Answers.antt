use Rattle.std.proofs.Common.{ℕ, List, ap₂}
use Rattle.ofit_study.specs.Study.{names_of}
use Rattle.ofit_study.proofs.Relating.{ends_inside, named_known_at, named_more}
use Rattle.ofit_study.proofs.study.Study.pairs_as.Goals as goal

pub place_as-requires-clause-place : goal.place_as-requires-clause-place
place_as-requires-clause-place c = (ends_inside c.args.of.now c.keeps_limits.ensures.valid c.loop-index.index c.pair_at-low.result c.pair_at-low.ensures).0

pub place_as-requires-in-loop-index-clause-place : goal.place_as-requires-in-loop-index-clause-place
place_as-requires-in-loop-index-clause-place c = (ends_inside c.args.of.now c.keeps_limits.ensures.valid c.loop-index.index c.pair_at-low.result c.pair_at-low.ensures).1

pub place_as-requires-clause-known : goal.place_as-requires-clause-known
place_as-requires-clause-known c = (named_known_at c.args.of.now c.keeps_limits.ensures.valid (names_of c.args.self.now) c.requires c.loop-index.index c.pair_at-low.result c.pair_at-low.ensures).0

pub place_as-requires-in-loop-index-clause-known : goal.place_as-requires-in-loop-index-clause-known
place_as-requires-in-loop-index-clause-known c = (named_known_at c.args.of.now c.keeps_limits.ensures.valid (names_of c.args.self.now) c.requires c.loop-index.index c.pair_at-low.result c.pair_at-low.ensures).1

pub loop-index-preserved : goal.loop-index-preserved
loop-index-preserved c =
    named_more c.args.of.now c.keeps_limits.ensures.valid (names_of c.args.self.now) c.loop-index.pairs.items c.push.new.self.items c.loop-index.index c.pair_at-low.result (c.place_as.result, c.place_as-in-loop-index.result) c.pair_at-low.ensures
    (ap₂ (λ (a b : List ℕ). (a, b)) c.place_as.ensures.same c.place_as-in-loop-index.ensures.same) c.place_as.ensures.inside c.place_as-in-loop-index.ensures.inside c.in_ok-push.ensures.items c.loop-index.invariant
