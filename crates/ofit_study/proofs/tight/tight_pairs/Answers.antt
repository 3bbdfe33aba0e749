use Rattle.std.proofs.Common.{◌∙◌, ℕ, ◌<◌, List, ◌∷◌, ◌++◌, [], length, sym, ap, arith, Vec, Global}
use Rattle.std.proofs.lemmas.Option.{get_or_from_slice_get}
use Rattle.ofit_study.specs.Study.{places_of}
use Rattle.ofit_num.specs.Tight.{is_tight}
use Rattle.ofit_num.proofs.Lists.{filter_kept, filter_left}
use Rattle.ofit_study.proofs.Places.{pair_inside, pair_count}
use Rattle.ofit_study.proofs.tight.tight_pairs.Goals as goal
use Rattle.ofit_study.proofs.tight.tight_pairs.Goals.{then-is_tight+in_ok-push, else-is_tight}

pub is_tight-requires-clause-low : goal.is_tight-requires-clause-low
is_tight-requires-clause-low c = omega (arith, (pair_inside c.args.study.now c.keeps_limits.ensures.valid c.loop-index.index c.pair_at-pair.result c.pair_at-pair.ensures).0)

pub is_tight-requires-clause-high : goal.is_tight-requires-clause-high
is_tight-requires-clause-high c = omega (arith, (pair_inside c.args.study.now c.keeps_limits.ensures.valid c.loop-index.index c.pair_at-pair.result c.pair_at-pair.ensures).1)

pub loop-index-preserved : goal.loop-index-preserved
loop-index-preserved c =
    let pairs = places_of c.args.study.now in
    let i = c.loop-index.index in
    let pair = c.pair_at-pair.result in
    let inside : i < length pairs = omega (arith, pair_count c.args.study.now, c.loop-index-test.true) in
    let at = get_or_from_slice_get pairs i pair pair c.pair_at-pair.ensures in
    elim c.if-is_tight.branch [
      | then-is_tight+in_ok-push w ↦
          ap (λ (v : Vec (ℕ × ℕ) Global). v.items) w.pairs-is ∙ w.in_ok-push.ensures.items
          ∙ ap (λ (es : List (ℕ × ℕ)). es ++ pair ∷ []) c.loop-index.invariant
          ∙ sym (filter_kept (is_tight c.args.values.now) pairs i pair inside at (sym c.is_tight.ensures ∙ w.if-is_tight.true))
      | else-is_tight w ↦
          ap (λ (v : Vec (ℕ × ℕ) Global). v.items) w.pairs-is ∙ c.loop-index.invariant
          ∙ sym (filter_left (is_tight c.args.values.now) pairs i pair inside at (sym c.is_tight.ensures ∙ w.if-is_tight.false))
    ]
