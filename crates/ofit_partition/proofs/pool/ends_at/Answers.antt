use Rattle.std.proofs.Common.{rules, ◌≡◌, sym, ap, ◌∙◌, List, [], ◌∷◌, ◌++◌}
use Rattle.std.specs.Prelude.{unwrap_or}
use Rattle.ofit_num.specs.declared.row.Row.{Row}
use Rattle.ofit_loss.proofs.ProblemLaws.{group_fittable}
use Rattle.ofit_partition.specs.Piece.{rows_of}
use Rattle.ofit_partition.proofs.Pools.{push_more}
use Rattle.ofit_partition.proofs.pool.ends_at.Goals as goal

pub span-low-requires : goal.span-low-requires
span-low-requires g c = group_fittable c.args.groups.now _ _ c.rows.ensures c.requires.fittable

pub loop-place-preserved : goal.loop-place-preserved
loop-place-preserved g c =
    let low : c.push.new.self.items ≡ c.loop-place.least.items ++ c.span-low.result.0 ∷ [] = search rules in
    let high : c.push-in-loop-place.new.self.items ≡ c.loop-place.greatest.items ++ c.span-low.result.1 ∷ [] = search rules in (
      push_more (λ x. g.L.Loss.meaning.least (rows_of c.args.groups.now x) c.args.value.now.num c.args.value.now.den) c.args.places.now c.loop-place.place-index c.loop-place.least.items _ c.span-low.result.0 c.loop-place-test.true c.loop-place.invariant.0 low
          (c.span-low.ensures.least ∙ ap (λ (rows : List Row). g.L.Loss.meaning.least rows c.args.value.now.num c.args.value.now.den) (sym (ap (λ o. unwrap_or o []) c.rows.ensures))),
      push_more (λ x. g.L.Loss.meaning.greatest (rows_of c.args.groups.now x) c.args.value.now.num c.args.value.now.den) c.args.places.now c.loop-place.place-index c.loop-place.greatest.items _ c.span-low.result.1 c.loop-place-test.true c.loop-place.invariant.1 high
          (c.span-low.ensures.greatest ∙ ap (λ (rows : List Row). g.L.Loss.meaning.greatest rows c.args.value.now.num c.args.value.now.den) (sym (ap (λ o. unwrap_or o []) c.rows.ensures))),
    )
