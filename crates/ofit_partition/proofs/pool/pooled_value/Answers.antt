use Rattle.std.proofs.Common.{◌<◌, sym, subst, ◌∙◌, List, length}
use Rattle.ofit_num.specs.declared.row.Row.{Row}
use Rattle.ofit_loss.specs.Rows.{AreFittable}
use Rattle.std.specs.List.{flat_map}
use Rattle.ofit_partition.specs.Piece.{rows_of}
use Rattle.ofit_partition.proofs.Pools.{rows_fit, rows_some, pooled_places}
use Rattle.ofit_partition.proofs.pool.pooled_value.Goals as goal

pub pool_of-requires : goal.pool_of-requires
pool_of-requires g c = subst AreFittable (sym (c.deref.ensures.value ∙ c.in_ok-rows.ensures)) (rows_fit c.args.groups.now c.requires.fittable c.args.places.now c.requires.rising c.requires.below)

pub least-requires : goal.least-requires
least-requires g c = record {
  rows = c.deref.result.now;
  pooled = c.in_ok-pool.ensures;
  fittable = subst AreFittable (sym (c.deref.ensures.value ∙ c.in_ok-rows.ensures)) (rows_fit c.args.groups.now c.requires.fittable c.args.places.now c.requires.rising c.requires.below);
  some = subst (λ (rows : List Row). 0 < length rows) (sym (c.deref.ensures.value ∙ c.in_ok-rows.ensures)) (rows_some c.args.groups.now c.args.places.now c.requires.plain c.requires.below c.requires.some);
}

pub returns : goal.returns
returns g c = λ pairs. pooled_places g.L.Loss.meaning g.L.Loss.STRICT g.met.L.Loss.laws c.args.groups.now pairs c.args.places.now c.least.result c.requires.fittable c.requires.rising c.requires.below
    (c.least.ensures.minimiser _ pooled fits some) (c.least.ensures.balances _ pooled fits some) where
      pooled : g.L.Loss.IsPoolOf c.in_ok-pool.pool (flat_map (rows_of c.args.groups.now) c.args.places.now)
      pooled = subst (g.L.Loss.IsPoolOf c.in_ok-pool.pool) (c.deref.ensures.value ∙ c.in_ok-rows.ensures) c.in_ok-pool.ensures

      fits : AreFittable (flat_map (rows_of c.args.groups.now) c.args.places.now)
      fits = rows_fit c.args.groups.now c.requires.fittable c.args.places.now c.requires.rising c.requires.below

      some : 0 < length (flat_map (rows_of c.args.groups.now) c.args.places.now)
      some = rows_some c.args.groups.now c.args.places.now c.requires.plain c.requires.below c.requires.some
