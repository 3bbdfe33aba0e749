use Rattle.std.proofs.Common.{◌<◌, length, take, subst, sym}
use Rattle.ofit_num.specs.Groups.{RowLists}
use Rattle.ofit_num.proofs.Lists.{All-slice_get}
use Rattle.ofit_chain.specs.Stacked.{IsStack}
use Rattle.ofit_chain.proofs.Stacks.{take_next, next_fittable}
use Rattle.ofit_tests.proofs.chains.values_after_each.Goals as goal

pub push-requires : goal.push-requires
push-requires g c = record {
  groups = take c.loop-place.place c.args.groups.now;
  stack = c.loop-place.invariant;
  some = All-slice_get (λ rows. 0 < length rows) c.args.groups.now c.loop-place.place _ c.requires.filled c.rows.ensures;
  fittable = next_fittable c.args.groups.now c.loop-place.place c.rows.result.now c.rows.ensures c.requires.fittable;
}

pub loop-place-preserved : goal.loop-place-preserved
loop-place-preserved g c = subst (λ (gs : RowLists). IsStack g.L.Loss.IsPoolOf g.L.Loss.meaning g.L.Loss.STRICT gs c.push.new.self.blocks.items) (sym (take_next c.args.groups.now c.loop-place.place c.rows.result.now c.rows.ensures))
    (c.in_ok-push.ensures.ok (take c.loop-place.place c.args.groups.now) c.loop-place.invariant (next_fittable c.args.groups.now c.loop-place.place c.rows.result.now c.rows.ensures c.requires.fittable))
