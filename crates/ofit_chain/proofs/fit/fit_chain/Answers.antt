use Rattle.std.proofs.Common.{arith, ◌≡◌, ◌<◌, length, take, subst, sym}
use Rattle.std.proofs.lemmas.List.{take_all}
use Rattle.ofit_num.specs.Groups.{RowLists}
use Rattle.ofit_num.proofs.Lists.{All-slice_get}
use Rattle.ofit_chain.specs.Stacked.{IsStack}
use Rattle.ofit_chain.proofs.Stacks.{take_next, next_fittable}
use Rattle.ofit_chain.proofs.fit.fit_chain.Goals as goal

pub push-requires : goal.push-requires
push-requires g c = record {
  groups = take c.loop-place.place c.args.groups.now;
  stack = c.loop-place.invariant;
  some = All-slice_get (λ rows. 0 < length rows) c.args.groups.now c.loop-place.place _ c.requires.filled c.rows.ensures;
  fittable = next_fittable c.args.groups.now c.loop-place.place c.rows.result.now c.rows.ensures c.requires.fittable;
}

pub loop-place-preserved : goal.loop-place-preserved
loop-place-preserved g c = subst (λ (gs : RowLists). IsStack g.L.Loss.IsPoolOf g.L.Loss.meaning g.L.Loss.STRICT gs c.push.new.self.blocks.items) (sym (take_next c.args.groups.now c.loop-place.place c.rows.result.now c.rows.ensures))
    (c.in_ok-push.ensures.ok (take c.loop-place.place c.args.groups.now) c.loop-place.invariant (next_fittable c.args.groups.now c.loop-place.place c.rows.result.now c.rows.ensures c.requires.fittable))

pub returns : goal.returns
returns g c =
    let all : take c.loop-place.place c.args.groups.now ≡ c.args.groups.now = take_all c.loop-place.place c.args.groups.now (omega arith) in
    let holds = subst (λ (gs : RowLists). IsStack g.L.Loss.IsPoolOf g.L.Loss.meaning g.L.Loss.STRICT gs c.loop-place.stack.blocks.items) all c.loop-place.invariant in
    record {
      count = c.values.ensures.count c.args.groups.now holds;
      least_best = c.values.ensures.least_best c.args.groups.now holds;
      settled = c.values.ensures.settled c.args.groups.now holds;
      least_settled = c.values.ensures.least_settled c.args.groups.now holds;
    }
