use Rattle.std.proofs.Common.{◌≡◌, ◌<◌, ◌+◌, ℕ, suc, [], ◌∷◌, ◌++◌, List, length, take, subst, sym, ap, arith, refl, false, get_or}
use Rattle.std.proofs.lemmas.List.{length_push}
use Rattle.std.specs.Prelude.{ℤ}
use Rattle.ofit_num.specs.Fraction.{Fraction}
use Rattle.ofit_num.specs.Groups.{RowLists}
use Rattle.ofit_num.specs.Loss.{median}
use Rattle.ofit_num.proofs.Lists.{All-slice_get}
use Rattle.ofit_loss.specs.Quantile.{IsQuantilePool}
use Rattle.ofit_chain.specs.Stacked.{IsStack}
use Rattle.ofit_chain.proofs.Stacks.{take_next, next_fittable}
use Rattle.ofit_sides.specs.FirstFit.{rows_at, IsFirstFit}
use Rattle.ofit_sides.specs.Sides.{IsRise}
use Rattle.ofit_sides.proofs.Making.{first_fit, sides_more, all_rises}
use Rattle.ofit_sides.proofs.Neighbours.{first_count}
use Rattle.ofit_sides.proofs.sides.rises_along.Goals as goal

pub push-requires : goal.push-requires
push-requires c = record {
  groups = take c.loop-place.place c.args.groups.now;
  stack = c.loop-place.invariant.stack;
  some = All-slice_get (λ rows. 0 < length rows) c.args.groups.now c.loop-place.place _ c.requires.filled c.rows.ensures;
  fittable = next_fittable c.args.groups.now c.loop-place.place c.rows.result.now c.rows.ensures c.requires.fittable;
}

pub rise_of-requires-clause-few : goal.rise_of-requires-clause-few
rise_of-requires-clause-few c =
    let gs = c.args.groups.now in
    let k = c.loop-place.place in
    let holds = c.in_ok-push.ensures.ok (take k gs) c.loop-place.invariant.stack (next_fittable gs k c.rows.result.now c.rows.ensures c.requires.fittable) in
    let best = c.in_ok-values.ensures.least_best (take k gs ++ c.rows.result.now ∷ []) holds in
    omega (arith, ap (λ (fs : List Fraction). length fs) c.as_slice.ensures.value, best.count, length_push (take k gs) c.rows.result.now, first_count gs k (omega arith), c.requires.few)

pub rise_of-requires-clause-fit : goal.rise_of-requires-clause-fit
rise_of-requires-clause-fit c =
    let gs = c.args.groups.now in
    let k = c.loop-place.place in
    let holds = c.in_ok-push.ensures.ok (take k gs) c.loop-place.invariant.stack (next_fittable gs k c.rows.result.now c.rows.ensures c.requires.fittable) in
    let firsts = take k gs ++ c.rows.result.now ∷ [] in
    let best = c.in_ok-values.ensures.least_best firsts holds in
    let long : length c.in_ok-values.values.items ≡ k + 1 = omega (arith, best.count, length_push (take k gs) c.rows.result.now, first_count gs k (omega arith)) in
    subst (IsFirstFit gs) (sym c.as_slice.ensures.value)
    (first_fit gs firsts (k + 1) c.in_ok-values.values.items (omega arith) (sym (take_next gs k c.rows.result.now c.rows.ensures)) long best (c.in_ok-values.ensures.least_settled firsts holds refl))

pub loop-place-preserved : goal.loop-place-preserved
loop-place-preserved c =
    let gs = c.args.groups.now in
    let k = c.loop-place.place in
    let fit = next_fittable gs k c.rows.result.now c.rows.ensures c.requires.fittable in
    let best = c.in_ok-values.ensures.least_best (take k gs ++ c.rows.result.now ∷ []) (c.in_ok-push.ensures.ok (take k gs) c.loop-place.invariant.stack fit) in
    let long : length c.as_slice.result.now ≡ suc k = omega (arith, ap (λ (fs : List Fraction). length fs) c.as_slice.ensures.value, best.count, length_push (take k gs) c.rows.result.now, first_count gs k (omega arith)) in
    let side = c.in_ok-rise_of.field-0 in
    let here : IsRise (rows_at gs) (suc k) side = subst (λ (n : ℕ). IsRise (rows_at gs) n side) long c.in_ok-rise_of.ensures in
    record {
      stack = subst (λ (firsts : RowLists). IsStack (IsQuantilePool 1 1) median false firsts c.push.new.self.blocks.items) (sym (take_next gs k c.rows.result.now c.rows.ensures))
          (c.in_ok-push.ensures.ok (take k gs) c.loop-place.invariant.stack fit);
      count = omega (arith, ap (λ (sides : List (List (ℤ × ℤ))). length sides) c.in_ok-push-2.ensures.items, length_push c.loop-place.sides.items side, c.loop-place.invariant.count);
      each = subst (λ (sides : List (List (ℤ × ℤ))). (i : ℕ) → i < k + 1 → IsRise (rows_at gs) (suc i) (get_or sides i [])) (sym c.in_ok-push-2.ensures.items)
          (sides_more (λ i x. IsRise (rows_at gs) (suc i) x) c.loop-place.sides.items side k c.loop-place.invariant.count c.loop-place.invariant.each here);
    }

pub returns : goal.returns
returns c = all_rises c.args.groups.now c.loop-place.sides.items c.loop-place.place (omega arith) c.loop-place.invariant.count c.loop-place.invariant.each
