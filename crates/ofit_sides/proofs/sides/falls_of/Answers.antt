use Rattle.std.proofs.Common.{◌≡◌, ◌∙◌, ◌<◌, ◌+◌, ◌-◌, ℕ, [], List, length, sym, ap, subst, arith, get_or}
use Rattle.std.proofs.lemmas.List.{length-reverse, length_push, get_or_read}
use Rattle.std.specs.Prelude.{All, ℤ, reverse}
use Rattle.ofit_num.specs.Groups.{RowLists}
use Rattle.ofit_num.specs.RowTotals.{all_rows}
use Rattle.ofit_loss.specs.Rows.{AreFittable}
use Rattle.ofit_chain.specs.Chain.{chain_problem}
use Rattle.ofit_span.proofs.Fittable.{all_fittable}
use Rattle.ofit_study.specs.Study.{groups_of}
use Rattle.ofit_study.proofs.Places.{group_count}
use Rattle.ofit_study.proofs.Stating.{groups_filled}
use Rattle.ofit_sides.specs.FirstFit.{rows_at}
use Rattle.ofit_sides.specs.Sides.{IsFall, AreRises}
use Rattle.ofit_sides.specs.Turned.{IsTurned}
use Rattle.ofit_sides.proofs.FirstRows.{reversed_fittable, reversed_filled}
use Rattle.ofit_sides.proofs.Making.{sides_more, one_fall}
use Rattle.ofit_sides.proofs.sides.falls_of.Goals as goal

pub rises_along-requires-clause-few : goal.rises_along-requires-clause-few
rises_along-requires-clause-few c = omega (arith, ap (λ (gs : RowLists). length gs) c.in_ok-groups.ensures, length-reverse (groups_of c.args.study.now), group_count c.args.study.now, c.requires)

pub rises_along-requires-clause-filled : goal.rises_along-requires-clause-filled
rises_along-requires-clause-filled c = subst (All (λ rows. 0 < length rows)) (sym c.in_ok-groups.ensures) (reversed_filled (groups_of c.args.study.now) (groups_filled c.args.study.now))

pub rises_along-requires-clause-fittable : goal.rises_along-requires-clause-fittable
rises_along-requires-clause-fittable c =
    subst (λ (gs : RowLists). AreFittable (all_rows gs)) (sym c.in_ok-groups.ensures) (reversed_fittable (groups_of c.args.study.now) (all_fittable c.args.study.now c.keeps_limits.ensures.valid))

pub loop-place-preserved : goal.loop-place-preserved
loop-place-preserved c =
    let study = c.args.study.now in
    let gs = groups_of study in
    let m = c.group_count-count.result in
    let k = c.loop-place.place in
    let side = c.in_ok-turned.field-0 in
    let items = c.in_ok-rises.rises.items in
    let same : length gs ≡ m = omega (arith, group_count study, c.group_count-count.ensures.count) in
    let rises : AreRises (chain_problem (reverse gs)) items = subst (λ (g : RowLists). AreRises (chain_problem g) items) c.in_ok-groups.ensures c.in_ok-rises.ensures in
    let inside : m - k - 1 < length items = omega (arith, c.loop-place-test.true, rises.count, length-reverse gs, same) in
    let at : c.index.result.now ≡ get_or items (length gs - k - 1) [] = get_or_read items (m - k - 1) c.index.result.now inside c.index.ensures [] ∙ ap (λ (n : ℕ). get_or items (n - k - 1) []) (sym same) in
    let turned : IsTurned side (get_or items (length gs - k - 1) []) = subst (IsTurned side) at c.in_ok-turned.ensures in
    let fall : IsFall (λ j. rows_at gs (k + j)) (length gs - k) side = one_fall gs items rises k (omega (arith, c.loop-place-test.true, same)) side turned (length-reverse gs) in
    let here : IsFall (λ j. rows_at gs (k + j)) (m - k) side = subst (λ (n : ℕ). IsFall (λ j. rows_at gs (k + j)) (n - k) side) same fall in
    record {
      count = omega (arith, ap (λ (sides : List (List (ℤ × ℤ))). length sides) c.in_ok-push.ensures.items, length_push c.loop-place.falls.items side, c.loop-place.invariant.count);
      each = subst (λ (sides : List (List (ℤ × ℤ))). (i : ℕ) → i < k + 1 → IsFall (λ j. rows_at gs (i + j)) (m - i) (get_or sides i [])) (sym c.in_ok-push.ensures.items)
          (sides_more (λ i x. IsFall (λ j. rows_at gs (i + j)) (m - i) x) c.loop-place.falls.items side k c.loop-place.invariant.count c.loop-place.invariant.each here);
    }
