use Rattle.std.proofs.Common.{◌≡◌, ◌<◌, ◌+◌, ℕ, List, [], length, slice_index, arith, ap, sym, subst}
use Rattle.std.proofs.lemmas.List.{length-map, length-set, length-replicate}
use Rattle.ofit_order.specs.Rows.{rows_of, ArePartsBelow}
use Rattle.ofit_order.proofs.Linking.{length-rows_of}
use Rattle.ofit_order.proofs.Parting.{ArePartsBelow-none, ArePartsBelow-more}
use Rattle.ofit_order.proofs.members.members_of.Goals as goal

pub loop-place-init : goal.loop-place-init
loop-place-init c =
    let empty = c.in_ok-rows.ensures in
    let all = length-rows_of c.in_ok-rows.rows.items in
    let many = length-replicate {A = List ℕ} c.args.count [] in
    let e = ap length empty in
    record {
      counted = omega arith;
      parts = subst (ArePartsBelow 0 c.args.components.now) (sym empty) (ArePartsBelow-none c.args.components.now c.args.count);
    }

pub loop-place-preserved : goal.loop-place-preserved
loop-place-preserved c =
    let place = c.loop-place.place in
    let rows = rows_of c.loop-place.rows.items in
    let numbers = c.args.components.now in
    let all = length-rows_of c.loop-place.rows.items in
    let lt : place < length numbers = omega arith in
    let number = c.requires.counted place 0 lt in
    let inside : slice_index numbers place < length rows = omega arith in
    let put_is = c.in_ok-put.ensures in
    let long = simp (length-map, length-set) at (ap length put_is) in
    record {
      counted = omega arith;
      parts = subst (ArePartsBelow (place + 1) numbers) (sym put_is) (ArePartsBelow-more place numbers rows inside c.loop-place.invariant.parts);
    }

pub returns-clause-parts : goal.returns-clause-parts
returns-clause-parts c =
    let end : c.loop-place.place ≡ c.args.places = omega arith in
    subst (λ (t : ℕ). ArePartsBelow t c.args.components.now (rows_of c.loop-place.rows.items)) end c.loop-place.invariant.parts
