use Rattle.std.proofs.Common.{length, arith, ap}
use Rattle.std.proofs.lemmas.List.{length-map, length-set}
use Rattle.ofit_order.proofs.Linking.{AreNeighbours-more, length-rows_of}
use Rattle.ofit_order.specs.Rows.{rows_of}
use Rattle.ofit_order.proofs.neighbours.neighbours_of.Goals as goal

pub put-requires-in-loop-low : goal.put-requires-in-loop-low
put-requires-in-loop-low c =
    let ends = c.requires c.loop-low.low-index (0, 0) c.loop-low-test.true in
    let counted = simp (length-map, length-set) at (ap length c.in_ok-put.ensures) in
    omega (arith, ends.1, counted, c.loop-low.invariant.counted)

pub loop-low-preserved : goal.loop-low-preserved
loop-low-preserved c =
    let e = c.in_ok-put.ensures in
    let f = c.in_ok-put-2.ensures in
    let lt = c.loop-low-test.true in
    let ends = c.requires c.loop-low.low-index (0, 0) lt in
    let rows = c.loop-low.rows.items in
    let counted = simp (length-map, length-set) at (ap length e) in
    let counted' = simp (length-map, length-set) at (ap length f) in
    let before = length-rows_of rows in
    record {
      counted = omega arith;
      exact = AreNeighbours-more c.args.pairs.now c.loop-low.low-index (0, 0) (rows_of rows) _ _ lt (omega arith) (omega arith) e f c.loop-low.invariant.exact;
    }
