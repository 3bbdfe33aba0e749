use Rattle.std.proofs.Common.{◌≡◌, ℕ, List, [], ◌∷◌, ◌++◌, length, get_or, ap, ◌∙◌, arith, refl, Vec, Global}
use Rattle.std.proofs.lemmas.List.{length-map, length-set}
use Rattle.ofit_study.specs.Ends.{lists_of}
use Rattle.ofit_study.proofs.EndLists.{with_index, put-equal, put-both}
use Rattle.ofit_study.proofs.ends.indexes_by_end.Goals as goal
use Rattle.ofit_study.proofs.ends.indexes_by_end.Goals.{then-low-high+in_ok-put-2, else-low-high}

counted : (lists : List (Vec ℕ Global)) → length (lists_of lists) ≡ length lists
counted lists = length-map lists (λ list. list.items)

pub loop-index-preserved : goal.loop-index-preserved
loop-index-preserved c =
    let pairs = c.args.pairs.now in
    let k = c.loop-index.index in
    let e = get_or pairs k (0, 0) in
    let before = lists_of c.loop-index.lists.items in
    let ends = c.requires.within k (0, 0) c.loop-index-test.true in
    let first : lists_of c.put.new.lists.items ≡ with_index before e.0 k = c.in_ok-put.ensures in
    let known = c.loop-index.invariant.counted in
    let long : length c.put.new.lists.items ≡ c.args.count = omega (arith, counted c.put.new.lists.items, ap length first, length-set before e.0 (get_or before e.0 [] ++ k ∷ []), counted c.loop-index.lists.items, known) in
    elim c.if-low-high.branch [
      | then-low-high+in_ok-put-2 w ↦ (
          let middle = lists_of c.put.new.lists.items in
          let second : lists_of w.put-then-low-high.new.lists.items ≡ with_index middle e.1 k = w.in_ok-put-2.ensures in
          let after : lists_of w.put-then-low-high.new.lists.items ≡ with_index (with_index before e.0 k) e.1 k = second ∙ ap (λ (t : List (List ℕ)). with_index t e.1 k) first in
          rw w.lists-is (record {
            counted = omega (arith, counted w.put-then-low-high.new.lists.items, ap length second, length-set middle e.1 (get_or middle e.1 [] ++ k ∷ []), counted c.put.new.lists.items, long);
            each = λ g. ap (λ (t : List (List ℕ)). get_or t g []) after ∙ put-both pairs before k e.0 e.1 (omega (arith, counted c.loop-index.lists.items, known, ends.0)) (omega (arith, counted c.loop-index.lists.items, length-set before e.0 (get_or before e.0 [] ++ k ∷ []), known, ends.1)) w.if-low-high.true refl c.loop-index.invariant.each g;
          }))
      | else-low-high w ↦ rw w.lists-is (record {
        counted = long;
        each = λ g. ap (λ (t : List (List ℕ)). get_or t g []) first ∙ put-equal pairs before k e.0 e.1 (omega (arith, counted c.loop-index.lists.items, known, ends.0)) w.if-low-high.false refl c.loop-index.invariant.each g;
      })
    ]
