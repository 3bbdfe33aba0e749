use Rattle.std.proofs.Common.{◌≡◌, ◌<◌, ℕ, Bool, true, false, [], ◌∷◌, ◌++◌, set, get_or, length, slice_index, arith, ap, sym, subst, ◌∙◌, List, Vec, Global}
use Rattle.std.proofs.lemmas.List.{take_all, take_more, get_or_read}
use Rattle.ofit_order.specs.Search.{Visits}
use Rattle.ofit_order.proofs.Seeing.{Visits-new, Visits-seen}
use Rattle.ofit_order.proofs.search.visit.Goals as goal
use Rattle.ofit_order.proofs.search.visit.Goals.{then-not-index+in_ok-push, else-not-index}

pub loop-place-preserved : goal.loop-place-preserved
loop-place-preserved c =
    let at = c.loop-place.place-index in
    let lt = c.loop-place-test.true in
    let place = slice_index c.args.neighbours.now at in
    let given = c.requires at 0 lt in
    let as_long = c.loop-place.invariant.as_long in
    let within : place < length c.loop-place.seen.items = omega arith in
    let read = get_or_read c.loop-place.seen.items place c.index.result.now within c.index.ensures false in
    elim c.if-not-index.branch [
      | then-not-index+in_ok-push w ↦
          let unseen : get_or c.loop-place.seen.items place false ≡ false = sym read ∙ w.if-not-index.true in
          let seen_is : c.if-not-index.seen.items ≡ set c.loop-place.seen.items place true = ap (λ (v : Vec Bool Global). v.items) w.seen-is in
          let found_is : c.if-not-index.found.items ≡ c.loop-place.found.items ++ place ∷ [] = ap (λ (v : Vec ℕ Global). v.items) w.found-is ∙ w.in_ok-push.ensures.items in
          rw (take_more c.args.neighbours.now at 0 lt, seen_is, found_is)
          (Visits-new _ c.args.found.now.items c.loop-place.found.items c.args.seen.now.items c.loop-place.seen.items place c.loop-place.invariant within unseen)
      | else-not-index w ↦
          let seen_here : get_or c.loop-place.seen.items place false ≡ true = sym read ∙ w.if-not-index.false in
          let seen_is : c.if-not-index.seen.items ≡ c.loop-place.seen.items = ap (λ (v : Vec Bool Global). v.items) w.seen-is in
          let found_is : c.if-not-index.found.items ≡ c.loop-place.found.items = ap (λ (v : Vec ℕ Global). v.items) w.found-is in
          rw (take_more c.args.neighbours.now at 0 lt, seen_is, found_is)
          (Visits-seen _ c.args.found.now.items c.loop-place.found.items c.args.seen.now.items c.loop-place.seen.items place c.loop-place.invariant seen_here)
    ]

pub returns : goal.returns
returns c =
    subst (λ (ns : List ℕ). Visits ns c.args.found.now.items c.loop-place.found.items c.args.seen.now.items c.loop-place.seen.items)
    (take_all c.loop-place.place-index c.args.neighbours.now (omega (arith, c.loop-place-test.false))) c.loop-place.invariant
