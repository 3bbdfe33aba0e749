use Rattle.std.proofs.Common.{◌≡◌, ◌<◌, ℕ, Bool, false, List, get_or, length, slice_index, arith, ap, sym, subst, ◌∙◌, Vec, Global}
use Rattle.std.proofs.lemmas.List.{get_or_read, with_items_is}
use Rattle.std.proofs.lemmas.Bool.{false≢true}
use Rattle.std.specs.List.{Contains}
use Rattle.ofit_order.specs.Rows.{rows_of}
use Rattle.ofit_order.specs.Search.{IsSeen}
use Rattle.ofit_order.proofs.Linking.{length-rows_of}
use Rattle.ofit_order.proofs.Seeing.{AreMarked}
use Rattle.ofit_order.proofs.Counting.{IsNumberedBelow, IsNumberedBelow-none, IsNumberedBelow-seen, IsNumberedBelow-new, IsNumberedBelow-all, none_seen, reached_inside}
use Rattle.std.proofs.lemmas.List.Elements.{Contains-get_or}
use Rattle.ofit_order.proofs.search.number_components.Goals as goal
use Rattle.ofit_order.proofs.search.number_components.Goals.{then-not-index+in_ok-found, else-not-index}

pub loop-start-init : goal.loop-start-init
loop-start-init c =
    let all = length-rows_of c.args.rows.now in
    let len = c.in_ok-components.ensures.len in
    let len' = c.in_ok-seen.ensures.len in
    let is = c.in_ok-seen.ensures.items_if_clones_equal (λ y e. e) in
    IsNumberedBelow-none (rows_of c.args.rows.now) _ _ (omega arith) (omega arith) (λ p h. none_seen c.args.places p (subst (λ (t : List Bool). IsSeen t p) is h))

pub loop-start-preserved : goal.loop-start-preserved
loop-start-preserved c =
    let rows = rows_of c.args.rows.now in
    let all = length-rows_of c.args.rows.now in
    let start = c.loop-start.start in
    let before = c.loop-start.seen.items in
    let lt = c.loop-start-test.true in
    let n = c.loop-start.invariant in
    let seen_long = n.seen_long in
    let comps_long = n.as_long in
    let within : start < length before = omega arith in
    let read = get_or_read before start c.index.result.now within c.index.ensures false in
    elim c.if-not-index.branch [
      | then-not-index+in_ok-found w ↦
          let unseen : IsSeen before start → ⊥ = λ h. false≢true (sym (sym read ∙ w.if-not-index.true) ∙ h) in
          let comps = c.loop-start.components.items in
          let marked = w.mark.new.components in
          let found = w.in_ok-found.found.items in
          let found_is = w.as_slice.ensures.value in
          let comps_is = w.as_mut_slice.ensures.value in
          let kept_long = w.mark.auto.components in
          let was_long = w.as_mut_slice.ensures.len in
          let marked_long : length marked ≡ length comps = omega (arith, ap length comps_is) in
          let seen_now : c.if-not-index.seen.items ≡ w.reach.new.seen.items = ap (λ (v : Vec Bool Global). v.items) w.seen-is in
          let comps_now : c.if-not-index.components.items ≡ marked =
          ap (λ (v : Vec ℕ Global). v.items) w.components-is ∙ with_items_is c.loop-start.components marked (omega arith) in
          let m : AreMarked comps marked found c.loop-start.count = record {
            marked = λ p h. w.mark.ensures.marked p (subst (λ (t : List ℕ). Contains t p) (sym found_is) h);
            others = λ p h. w.mark.ensures.others p (λ k. h (subst (λ (t : List ℕ). Contains t p) found_is k)) ∙ ap (λ (t : List ℕ). slice_index t p) comps_is;
          } in
          let lt_rows : start < length rows = omega arith in
          rw (seen_now, comps_now, w.count-is)
          (IsNumberedBelow-new rows start comps marked c.loop-start.count before w.reach.new.seen.items found c.requires.both_ways lt_rows n unseen w.in_ok-found.ensures m marked_long)
      | else-not-index w ↦
          let seen_here : IsSeen before start = sym read ∙ w.if-not-index.false in
          let seen_is : c.if-not-index.seen.items ≡ before = ap (λ (v : Vec Bool Global). v.items) w.seen-is in
          let comps_is : c.if-not-index.components.items ≡ c.loop-start.components.items = ap (λ (v : Vec ℕ Global). v.items) w.components-is in
          rw (seen_is, comps_is, w.count-is) (IsNumberedBelow-seen rows start c.loop-start.components.items c.loop-start.count before c.requires.both_ways n seen_here)
    ]

pub mark-requires : goal.mark-requires
mark-requires c =
    let rows = rows_of c.args.rows.now in
    let all = length-rows_of c.args.rows.now in
    let n = c.loop-start.invariant in
    let comps_long = n.as_long in
    let lt_rows : c.loop-start.start < length rows = omega arith in
    let mut_long = c.as_mut_slice.ensures.len in
    let comps_is = ap length c.as_mut_slice.ensures.value in
    λ k d l.
    let in_found = subst (λ (t : List ℕ). Contains t (get_or c.as_slice.result.now k d)) c.as_slice.ensures.value (Contains-get_or c.as_slice.result.now k d l) in
    let inside = reached_inside rows c.requires.both_ways c.loop-start.start _ lt_rows ((c.in_ok-found.ensures.exact _).0 in_found) in
    omega arith

pub returns : goal.returns
returns c =
    let all = length-rows_of c.args.rows.now in
    let end : c.loop-start.start ≡ length (rows_of c.args.rows.now) = omega arith in
    IsNumberedBelow-all (rows_of c.args.rows.now) c.loop-start.components.items c.loop-start.count c.loop-start.seen.items
    (subst (λ (t : ℕ). IsNumberedBelow (rows_of c.args.rows.now) t c.loop-start.components.items c.loop-start.count c.loop-start.seen.items) end c.loop-start.invariant)
