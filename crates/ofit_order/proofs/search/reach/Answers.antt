use Rattle.std.proofs.Common.{◌≡◌, ◌<◌, ℕ, List, [], ◌∷◌, ◌++◌, length, slice_index, get_or, arith, ap, sym, subst, ◌∙◌}
use Rattle.std.specs.List.{Contains}
use Rattle.std.proofs.lemmas.List.{get_or_read}
use Rattle.std.proofs.lemmas.List.Elements.{Contains-get_or}
use Rattle.ofit_order.specs.Rows.{rows_of, row, HasNeighbour}
use Rattle.ofit_order.specs.Search.{Visits}
use Rattle.ofit_order.proofs.Linking.{length-rows_of, row_read}
use Rattle.ofit_order.proofs.Seeing.{IsUnderway, IsUnderway-start, IsUnderway-more, IsUnderway-all}
use Rattle.ofit_order.proofs.search.reach.Goals as goal

pub loop-done-init : goal.loop-done-init
loop-done-init c =
    let only : c.push.new.self.items ≡ c.args.start ∷ [] =
    c.in_ok-push.ensures.items ∙ ap (λ (t : List ℕ). t ++ c.args.start ∷ []) c.new-found.ensures.items in
    let rows = length-rows_of c.args.rows.now in
    rw only (IsUnderway-start (rows_of c.args.rows.now) c.args.start c.args.seen.now.items (omega arith) (omega arith) c.requires.unseen)

pub visit-requires : goal.visit-requires
visit-requires c =
    let found = c.loop-done.found.items in
    let lt : c.loop-done.done < length found = omega arith in
    let rows = c.args.rows.now in
    let as_long = length-rows_of rows in
    let place = c.index-place.result.now in
    let is = get_or_read found c.loop-done.done place lt c.index-place.ensures 0 in
    let known = c.loop-done.invariant.within c.loop-done.done 0 lt in
    let inside : place < length rows = omega arith in
    let read : row (rows_of rows) place ≡ c.as_slice.result.now = row_read rows place c.index-rows-place.result inside c.index-rows-place.is ∙ sym c.as_slice.ensures.value in
    λ k d l.
    let has : HasNeighbour (rows_of rows) place (get_or c.as_slice.result.now k d) =
    subst (λ (t : List ℕ). Contains t (get_or c.as_slice.result.now k d)) (sym read) (Contains-get_or c.as_slice.result.now k d l) in
    let below = c.requires.both_ways.inside place _ has in
    let same = c.loop-done.invariant.as_long in
    omega arith

pub loop-done-preserved : goal.loop-done-preserved
loop-done-preserved c =
    let found = c.loop-done.found.items in
    let lt : c.loop-done.done < length found = omega arith in
    let rows = c.args.rows.now in
    let as_long = length-rows_of rows in
    let place = c.index-place.result.now in
    let is = get_or_read found c.loop-done.done place lt c.index-place.ensures 0 in
    let known = c.loop-done.invariant.within c.loop-done.done 0 lt in
    let inside : place < length rows = omega arith in
    let read : row (rows_of rows) place ≡ c.as_slice.result.now = row_read rows place c.index-rows-place.result inside c.index-rows-place.is ∙ sym c.as_slice.ensures.value in
    let read_at : c.as_slice.result.now ≡ row (rows_of rows) (slice_index found c.loop-done.done) = sym read ∙ ap (row (rows_of rows)) is in
    IsUnderway-more (rows_of rows) c.args.start found c.visit.new.found.items c.args.seen.now.items c.loop-done.seen.items c.visit.new.seen.items c.loop-done.done c.requires.both_ways lt c.loop-done.invariant
    (subst (λ (t : List ℕ). Visits t found c.visit.new.found.items c.loop-done.seen.items c.visit.new.seen.items) read_at c.in_ok-visit.ensures)

pub returns : goal.returns
returns c =
    let found = c.loop-done.found.items in
    let some = c.loop-done.invariant.some in
    let all : c.loop-done.done ≡ length found = omega arith in
    IsUnderway-all (rows_of c.args.rows.now) c.args.start found c.args.seen.now.items c.loop-done.seen.items c.requires.both_ways c.requires.closed
    (subst (IsUnderway (rows_of c.args.rows.now) c.args.start found c.args.seen.now.items c.loop-done.seen.items) all c.loop-done.invariant)
