use Rattle.std.proofs.Common.{◌≡◌, ℕ, List, length, slice_index, Vec, Global, arith, sym, subst, ap, ◌∙◌}
use Rattle.std.proofs.lemmas.List.{get_or_default}
use Rattle.ofit_order.specs.Within.{AreWithin}
use Rattle.ofit_order.specs.Form.{higher_count, lower_count}
use Rattle.ofit_order.specs.Rows.{rows_of, AreNeighbours, ArePartsBelow}
use Rattle.ofit_order.specs.Search.{IsNumbering}
use Rattle.ofit_order.proofs.Linking.{length-rows_of}
use Rattle.ofit_order.proofs.Soundness.{AreWithin-kept, AreMutual-from, IsSound-from}
use Rattle.ofit_order.proofs.build.check_order.Goals as goal

pub neighbours_of-requires : goal.neighbours_of-requires
neighbours_of-requires c =
    subst (λ (t : List (ℕ × ℕ)). AreWithin t c.args.n) (sym c.as_slice.ensures.value)
    (AreWithin-kept c.args.pairs.now c.in_ok-pairs.pairs.items c.args.n c.requires (λ p h. (c.in_ok-pairs.ensures.same p).0 h))

pub number_components-requires-clause-both_ways : goal.number_components-requires-clause-both_ways
number_components-requires-clause-both_ways c =
    let pairs = c.in_ok-pairs.pairs.items in
    let rows = c.in_ok-rows.rows.items in
    let all = length-rows_of rows in
    let long : length (rows_of rows) ≡ c.args.n = omega (arith, c.in_ok-rows.ensures.rows) in
    let within = AreWithin-kept c.args.pairs.now pairs c.args.n c.requires (λ p h. (c.in_ok-pairs.ensures.same p).0 h) in
    let neighbours = subst (λ (t : List (ℕ × ℕ)). AreNeighbours t (rows_of rows)) c.as_slice.ensures.value c.in_ok-rows.ensures.neighbours in
    rw c.as_slice-2.ensures.value
    (AreMutual-from pairs (rows_of rows) neighbours (subst (AreWithin pairs) (sym long) within))

pub members_of-requires-clause-counted : goal.members_of-requires-clause-counted
members_of-requires-clause-counted c =
    let b = c.in_ok-components.ensures in
    let comps = c.in_ok-components.field-0.components.items in
    let read = c.as_slice-3.result.now in
    let is = c.as_slice-3.ensures.value in
    let long = b.as_long in
    let same = ap length is in
    λ k d l.
    let at : slice_index read k ≡ slice_index comps k = ap (λ (t : List ℕ). slice_index t k) is in
    let default = get_or_default read k d 0 l in
    let below = b.numbered k (omega arith) in
    omega arith

pub higher_counts-requires : goal.higher_counts-requires
higher_counts-requires c =
    subst (λ (t : List (ℕ × ℕ)). AreWithin t c.args.n) (sym c.as_slice-4.ensures.value)
    (AreWithin-kept c.args.pairs.now c.in_ok-pairs.pairs.items c.args.n c.requires (λ p h. (c.in_ok-pairs.ensures.same p).0 h))

pub lower_counts-requires : goal.lower_counts-requires
lower_counts-requires c =
    subst (λ (t : List (ℕ × ℕ)). AreWithin t c.args.n) (sym c.as_slice-5.ensures.value)
    (AreWithin-kept c.args.pairs.now c.in_ok-pairs.pairs.items c.args.n c.requires (λ p h. (c.in_ok-pairs.ensures.same p).0 h))

pub invariant_of-result : goal.invariant_of-result
invariant_of-result c =
    let pairs = c.in_ok-pairs.pairs.items in
    let rows = rows_of c.in_ok-rows.rows.items in
    let comps = c.in_ok-components.field-0.components.items in
    let count = c.in_ok-components.field-0.count in
    let parts = rows_of c.in_ok-members.members.items in
    let neighbours = subst (λ (t : List (ℕ × ℕ)). AreNeighbours t rows) c.as_slice.ensures.value c.in_ok-rows.ensures.neighbours in
    let numbering = subst (λ (t : List (Vec ℕ Global)). IsNumbering (rows_of t) comps count) c.as_slice-2.ensures.value c.in_ok-components.ensures in
    let as_long = numbering.as_long in
    let row_count = length-rows_of c.in_ok-rows.rows.items in
    let part_count = length-rows_of c.in_ok-members.members.items in
    let rows_are = c.in_ok-rows.ensures.rows in
    let parts_are = c.in_ok-members.ensures.rows in
    let highs = c.in_ok-highers.ensures.counts in
    let lows = c.in_ok-lowers.ensures.counts in
    let long : c.args.n ≡ length comps = omega arith in
    let split = subst (λ (t : List ℕ). ArePartsBelow c.args.n t parts) c.as_slice-3.ensures.value c.in_ok-members.ensures.parts in
    IsSound-from pairs rows comps count parts c.in_ok-highers.highers.items c.in_ok-lowers.lowers.items
    c.in_ok-pairs.ensures.in_order
    (subst (AreWithin pairs) long (AreWithin-kept c.args.pairs.now pairs c.args.n c.requires (λ p h. (c.in_ok-pairs.ensures.same p).0 h)))
    neighbours numbering (omega arith) (subst (λ (t : ℕ). ArePartsBelow t comps parts) long split)
    (omega arith) (omega arith) (omega arith)
    (λ a l. c.in_ok-highers.ensures.each a (omega arith) ∙ ap (λ (t : List (ℕ × ℕ)). higher_count t a) c.as_slice-4.ensures.value)
    (λ a l. c.in_ok-lowers.ensures.each a (omega arith) ∙ ap (λ (t : List (ℕ × ℕ)). lower_count t a) c.as_slice-5.ensures.value)
