use Rattle.std.proofs.Common.{◌<◌, arith, inl, inr, slice_index}
use Rattle.std.proofs.lemmas.Bool.{cases_order}
use Rattle.std.proofs.lemmas.List.Sorted.{searched}
use Rattle.ofit_fit.proofs.Searching.{rises_from_increasing}
use Rattle.ofit_fit.proofs.Closed.{place_from_contains}
use Rattle.ofit_fit.proofs.links.position_of.Goals as goal

pub unreachable-requires : goal.unreachable-requires
unreachable-requires c =
    let xs = c.args.members.now in
    let parts = rw c.in-Err.is at (searched xs c.args.place c.binary_search.result c.binary_search.ensures.position (rises_from_increasing xs c.requires.rising)) in
    let x = place_from_contains xs c.args.place c.requires.member in
    let none : (slice_index xs x.0 < c.args.place) → ⊥ = λ l. omega (arith, l, x.2) in
    let past : (c.args.place < slice_index xs x.0) → ⊥ = λ l. omega (arith, l, x.2) in
    elim (cases_order x.0 c.in-Err.field-0) [
      | inl e ↦ past (parts.2 x.0 (omega arith) x.1)
      | inr o ↦ elim o [ inl b ↦ none (parts.1 x.0 b) | inr b ↦ past (parts.2 x.0 (omega arith) x.1) ]
    ]
