use Rattle.std.proofs.Common.{◌≡◌, ℕ, length, take}
use Rattle.std.specs.Prelude.{Contains, slice_index}
use Rattle.ofit_tree.proofs.labels.relabel.Given as goal

abbrev pub invariant-loop-place : goal.invariant-loop-place
invariant-loop-place l =
    ((g : ℕ) → Contains (take l.place-index l.places) g → slice_index l.labels.items g ≡ l.number)
    × ((g : ℕ) → (Contains (take l.place-index l.places) g → ⊥) → slice_index l.labels.items g ≡ slice_index l.initial.labels.items g)
    × (length l.labels.items ≡ length l.initial.labels.items)
