-- The form of a component.
use Rattle.std.specs.Prelude.{◌≡◌, ℕ, ◌+◌, ◌≤◌, ◌⊎◌, ◌==◌, Bool, false, IsTrue, List, length}
use Rattle.std.specs.List.{All, count_by, filter, list_any}
use Rattle.ofit_order.specs.Relation.{Relation}
use Rattle.ofit_order.specs.Component.{AreMembers}
use Rattle.ofit_order.specs.declared.form.Form.{Form}
use Rattle.ofit_order.specs.declared.form.Form.TheVariants.{Chain, TreeUp, TreeDown, General}

-- the pairs that stand between these members of one component
abbrev pub pairs_among : List (ℕ × ℕ) → List ℕ → List (ℕ × ℕ)
pairs_among pairs members = filter (λ p. list_any (λ m. m == p.0) members) pairs

-- how many of the pairs lead up from the place, and down from it
abbrev pub higher_count : List (ℕ × ℕ) → ℕ → ℕ
higher_count pairs a = count_by (λ p. p.0 == a) pairs

abbrev pub lower_count : List (ℕ × ℕ) → ℕ → ℕ
lower_count pairs a = count_by (λ p. p.1 == a) pairs

-- the pairs among the members are one fewer than the members
abbrev pub HasOneFewer : List (ℕ × ℕ) → List ℕ → Type 0
HasOneFewer pairs members = length (pairs_among pairs members) + 1 ≡ length members

-- no member has two higher neighbours, and none has two lower ones
abbrev pub RisesOnce : List (ℕ × ℕ) → List ℕ → Type 0
RisesOnce pairs members = All (λ m. higher_count pairs m ≤ 1) members

abbrev pub FallsOnce : List (ℕ × ℕ) → List ℕ → Type 0
FallsOnce pairs members = All (λ m. lower_count pairs m ≤ 1) members

-- the first form that fits a component with these members
abbrev pub FitsForm : List (ℕ × ℕ) → List ℕ → Form → Type 0
FitsForm pairs members Chain = HasOneFewer pairs members × RisesOnce pairs members × FallsOnce pairs members
FitsForm pairs members TreeUp = HasOneFewer pairs members × RisesOnce pairs members × (FallsOnce pairs members → ⊥)
FitsForm pairs members TreeDown = HasOneFewer pairs members × FallsOnce pairs members × (RisesOnce pairs members → ⊥)
FitsForm pairs members General = HasOneFewer pairs members → (RisesOnce pairs members ⊎ FallsOnce pairs members) → ⊥

-- the component of this number has this form
abbrev pub HasForm : Relation → ℕ → Form → Type 0
HasForm order component form = (members : List ℕ) × AreMembers order component members × FitsForm order.pairs members form

-- the form that three tests choose
abbrev pub IsFormBy : Bool → Bool → Bool → Form → Type 0
IsFormBy one_fewer rises_once falls_once Chain = IsTrue one_fewer × IsTrue rises_once × IsTrue falls_once
IsFormBy one_fewer rises_once falls_once TreeUp = IsTrue one_fewer × IsTrue rises_once × (falls_once ≡ false)
IsFormBy one_fewer rises_once falls_once TreeDown = IsTrue one_fewer × IsTrue falls_once × (rises_once ≡ false)
IsFormBy one_fewer rises_once falls_once General = IsTrue one_fewer → (rises_once ≡ false) × (falls_once ≡ false)
