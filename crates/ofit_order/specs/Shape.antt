-- The shape that a form gives its component.
use Rattle.std.specs.Prelude.{◌≡◌, ◌≢◌, ℕ, ◌+◌, ◌<◌, ◌↔◌, ⊤, List, length, slice_index}
use Rattle.std.specs.List.{Contains, AllPairs}
use Rattle.ofit_order.specs.Relation.{Relation}
use Rattle.ofit_order.specs.Connection.{LeadsUp, IsReached}
use Rattle.ofit_order.specs.Component.{AreMembers}
use Rattle.ofit_order.specs.declared.form.Form.{Form}
use Rattle.ofit_order.specs.declared.form.Form.TheVariants.{Chain, TreeUp, TreeDown, General}

-- a pair leads from the one place down to the other
abbrev pub LeadsDown : List (ℕ × ℕ) → ℕ → ℕ → Type 0
LeadsDown pairs a b = LeadsUp pairs b a

-- one step leads on from the place, and no second one
pub record LeadsOnce (Step : ℕ → ℕ → Type 0) (a : ℕ) : Type 0 where
  pub next : ℕ
  pub leads : Step a next
  pub only : (b : ℕ) → Step a b → b ≡ next

-- no step leads on from `end`, one step leads on from each other member, and from each member a walk reaches `end`
pub record RunsTo (Step : ℕ → ℕ → Type 0) (members : List ℕ) (end : ℕ) : Type 0 where
  pub member : Contains members end
  pub last : (b : ℕ) → Step end b → ⊥
  pub others : (p : ℕ) → Contains members p → p ≢ end → LeadsOnce Step p
  pub reached : (p : ℕ) → Contains members p → IsReached Step p end

-- b stands just after a in the list
abbrev pub Follows : List ℕ → ℕ → ℕ → Type 0
Follows list a b = (k : ℕ) × (k + 1 < length list) × (slice_index list k ≡ a) × (slice_index list (k + 1) ≡ b)

-- the list has each member once, and the pairs lead from each place of it just to the next
pub record IsChainOf (pairs : List (ℕ × ℕ)) (members list : List ℕ) : Type 0 where
  pub same : (p : ℕ) → Contains list p ↔ Contains members p
  pub distinct : AllPairs (λ a b. a ≢ b) list
  pub neighbours : (a b : ℕ) → Contains members a → LeadsUp pairs a b ↔ Follows list a b

-- a chain lists its members from the lowest to the highest; all members of a tree upwards have walks upwards to one of them, and downwards likewise
abbrev pub IsShaped : List (ℕ × ℕ) → List ℕ → Form → Type 0
IsShaped pairs members Chain = (list : List ℕ) × IsChainOf pairs members list
IsShaped pairs members TreeUp = (top : ℕ) × RunsTo (LeadsUp pairs) members top
IsShaped pairs members TreeDown = (bottom : ℕ) × RunsTo (LeadsDown pairs) members bottom
IsShaped pairs members General = ⊤

abbrev pub HasShape : Relation → ℕ → Form → Type 0
HasShape order component form = (members : List ℕ) → AreMembers order component members → IsShaped order.pairs members form
