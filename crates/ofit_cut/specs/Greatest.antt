-- The sets of a kind, as upper or lower sets, that have the greatest sum of weights.
use Rattle.std.specs.Prelude.{◌≡◌, ◌<◌, ℕ, Bool, true, List, length, ℤ, ◌≤ℤ◌}
use Rattle.ofit_cut.specs.declared.tie.Tie.{Tie}
use Rattle.ofit_cut.specs.declared.tie.Tie.TheVariants.{Smallest, Largest}
use Rattle.ofit_flow.specs.Network.{Routing, members, others}
use Rattle.ofit_cut.specs.Sets.{sum_of, IsUpper}

-- a set of the kind, and none of the kind has a greater sum
pub record IsGreatest (IsOfKind : (ℕ → Bool) → Type 0) (weights : List ℤ) (set : ℕ → Bool) : Type 0 where
  pub of_kind : IsOfKind set
  pub greatest : (other : ℕ → Bool) → IsOfKind other → sum_of weights other ≤ℤ sum_of weights set

-- the greatest set that is inside every greatest set
pub record IsSmallestGreatest (IsOfKind : (ℕ → Bool) → Type 0) (weights : List ℤ) (set : ℕ → Bool) : Type 0 where
  pub is_greatest : IsGreatest IsOfKind weights set
  pub inside : (other : ℕ → Bool) → IsGreatest IsOfKind weights other → (node : ℕ) → node < length weights → set node ≡ true → other node ≡ true

-- the greatest set that every greatest set is inside
pub record IsLargestGreatest (IsOfKind : (ℕ → Bool) → Type 0) (weights : List ℤ) (set : ℕ → Bool) : Type 0 where
  pub is_greatest : IsGreatest IsOfKind weights set
  pub around : (other : ℕ → Bool) → IsGreatest IsOfKind weights other → (node : ℕ) → node < length weights → other node ≡ true → set node ≡ true

-- the greatest set that the tie names
abbrev pub IsTied : Tie → ((ℕ → Bool) → Type 0) → List ℤ → (ℕ → Bool) → Type 0
IsTied Smallest IsOfKind weights set = IsSmallestGreatest IsOfKind weights set
IsTied Largest IsOfKind weights set = IsLargestGreatest IsOfKind weights set

-- the smallest minimum cut of a maximum flow, or the largest
abbrev pub side_of : Tie → Routing → ℕ → Bool
side_of Smallest flowed = members flowed.source_side
side_of Largest flowed = others flowed.sink_side

-- each set that agrees with a side of the flow is the greatest upper set that the tie names
abbrev pub AreTied : List (ℕ × ℕ) → List ℤ → Routing → Type 0
AreTied pairs weights flowed =
    (tie : Tie) (set : ℕ → Bool) → ((node : ℕ) → node < length weights → set node ≡ side_of tie flowed node) → IsTied tie (IsUpper pairs) weights set
