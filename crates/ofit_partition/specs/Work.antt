-- The pieces that are left, and the values that stand.
use Rattle.std.specs.Prelude.{◌≡◌, ℕ, ◌*◌, ◌-◌, ◌<◌, ◌≤◌, ◌⊎◌, ◌↔◌, Bool, true, false, List, length, All, Any, slice_get, Option, Some, None, sum_by}
use Rattle.ofit_num.specs.declared.limits.TheConstants.{MOST_GROUPS, MOST_PAIRS}
use Rattle.ofit_num.specs.Groups.{RowLists}
use Rattle.ofit_num.specs.Problem.{Problem}
use Rattle.ofit_num.specs.Meaning.{Meaning}
use Rattle.ofit_num.specs.Fraction.{Fraction}
use Rattle.ofit_num.specs.RowTotals.{all_rows}
use Rattle.ofit_num.specs.Level.{IsLevel, HasBase, labelled, AreDivided}
use Rattle.ofit_loss.specs.Rows.{AreFittable, IsPlain}
use Rattle.ofit_partition.specs.declared.piece.Piece.{Piece}
use Rattle.ofit_partition.specs.Piece.{holds, IsPiece}

-- groups and pairs that a fit takes
pub record IsFittableOrder (groups : RowLists) (pairs : List (ℕ × ℕ)) : Type 0 where
  pub plain : All (λ rows. Any IsPlain rows) groups
  pub fittable : AreFittable (all_rows groups)
  pub few_groups : length groups ≤ MOST_GROUPS
  pub few_pairs : length pairs ≤ MOST_PAIRS
  pub places : All (λ e. (e.0 < length groups) × (e.1 < length groups)) pairs

-- the part of the place is a level, all of which has this value
pub record IsSettledAt (m : Meaning) (s : Problem) (strict : Bool) (label : ℕ → ℕ) (values : List (Option Fraction)) (g : ℕ) (v : Fraction) : Type 0 where
  pub level : IsLevel m s strict (labelled label (label g)) v
  pub base : HasBase m s (labelled label (label g)) v
  pub alike : (h : ℕ) → h < s.count → label h ≡ label g → slice_get values h ≡ Some (Some v)

-- the piece is one whole part, without values
pub record IsOpenPart (s : Problem) (label : ℕ → ℕ) (values : List (Option Fraction)) (p : Piece) : Type 0 where
  pub piece : IsPiece s p
  pub some : 0 < length p.places.items
  pub whole : (g h : ℕ) → g < s.count → h < s.count → holds p.places.items g ≡ true → (holds p.places.items h ≡ true) ↔ (label h ≡ label g)
  pub waits : (g : ℕ) → g < s.count → holds p.places.items g ≡ true → slice_get values g ≡ Some None

-- Each part is a level with its value, a piece of the list, or one of the loose parts, which wait outside the list.
pub record ArePartsOf (m : Meaning) (s : Problem) (strict : Bool) (label : ℕ → ℕ) (top : ℕ) (loose : ℕ → Bool) (pieces : List Piece) (values : List (Option Fraction)) : Type 0 where
  pub below : (g : ℕ) → g < s.count → label g < top
  pub divided : AreDivided m s label
  pub count : length values ≡ s.count
  pub settled : (g : ℕ) (v : Fraction) → g < s.count → slice_get values g ≡ Some (Some v) → IsSettledAt m s strict label values g v
  pub waiting : (g : ℕ) → g < s.count → slice_get values g ≡ Some None → (loose g ≡ true) ⊎ ((i : ℕ) × (p : Piece) × (slice_get pieces i ≡ Some p) × (holds p.places.items g ≡ true))
  pub listed : (i : ℕ) (p : Piece) → slice_get pieces i ≡ Some p → IsOpenPart s label values p
  pub apart : (i j : ℕ) (p q : Piece) → i < j → slice_get pieces i ≡ Some p → slice_get pieces j ≡ Some q → (g : ℕ) → g < s.count → holds p.places.items g ≡ true → holds q.places.items g ≡ true → ⊥
  pub loose_waits : (g : ℕ) → g < s.count → loose g ≡ true → slice_get values g ≡ Some None
  pub loose_apart : (i : ℕ) (p : Piece) → slice_get pieces i ≡ Some p → (g : ℕ) → g < s.count → loose g ≡ true → holds p.places.items g ≡ true → ⊥

-- the pieces that are left, with values for all other places
pub record IsWork (m : Meaning) (s : Problem) (strict : Bool) (pieces : List Piece) (values : List (Option Fraction)) : Type 0 where
  pub label : ℕ → ℕ
  pub top : ℕ
  pub parts : ArePartsOf m s strict label top (λ g. false) pieces values

-- The same, with one piece taken off the list.
pub record IsTakenOff (m : Meaning) (s : Problem) (strict : Bool) (piece : Piece) (pieces : List Piece) (values : List (Option Fraction)) : Type 0 where
  pub label : ℕ → ℕ
  pub top : ℕ
  pub parts : ArePartsOf m s strict label top (holds piece.places.items) pieces values
  pub taken : IsOpenPart s label values piece

-- how many steps are left at most: one less than twice the places of each piece
abbrev pub steps_left : List Piece → ℕ
steps_left pieces = sum_by (λ p. 2 * length p.places.items - 1) pieces

-- the places of the list have this value, and all others what they had
pub record AreSettled (places : List ℕ) (value : Fraction) (before after : List (Option Fraction)) : Type 0 where
  pub count : length after ≡ length before
  pub given : (g : ℕ) → g < length before → holds places g ≡ true → slice_get after g ≡ Some (Some value)
  pub kept : (g : ℕ) → holds places g ≡ false → slice_get after g ≡ slice_get before g

-- each place has its value
pub record AreValues (n : ℕ) (settled : List (Option Fraction)) (values : List Fraction) : Type 0 where
  pub count : length values ≡ n
  pub each : (g : ℕ) (v : Fraction) → g < n → slice_get settled g ≡ Some (Some v) → slice_get values g ≡ Some v
