-- The blocks of a tree while it is being fitted.
use Rattle.std.specs.Prelude.{◌≡◌, ℕ, ◌<◌, Bool, true, false, nat_eq, List, [], ◌∷◌, length, All, Contains, slice_get, slice_index, Option, Some, pos}
use Rattle.ofit_num.specs.declared.row.Row.{Row}
use Rattle.ofit_num.specs.Groups.{RowLists}
use Rattle.ofit_num.specs.Problem.{Problem}
use Rattle.ofit_num.specs.Meaning.{Meaning}
use Rattle.ofit_num.specs.Fraction.{Fraction, AtMost, SameValue}
use Rattle.ofit_num.specs.Law.{least_at, greatest_at}
use Rattle.ofit_num.specs.RowTotals.{total_weight, all_rows}
use Rattle.ofit_num.specs.RowLimits.{IsRowWithinLimits}
use Rattle.ofit_num.specs.Sets.{set_sum}
use Rattle.ofit_loss.specs.Rows.{AreFittable, special_count}
use Rattle.ofit_loss.specs.Least.{IsLeastMinimiser}
use Rattle.ofit_tree.specs.declared.direction.Direction.{Direction}
use Rattle.ofit_tree.specs.declared.block.Block.{Block}
use Rattle.ofit_tree.specs.declared.entry.Entry.{Entry}
use Rattle.ofit_tree.specs.declared.slot.Slot.{Slot}
use Rattle.ofit_tree.specs.declared.slot.Slot.TheVariants.{Open, Settled, Joined}
use Rattle.ofit_tree.specs.Entry.{IsInOrder, rank_of}
use Rattle.ofit_tree.specs.Tree.{IsParent, IsRootedTree, tree_problem}
use Rattle.ofit_num.specs.Level.{IsLevel}
use Rattle.ofit_tree.specs.Level.{IsTreeBlock}

-- the groups that have this number
abbrev pub numbered : List ℕ → ℕ → ℕ → Bool
numbered labels k g = nat_eq (slice_index labels g) k

-- the pool is of the rows of the piece's groups, in some order
pub record IsPoolOfPiece {P : Type 0} (IsPoolOf : P → List Row → Type 0) (m : Meaning) (s : Problem) (piece : ℕ → Bool) (pool : P) : Type 0 where
  pub rows : List Row
  pub pooled : IsPoolOf pool rows
  pub some : 0 < length rows
  pub each : All IsRowWithinLimits rows
  pub weight : pos (total_weight rows) ≡ set_sum piece (λ g. pos (total_weight (s.rows g))) s.count
  pub special : pos (special_count rows) ≡ set_sum piece (λ g. pos (special_count (s.rows g))) s.count
  pub least : (b : Fraction) → 0 < b.den → m.least rows b.num b.den ≡ set_sum piece (least_at m s b) s.count
  pub greatest : (b : Fraction) → 0 < b.den → m.greatest rows b.num b.den ≡ set_sum piece (greatest_at m s b) s.count

-- the block is of the piece's groups, and can absorb child blocks of values up to the limit
pub record IsOpenBlock {P : Type 0} (d : Direction) (IsPoolOf : P → List Row → Type 0) (m : Meaning) (strict : Bool) (groups : RowLists) (parents : List (Option ℕ)) (piece : ℕ → Bool) (limit : Fraction) (b : Block P) : Type 0 where
  pub block : IsTreeBlock d m (tree_problem d groups parents) strict piece b.top b.value limit
  pub pool : IsPoolOfPiece IsPoolOf m (tree_problem d groups parents) piece b.pool
  pub hangs : (g : ℕ) → g < length groups → piece g ≡ true → (g ≡ b.top → ⊥) → (p : ℕ) × IsParent parents g p × (piece p ≡ true)
  pub members : All (λ g. (g < length groups) × (piece g ≡ true)) b.members.items
  pub all : (g : ℕ) → g < length groups → piece g ≡ true → Contains b.members.items g

-- Each group has the number of a block. A block that waits has an entry of its rank, and no value of one that waits passes the limit. A settled block has its value for good: it stands in order with each that waits, and with its parent's block, which is settled too.
pub record IsForest {P : Type 0} (d : Direction) (IsPoolOf : P → List Row → Type 0) (m : Meaning) (strict : Bool) (groups : RowLists) (parents : List (Option ℕ)) (labels : List ℕ) (slots : List (Slot P)) (queue : List Entry) : Type 0 where
  pub limit : Fraction
  pub limit_den : 0 < limit.den
  pub labels_count : length labels ≡ length groups
  pub slots_count : length slots ≡ length groups
  pub numbers : All (λ k. k < length groups) labels
  pub live : (g : ℕ) → g < length groups → slice_get slots (slice_index labels g) ≡ Some Joined → ⊥
  pub waiting : (k : ℕ) (b : Block P) → slice_get slots k ≡ Some (Open b) → IsOpenBlock d IsPoolOf m strict groups parents (numbered labels k) limit b
  pub entered : (k : ℕ) (b : Block P) → slice_get slots k ≡ Some (Open b) → Contains queue (record { rank = rank_of d b.value; block = k })
  pub entries : All (λ e. (e.block < length groups) × (0 < e.rank.den)) queue
  pub level : (k : ℕ) (v : Fraction) → slice_get slots k ≡ Some (Settled v) → IsLevel m (tree_problem d groups parents) strict (numbered labels k) v
  pub above : (k : ℕ) (v : Fraction) (j : ℕ) (b : Block P) → slice_get slots k ≡ Some (Settled v) → slice_get slots j ≡ Some (Open b) → IsInOrder d b.value v
  pub rises : (k : ℕ) (v : Fraction) (g p : ℕ) → slice_get slots k ≡ Some (Settled v) → IsParent parents g p → slice_index labels g ≡ k → (w : Fraction) × (slice_get slots (slice_index labels p) ≡ Some (Settled w)) × IsInOrder d v w

-- the block of this number waits
abbrev pub IsOpenAt : {P : Type 0} → List (Slot P) → ℕ → Type 0
IsOpenAt {P} slots k = (b : Block P) × (slice_get slots k ≡ Some (Open b))

-- the entry is of a block that waits, and has its rank
pub record IsCurrent {P : Type 0} (d : Direction) (slots : List (Slot P)) (entry : Entry) (top : ℕ) (value : Fraction) : Type 0 where
  pub block : Block P
  pub at : slice_get slots entry.block ≡ Some (Open block)
  pub is_top : block.top ≡ top
  pub is_value : block.value ≡ value
  pub rank : SameValue (rank_of d value) entry.rank

-- the entry is of no block that waits, or of one whose rank is another one by now
abbrev pub IsOutdated : {P : Type 0} → Direction → List (Slot P) → Entry → Type 0
IsOutdated {P} d slots entry = (b : Block P) → slice_get slots entry.block ≡ Some (Open b) → rank_of d b.value ≡ entry.rank → ⊥

-- the block k waits, and the parent of the place is one of its groups
abbrev pub IsOpenAbove : {P : Type 0} → List (Option ℕ) → List ℕ → List (Slot P) → ℕ → ℕ → Type 0
IsOpenAbove parents labels slots place k = (p : ℕ) × IsParent parents place p × (slice_index labels p ≡ k) × IsOpenAt slots k

-- no block waits that has the parent of the place
abbrev pub IsNoneAbove : {P : Type 0} → List (Option ℕ) → List ℕ → List (Slot P) → ℕ → Type 0
IsNoneAbove {P} parents labels slots place = (p : ℕ) → IsParent parents place p → (b : Block P) → slice_get slots (slice_index labels p) ≡ Some (Open b) → ⊥

-- no entry of the queue has a greater rank
abbrev pub IsFirst : Entry → List Entry → Type 0
IsFirst entry queue = All (λ e. AtMost e.rank entry.rank) queue

-- how many blocks wait
abbrev pub is_open : {P : Type 0} → Slot P → Bool
is_open (Open b) = true
is_open (Settled v) = false
is_open Joined = false

-- the block of one group, whose rows these are
pub record IsLoneBlock {P : Type 0} (IsPoolOf : P → List Row → Type 0) (m : Meaning) (strict : Bool) (groups : RowLists) (place : ℕ) (b : Block P) : Type 0 where
  pub rows : List Row
  pub at : slice_get groups place ≡ Some rows
  pub pool : IsPoolOf b.pool rows
  pub value : IsLeastMinimiser m strict rows b.value
  pub top : b.top ≡ place
  pub members : b.members.items ≡ place ∷ []

-- each of the first n groups is a block by itself, with its place as its number
pub record IsStart {P : Type 0} (d : Direction) (IsPoolOf : P → List Row → Type 0) (m : Meaning) (strict : Bool) (groups : RowLists) (n : ℕ) (labels : List ℕ) (slots : List (Slot P)) (queue : List Entry) : Type 0 where
  pub labels_count : length labels ≡ n
  pub slots_count : length slots ≡ n
  pub numbers : (g : ℕ) → g < n → slice_index labels g ≡ g
  pub lone : (k : ℕ) → k < n → (b : Block P) × (slice_get slots k ≡ Some (Open b)) × IsLoneBlock IsPoolOf m strict groups k b × Contains queue (record { rank = rank_of d b.value; block = k })
  pub entries : All (λ e. (e.block < n) × (0 < e.rank.den)) queue

-- a tree of groups that a fit takes
pub record IsFittableTree (groups : RowLists) (parents : List (Option ℕ)) : Type 0 where
  pub filled : All (λ rows. 0 < length rows) groups
  pub fittable : AreFittable (all_rows groups)
  pub one_each : length parents ≡ length groups
  pub rooted : IsRootedTree parents

-- each group has the value of its block, which is settled
pub record AreSettledValues {P : Type 0} (labels : List ℕ) (slots : List (Slot P)) (n : ℕ) (values : List Fraction) : Type 0 where
  pub count : length values ≡ n
  pub each : (g : ℕ) → g < n → (v : Fraction) × (slice_get values g ≡ Some v) × (slice_get slots (slice_index labels g) ≡ Some (Settled v))

-- the entry is of a block that waits, whose top has its parent in the block of this number, which waits too
pub record CanAbsorb {P : Type 0} (d : Direction) (parents : List (Option ℕ)) (labels : List ℕ) (slots : List (Slot P)) (entry : Entry) (number : ℕ) : Type 0 where
  pub top : ℕ
  pub value : Fraction
  pub current : IsCurrent d slots entry top value
  pub above : IsOpenAbove parents labels slots top number

-- each group's block is settled
abbrev pub AreAllSettled : {P : Type 0} → List ℕ → List (Slot P) → Type 0
AreAllSettled labels slots = (g : ℕ) → g < length labels → (v : Fraction) × (slice_get slots (slice_index labels g) ≡ Some (Settled v))
