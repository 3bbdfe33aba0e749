-- The stack of the chain's fit: blocks of rising values that cover the first places.
use Rattle.std.specs.Prelude.{◌≡◌, ℕ, ◌+◌, Bool, List, [], ◌∷◌, map, take, drop}
use Rattle.ofit_num.specs.declared.row.Row.{Row}
use Rattle.ofit_num.specs.Groups.{RowLists}
use Rattle.ofit_num.specs.Meaning.{Meaning}
use Rattle.ofit_num.specs.RowTotals.{all_rows}
use Rattle.ofit_chain.specs.declared.block.Block.{Block}
use Rattle.ofit_chain.specs.Chain.{chain_problem}
use Rattle.ofit_chain.specs.Stretch.{Stretch, IsStretch, Rise, groups_in}

-- the rows of n groups from start on
abbrev pub rows_in : RowLists → ℕ → ℕ → List Row
rows_in groups start n = all_rows (take n (drop start groups))

abbrev pub stretch_of : {P : Type 0} → Block P → Stretch
stretch_of b = record { value = b.value; groups = b.groups }

-- the block is of the groups from start on
pub record IsBlockAt {P : Type 0} (IsPoolOf : P → List Row → Type 0) (m : Meaning) (strict : Bool) (groups : RowLists) (start : ℕ) (b : Block P) : Type 0 where
  pub stretch : IsStretch m (chain_problem groups) strict start (stretch_of b)
  pub pool : IsPoolOf b.pool (rows_in groups start b.groups)

-- each block begins where the one before it ends
abbrev pub AreBlocks : {P : Type 0} → (P → List Row → Type 0) → Meaning → Bool → RowLists → ℕ → List (Block P) → Type 0
AreBlocks IsPoolOf m strict groups start [] = Unit {0}
AreBlocks IsPoolOf m strict groups start (b ∷ bs) = IsBlockAt IsPoolOf m strict groups start b × AreBlocks IsPoolOf m strict groups (start + b.groups) bs

-- the blocks are those of the places below n
pub record Covers {P : Type 0} (IsPoolOf : P → List Row → Type 0) (m : Meaning) (strict : Bool) (groups : RowLists) (n : ℕ) (bs : List (Block P)) : Type 0 where
  pub blocks : AreBlocks IsPoolOf m strict groups 0 bs
  pub rise : Rise (map stretch_of bs)
  pub all : groups_in (map stretch_of bs) ≡ n
