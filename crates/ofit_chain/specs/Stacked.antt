-- The stack of a chain's groups.
use Rattle.std.specs.Prelude.{◌<◌, Bool, List, [], ◌∷◌, ◌++◌, length, All}
use Rattle.ofit_num.specs.declared.row.Row.{Row}
use Rattle.ofit_num.specs.Groups.{RowLists}
use Rattle.ofit_num.specs.RowTotals.{all_rows}
use Rattle.ofit_num.specs.Meaning.{Meaning}
use Rattle.ofit_loss.specs.Rows.{AreFittable}
use Rattle.ofit_chain.specs.declared.block.Block.{Block}
use Rattle.ofit_chain.specs.declared.stack.Stack.{Stack}
use Rattle.ofit_chain.specs.Covers.{Covers}

-- The blocks are those of these groups, none empty, whose rows a loss takes together: whatever groups may follow, the blocks cover the places of these.
pub record IsStack {P : Type 0} (IsPoolOf : P → List Row → Type 0) (m : Meaning) (strict : Bool) (groups : RowLists) (bs : List (Block P)) : Type 0 where
  pub filled : All (λ rows. 0 < length rows) groups
  pub fittable : AreFittable (all_rows groups)
  pub covers : (more : RowLists) → All (λ rows. 0 < length rows) more → AreFittable (all_rows (groups ++ more)) → Covers IsPoolOf m strict (groups ++ more) (length groups) bs

-- the blocks are those of groups to which rows may be added as one more
pub record CanPush {P : Type 0} (IsPoolOf : P → List Row → Type 0) (m : Meaning) (strict : Bool) (bs : List (Block P)) (rows : List Row) : Type 0 where
  pub groups : RowLists
  pub stack : IsStack IsPoolOf m strict groups bs
  pub some : 0 < length rows
  pub fittable : AreFittable (all_rows (groups ++ rows ∷ []))

-- the stack is that of these groups
abbrev pub Holds : {L P : Type 0} → (P → List Row → Type 0) → Meaning → Bool → RowLists → Stack L P → Type 0
Holds IsPoolOf m strict groups s = IsStack IsPoolOf m strict groups s.blocks.items

-- the stack takes the rows as one more group
abbrev pub CanHold : {L P : Type 0} → (P → List Row → Type 0) → Meaning → Bool → Stack L P → List Row → Type 0
CanHold IsPoolOf m strict s rows = CanPush IsPoolOf m strict s.blocks.items rows
