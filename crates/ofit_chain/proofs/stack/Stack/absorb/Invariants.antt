use Rattle.std.proofs.Common.{◌<◌, length, vec_len, ◌++◌, ◌∷◌}
use Rattle.std.specs.Prelude.{All}
use Rattle.ofit_num.specs.Groups.{RowLists}
use Rattle.ofit_num.specs.RowTotals.{all_rows}
use Rattle.ofit_loss.specs.Rows.{AreFittable}
use Rattle.ofit_chain.specs.Stacked.{IsStack}
use Rattle.ofit_chain.proofs.Stacks.{Absorbs}
use Rattle.ofit_chain.proofs.stack.Stack.absorb.Given as goal

abbrev pub invariant-loop-last : goal.invariant-loop-last
invariant-loop-last g l = (groups : RowLists) → IsStack g.L.Loss.IsPoolOf g.L.Loss.meaning g.L.Loss.STRICT groups l.fn.self.blocks.items
    → (more : RowLists) → All (λ rows. 0 < length rows) more → AreFittable (all_rows (groups ++ l.rows ∷ more))
    → Absorbs g.L.Loss.IsPoolOf g.L.Loss.meaning g.L.Loss.STRICT groups more l.rows l.self.blocks.items l.block

abbrev pub decreases-loop-last : goal.decreases-loop-last
decreases-loop-last g l = vec_len l.self.blocks
