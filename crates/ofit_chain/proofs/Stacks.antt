-- a group that is pushed on a stack, whatever groups may follow
use Rattle.std.proofs.Common.{◌≡◌, ℕ, zero, suc, ◌+◌, ◌<◌, ◌≤◌, ◌^◌, refl, sym, ap, subst, arith, Bool, List, [], ◌∷◌, ◌++◌, length, take, length-append, append-nil, append_assoc, add-one}
use Rattle.std.proofs.lemmas.Option.{same_Some}
use Rattle.std.proofs.lemmas.List.Elements.{All-nil, All-cons, All-append, All-head, All-tail}
use Rattle.std.proofs.lemmas.List.Sums.{sum_by-append}
use Rattle.std.specs.Prelude.{All, slice_get, Some}
use Rattle.ofit_num.specs.declared.row.Row.{Row}
use Rattle.ofit_num.specs.Groups.{RowLists}
use Rattle.ofit_num.specs.Meaning.{Meaning}
use Rattle.ofit_num.specs.Fraction.{AtMost}
use Rattle.ofit_num.specs.Below.{Below}
use Rattle.ofit_num.specs.RowTotals.{total_weight, all_rows}
use Rattle.ofit_num.specs.RowLimits.{AreWithinLimits}
use Rattle.ofit_num.proofs.RowLists.{within-front, within-back}
use Rattle.ofit_loss.specs.Rows.{AreFittable}
use Rattle.ofit_loss.specs.Laws.{HasLossLaws}
use Rattle.ofit_loss.specs.Least.{IsLeastMinimiser}
use Rattle.ofit_loss.proofs.ProblemLaws.{group_fittable}
use Rattle.ofit_loss.proofs.SquaresLeast.{weighs}
use Rattle.ofit_chain.specs.declared.block.Block.{Block}
use Rattle.ofit_loss.specs.Pool.{CanMerge}
use Rattle.ofit_chain.specs.Covers.{Covers}
use Rattle.ofit_chain.specs.Stacked.{IsStack}
use Rattle.ofit_chain.proofs.Rows.{fittable_in}
use Rattle.ofit_chain.proofs.Cover.{IsAbsorbing, absorbing_none, absorbing_more, absorbing_done, can_merge, merged_groups}

-- groups with rows are no more than their weight
few_groups : (groups : RowLists) → All (λ rows. 0 < length rows) groups → AreWithinLimits (all_rows groups) → length groups ≤ total_weight (all_rows groups)
few_groups [] filled fit = omega arith
few_groups (rows ∷ groups) filled fit = omega (
  arith,
  sum_by-append (λ (r : Row). r.weight) rows (all_rows groups),
  weighs rows (within-front rows (all_rows groups) fit) (All-head (λ rows. 0 < length rows) rows groups filled),
  few_groups groups (All-tail (λ rows. 0 < length rows) rows groups filled) (within-back rows (all_rows groups) fit),
)

after : (groups more : RowLists) (rows : List Row) → slice_get (groups ++ rows ∷ more) (length groups) ≡ Some rows
after [] more rows = refl
after (r ∷ groups) more rows = after groups more rows

-- the rows of the last group by themselves
pub last_fittable : (groups : RowLists) (rows : List Row) → AreFittable (all_rows (groups ++ rows ∷ [])) → AreFittable rows
last_fittable groups rows fit = group_fittable (groups ++ rows ∷ []) (length groups) rows (after groups [] rows) fit

-- one group more of those that are pushed
pub take_next : (groups : RowLists) (k : ℕ) (rows : List Row) → slice_get groups k ≡ Some rows → take (k + 1) groups ≡ take k groups ++ rows ∷ []
take_next groups k rows e = rw add-one (go groups k e) where
  go : (groups : RowLists) (k : ℕ) → slice_get groups k ≡ Some rows → take (suc k) groups ≡ take k groups ++ rows ∷ []
  go [] k e = cc
  go (r ∷ groups) zero e = ap (λ (x : List Row). x ∷ []) (same_Some r rows e)
  go (r ∷ groups) (suc k) e = ap (λ (x : RowLists). r ∷ x) (go groups k e)

pub next_fittable : (groups : RowLists) (k : ℕ) (rows : List Row) → slice_get groups k ≡ Some rows → AreFittable (all_rows groups) → AreFittable (all_rows (take k groups ++ rows ∷ []))
next_fittable groups k rows e fit = subst (λ (gs : RowLists). AreFittable (all_rows gs)) (take_next groups k rows e) (fittable_in groups 0 (k + 1) fit)

module _ {P : Type 0} (IsPoolOf : P → List Row → Type 0) (m : Meaning) (strict : Bool) where
  pub stack_none : AreFittable [] → IsStack IsPoolOf m strict [] []
  stack_none fit = record {
    filled = All-nil (λ rows. 0 < length rows);
    fittable = fit;
    covers = λ more filled fit. record { blocks = tt; rise = tt; all = refl };
  }

  -- The block of the rows, with what it has absorbed, at the place behind the groups.
  abbrev pub Absorbs : RowLists → RowLists → List Row → List (Block P) → Block P → Type 0
  Absorbs groups more rows stack b = IsAbsorbing IsPoolOf m strict (groups ++ rows ∷ more) (length groups) stack b

  module _ (laws : HasLossLaws m strict) (groups : RowLists) (stack : List (Block P)) (before : IsStack IsPoolOf m strict groups stack) (rows : List Row) (some : 0 < length rows) where
    module _ (more : RowLists) (rest : All (λ rows. 0 < length rows) more) (fit : AreFittable (all_rows (groups ++ rows ∷ more))) where
      filled : All (λ rows. 0 < length rows) (groups ++ rows ∷ more)
      filled = All-append (λ rows. 0 < length rows) groups (rows ∷ more) before.filled (All-cons (λ rows. 0 < length rows) rows more some rest)

      inside : length groups < length (groups ++ rows ∷ more)
      inside = omega (arith, length-append groups (rows ∷ more))

      pub absorbs_none : (b : Block P) → IsPoolOf b.pool rows → IsLeastMinimiser m strict rows b.value → b.groups ≡ 1 → Absorbs groups more rows stack b
      absorbs_none b pool value one = absorbing_none IsPoolOf m strict laws (groups ++ rows ∷ more) fit filled (length groups) stack b rows inside (after groups more rows)
          (before.covers (rows ∷ more) (All-cons (λ rows. 0 < length rows) rows more some rest) fit) pool value one

      module _ (left : List (Block P)) (last b : Block P) (k : Absorbs groups more rows (left ++ last ∷ []) b) where
        pub absorbs_can_merge : CanMerge IsPoolOf last.pool b.pool
        absorbs_can_merge = can_merge IsPoolOf m strict laws (groups ++ rows ∷ more) fit filled (length groups) left last b inside k

        pub absorbs_few : last.groups + b.groups < 2 ^ 64
        absorbs_few = omega (
          arith,
          merged_groups IsPoolOf m strict laws (groups ++ rows ∷ more) fit filled (length groups) left last b inside k,
          few_groups (groups ++ rows ∷ more) filled fit.limits,
          fit.limits.together,
          inside,
        )

        pub absorbs_more : (t : Block P) → AtMost b.value last.value → t.groups ≡ last.groups + b.groups
            → ((xs ys : List Row) → IsPoolOf last.pool xs → IsPoolOf b.pool ys → IsPoolOf t.pool (xs ++ ys))
            → ((xs ys : List Row) → IsPoolOf last.pool xs → IsPoolOf b.pool ys → AreFittable (xs ++ ys) → 0 < length (xs ++ ys) → IsLeastMinimiser m strict (xs ++ ys) t.value)
            → Absorbs groups more rows left t
        absorbs_more t order total pool value = absorbing_more IsPoolOf m strict laws (groups ++ rows ∷ more) fit filled (length groups) left last b inside k t order total pool value

    -- a block that lies above the stack ends it
    pub absorbs_all : (left : List (Block P)) (b : Block P) → AreFittable (all_rows (groups ++ rows ∷ []))
        → ((more : RowLists) → All (λ rows. 0 < length rows) more → AreFittable (all_rows (groups ++ rows ∷ more)) → Absorbs groups more rows left b)
        → ((rest : List (Block P)) (last : Block P) → left ≡ rest ++ last ∷ [] → Below last.value b.value) → IsStack IsPoolOf m strict (groups ++ rows ∷ []) (left ++ b ∷ [])
    absorbs_all left b alone k below = record {
      filled = filled [] (All-nil (λ rows. 0 < length rows)) alone;
      fittable = alone;
      covers = λ more rest fit. moved more (covered more rest (subst (λ (gs : RowLists). AreFittable (all_rows gs)) (together more) fit));
    } where
      together : (more : RowLists) → (groups ++ rows ∷ []) ++ more ≡ groups ++ rows ∷ more
      together more = append_assoc groups (rows ∷ []) more

      covered : (more : RowLists) → All (λ rows. 0 < length rows) more → AreFittable (all_rows (groups ++ rows ∷ more)) → Covers IsPoolOf m strict (groups ++ rows ∷ more) (length groups + 1) (left ++ b ∷ [])
      covered more rest fit = absorbing_done IsPoolOf m strict laws (groups ++ rows ∷ more) fit (filled more rest fit) (length groups) left b (k more rest fit) below

      moved : (more : RowLists) → Covers IsPoolOf m strict (groups ++ rows ∷ more) (length groups + 1) (left ++ b ∷ []) → Covers IsPoolOf m strict ((groups ++ rows ∷ []) ++ more) (length (groups ++ rows ∷ [])) (left ++ b ∷ [])
      moved more h = subst (λ (n : ℕ). Covers IsPoolOf m strict ((groups ++ rows ∷ []) ++ more) n (left ++ b ∷ [])) (sym (length-append groups (rows ∷ [])))
          (subst (λ (gs : RowLists). Covers IsPoolOf m strict gs (length groups + 1) (left ++ b ∷ [])) (sym (together more)) h)

  -- with no more groups behind them, the blocks cover all places
  pub stack_covers : (groups : RowLists) (stack : List (Block P)) → IsStack IsPoolOf m strict groups stack → Covers IsPoolOf m strict groups (length groups) stack
  stack_covers groups stack h = subst (λ (gs : RowLists). Covers IsPoolOf m strict gs (length groups) stack) (append-nil groups)
      (h.covers [] (All-nil (λ rows. 0 < length rows)) (subst (λ (gs : RowLists). AreFittable (all_rows gs)) (sym (append-nil groups)) h.fittable))
