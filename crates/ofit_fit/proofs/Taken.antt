-- The rows of some of the groups are within the limits of all rows.
use Rattle.std.proofs.Common.{◌≡◌, ℕ, zero, suc, ◌+◌, ◌<◌, ◌≤◌, refl, arith, Bool, true, false, cond, nat_lt, List, [], ◌∷◌, length, map, slice_index}
use Rattle.std.proofs.lemmas.List.Sums.{sum_by-append}
use Rattle.std.proofs.lemmas.List.Elements.{All-nil, All-cons, All-head, All-tail, All-append}
use Rattle.std.specs.Prelude.{All, sum_by, slice_get, Some, unwrap_or}
use Rattle.ofit_num.specs.declared.row.Row.{Row}
use Rattle.ofit_num.specs.Fit.{sum_below}
use Rattle.ofit_num.specs.RowTotals.{all_rows}
use Rattle.ofit_num.specs.RowLimits.{IsRowWithinLimits}
use Rattle.ofit_num.proofs.Sums.{sum_below-mono}
use Rattle.ofit_num.proofs.Lists.{All-slice_get}
use Rattle.ofit_loss.specs.Rows.{AreFittable}
use Rattle.ofit_loss.proofs.ProblemLaws.{group_fittable}
use Rattle.ofit_fit.proofs.Places.{is_in, IsDistinct, sum_picked}

-- the rows of the group at a place
abbrev pub rows_at : List (List Row) → ℕ → List Row
rows_at groups g = unwrap_or (slice_get groups g) []

sum_below_front : (f : ℕ → ℕ) (n : ℕ) → sum_below f (suc n) ≡ f 0 + sum_below (λ k. f (suc k)) n
sum_below_front f zero = omega arith
sum_below_front f (suc n) = omega (arith, sum_below_front f n)

sum_of_taken : (f : Row → ℕ) (rows : ℕ → List Row) (places : List ℕ) → sum_by f (all_rows (map rows places)) ≡ sum_below (λ i. sum_by f (rows (slice_index places i))) (length places)
sum_of_taken f rows [] = refl
sum_of_taken f rows (p ∷ ps) =
    omega (arith, sum_by-append f (rows p) (all_rows (map rows ps)), sum_of_taken f rows ps, sum_below_front (λ i. sum_by f (rows (slice_index (p ∷ ps) i))) (length ps))

sum_of_all : (f : Row → ℕ) (groups : List (List Row)) → sum_by f (all_rows groups) ≡ sum_below (λ g. sum_by f (rows_at groups g)) (length groups)
sum_of_all f [] = refl
sum_of_all f (rows ∷ groups) =
    omega (arith, sum_by-append f rows (all_rows groups), sum_of_all f groups, sum_below_front (λ g. sum_by f (rows_at (rows ∷ groups) g)) (length groups))

-- the sum over the rows of some groups is at most that over all
sum_at_most : (f : Row → ℕ) (groups : List (List Row)) (places : List ℕ) → IsDistinct (slice_index places) (length places) → ((i : ℕ) → i < length places → slice_index places i < length groups)
    → sum_by f (all_rows (map (rows_at groups) places)) ≤ sum_by f (all_rows groups)
sum_at_most f groups places distinct inside =
    omega (
      arith,
      sum_of_taken f (rows_at groups) places,
      sum_of_all f groups,
      sum_picked (slice_index places) (length groups) (length places) (λ g. sum_by f (rows_at groups g)) inside distinct,
      sum_below-mono (λ g. cond (is_in (slice_index places) (length places) g) (sum_by f (rows_at groups g)) 0) (λ g. sum_by f (rows_at groups g)) (length groups) (λ g l. some (is_in (slice_index places) (length places) g) (sum_by f (rows_at groups g))),
    )
  where
    some : (b : Bool) (x : ℕ) → cond b x 0 ≤ x
    some true x = omega arith
    some false x = omega arith

-- the group at a place is one of the groups
pub found : (groups : List (List Row)) (g : ℕ) → g < length groups → slice_get groups g ≡ Some (rows_at groups g)
found [] g l = absurd (omega arith)
found (rows ∷ groups) zero l = refl
found (rows ∷ groups) (suc g) l = found groups g (omega arith)

each_within : (groups : List (List Row)) (places : List ℕ) → AreFittable (all_rows groups) → All (λ g. g < length groups) places → All IsRowWithinLimits (all_rows (map (rows_at groups) places))
each_within groups [] fit inside = All-nil IsRowWithinLimits
each_within groups (p ∷ ps) fit inside =
    All-append IsRowWithinLimits (rows_at groups p) (all_rows (map (rows_at groups) ps))
    (group_fittable groups p (rows_at groups p) (found groups p (All-head (λ g. g < length groups) p ps inside)) fit).limits.each
    (each_within groups ps fit (All-tail (λ g. g < length groups) p ps inside))

-- The rows of some of the groups are rows that a loss takes, if all rows are.
pub taken_fittable : (groups : List (List Row)) (places : List ℕ) → AreFittable (all_rows groups) → IsDistinct (slice_index places) (length places) → All (λ g. g < length groups) places → AreFittable (all_rows (map (rows_at groups) places))
taken_fittable groups places fit distinct inside = record {
  limits = record {
    each = each_within groups places fit inside;
    together = omega (arith, fit.limits.together, sum_at_most (λ (r : Row). r.weight) groups places distinct (λ i l. inside i 0 l));
  };
  special = omega (arith, fit.special, sum_at_most (λ (r : Row). cond (nat_lt 4294967293 r.number) 1 0) groups places distinct (λ i l. inside i 0 l));
}

-- and none of some groups is empty, if none of all is
pub taken_filled : (groups : List (List Row)) (places : List ℕ) → All (λ rows. 0 < length rows) groups → All (λ g. g < length groups) places → All (λ rows. 0 < length rows) (map (rows_at groups) places)
taken_filled groups [] filled inside = All-nil (λ (rows : List Row). 0 < length rows)
taken_filled groups (p ∷ ps) filled inside =
    All-cons (λ (rows : List Row). 0 < length rows) (rows_at groups p) (map (rows_at groups) ps)
    (All-slice_get (λ (rows : List Row). 0 < length rows) groups p (rows_at groups p) filled (found groups p (All-head (λ g. g < length groups) p ps inside)))
    (taken_filled groups ps filled (All-tail (λ g. g < length groups) p ps inside))
