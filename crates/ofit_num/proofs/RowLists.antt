-- the rows of groups, one group after another
use Rattle.std.proofs.Common.{◌≡◌, ℕ, zero, suc, ◌+◌, ◌≤◌, List, [], ◌∷◌, ◌++◌, ap, sym, ◌∙◌, arith, append_assoc, take, drop, length, subst, add-one, append-nil, get_or, ◌<◌}
use Rattle.std.proofs.Math.Seq.{take-append_seam, drop-append_seam}
use Rattle.std.proofs.lemmas.List.Elements.{All-take, All-drop}
use Rattle.std.proofs.lemmas.List.Sums.{sum_by-append}
use Rattle.std.proofs.lemmas.Option.{same_Some, slice_get-get_or}
use Rattle.std.specs.Prelude.{All, slice_get, Some}
use Rattle.ofit_num.specs.declared.row.Row.{Row}
use Rattle.ofit_num.specs.RowTotals.{total_weight, all_rows}
use Rattle.ofit_num.specs.RowLimits.{IsRowWithinLimits, AreWithinLimits}

pub all_rows-split : (groups : List (List Row)) (k : ℕ) (rows : List Row) → slice_get groups k ≡ Some rows → all_rows groups ≡ all_rows (take k groups) ++ (rows ++ all_rows (drop (suc k) groups))
all_rows-split [] k rows e = cc
all_rows-split (xs ∷ groups) zero rows e = ap (λ (r : List Row). r ++ all_rows groups) (same_Some xs rows e)
all_rows-split (xs ∷ groups) (suc k) rows e = ap (λ (r : List Row). xs ++ r) (all_rows-split groups k rows e) ∙ sym (append_assoc xs (all_rows (take k groups)) (rows ++ all_rows (drop (suc k) groups)))

pub all_rows-take_more : (groups : List (List Row)) (k : ℕ) (rows : List Row) → slice_get groups k ≡ Some rows → all_rows (take (suc k) groups) ≡ all_rows (take k groups) ++ rows
all_rows-take_more [] k rows e = cc
all_rows-take_more (xs ∷ groups) zero rows e = append-nil xs ∙ same_Some xs rows e
all_rows-take_more (xs ∷ groups) (suc k) rows e = ap (λ (r : List Row). xs ++ r) (all_rows-take_more groups k rows e) ∙ sym (append_assoc xs (all_rows (take k groups)) rows)

pub all_front : {X : Type 0} (P : X → Type 0) (xs ys : List X) → All P (xs ++ ys) → All P xs
all_front P xs ys h = subst (All P) (take-append_seam xs ys) (All-take P (length xs) (xs ++ ys) h)

pub all_back : {X : Type 0} (P : X → Type 0) (xs ys : List X) → All P (xs ++ ys) → All P ys
all_back P xs ys h = subst (All P) (drop-append_seam xs ys) (All-drop P (length xs) (xs ++ ys) h)

-- what is within the limits has its parts within them
pub within-front : (xs ys : List Row) → AreWithinLimits (xs ++ ys) → AreWithinLimits xs
within-front xs ys h = record { each = all_front IsRowWithinLimits xs ys h.each; together = omega (arith, h.together, sum_by-append (λ (r : Row). r.weight) xs ys) }

pub within-back : (xs ys : List Row) → AreWithinLimits (xs ++ ys) → AreWithinLimits ys
within-back xs ys h = record { each = all_back IsRowWithinLimits xs ys h.each; together = omega (arith, h.together, sum_by-append (λ (r : Row). r.weight) xs ys) }

pub group_within : (groups : List (List Row)) (k : ℕ) (rows : List Row) → slice_get groups k ≡ Some rows → AreWithinLimits (all_rows groups) → AreWithinLimits rows
group_within groups k rows e h = within-front rows (all_rows (drop (suc k) groups)) (within-back (all_rows (take k groups)) _ (subst AreWithinLimits (all_rows-split groups k rows e) h))

-- the groups up to and with the one at k weigh no more than all
pub weight_upto : (groups : List (List Row)) (k : ℕ) (rows : List Row) → slice_get groups k ≡ Some rows → total_weight (all_rows (take k groups)) + total_weight rows ≤ total_weight (all_rows groups)
weight_upto groups k rows e = omega (
  arith,
  ap total_weight (all_rows-split groups k rows e),
  sum_by-append (λ (r : Row). r.weight) (all_rows (take k groups)) (rows ++ all_rows (drop (suc k) groups)),
  sum_by-append (λ (r : Row). r.weight) rows (all_rows (drop (suc k) groups)),
)

pub weight_more : (groups : List (List Row)) (k : ℕ) (rows : List Row) → slice_get groups k ≡ Some rows → total_weight (all_rows (take (k + 1) groups)) ≡ total_weight (all_rows (take k groups)) + total_weight rows
weight_more groups k rows e = rw (add-one) (ap total_weight (all_rows-take_more groups k rows e) ∙ sum_by-append (λ (r : Row). r.weight) (all_rows (take k groups)) rows)

pub group_at : (groups : List (List Row)) (k : ℕ) → k < length groups → (rows : List Row) × (slice_get groups k ≡ Some rows)
group_at groups k l = (get_or groups k [], slice_get-get_or groups k [] l)
