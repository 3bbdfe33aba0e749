-- The rows of the first groups, and of groups in reverse.
use Rattle.std.proofs.Common.{◌≡◌, ℕ, zero, suc, ◌+◌, ◌-◌, ◌<◌, List, [], ◌∷◌, ◌++◌, length, refl, sym, ap, subst, ◌∙◌, arith, take, cond, append_assoc, append-nil}
use Rattle.std.proofs.lemmas.List.{reverse-append, length-reverse, get_or-reverse}
use Rattle.std.proofs.lemmas.List.Elements.{All-append}
use Rattle.std.proofs.lemmas.List.Sums.{sum_by-append}
use Rattle.std.proofs.lemmas.Option.{slice_get-get_or}
use Rattle.std.specs.Prelude.{All, slice_get, unwrap_or, Option, Some, reverse, nat_lt}
use Rattle.ofit_num.specs.declared.row.Row.{Row}
use Rattle.ofit_num.specs.Groups.{RowLists}
use Rattle.ofit_num.specs.RowTotals.{total_weight, all_rows}
use Rattle.ofit_num.specs.RowLimits.{IsRowWithinLimits}
use Rattle.ofit_num.proofs.RowLists.{all_front, all_back, group_at}
use Rattle.ofit_loss.specs.Rows.{AreFittable, special_count}
use Rattle.ofit_loss.proofs.ProblemLaws.{group_fittable}
use Rattle.ofit_chain.proofs.Rows.{fittable_in}
use Rattle.ofit_sides.specs.FirstFit.{rows_at}

pub take_rows : (groups : RowLists) (n g : ℕ) → g < n → slice_get (take n groups) g ≡ slice_get groups g
take_rows groups zero g l = absurd (omega arith)
take_rows [] (suc n) g l = refl
take_rows (rows ∷ groups) (suc n) zero l = refl
take_rows (rows ∷ groups) (suc n) (suc g) l = take_rows groups n g (omega arith)

pub first_rows : (groups : RowLists) (n g : ℕ) → g < n → rows_at (take n groups) g ≡ rows_at groups g
first_rows groups n g l = ap (λ (o : Option (List Row)). unwrap_or o []) (take_rows groups n g l)

pub first_fittable : (groups : RowLists) (n : ℕ) → AreFittable (all_rows groups) → AreFittable (all_rows (take n groups))
first_fittable groups n fit = fittable_in groups 0 n fit

pub rows_fittable : (groups : RowLists) → AreFittable (all_rows groups) → (g : ℕ) → g < length groups → AreFittable (rows_at groups g)
rows_fittable groups fit g l =
    let k : (rows : List Row) × (slice_get groups g ≡ Some rows) = group_at groups g l in
    subst (λ (o : Option (List Row)). AreFittable (unwrap_or o [])) (sym k.1) (group_fittable groups g k.0 k.1 fit)

pub rows_are : (groups : RowLists) (g : ℕ) (rows : List Row) → slice_get groups g ≡ Some rows → rows_at groups g ≡ rows
rows_are groups g rows e = ap (λ (o : Option (List Row)). unwrap_or o []) e

-- the group at a place in reverse
pub reversed_get : (groups : RowLists) (k : ℕ) (rows : List Row) → k < length groups → slice_get groups (length groups - 1 - k) ≡ Some rows → slice_get (reverse groups) k ≡ Some rows
reversed_get groups k rows l e =
    slice_get-get_or (reverse groups) k [] (omega (arith, l, length-reverse groups)) ∙ ap Some (get_or-reverse groups k [] l)
    ∙ sym (slice_get-get_or groups (length groups - 1 - k) [] (omega (arith, l))) ∙ e

pub reversed_rows : (groups : RowLists) (k : ℕ) → k < length groups → rows_at (reverse groups) k ≡ rows_at groups (length groups - 1 - k)
reversed_rows groups k l =
    let j : (rows : List Row) × (slice_get groups (length groups - 1 - k) ≡ Some rows) = group_at groups (length groups - 1 - k) (omega (arith, l)) in
    rows_are (reverse groups) k j.0 (reversed_get groups k j.0 l j.1) ∙ sym (rows_are groups (length groups - 1 - k) j.0 j.1)

-- all rows of groups in reverse
all_rows-push : (groups : RowLists) (rows : List Row) → all_rows (groups ++ rows ∷ []) ≡ all_rows groups ++ rows
all_rows-push [] rows = append-nil rows
all_rows-push (xs ∷ groups) rows = ap (λ (t : List Row). xs ++ t) (all_rows-push groups rows) ∙ sym (append_assoc xs (all_rows groups) rows)

all_rows-reverse : (rows : List Row) (groups : RowLists) → all_rows (reverse (rows ∷ groups)) ≡ all_rows (reverse groups) ++ rows
all_rows-reverse rows groups = ap all_rows (reverse-append (rows ∷ []) groups) ∙ all_rows-push (reverse groups) rows

reversed_sum : (f : List Row → ℕ) → ((xs ys : List Row) → f (xs ++ ys) ≡ f xs + f ys) → (groups : RowLists) → f (all_rows (reverse groups)) ≡ f (all_rows groups)
reversed_sum f adds [] = refl
reversed_sum f adds (rows ∷ groups) =
    let whole : f (all_rows (reverse (rows ∷ groups))) ≡ f (all_rows (reverse groups)) + f rows = ap f (all_rows-reverse rows groups) ∙ adds (all_rows (reverse groups)) rows in
    let rest : f (all_rows (reverse groups)) ≡ f (all_rows groups) = reversed_sum f adds groups in
    omega (arith, whole, rest, adds rows (all_rows groups))

reversed_all : (P : Row → Type 0) (groups : RowLists) → All P (all_rows groups) → All P (all_rows (reverse groups))
reversed_all P [] h = h
reversed_all P (rows ∷ groups) h =
    subst (All P) (sym (all_rows-reverse rows groups)) (All-append P (all_rows (reverse groups)) rows (reversed_all P groups (all_back P rows (all_rows groups) h)) (all_front P rows (all_rows groups) h))

pub reversed_fittable : (groups : RowLists) → AreFittable (all_rows groups) → AreFittable (all_rows (reverse groups))
reversed_fittable groups fit = record {
  limits = record {
    each = reversed_all IsRowWithinLimits groups fit.limits.each;
    together = omega (arith, fit.limits.together, reversed_sum total_weight (λ xs ys. sum_by-append (λ (r : Row). r.weight) xs ys) groups);
  };
  special = omega (arith, fit.special, reversed_sum special_count (λ xs ys. sum_by-append (λ (r : Row). cond (nat_lt 4294967293 r.number) 1 0) xs ys) groups);
}

pub reversed_filled : (groups : RowLists) → All (λ rows. 0 < length rows) groups → All (λ rows. 0 < length rows) (reverse groups)
reversed_filled groups h k d l =
    let inside : k < length groups = omega (arith, l, length-reverse groups) in
    subst (λ (rows : List Row). 0 < length rows) (sym (get_or-reverse groups k d inside)) (h (length groups - 1 - k) d (omega (arith, inside)))
