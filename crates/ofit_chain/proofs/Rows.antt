-- the rows of neighbouring groups, and their balances
use Rattle.std.proofs.Common.{◌≡◌, ℕ, zero, suc, ◌+◌, ◌<◌, ◌≤◌, refl, sym, ap, subst, ◌∙◌, arith, List, [], ◌∷◌, ◌++◌, length, take, drop, append_assoc, length-append, length-drop}
use Rattle.std.proofs.lemmas.Int.{ints}
use Rattle.std.proofs.lemmas.List.{drop-drop}
use Rattle.std.proofs.lemmas.List.Elements.{All-head, All-drop}
use Rattle.std.specs.Prelude.{Bool, ℤ, pos, ◌+ℤ◌, All, slice_get, Some, unwrap_or}
use Rattle.ofit_num.specs.declared.row.Row.{Row}
use Rattle.ofit_num.specs.Groups.{RowLists}
use Rattle.ofit_num.specs.Meaning.{Meaning}
use Rattle.ofit_num.specs.Fraction.{Fraction}
use Rattle.ofit_num.specs.RowTotals.{all_rows}
use Rattle.ofit_num.specs.Law.{greatest_at}
use Rattle.ofit_num.specs.Sets.{set_sum}
use Rattle.ofit_num.specs.Block.{IsPooled, IsCost}
use Rattle.ofit_num.proofs.Blocks.{set_sum-none}
use Rattle.ofit_num.proofs.RowLists.{all_rows-take_more, group_at}
use Rattle.ofit_loss.specs.Rows.{AreFittable}
use Rattle.ofit_loss.specs.Laws.{HasLossLaws}
use Rattle.ofit_loss.specs.Least.{IsLeastMinimiser}
use Rattle.ofit_loss.proofs.ProblemLaws.{fittable-front, fittable-back, pooled_minimiser, pooled_costs}
use Rattle.ofit_chain.specs.Chain.{chain_problem}
use Rattle.ofit_chain.specs.Stretch.{run}
use Rattle.ofit_chain.specs.Covers.{rows_in}
use Rattle.ofit_chain.proofs.Runs.{from_run, untrue, run_sum, place_sum}

all_rows-cut : (gs : RowLists) (n : ℕ) → all_rows gs ≡ all_rows (take n gs) ++ all_rows (drop n gs)
all_rows-cut gs zero = refl
all_rows-cut [] (suc n) = refl
all_rows-cut (r ∷ gs) (suc n) = ap (λ (x : List Row). r ++ x) (all_rows-cut gs n) ∙ sym (append_assoc r (all_rows (take n gs)) (all_rows (drop n gs)))

all_rows-append : (gs hs : RowLists) → all_rows (gs ++ hs) ≡ all_rows gs ++ all_rows hs
all_rows-append [] hs = refl
all_rows-append (r ∷ gs) hs = ap (λ (x : List Row). r ++ x) (all_rows-append gs hs) ∙ sym (append_assoc r (all_rows gs) (all_rows hs))

take-more : (gs : RowLists) (n k : ℕ) → take (n + k) gs ≡ take n gs ++ take k (drop n gs)
take-more gs zero k = ap (λ (i : ℕ). take i gs) (omega arith)
take-more [] (suc n) k = ap (λ (i : ℕ). take i []) (plus n k) ∙ none (n + k) k where
  plus : (n k : ℕ) → suc n + k ≡ suc (n + k)
  plus n k = omega arith

  none : (i k : ℕ) → take (suc i) [] ≡ take {A = List Row} k []
  none i zero = refl
  none i (suc k) = refl
take-more (r ∷ gs) (suc n) k = ap (λ (i : ℕ). take i (r ∷ gs)) (plus n k) ∙ ap (λ (x : RowLists). r ∷ x) (take-more gs n k) where
  plus : (n k : ℕ) → suc n + k ≡ suc (n + k)
  plus n k = omega arith

slice_get-drop : (gs : RowLists) (i k : ℕ) → slice_get (drop i gs) k ≡ slice_get gs (i + k)
slice_get-drop gs zero k = ap (slice_get gs) (omega arith)
slice_get-drop [] (suc i) k = refl
slice_get-drop (r ∷ gs) (suc i) k = slice_get-drop gs i k ∙ ap (slice_get (r ∷ gs)) (plus i k) where
  plus : (n k : ℕ) → suc (n + k) ≡ suc n + k
  plus n k = omega arith

rows_in-more : (groups : RowLists) (i n : ℕ) (rows : List Row) → slice_get groups (i + n) ≡ Some rows → rows_in groups i (suc n) ≡ rows_in groups i n ++ rows
rows_in-more groups i n rows e = all_rows-take_more (drop i groups) n rows (slice_get-drop groups i n ∙ e)

-- the rows of neighbours, those of the first ones first
pub rows_in-add : (groups : RowLists) (i n k : ℕ) → rows_in groups i (n + k) ≡ rows_in groups i n ++ rows_in groups (i + n) k
rows_in-add groups i n k =
    ap all_rows (take-more (drop i groups) n k) ∙ all_rows-append (take n (drop i groups)) (take k (drop n (drop i groups)))
    ∙ ap (λ (x : RowLists). all_rows (take n (drop i groups)) ++ all_rows (take k x)) (drop-drop n i groups)

pub rows_in-one : (groups : RowLists) (i : ℕ) (rows : List Row) → slice_get groups i ≡ Some rows → rows_in groups i 1 ≡ rows
rows_in-one groups i rows e = rows_in-more groups i 0 rows (ap (slice_get groups) (omega arith) ∙ e)

pub fittable_in : (groups : RowLists) (i n : ℕ) → AreFittable (all_rows groups) → AreFittable (rows_in groups i n)
fittable_in groups i n h =
    fittable-front (rows_in groups i n) (all_rows (drop n (drop i groups))) (subst AreFittable (all_rows-cut (drop i groups) n)
    (fittable-back (all_rows (take i groups)) (all_rows (drop i groups)) (subst AreFittable (all_rows-cut groups i) h)))

pub some_in : (groups : RowLists) (i n : ℕ) → All (λ rows. 0 < length rows) groups → 0 < n → i + n ≤ length groups → 0 < length (rows_in groups i n)
some_in groups i zero h l k = absurd (omega arith)
some_in groups i (suc n) h l k = first (drop i groups) n (All-drop (λ rows. 0 < length rows) i groups h) (omega (arith, length-drop i groups)) where
  first : (gs : RowLists) (n : ℕ) → All (λ rows. 0 < length rows) gs → 0 < length gs → 0 < length (all_rows (take (suc n) gs))
  first [] n h l = absurd (omega arith)
  first (r ∷ gs) n h l = omega (arith, length-append r (all_rows (take n gs)), All-head (λ rows. 0 < length rows) r gs h)

-- what adds over rows, and is 0 without them, is summed over the places of a run
run_total : (groups : RowLists) → AreFittable (all_rows groups) → (end : List Row → ℤ) → end [] ≡ pos 0 → ((xs ys : List Row) → AreFittable (xs ++ ys) → end (xs ++ ys) ≡ end xs +ℤ end ys)
    → (i n : ℕ) → i + n ≤ length groups → end (rows_in groups i n) ≡ set_sum (run i (i + n)) (λ g. end (unwrap_or (slice_get groups g) [])) (length groups)
run_total groups fit end none adds i zero l = none ∙ sym (set_sum-none (run i (i + 0)) _ (length groups) (λ g b. untrue _ (λ u. absurd (omega (arith, (from_run i (i + 0) g u).0, (from_run i (i + 0) g u).1)))))
run_total groups fit end none adds i (suc n) l =
    let k : (rows : List Row) × (slice_get groups (i + n) ≡ Some rows) = group_at groups (i + n) (omega arith) in
    let more : rows_in groups i (suc n) ≡ rows_in groups i n ++ k.0 = rows_in-more groups i n k.0 k.1 in
    let here : set_sum (run (i + n) (suc (i + n))) (λ g. end (unwrap_or (slice_get groups g) [])) (length groups) ≡ end (unwrap_or (slice_get groups (i + n)) []) =
    place_sum (i + n) (λ g. end (unwrap_or (slice_get groups g) [])) (length groups) (omega arith) in
    let next : suc (i + n) ≡ i + suc n = omega arith in
    ap end more
    ∙ adds (rows_in groups i n) k.0 (subst AreFittable more (fittable_in groups i (suc n) fit))
    ∙ joined (run_total groups fit end none adds i n (omega arith)) (subst (λ (j : ℕ). end k.0 ≡ set_sum (run (i + n) j) (λ g. end (unwrap_or (slice_get groups g) [])) (length groups)) next (sym (here ∙ ap (λ o. end (unwrap_or o [])) k.1)))
    ∙ sym (run_sum i (i + n) (i + suc n) (λ g. end (unwrap_or (slice_get groups g) [])) (length groups) (omega arith) (omega arith)) where
      joined : {x y z w : ℤ} → x ≡ z → y ≡ w → x +ℤ y ≡ z +ℤ w
      joined {x} {y} {z} {w} e f = omega (arith, ints)

-- The least minimiser of the rows of neighbours is the value that pools their run.
module _ (m : Meaning) (strict : Bool) (laws : HasLossLaws m strict) (groups : RowLists) (fit : AreFittable (all_rows groups)) (i n : ℕ) (within : i + n ≤ length groups) (c : Fraction) where
  pub pooled_in : IsLeastMinimiser m strict (rows_in groups i n) c → IsPooled m (chain_problem groups) (run i (i + n)) c
  pooled_in h = pooled_minimiser m strict (chain_problem groups) (run i (i + n)) (rows_in groups i n) c
      (λ b lb. run_total groups fit (λ rows. m.least rows b.num b.den) (laws.none.least b.num b.den lb) (λ xs ys f. (laws.sums xs ys f).least b.num b.den lb) i n within) h

  pub costs_in : IsLeastMinimiser m strict (rows_in groups i n) c → IsCost strict (set_sum (run i (i + n)) (greatest_at m (chain_problem groups) c) (length groups))
  costs_in h = pooled_costs m strict (chain_problem groups) (run i (i + n)) (rows_in groups i n) c
      (λ b lb. run_total groups fit (λ rows. m.greatest rows b.num b.den) (laws.none.greatest b.num b.den lb) (λ xs ys f. (laws.sums xs ys f).greatest b.num b.den lb) i n within) h
