-- pools of the rows of pieces: of one group, and of two pieces together
use Rattle.std.proofs.Common.{◌≡◌, ℕ, zero, suc, ◌+◌, ◌<◌, ◌≤◌, refl, sym, ap, ◌∙◌, arith, cond, Bool, true, false, ◌||◌, List, [], ◌++◌, length, take, length-append, inl, inr}
use Rattle.std.proofs.lemmas.Int.{ints}
use Rattle.std.proofs.lemmas.Bool.{cases_order}
use Rattle.std.proofs.lemmas.List.{take_all}
use Rattle.std.proofs.lemmas.List.Sums.{sum_by-append}
use Rattle.std.proofs.lemmas.List.Elements.{All-append}
use Rattle.std.specs.Prelude.{ℤ, pos, ◌+ℤ◌, ◌≤ℤ◌, All, slice_get, Some, unwrap_or}
use Rattle.ofit_num.specs.declared.row.Row.{Row}
use Rattle.ofit_num.specs.Groups.{RowLists}
use Rattle.ofit_num.specs.Problem.{problem_of}
use Rattle.ofit_num.specs.Unbounded.{no_bounds}
use Rattle.ofit_num.specs.Meaning.{Meaning}
use Rattle.ofit_num.specs.Fraction.{Fraction}
use Rattle.ofit_num.specs.Law.{least_at, greatest_at}
use Rattle.ofit_num.specs.RowTotals.{total_weight, all_rows}
use Rattle.ofit_num.specs.RowLimits.{IsRowWithinLimits}
use Rattle.ofit_num.specs.Sets.{set_sum}
use Rattle.ofit_num.specs.Block.{IsPooled, IsCost}
use Rattle.ofit_num.proofs.Blocks.{set_sum-both}
use Rattle.ofit_loss.proofs.Plain.{special_count-append}
use Rattle.ofit_num.proofs.RowLists.{all_rows-take_more, group_at}
use Rattle.ofit_loss.specs.Rows.{AreFittable, special_count}
use Rattle.ofit_loss.specs.Laws.{HasLossLaws}
use Rattle.ofit_loss.specs.Least.{IsLeastMinimiser}
use Rattle.ofit_loss.proofs.ProblemLaws.{group_fittable, pooled_minimiser, pooled_costs}
use Rattle.ofit_tree.specs.Forest.{IsPoolOfPiece}

no_sum : (piece : ℕ → Bool) (f : ℕ → ℤ) (n : ℕ) → ((g : ℕ) → g < n → piece g ≡ true → ⊥) → set_sum piece f n ≡ pos 0
no_sum piece f zero none = refl
no_sum piece f (suc n) none = go (piece n) refl (no_sum piece f n (λ g l. none g (omega arith))) where
  go : (x : Bool) → piece n ≡ x → set_sum piece f n ≡ pos 0 → set_sum piece f n +ℤ cond x (f n) (pos 0) ≡ pos 0
  go true e h = absurd (none n (omega arith) e)
  go false e h = omega (arith, ints, h)

-- over one place it is what stands there
lone_sum : (piece : ℕ → Bool) (k : ℕ) (f : ℕ → ℤ) (n : ℕ) → k < n → piece k ≡ true → ((g : ℕ) → g < n → piece g ≡ true → g ≡ k) → set_sum piece f n ≡ f k
lone_sum piece k f zero l u alone = absurd (omega arith)
lone_sum piece k f (suc n) l u alone = elim (cases_order k n) [
  | inl e ↦ ap (λ (x : Bool). set_sum piece f n +ℤ cond x (f n) (pos 0)) (ap piece (sym e) ∙ u) ∙ omega (arith, ints, no_sum piece f n (λ g b h. absurd (omega (arith, alone g (omega arith) h))), ap f e)
  | inr o ↦ elim o [
    | inl b ↦ ap (λ (x : Bool). set_sum piece f n +ℤ cond x (f n) (pos 0)) (out (piece n) refl b) ∙ omega (arith, ints, lone_sum piece k f n b u (λ g c. alone g (omega arith)))
    | inr b ↦ absurd (omega arith)
  ]
] where
  out : (x : Bool) → piece n ≡ x → k < n → piece n ≡ false
  out false e b = e
  out true e b = absurd (omega (arith, alone n (omega arith) e))

-- what adds over rows is over a piece at most what it is over all rows
piece_bound : (F : List Row → ℕ) → ((xs ys : List Row) → F (xs ++ ys) ≡ F xs + F ys) → (groups : RowLists) (piece : ℕ → Bool) (n : ℕ) → n ≤ length groups
    → set_sum piece (λ g. pos (F (unwrap_or (slice_get groups g) []))) n ≤ℤ pos (F (all_rows (take n groups)))
piece_bound F adds groups piece zero l = omega (arith, ints)
piece_bound F adds groups piece (suc n) l =
    let k : (rows : List Row) × (slice_get groups n ≡ Some rows) = group_at groups n (omega arith) in
    let more : F (all_rows (take (suc n) groups)) ≡ F (all_rows (take n groups)) + F k.0 = ap F (all_rows-take_more groups n k.0 k.1) ∙ adds (all_rows (take n groups)) k.0 in
    let here : F (unwrap_or (slice_get groups n) []) ≡ F k.0 = ap (λ o. F (unwrap_or o [])) k.1 in
    go (piece n) (piece_bound F adds groups piece n (omega arith)) more here where
      go : (x : Bool) → {a : ℕ} → {b c e : ℕ} → {z : ℤ} → z ≤ℤ pos b → c ≡ b + e → a ≡ e → (z +ℤ cond x (pos a) (pos 0)) ≤ℤ pos c
      go true h m q = omega (arith, ints)
      go false h m q = omega (arith, ints)

weights_add : (xs ys : List Row) → total_weight (xs ++ ys) ≡ total_weight xs + total_weight ys
weights_add xs ys = sum_by-append (λ (r : Row). r.weight) xs ys

-- rows of the groups of a piece can be taken together
piece_fittable : (groups : RowLists) (pairs : List (ℕ × ℕ)) (piece : ℕ → Bool) (rows : List Row) → AreFittable (all_rows groups) → All IsRowWithinLimits rows
    → pos (total_weight rows) ≡ set_sum piece (λ g. pos (total_weight ((problem_of groups pairs no_bounds).rows g))) (length groups)
    → pos (special_count rows) ≡ set_sum piece (λ g. pos (special_count ((problem_of groups pairs no_bounds).rows g))) (length groups) → AreFittable rows
piece_fittable groups pairs piece rows fit each weight special = record {
  limits = record {
    each = each;
    together = omega (arith, ints, weight, piece_bound total_weight weights_add groups piece (length groups) (omega arith), ap (λ (gs : RowLists). total_weight (all_rows gs)) (take_all (length groups) groups (omega arith)), fit.limits.together);
  };
  special = omega (arith, ints, special, piece_bound special_count special_count-append groups piece (length groups) (omega arith), ap (λ (gs : RowLists). special_count (all_rows gs)) (take_all (length groups) groups (omega arith)), fit.special);
}

module _ {P : Type 0} (IsPoolOf : P → List Row → Type 0) (m : Meaning) (strict : Bool) (laws : HasLossLaws m strict) (groups : RowLists) (pairs : List (ℕ × ℕ)) (fit : AreFittable (all_rows groups)) where
  pub pool_fittable : (piece : ℕ → Bool) (pool : P) → (h : IsPoolOfPiece IsPoolOf m (problem_of groups pairs no_bounds) piece pool) → AreFittable h.rows
  pool_fittable piece pool h = piece_fittable groups pairs piece h.rows fit h.each h.weight h.special

  -- the pool of one group
  pub lone_pool : (piece : ℕ → Bool) (k : ℕ) (rows : List Row) (pool : P) → k < length groups → slice_get groups k ≡ Some rows → 0 < length rows → piece k ≡ true → ((g : ℕ) → g < length groups → piece g ≡ true → g ≡ k)
      → IsPoolOf pool rows → (h : IsPoolOfPiece IsPoolOf m (problem_of groups pairs no_bounds) piece pool) × (h.rows ≡ rows)
  lone_pool piece k rows pool l e some u alone pooled = (
    record {
      rows = rows;
      pooled = pooled;
      some = some;
      each = (group_fittable groups k rows e fit).limits.each;
      weight = ap (λ (xs : List Row). pos (total_weight xs)) here ∙ sym (lone_sum piece k (λ g. pos (total_weight (unwrap_or (slice_get groups g) []))) (length groups) l u alone);
      special = ap (λ (xs : List Row). pos (special_count xs)) here ∙ sym (lone_sum piece k (λ g. pos (special_count (unwrap_or (slice_get groups g) []))) (length groups) l u alone);
      least = λ b lb. ap (λ (xs : List Row). m.least xs b.num b.den) here ∙ sym (lone_sum piece k (least_at m (problem_of groups pairs no_bounds) b) (length groups) l u alone);
      greatest = λ b lb. ap (λ (xs : List Row). m.greatest xs b.num b.den) here ∙ sym (lone_sum piece k (greatest_at m (problem_of groups pairs no_bounds) b) (length groups) l u alone);
    },
    refl,
  ) where
    here : rows ≡ unwrap_or (slice_get groups k) []
    here = ap (λ o. unwrap_or o []) (sym e)

  -- the value of a pool pools its piece
  pub pool_value : (piece : ℕ → Bool) (pool : P) → (h : IsPoolOfPiece IsPoolOf m (problem_of groups pairs no_bounds) piece pool) → (c : Fraction) → IsLeastMinimiser m strict h.rows c → IsPooled m (problem_of groups pairs no_bounds) piece c
  pool_value piece pool h c low = pooled_minimiser m strict (problem_of groups pairs no_bounds) piece h.rows c h.least low

  pub pool_costs : (piece : ℕ → Bool) (pool : P) → (h : IsPoolOfPiece IsPoolOf m (problem_of groups pairs no_bounds) piece pool) → (c : Fraction) → IsLeastMinimiser m strict h.rows c → IsCost strict (set_sum piece (greatest_at m (problem_of groups pairs no_bounds) c) (length groups))
  pool_costs piece pool h c low = pooled_costs m strict (problem_of groups pairs no_bounds) piece h.rows c h.greatest low

  -- the pools of two pieces
  module _ (piece base child : ℕ → Bool) (upper lower : P) (hu : IsPoolOfPiece IsPoolOf m (problem_of groups pairs no_bounds) base upper) (hl : IsPoolOfPiece IsPoolOf m (problem_of groups pairs no_bounds) child lower)
      (parts : (g : ℕ) → g < length groups → piece g ≡ (base g || child g)) (apart : (g : ℕ) → g < length groups → base g ≡ true → child g ≡ false) where
    both_each : All IsRowWithinLimits (hu.rows ++ hl.rows)
    both_each = All-append IsRowWithinLimits hu.rows hl.rows hu.each hl.each

    both_weight : pos (total_weight (hu.rows ++ hl.rows)) ≡ set_sum piece (λ g. pos (total_weight ((problem_of groups pairs no_bounds).rows g))) (length groups)
    both_weight = omega (arith, ints, weights_add hu.rows hl.rows, hu.weight, hl.weight, set_sum-both piece base child (λ g. pos (total_weight ((problem_of groups pairs no_bounds).rows g))) (length groups) parts apart)

    both_special : pos (special_count (hu.rows ++ hl.rows)) ≡ set_sum piece (λ g. pos (special_count ((problem_of groups pairs no_bounds).rows g))) (length groups)
    both_special = omega (arith, ints, special_count-append hu.rows hl.rows, hu.special, hl.special, set_sum-both piece base child (λ g. pos (special_count ((problem_of groups pairs no_bounds).rows g))) (length groups) parts apart)

    pub both_fittable : AreFittable (hu.rows ++ hl.rows)
    both_fittable = piece_fittable groups pairs piece (hu.rows ++ hl.rows) fit both_each both_weight both_special

    pub both_some : 0 < length (hu.rows ++ hl.rows)
    both_some = omega (arith, length-append hu.rows hl.rows, hu.some)

    pub both_pools : (pool : P) → IsPoolOf pool (hu.rows ++ hl.rows) → (h : IsPoolOfPiece IsPoolOf m (problem_of groups pairs no_bounds) piece pool) × (h.rows ≡ hu.rows ++ hl.rows)
    both_pools pool pooled = (
      record {
        rows = hu.rows ++ hl.rows;
        pooled = pooled;
        some = both_some;
        each = both_each;
        weight = both_weight;
        special = both_special;
        least = λ b lb. (laws.sums hu.rows hl.rows both_fittable).least b.num b.den lb ∙ pair (hu.least b lb) (hl.least b lb) ∙ sym (set_sum-both piece base child (least_at m (problem_of groups pairs no_bounds) b) (length groups) parts apart);
        greatest = λ b lb. (laws.sums hu.rows hl.rows both_fittable).greatest b.num b.den lb ∙ pair (hu.greatest b lb) (hl.greatest b lb) ∙ sym (set_sum-both piece base child (greatest_at m (problem_of groups pairs no_bounds) b) (length groups) parts apart);
      },
      refl,
    ) where
      pair : {x y z w : ℤ} → x ≡ y → z ≡ w → x +ℤ z ≡ y +ℤ w
      pair {x} {y} {z} {w} e f = omega (arith, ints)
