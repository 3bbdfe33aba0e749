-- A side more, and what all sides are.
use Rattle.std.proofs.Common.{◌≡◌, ℕ, suc, ◌+◌, ◌-◌, ◌<◌, ◌≤◌, List, [], ◌∷◌, ◌++◌, length, refl, sym, ap, subst, ◌∙◌, arith, get_or, take, below_more}
use Rattle.std.proofs.lemmas.List.{get_or_push, get_or_append_left}
use Rattle.std.specs.Prelude.{ℤ, reverse}
use Rattle.ofit_num.specs.Fit.{LeastBestValues, BestValues}
use Rattle.ofit_num.specs.Fraction.{Fraction}
use Rattle.ofit_num.specs.Groups.{RowLists}
use Rattle.ofit_num.specs.RowTotals.{all_rows}
use Rattle.ofit_num.specs.Loss.{median}
use Rattle.ofit_num.specs.Settled.{IsLeastSettled}
use Rattle.ofit_num.specs.Trial.{trial_of}
use Rattle.ofit_loss.specs.Rows.{AreFittable}
use Rattle.ofit_chain.specs.Chain.{chain_problem}
use Rattle.ofit_study.specs.Study.{Study, groups_of, problem_stated}
use Rattle.ofit_sides.specs.FirstFit.{rows_at, first_chain, IsFirstFit}
use Rattle.ofit_sides.specs.Sides.{IsRise, IsFall, AreRises}
use Rattle.ofit_sides.specs.Turned.{IsTurned}
use Rattle.ofit_sides.specs.Values.{IsLeastFit}
use Rattle.ofit_sides.proofs.FirstRows.{first_fittable, rows_fittable, reversed_rows}
use Rattle.ofit_sides.proofs.Neighbours.{first_count}
use Rattle.ofit_sides.proofs.Turning.{is_fall}

-- a side more
pub sides_more : (P : ℕ → List (ℤ × ℤ) → Type 0) (sides : List (List (ℤ × ℤ))) (side : List (ℤ × ℤ)) (k : ℕ) → length sides ≡ k → ((i : ℕ) → i < k → P i (get_or sides i [])) → P k side
    → (i : ℕ) → i < k + 1 → P i (get_or (sides ++ side ∷ []) i [])
sides_more P sides side k long each here =
    below_more (λ i. P i (get_or (sides ++ side ∷ []) i [])) k
    (λ i l. subst (P i) (sym (get_or_append_left sides (side ∷ []) [] i (omega (arith, long, l)))) (each i l))
    (subst (P k) (sym (get_or_push sides side [] k long)) here)

-- the values of the chain of the first groups
pub first_fit : (groups firsts : RowLists) (n : ℕ) (values : List Fraction) → n ≤ length groups → firsts ≡ take n groups → length values ≡ n
    → LeastBestValues median (chain_problem firsts) values → IsLeastSettled median (chain_problem firsts) (trial_of values) → IsFirstFit groups values
first_fit groups firsts n values few are long best settled =
    let same : firsts ≡ take (length values) groups = are ∙ ap (λ (k : ℕ). take k groups) (sym long) in
    record {
      few = omega (arith, few, long);
      best = subst (λ (gs : RowLists). BestValues median (chain_problem gs) values) same (record { count = best.count; best = best.least_best.best });
      settled = subst (λ (gs : RowLists). IsLeastSettled median (chain_problem gs) (trial_of values)) same settled;
    }

pub least_fit : (groups : RowLists) (values : List Fraction) → AreFittable (all_rows groups) → IsFirstFit groups values → IsLeastFit values
least_fit groups values fit first = record {
  problem = first_chain groups (length values);
  count = sym (first_count groups (length values) first.few);
  free = λ g l. record { lo = refl; hi = refl };
  limits = λ g l. (rows_fittable (take (length values) groups) (first_fittable groups (length values) fit) g l).limits;
  settled = first.settled;
}

-- all rises
pub all_rises : (groups : RowLists) (sides : List (List (ℤ × ℤ))) (n : ℕ) → n ≡ length groups → length sides ≡ n → ((i : ℕ) → i < n → IsRise (rows_at groups) (suc i) (get_or sides i [])) → AreRises (chain_problem groups) sides
all_rises groups sides n whole long each = record {
  count = long ∙ whole;
  each = λ i some most. subst (λ (k : ℕ). IsRise (rows_at groups) k (get_or sides (i - 1) [])) (let same : suc (i - 1) ≡ i = omega (arith, some) in same) (each (i - 1) (omega (arith, some, most, whole)));
}

pub stated_rises : (s : Study) (groups : RowLists) (sides : List (List (ℤ × ℤ))) → groups ≡ groups_of s → AreRises (chain_problem groups) sides → AreRises (problem_stated s) sides
stated_rises s groups sides are h =
    let k : AreRises (chain_problem (groups_of s)) sides = subst (λ (gs : RowLists). AreRises (chain_problem gs) sides) are h in
    record { count = k.count; each = k.each }

-- a fall of the groups from a place on is a rise of as many of the groups in reverse
pub one_fall : (groups : RowLists) (rises : List (List (ℤ × ℤ))) → AreRises (chain_problem (reverse groups)) rises → (place : ℕ) → place < length groups → (side : List (ℤ × ℤ))
    → IsTurned side (get_or rises (length groups - place - 1) []) → length (reverse groups) ≡ length groups → IsFall (λ j. rows_at groups (place + j)) (length groups - place) side
one_fall groups rises are place l side turned long =
    let n = length groups - place in
    let rise : IsRise (rows_at (reverse groups)) n (get_or rises (n - 1) []) = are.each n (omega (arith, l)) (omega (arith, l, long)) in
    is_fall (rows_at (reverse groups)) n (get_or rises (n - 1) []) rise side turned (λ j. rows_at groups (place + j))
    (λ j k e. sym (reversed_rows groups k (omega (arith, e, l)) ∙ ap (rows_at groups) (let same : length groups - 1 - k ≡ place + j = omega (arith, e, l) in same)))
