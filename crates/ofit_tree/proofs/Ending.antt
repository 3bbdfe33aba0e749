-- where all blocks are settled, their values are the fit
use Rattle.std.proofs.Common.{◌≡◌, ℕ, ◌<◌, refl, sym, ap, subst, ◌∙◌, Bool, false, List, [], length}
use Rattle.std.proofs.lemmas.Option.{same_Some}
use Rattle.std.specs.Prelude.{All, slice_get, slice_index, Option, Some}
use Rattle.ofit_num.specs.declared.row.Row.{Row}
use Rattle.ofit_num.specs.Groups.{RowLists}
use Rattle.ofit_num.specs.Problem.{Problem}
use Rattle.ofit_num.specs.Unbounded.{no_bounds}
use Rattle.ofit_num.specs.Meaning.{Meaning}
use Rattle.ofit_num.specs.Fraction.{Fraction, AtMost}
use Rattle.ofit_num.specs.Trial.{trial_of}
use Rattle.ofit_num.specs.Fit.{LeastBestValues}
use Rattle.ofit_num.specs.Level.{IsOfLevel, AreLevels}
use Rattle.ofit_num.specs.RowTotals.{all_rows}
use Rattle.ofit_num.specs.Settled.{IsSettled, IsLeastSettled}
use Rattle.ofit_num.proofs.Levels.{levels_settled, levels_least_settled, levels_least_best}
use Rattle.ofit_loss.specs.Rows.{AreFittable}
use Rattle.ofit_loss.specs.Laws.{HasLossLaws, HasFittableGroups}
use Rattle.ofit_loss.proofs.ProblemLaws.{some_degree, groups_fittable, problem_support, problem_falling, problem_scaling}
use Rattle.ofit_tree.specs.declared.direction.Direction.{Direction}
use Rattle.ofit_tree.specs.declared.direction.Direction.TheVariants.{RootGreatest, RootLeast}
use Rattle.ofit_tree.specs.declared.slot.Slot.{Slot}
use Rattle.ofit_tree.specs.declared.slot.Slot.TheVariants.{Settled}
use Rattle.ofit_tree.specs.Entry.{IsInOrder}
use Rattle.ofit_tree.specs.Tree.{pair_of, tree_pairs, tree_problem, IsParent, IsRootedTree}
use Rattle.ofit_tree.specs.Forest.{IsForest, AreSettledValues}
use Rattle.ofit_tree.proofs.Pairs.{each_pair, places, child_below, parent_below}
use Rattle.ofit_tree.proofs.Closing.{same_settled}

-- values in order stand in the order of their pair
in_pair : (d : Direction) (value : ℕ → Fraction → Type 0) (g p : ℕ) → ((v w : Fraction) → value g v → value p w → IsInOrder d v w) → (v w : Fraction) → value (pair_of d g p).0 v → value (pair_of d g p).1 w → AtMost v w
in_pair RootGreatest value g p rises v w at_low at_high = rises v w at_low at_high
in_pair RootLeast value g p rises v w at_low at_high = rises w v at_high at_low

module _ {P : Type 0} (d : Direction) (IsPoolOf : P → List Row → Type 0) (m : Meaning) (strict : Bool) (laws : HasLossLaws m strict) (groups : RowLists) (fit : AreFittable (all_rows groups)) (parents : List (Option ℕ)) (tree : IsRootedTree parents) (count : length parents ≡ length groups)
    (labels : List ℕ) (slots : List (Slot P)) (h : IsForest d IsPoolOf m strict groups parents labels slots []) (values : List Fraction) (settled : AreSettledValues labels slots (length groups) values) where
  abbrev problem : Problem
  problem = tree_problem d groups parents

  fits : HasFittableGroups problem
  fits = groups_fittable groups (tree_pairs d parents) no_bounds fit

  all_places : All (λ e. (e.0 < length groups) × (e.1 < length groups)) (tree_pairs d parents)
  all_places = subst (λ (n : ℕ). All (λ e. (e.0 < n) × (e.1 < n)) (tree_pairs d parents)) count (places parents tree d)

  value_at : (g : ℕ) → g < length groups → (v : Fraction) × (slice_get values g ≡ Some v) × (slice_get slots (slice_index labels g) ≡ Some (Settled v))
  value_at g l = settled.each g l

  -- the value of a group whose block is settled
  own_value : (g : ℕ) → g < length groups → (v : Fraction) → slice_get slots (slice_index labels g) ≡ Some (Settled v) → slice_get values g ≡ Some v
  own_value g l v e = (value_at g l).1 ∙ ap (λ (x : Fraction). Some x) (same_settled (value_at g l).0 v (sym (value_at g l).2 ∙ e))

  of_level : (g : ℕ) → g < length groups → IsOfLevel m problem strict (slice_index labels) values g
  of_level g l = record {
    value = (value_at g l).0;
    level = h.level (slice_index labels g) (value_at g l).0 (value_at g l).2;
    alike = λ x lx e. own_value x lx (value_at g l).0 (ap (slice_get slots) e ∙ (value_at g l).2);
  }

  -- each pair is obeyed
  rises : (g p : ℕ) → IsParent parents g p → (v w : Fraction) → slice_get values g ≡ Some v → slice_get values p ≡ Some w → IsInOrder d v w
  rises g p up v w at_child at_parent =
      let lg : g < length groups = subst (λ (n : ℕ). g < n) count (child_below parents tree g p up) in
      let lp : p < length groups = subst (λ (n : ℕ). p < n) count (parent_below parents tree g p up) in
      let risen = h.rises (slice_index labels g) (value_at g lg).0 g p (value_at g lg).2 up refl in
      subst (λ (x : Fraction). IsInOrder d x w) (same_Some (value_at g lg).0 v (sym (value_at g lg).1 ∙ at_child))
      (subst (λ (x : Fraction). IsInOrder d (value_at g lg).0 x) (same_Some risen.0 w (sym (own_value p lp risen.0 risen.1) ∙ at_parent)) risen.2)

  are_levels : AreLevels m problem strict (slice_index labels) (length groups) values
  are_levels = record {
    count = settled.count;
    below = λ g l. h.numbers g 0 (subst (λ (n : ℕ). g < n) (sym h.labels_count) l);
    levels = of_level;
    rises = each_pair (λ e. (v w : Fraction) → slice_get values e.0 ≡ Some v → slice_get values e.1 ≡ Some w → AtMost v w) d parents
        (λ g p up. in_pair d (λ k v. slice_get values k ≡ Some v) g p (rises g p up));
  }

  pub values_settled : IsSettled m problem (trial_of values)
  values_settled = levels_settled m problem strict (problem_falling m strict laws problem fits) all_places (λ g. refl) (slice_index labels) (length groups) values are_levels

  pub values_least_settled : strict ≡ false → IsLeastSettled m problem (trial_of values)
  values_least_settled = levels_least_settled m problem strict (problem_falling m strict laws problem fits) all_places (λ g. refl) (slice_index labels) (length groups) values are_levels

  -- The values of settled blocks are the least of the best.
  pub values_least_best : LeastBestValues m problem values
  values_least_best = levels_least_best m problem strict (problem_falling m strict laws problem fits) all_places (λ g. refl) (slice_index labels) (length groups) values are_levels
      (problem_support m strict laws problem fits) (problem_scaling m strict laws problem fits) (some_degree m strict laws)
