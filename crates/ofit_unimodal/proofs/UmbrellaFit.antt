-- The tree fit of an umbrella, with whole values, is the least best fit with its peak.
use Rattle.std.proofs.Common.{◌≡◌, ◌∙◌, ap₂, refl, Option, ℕ, zero, suc, ◌+◌, ◌-◌, ◌<◌, ◌≤◌, sym, ap, subst, arith, length, List, [], ◌∷◌, map, Some, None}
use Rattle.std.proofs.lemmas.List.Elements.{All-nil, All-cons, All-append}
use Rattle.std.specs.Prelude.{ℤ, pos, ◌*ℤ◌, All, slice_get, slice_index_or}
use Rattle.std.specs.List.{range_with_len}
use Rattle.ofit_num.specs.Fit.{LeastBest, LeastBestValues}
use Rattle.ofit_num.specs.Fraction.{Fraction}
use Rattle.ofit_num.specs.Groups.{RowLists}
use Rattle.ofit_num.specs.RowTotals.{all_rows}
use Rattle.ofit_num.specs.Loss.{median}
use Rattle.ofit_num.specs.Problem.{Problem, problem_of}
use Rattle.ofit_num.specs.ProblemPairs.{HasPlaces}
use Rattle.ofit_num.specs.Unbounded.{no_bounds}
use Rattle.ofit_num.specs.Settled.{IsLeastSettled}
use Rattle.ofit_num.specs.Trial.{trial_of}
use Rattle.ofit_num.specs.TrialValues.{Represents}
use Rattle.ofit_num.proofs.TableScaling.{absolute-scaling}
use Rattle.ofit_num.proofs.Trials.{least_best_trial}
use Rattle.ofit_loss.specs.Rows.{AreFittable}
use Rattle.ofit_loss.proofs.ProblemLaws.{groups_fittable}
use Rattle.ofit_sheet.specs.Unimodal.{umbrella, umbrella_pairs, whole_trial}
use Rattle.ofit_sheet.specs.Unbounded.{HasNoBounds}
use Rattle.ofit_study.specs.Study.{Study, groups_of, problem_stated}
use Rattle.ofit_tree.specs.declared.direction.Direction.TheVariants.{RootGreatest}
use Rattle.ofit_tree.specs.Tree.{tree_pairs, tree_problem}
use Rattle.ofit_unimodal.specs.Fitted.{lone}
use Rattle.ofit_sides.specs.Values.{whole_fraction, IsLeastFit}

whole_at : (zs : List ℤ) (g : ℕ) (f : Fraction) → slice_get (map whole_fraction zs) g ≡ Some f → whole_fraction (slice_index_or zs g (pos 0)) ≡ f
whole_at [] g f e = absurd (cc)
whole_at (z ∷ zs) zero f e = cc
whole_at (z ∷ zs) (suc g) f e = whole_at zs g f e

-- the trial of whole values has the fractions that they are
whole_represents : (zs : List ℤ) → Represents (map whole_fraction zs) (whole_trial zs)
whole_represents zs = record {
  scale = omega arith;
  dens = λ g f e. subst (λ (h : Fraction). 0 < h.den) (whole_at zs g f e) (omega arith);
  values = λ g f e. subst (λ (h : Fraction). slice_index_or zs g (pos 0) *ℤ pos h.den ≡ h.num *ℤ pos 1) (whole_at zs g f e) refl;
}

listed : (P : ℕ × ℕ → Type 0) (f : ℕ → ℕ × ℕ) (a m : ℕ) → ((i : ℕ) → a ≤ i → i < a + m → P (f i)) → All P (map f (range_with_len a m))
listed P f a zero h = All-nil P
listed P f a (suc m) h = All-cons P (f a) (map f (range_with_len (a + 1) m)) (h a (omega arith) (omega arith)) (listed P f (a + 1) m (λ i l u. h i (omega (arith, l)) (omega (arith, u))))

umbrella_places : (s : Problem) (peak : ℕ) → peak < s.count → HasPlaces (umbrella s peak)
umbrella_places s peak l =
    All-append (λ (e : ℕ × ℕ). (e.0 < s.count) × (e.1 < s.count)) (map (λ i. (i, i + 1)) (range_with_len 0 peak)) (map (λ i. (i + 1, i)) (range_with_len peak (s.count - 1 - peak)))
    (listed (λ e. (e.0 < s.count) × (e.1 < s.count)) (λ i. (i, i + 1)) 0 peak (λ i a b. (omega (arith, b, l), omega (arith, b, l))))
    (listed (λ e. (e.0 < s.count) × (e.1 < s.count)) (λ i. (i + 1, i)) peak (s.count - 1 - peak) (λ i a b. (omega (arith, b, l), omega (arith, b, l))))

module _ (groups : RowLists) (peak : ℕ) (parents : List (Option ℕ)) where
  -- the tree of the umbrella
  same_tree : tree_pairs RootGreatest parents ≡ umbrella_pairs peak (length groups) → tree_problem RootGreatest groups parents ≡ umbrella (lone groups) peak
  same_tree e = ap (λ (pairs : List (ℕ × ℕ)). problem_of groups pairs no_bounds) e

  pub fitted_whole : peak < length groups → tree_pairs RootGreatest parents ≡ umbrella_pairs peak (length groups) → (fs : List Fraction) (zs : List ℤ) → LeastBestValues median (tree_problem RootGreatest groups parents) fs
      → fs ≡ map whole_fraction zs → LeastBest median (umbrella (lone groups) peak) (whole_trial zs)
  fitted_whole l pairs fs zs h e =
      let p = umbrella (lone groups) peak in
      let own : LeastBestValues median p fs = subst (λ (q : Problem). LeastBestValues median q fs) (same_tree pairs) h in
      least_best_trial median p (umbrella_places (lone groups) peak l) (absolute-scaling (record { above = 1; below = 1 }) p) fs (whole_trial zs) own.count (subst (λ (gs : List Fraction). Represents gs (whole_trial zs)) (sym e) (whole_represents zs)) own

  -- the fit's values are whole
  pub least_fit : AreFittable (all_rows groups) → (fs : List Fraction) → length fs ≡ length groups → IsLeastSettled median (tree_problem RootGreatest groups parents) (trial_of fs) → IsLeastFit fs
  least_fit fit fs count settled = record {
    problem = tree_problem RootGreatest groups parents;
    count = count;
    free = λ g l. record { lo = refl; hi = refl };
    limits = λ g l. ((groups_fittable groups (tree_pairs RootGreatest parents) no_bounds fit).groups g l).limits;
    settled = settled;
  }

-- the umbrella of a study without bounds is that of its groups by themselves
pub same_umbrella : (s : Study) (groups : RowLists) (peak : ℕ) → groups ≡ groups_of s → s.settings.lo ≡ None → s.settings.hi ≡ None → umbrella (lone groups) peak ≡ umbrella (problem_stated s) peak
same_umbrella s groups peak e lo hi =
    ap (λ (gs : RowLists). umbrella (lone gs) peak) e
    ∙ sym (ap₂ (λ (low high : Option ℤ). problem_of (groups_of s) (umbrella_pairs peak (length (groups_of s))) (λ g. record { lo = low; hi = high })) lo hi)

-- no group of the study has a bound
pub free_of : (s : Study) → s.settings.lo ≡ None → s.settings.hi ≡ None → HasNoBounds (problem_stated s)
free_of s lo hi = λ g l. record { lo = lo; hi = hi }
