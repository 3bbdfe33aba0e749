-- the values that stretches give the groups, one for each group
use Rattle.std.proofs.Common.{◌≡◌, ℕ, zero, suc, ◌+◌, ◌<◌, ◌≤◌, refl, subst, ◌∙◌, arith, Bool, true, false, List, [], ◌∷◌, ◌++◌, length, replicate, append_assoc, length-append}
use Rattle.std.proofs.lemmas.List.{length-replicate}
use Rattle.std.proofs.lemmas.List.Elements.{All-nil, All-append, All-replicate}
use Rattle.std.specs.Prelude.{All, slice_get, Some}
use Rattle.ofit_num.specs.Groups.{RowLists}
use Rattle.ofit_num.specs.Problem.{Problem}
use Rattle.ofit_num.specs.Meaning.{Meaning}
use Rattle.ofit_num.specs.Fraction.{Fraction}
use Rattle.ofit_num.specs.Trial.{scale_of, trial_of}
use Rattle.ofit_num.specs.Fit.{Obeys, LeastBestValues}
use Rattle.ofit_num.specs.RowTotals.{all_rows}
use Rattle.ofit_num.specs.Law.{HasFallingSpans}
use Rattle.ofit_num.specs.Settled.{IsSettled, IsLeastSettled, IsFitted, LosesByLowering}
use Rattle.ofit_num.proofs.Trials.{scale_above, value_of-den}
use Rattle.ofit_num.proofs.Lists.{All-slice_get}
use Rattle.ofit_loss.specs.Rows.{AreFittable}
use Rattle.ofit_loss.specs.Laws.{HasLossLaws, HasFittableGroups}
use Rattle.ofit_loss.proofs.ProblemLaws.{some_degree, groups_fittable, problem_support, problem_falling, problem_scaling}
use Rattle.ofit_chain.specs.Chain.{chain_pairs, chain_problem}
use Rattle.ofit_chain.specs.Stretch.{run, Stretch, AreStretches, Rise, groups_in, values_of}
use Rattle.ofit_chain.proofs.Runs.{from_run, in_run, chain_places}
use Rattle.ofit_chain.proofs.Rising.{Follows, stretches_fitted, stretches_lose, stretches_gain}
use Rattle.ofit_num.proofs.Lowered.{GainsFromBelow, settled_lowest}

values_of-count : (bs : List Stretch) → length (values_of bs) ≡ groups_in bs
values_of-count [] = refl
values_of-count (b ∷ bs) = omega (arith, length-append (replicate b.groups b.value) (values_of bs), length-replicate b.groups b.value, values_of-count bs)

-- an element of a repeated one, after others and before others
in_middle : (xs ys : List Fraction) (n : ℕ) (c : Fraction) (g : ℕ) → length xs ≤ g → g < length xs + n → slice_get (xs ++ (replicate n c ++ ys)) g ≡ Some c
in_middle [] ys zero c g l h = absurd (omega arith)
in_middle [] ys (suc n) c zero l h = refl
in_middle [] ys (suc n) c (suc g) l h = in_middle [] ys n c g (omega arith) (omega arith)
in_middle (x ∷ xs) ys n c zero l h = absurd (omega arith)
in_middle (x ∷ xs) ys n c (suc g) l h = in_middle xs ys n c g (omega arith) (omega arith)

-- the trial of the values has each stretch's value at its places
follows_values : (xs : List Fraction) (bs : List Stretch) (i : ℕ) → i ≡ length xs → Follows (trial_of (xs ++ values_of bs)) i bs
follows_values xs [] i e = tt
follows_values xs (b ∷ bs) i e = (
  (λ g u. value_of-den (xs ++ (replicate b.groups b.value ++ values_of bs)) g b.value
      (in_middle xs (values_of bs) b.groups b.value g (omega (arith, (from_run i (i + b.groups) g u).0)) (omega (arith, (from_run i (i + b.groups) g u).1)))),
  subst (λ (ys : List Fraction). Follows (trial_of ys) (i + b.groups) bs) (append_assoc xs (replicate b.groups b.value) (values_of bs))
      (follows_values (xs ++ replicate b.groups b.value) bs (i + b.groups) (omega (arith, length-append xs (replicate b.groups b.value), length-replicate b.groups b.value))),
)

dens_above : (m : Meaning) (s : Problem) (strict : Bool) (bs : List Stretch) (i : ℕ) → AreStretches m s strict i bs → All (λ f. 0 < f.den) (values_of bs)
dens_above m s strict [] i are = All-nil (λ f. 0 < f.den)
dens_above m s strict (b ∷ bs) i are = All-append (λ f. 0 < f.den) (replicate b.groups b.value) (values_of bs) (All-replicate (λ f. 0 < f.den) b.groups b.value are.0.block.pooled.den) (dens_above m s strict bs (i + b.groups) are.1)

module _ (m : Meaning) (strict : Bool) (laws : HasLossLaws m strict) (groups : RowLists) (fit : AreFittable (all_rows groups)) (bs : List Stretch)
    (are : AreStretches m (chain_problem groups) strict 0 bs) (rise : Rise bs) (total : groups_in bs ≡ length groups) where
  fits : HasFittableGroups (chain_problem groups)
  fits = groups_fittable groups (chain_pairs (length groups)) _ fit

  law : HasFallingSpans m (chain_problem groups)
  law = problem_falling m strict laws (chain_problem groups) fits

  scale : 0 < scale_of (values_of bs)
  scale = scale_above (values_of bs) (λ g f e. All-slice_get (λ f. 0 < f.den) (values_of bs) g f (dens_above m (chain_problem groups) strict bs 0 are) e)

  follows : Follows (trial_of (values_of bs)) 0 bs
  follows = follows_values [] bs 0 refl

  fitted : IsFitted m (chain_problem groups) (trial_of (values_of bs)) (run 0 (length groups))
  fitted = stretches_fitted m (chain_problem groups) refl law strict (trial_of (values_of bs)) scale bs 0 are rise follows (omega (arith, total))

  all_in : (g : ℕ) → g < length groups → run 0 (length groups) g ≡ true
  all_in g l = in_run 0 (length groups) g (omega arith) l

  obeys : Obeys (chain_problem groups) (trial_of (values_of bs))
  obeys = record {
    scale = scale;
    pairs = λ i d l. fitted.obeys i d l (all_in _ (chain_places m (chain_problem groups) refl i d l).0) (all_in _ (chain_places m (chain_problem groups) refl i d l).1);
    low = λ g l. tt;
    high = λ g l. tt;
  }

  -- the values are settled
  pub values_settled : IsSettled m (chain_problem groups) (trial_of (values_of bs))
  values_settled = record {
    obeys = obeys;
    raised = λ a closed can. fitted.raised a (record { each = λ g l k. all_in g l }) (λ i d l low high same k. closed i d l same k);
    lowered = λ a closed can. fitted.lowered a (record { each = λ g l k. all_in g l }) (λ i d l low high same k. closed i d l same k);
  }

  -- and each set that could be lowered together loses by it, where the loss is not strict
  pub values_least_settled : strict ≡ false → IsLeastSettled m (chain_problem groups) (trial_of (values_of bs))
  values_least_settled lax =
      let loses : LosesByLowering m (chain_problem groups) (trial_of (values_of bs)) (run 0 (length groups)) =
      stretches_lose m (chain_problem groups) refl law strict (trial_of (values_of bs)) scale lax bs 0 are rise follows (omega (arith, total)) in
      record {
        settled = values_settled;
        loses = λ a closed can g l k. loses.loses a (record { each = λ g l k. all_in g l }) (λ i d b low high same k. closed i d b same k) g l k;
      }

  gains : GainsFromBelow m (chain_problem groups) (trial_of (values_of bs))
  gains = record {
    gains = λ r k lr lk a closed g l u. stretches_gain m (chain_problem groups) refl law strict (trial_of (values_of bs)) scale r k lr lk bs 0 are follows (omega (arith, total)) a
        (record { each = λ g l k. all_in g l }) (λ i d b low high same k. closed i d b same k) g l u;
  }

  -- The values that stretches of rising values give are the least of the best.
  pub values_least_best : LeastBestValues m (chain_problem groups) (values_of bs)
  values_least_best = record {
    count = values_of-count bs ∙ total;
    least_best = settled_lowest m (chain_problem groups) (chain_places m (chain_problem groups) refl) (problem_support m strict laws (chain_problem groups) fits)
        (problem_scaling m strict laws (chain_problem groups) fits) (some_degree m strict laws) (trial_of (values_of bs)) values_settled (λ a g l u. refl) (λ a g l u. refl) gains;
  }
