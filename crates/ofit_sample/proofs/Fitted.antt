-- The fit of a made study, and how often it counts.
use Rattle.std.proofs.Common.{◌≡◌, ◌≤◌, ◌+◌, ◌-◌, ℕ, List, [], ◌∷◌, Ok, Err, Result, length, ap, subst, arith}
use Rattle.std.specs.Prelude.{OnErr, OnOk}
use Rattle.ofit_num.specs.Fit.{BestValues, LeastBestValues}
use Rattle.ofit_num.specs.Fraction.{Fraction}
use Rattle.ofit_num.specs.Meaning.{Meaning}
use Rattle.ofit_num.specs.Problem.{Problem}
use Rattle.ofit_study.specs.Counted.{HasComponentCount}
use Rattle.ofit_study.specs.Study.{Observation, Study, group_names, names_of, problem_stated}
use Rattle.ofit_words.specs.declared.job.SampleJob.{SampleJob}
use Rattle.ofit_sample.specs.Made.{made_rows, IsMade}
use Rattle.ofit_sample.proofs.Making.{upto}
use Rattle.ofit_sample.proofs.Once.{one_component_count, one_study}

some_names : (rows : List Observation) → 1 ≤ length rows → 1 ≤ length (group_names rows)
some_names [] h = absurd (omega arith)
some_names (r ∷ rows) h = omega arith

-- a made study has a group
pub made_some : (job : SampleJob) (s : Study) → 1 ≤ job.groups → IsMade job s → 1 ≤ length (names_of s)
made_some job s some made =
    let rows : 1 ≤ length (made_rows job) = omega (arith, upto job (job.rows - job.groups), some) in
    let names : names_of s ≡ group_names (made_rows job) = ap (λ (u : Study). names_of u) made.others in
    omega (arith, some_names (made_rows job) rows, ap length names)

pub best_values : (m : Meaning) (p : Problem) (values : List Fraction) → LeastBestValues m p values → BestValues m p values
best_values m p values h = record { count = h.count; best = h.least_best.best }

module _ (job : SampleJob) (study : Study) (made : IsMade job study) (before after : ℕ) where
  abbrev pub IsLimited : Type 0
  IsLimited = (s : Study) (n : ℕ) → IsMade job s → HasComponentCount (problem_stated s) n → after ≤ before + n

  pub limited_by_fit : ((n : ℕ) → HasComponentCount (problem_stated study) n → after ≤ before + n) → IsLimited
  limited_by_fit h s n own counted = h n (subst (λ (u : Study). HasComponentCount (problem_stated u) n) (one_study job s study own made) counted)

  pub limited_by_count : (m : ℕ) → HasComponentCount (problem_stated study) m → after ≡ before + m → IsLimited
  limited_by_count m counted e s n own also = omega (arith, e, one_component_count job study s m n made own counted also)

pub on_err : {A E : Type 0} (r : Result A E) (X : Type 0) → X → OnErr r X
on_err (Ok a) X x = tt
on_err (Err e) X x = x

pub on_ok : {A E : Type 0} (r : Result A E) (X : Type 0) → X → OnOk r X
on_ok (Ok a) X x = x
on_ok (Err e) X x = tt
