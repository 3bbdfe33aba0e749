-- What is told of a peaked sheet at each way out of the check, from what came past before.
use Rattle.std.proofs.Common.{◌≡◌, ℕ, ◌+◌, ◌-◌, ◌<◌, ◌≤◌, length, sym, subst, arith}
use Rattle.ofit_num.specs.Verdict.{AllBelow, FailsFirst}
use Rattle.ofit_sheet.specs.Peaked.{Peaked}
use Rattle.ofit_sheet.specs.PeakVerdict as verdict
use Rattle.ofit_sheet.specs.PeakVerdict.{KeepsShape, HasCost, KeepsRise, KeepsFall, BreaksRise, BreaksFall, IsReached}
use Rattle.ofit_sheet.specs.PeakVerdict.{IsPeaked, IsCosted, HasRises, HasFalls, PeakPasses, IsPeakVerdict}
use Rattle.ofit_study.specs.Study.{Study, names_of, problem_stated}
use Rattle.ofit_study.proofs.Places.{group_count}

module _ (s : Study) (x : Peaked) (settings : x.places ≡ s.settings.places) where
  abbrev Told : verdict.PeakVerdict → Type 0
  Told v = IsPeakVerdict (problem_stated s) s.settings.places x v

  pub shape_told : (place : ℕ) → FailsFirst (KeepsShape x) (length (names_of s) - 1) place → Told (verdict.shape_breaks place)
  shape_told place f = (settings, subst (λ (n : ℕ). FailsFirst (KeepsShape x) (n - 1) place) (sym (group_count s)) f)

  module _ (shape : AllBelow (KeepsShape x) (length (names_of s) - 1)) where
    peaked : IsPeaked (problem_stated s) s.settings.places x
    peaked = record { settings = settings; shape = subst (λ (n : ℕ). AllBelow (KeepsShape x) (n - 1)) (sym (group_count s)) shape }

    pub cost_told : (HasCost (problem_stated s) x → ⊥) → Told verdict.cost_differs
    cost_told f = (peaked, f)

    module _ (cost : HasCost (problem_stated s) x) where
      costed : IsCosted (problem_stated s) s.settings.places x
      costed = record { peaked = peaked; cost = cost }

      pub rise_told : (i place : ℕ) → BreaksRise (problem_stated s) x i place → Told (verdict.rise_breaks i place)
      rise_told i place f = (costed, f)

      module _ (rises : (i : ℕ) → 1 ≤ i → i ≤ (problem_stated s).count → AllBelow (KeepsRise (problem_stated s) x i) i) where
        has_rises : HasRises (problem_stated s) s.settings.places x
        has_rises = record { costed = costed; rises = rises }

        pub fall_told : (i place : ℕ) → BreaksFall (problem_stated s) x i place → Told (verdict.fall_breaks i place)
        fall_told i place f = (has_rises, f)

        module _ (falls : (i : ℕ) → i < (problem_stated s).count → AllBelow (KeepsFall (problem_stated s) x i) ((problem_stated s).count - i)) where
          has_falls : HasFalls (problem_stated s) s.settings.places x
          has_falls = record { rises = has_rises; falls = falls }

          pub least_told : (i : ℕ) → FailsFirst (IsReached (problem_stated s) x) (length (names_of s) + 1) i → Told (verdict.not_least i)
          least_told i f = (has_falls, record { below = omega (arith, f.below, group_count s); before = f.before; fails = f.fails })

          pub passes_so : AllBelow (IsReached (problem_stated s) x) (length (names_of s) + 1) → PeakPasses (problem_stated s) s.settings.places x
          passes_so h = record { sides = has_falls; least = λ k l. h k (omega (arith, l, group_count s)) }
