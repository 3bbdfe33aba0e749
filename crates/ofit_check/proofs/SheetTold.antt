-- What is told of a sheet at each way out of the check, from what came past before.
use Rattle.std.proofs.Common.{◌≡◌, ℕ, zero, suc, length, refl, sym, subst, ◌∙◌}
use Rattle.ofit_num.specs.Sheet.{Sheet, FitsCount}
use Rattle.ofit_num.specs.Verdict as verdict
use Rattle.ofit_num.specs.Verdict.{AgreesInSettings, AgreesInSize, AllBelow, FailsFirst, HasValue, RisesAlong, IsInBounds, IsOnPair, IsInOrder, JoinsEqual, IsBalanced}
use Rattle.ofit_num.specs.Verdict.{IsSized, IsComplete, IsObedient, IsWithinBounds, FlowsOnPairs, FlowsInOrder, FlowsAreTight, IsVerdict, Passes}
use Rattle.ofit_study.specs.declared.settings.Settings.{Settings}
use Rattle.ofit_study.specs.Study.{Study, IsValid, names_of, problem_stated, meaning_of}
use Rattle.ofit_study.proofs.Places.{group_count, pair_count}
use Rattle.ofit_check.specs.Check.{FailsFirstAt, HasValues}
use Rattle.ofit_check.proofs.Passed.{each_group, each_pair}

module _ (s : Study) (x : Sheet Settings) where
  abbrev Told : verdict.Verdict → Type 0
  Told v = IsVerdict (meaning_of s.settings.loss) (problem_stated s) s.settings x v

  pub values_so : (n : ℕ) → n ≡ length (names_of s) → IsValid s → FitsCount (length (names_of s)) x → AllBelow (HasValue x) n → HasValues s x
  values_so n e valid fits h = record { valid = valid; fits = fits; complete = subst (AllBelow (HasValue x)) e h }

  module _ (n : ℕ) (count : n ≡ length (names_of s)) (settings : AgreesInSettings s.settings x) (size : AgreesInSize (problem_stated s) x) where
    pub missing_told : (g : ℕ) → FailsFirst (HasValue x) n g → Told (verdict.group_missing g)
    missing_told g f = (record { settings = settings; size = size }, subst (λ (m : ℕ). FailsFirst (HasValue x) m g) (count ∙ sym (group_count s)) f)

    module _ (values : AllBelow (HasValue x) n) where
      complete : IsComplete (problem_stated s) s.settings x
      complete = record { sized = record { settings = settings; size = size }; complete = each_group s (HasValue x) n count values }

      pub disobeys_told : (i : ℕ) → FailsFirst (RisesAlong (problem_stated s) x) (length s.pairs) i → Told (verdict.disobeys i)
      disobeys_told i f = (complete, subst (λ (m : ℕ). FailsFirst (RisesAlong (problem_stated s) x) m i) (sym (pair_count s)) f)

      module _ (rises : AllBelow (RisesAlong (problem_stated s) x) (length s.pairs)) where
        obedient : IsObedient (problem_stated s) s.settings x
        obedient = record { complete = complete; rises = each_pair s (RisesAlong (problem_stated s) x) rises }

        pub bounds_told : (g : ℕ) → FailsFirst (IsInBounds (problem_stated s) x) (length (names_of s)) g → Told (verdict.out_of_bounds g)
        bounds_told g f = (obedient, subst (λ (m : ℕ). FailsFirst (IsInBounds (problem_stated s) x) m g) (sym (group_count s)) f)

        module _ (within : AllBelow (IsInBounds (problem_stated s) x) (length (names_of s))) where
          within_bounds : IsWithinBounds (problem_stated s) s.settings x
          within_bounds = record { obedient = obedient; within = each_group s (IsInBounds (problem_stated s) x) (length (names_of s)) refl within }

          pub off_pairs_told : (number : ℕ) → FailsFirstAt (IsOnPair (problem_stated s) x) (length x.flows) number → Told (verdict.flow_not_pair number)
          off_pairs_told zero f = f
          off_pairs_told (suc i) f = (within_bounds, f)

          module _ (on_pairs : AllBelow (IsOnPair (problem_stated s) x) (length x.flows)) where
            flows_on_pairs : FlowsOnPairs (problem_stated s) s.settings x
            flows_on_pairs = record { within_bounds = within_bounds; on_pairs = on_pairs }

            pub order_told : (number : ℕ) → FailsFirstAt (IsInOrder (problem_stated s) x) (length x.flows) number → Told (verdict.flow_order number)
            order_told zero f = f
            order_told (suc i) f = (flows_on_pairs, f)

            module _ (in_order : AllBelow (IsInOrder (problem_stated s) x) (length x.flows)) where
              flows_in_order : FlowsInOrder (problem_stated s) s.settings x
              flows_in_order = record { on_pairs = flows_on_pairs; in_order = in_order }

              pub loose_told : (number : ℕ) → FailsFirstAt (JoinsEqual x) (length x.flows) number → Told (verdict.flow_not_tight number)
              loose_told zero f = f
              loose_told (suc i) f = (flows_in_order, f)

              module _ (tight : AllBelow (JoinsEqual x) (length x.flows)) where
                flows_are_tight : FlowsAreTight (problem_stated s) s.settings x
                flows_are_tight = record { in_order = flows_in_order; tight = tight }

                pub unbalanced_told : (g : ℕ) → FailsFirst (IsBalanced (meaning_of s.settings.loss) (problem_stated s) x) (length (names_of s)) g → Told (verdict.balance_outside g)
                unbalanced_told g f = (flows_are_tight, subst (λ (m : ℕ). FailsFirst (IsBalanced (meaning_of s.settings.loss) (problem_stated s) x) m g) (sym (group_count s)) f)

                pub passes_so : AllBelow (IsBalanced (meaning_of s.settings.loss) (problem_stated s) x) (length (names_of s)) → Passes (meaning_of s.settings.loss) (problem_stated s) s.settings x
                passes_so balances = record { tight = flows_are_tight; balances = each_group s (IsBalanced (meaning_of s.settings.loss) (problem_stated s) x) (length (names_of s)) refl balances }
