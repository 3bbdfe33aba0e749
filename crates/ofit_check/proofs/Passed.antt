-- A sheet that passes, and the spans of a valid study's groups.
use Rattle.std.proofs.Common.{◌≡◌, ℕ, length, sym, ap, subst, ◌∙◌, Bool}
use Rattle.std.proofs.lemmas.List.{length-map}
use Rattle.std.specs.Prelude.{ℤ, IsTrue, ◌↔◌}
use Rattle.ofit_num.specs.Fraction.{Fraction}
use Rattle.ofit_num.specs.Fit.{BestValues}
use Rattle.ofit_num.specs.Flow.{balance}
use Rattle.ofit_num.specs.Sheet.{Sheet, FitsCount, sheet_value, sheet_values}
use Rattle.ofit_num.specs.Verdict.{AllBelow, Passes, IsBalanced}
use Rattle.ofit_num.proofs.Passing.{passing_is_best}
use Rattle.ofit_study.specs.declared.settings.Settings.{Settings}
use Rattle.ofit_study.specs.Study.{Study, IsValid, names_of, place_among, problem_stated, meaning_of}
use Rattle.ofit_study.proofs.Places.{group_count}
use Rattle.ofit_study.proofs.Stating.{pairs_have_places}
use Rattle.ofit_span.specs.declared.span.OpenSpan.{OpenSpan}
use Rattle.ofit_span.specs.OpenSpan.{group_span, Holds}
use Rattle.ofit_span.proofs.Balanced.{holds_balance}
use Rattle.ofit_span.proofs.StatedLosses.{stated_support, stated_scaling}

pub passed_best : (s : Study) (x : Sheet Settings) → IsValid s → FitsCount (length (names_of s)) x → Passes (meaning_of s.settings.loss) (problem_stated s) s.settings x → BestValues (meaning_of s.settings.loss) (problem_stated s) (sheet_values x)
passed_best s x v fits pass = passing_is_best (meaning_of s.settings.loss) (problem_stated s) s.settings x (pairs_have_places s v) (subst (λ (n : ℕ). FitsCount n x) (sym (group_count s)) fits) pass (stated_support s v s.settings.loss) (stated_scaling s v s.settings.loss)

-- what the span of a group tells of a balance
pub balance_told : (s : Study) (x : Sheet Settings) (g : ℕ) (r : Bool) (span : OpenSpan) (c : Fraction) (b : ℤ) → span ≡ group_span s g c → c ≡ sheet_value x g → b ≡ balance x.flows g
    → IsTrue r ↔ Holds span b → IsTrue r ↔ IsBalanced (meaning_of s.settings.loss) (problem_stated s) x g
balance_told s x g r span c b is_span is_value is_balance told =
    let both = holds_balance (meaning_of s.settings.loss) ((problem_stated s).rows g) ((problem_stated s).bounds g) (sheet_value x g) (balance x.flows g) in (
      λ h. both.0 (subst (λ (z : ℤ). Holds (group_span s g (sheet_value x g)) z) is_balance (subst (λ (t : OpenSpan). Holds t b) (is_span ∙ ap (group_span s g) is_value) (told.0 h))),
      λ h. told.1 (subst (λ (t : OpenSpan). Holds t b) (sym (is_span ∙ ap (group_span s g) is_value)) (subst (λ (z : ℤ). Holds (group_span s g (sheet_value x g)) z) (sym is_balance) (both.1 h))),
    )

-- what holds of each group, and of each pair
pub each_group : (s : Study) (P : ℕ → Type 0) (n : ℕ) → n ≡ length (names_of s) → AllBelow P n → AllBelow P (problem_stated s).count
each_group s P n e h = subst (AllBelow P) (e ∙ sym (group_count s)) h

pub each_pair : (s : Study) (P : ℕ → Type 0) → AllBelow P (length s.pairs) → AllBelow P (length (problem_stated s).pairs)
each_pair s P h = subst (AllBelow P) (sym (length-map s.pairs (λ e. (place_among (names_of s) e.0, place_among (names_of s) e.1)))) h
