use Rattle.std.proofs.Common.{ℕ, drop, take}
use Rattle.std.specs.Prelude.{All}
use Rattle.ofit_num.specs.Fraction.{Fraction}
use Rattle.ofit_sheet.specs.Kept.{IsFractionInLimits}
use Rattle.ofit_sheet.proofs.Rising.{IsRising}
use Rattle.ofit_sheet.proofs.sheet.are_rising.Given as goal

abbrev pub invariant-loop-entry : goal.invariant-loop-entry
invariant-loop-entry l = record {
  onward : IsRising (λ (e : ℕ × Fraction). e.0) l.least (drop l.entry-index l.values) → IsRising (λ (e : ℕ × Fraction). e.0) 0 l.values;
  back : IsRising (λ (e : ℕ × Fraction). e.0) 0 l.values → IsRising (λ (e : ℕ × Fraction). e.0) l.least (drop l.entry-index l.values);
  fractions : All (λ e. IsFractionInLimits e.1) (take l.entry-index l.values);
}
