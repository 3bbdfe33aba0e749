use Rattle.std.proofs.Common.{ℕ, ℤ, List, subst, rules}
use Rattle.std.specs.Prelude.{All}
use Rattle.ofit_num.specs.Fraction.{Fraction}
use Rattle.ofit_sheet.specs.Kept.{IsFractionInLimits}
use Rattle.ofit_sheet.specs.Made.{ArePartsOfSheet}
use Rattle.ofit_sheet.proofs.sheet.Sheet.make.Goals as goal

pub invariant_of-result : goal.invariant_of-result
invariant_of-result c = record {
  in_limits = c.requires.settings;
  parts = subst (λ (v : List (ℕ × Fraction)). ArePartsOfSheet c.args.size v c.args.flows.items) c.as_slice.ensures.value
      (subst (λ (f : List (ℕ × ℕ × ℤ)). ArePartsOfSheet c.args.size c.as_slice.result.now f) c.as_slice-2.ensures.value (c.are_parts.ensures.parts.0 c.if-not-are_parts.false));
  fractions = subst (All (λ (e : ℕ × Fraction). IsFractionInLimits e.1)) c.as_slice.ensures.value (c.are_parts.ensures.fractions c.if-not-are_parts.false);
  few_values = search rules;
  few_flows = search rules;
}
