use Rattle.std.proofs.Common.{◌≡◌, ◌+◌, ℕ, List, drop, get_or, refl, sym, subst, ap, ◌∙◌, arith}
use Rattle.std.specs.Prelude.{All}
use Rattle.std.proofs.lemmas.List.{take_all, drop_all}
use Rattle.std.proofs.lemmas.List.Elements.{All-more}
use Rattle.ofit_num.specs.Fraction.{Fraction}
use Rattle.ofit_sheet.specs.Kept.{IsFractionInLimits}
use Rattle.ofit_sheet.proofs.Rising.{IsRising, rising_pairs, rising_from_none, rising_next, rising_rest}
use Rattle.ofit_sheet.proofs.sheet.are_rising.Goals as goal

pub returns-then-place-least-clause-rising : goal.returns-then-place-least-clause-rising
returns-then-place-least-clause-rising c =
    let here : c.from-place.result ≡ (get_or c.args.values.now c.loop-entry.entry-index c.entry-item.result).0 =
    c.from-place.ensures ∙ c.place_of.ensures.place ∙ ap (λ (e : ℕ × Fraction). e.0) c.entry-item.is in (
      (λ no. absurd (cc)),
      λ pairs.
          let rest = rising_rest (λ (e : ℕ × Fraction). e.0) c.loop-entry.least c.loop-entry.entry-index c.args.values.now c.entry-item.result c.loop-entry-test.true
          (c.loop-entry.invariant.back (rising_from_none (λ (e : ℕ × Fraction). e.0) c.args.values.now pairs)) in
          absurd (omega (arith, rest.0, here, c.if-place-least.true)),
    )

pub loop-entry-preserved : goal.loop-entry-preserved
loop-entry-preserved c =
    let here : c.from-place.result ≡ (get_or c.args.values.now c.loop-entry.entry-index c.entry-item.result).0 =
    c.from-place.ensures ∙ c.place_of.ensures.place ∙ ap (λ (e : ℕ × Fraction). e.0) c.entry-item.is in
    record {
      onward = λ h. c.loop-entry.invariant.onward (rising_next (λ (e : ℕ × Fraction). e.0) c.loop-entry.least c.loop-entry.entry-index c.args.values.now c.entry-item.result c.loop-entry-test.true
          (omega (arith, here, c.if-place-least.false)) (subst (λ (t : ℕ). IsRising (λ (e : ℕ × Fraction). e.0) (t + 1) (drop (c.loop-entry.entry-index + 1) c.args.values.now)) here h));
      back = λ h. subst (λ (t : ℕ). IsRising (λ (e : ℕ × Fraction). e.0) (t + 1) (drop (c.loop-entry.entry-index + 1) c.args.values.now)) (sym here)
          (rising_rest (λ (e : ℕ × Fraction). e.0) c.loop-entry.least c.loop-entry.entry-index c.args.values.now c.entry-item.result c.loop-entry-test.true (c.loop-entry.invariant.back h)).1;
      fractions = All-more (λ (e : ℕ × Fraction). IsFractionInLimits e.1) c.args.values.now c.loop-entry.entry-index c.entry-item.result c.loop-entry-test.true c.loop-entry.invariant.fractions
          (subst (λ (e : ℕ × Fraction). IsFractionInLimits e.1) c.entry-item.is c.place_of.ensures.fraction);
    }

pub returns-clause-rising : goal.returns-clause-rising
returns-clause-rising c =
    let whole : IsRising (λ (e : ℕ × Fraction). e.0) 0 c.args.values.now =
    c.loop-entry.invariant.onward (subst (λ (t : List (ℕ × Fraction)). IsRising (λ (e : ℕ × Fraction). e.0) c.loop-entry.least t) (sym (drop_all c.loop-entry.entry-index c.args.values.now c.loop-entry-test.false)) tt) in
    ((λ _. rising_pairs (λ (e : ℕ × Fraction). e.0) 0 c.args.values.now whole), λ _. refl)

pub returns-clause-fractions : goal.returns-clause-fractions
returns-clause-fractions c = λ _. subst (All (λ (e : ℕ × Fraction). IsFractionInLimits e.1)) (take_all c.loop-entry.entry-index c.args.values.now c.loop-entry-test.false) c.loop-entry.invariant.fractions
