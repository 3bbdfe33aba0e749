use Rattle.std.proofs.Common.{◌≡◌, ◌∙◌, ℕ, ◌<◌, refl, sym, ap, subst, arith, rules, FitsSigned, to_z, of_z}
use Rattle.std.specs.Int.{w128}
use Rattle.std.specs.declared.cmp.Ordering.TheVariants.{Less, Equal, Greater}
use Rattle.std.proofs.lemmas.Cmp.{ranked}
use Rattle.std.proofs.lemmas.Int.{ints, to_z-of_z}
use Rattle.std.proofs.lemmas.Option.{slice_get_within, slice_get-get_or, get_or_from_slice_get}
use Rattle.std.specs.Prelude.{ℤ, pos, ◌≤ℤ◌, slice_get, Some, unsigned_abs}
use Rattle.ofit_num.specs.ProblemPairs.{HasDistinctPairs}
use Rattle.ofit_sheet.specs.Parts.{flow_of}
use Rattle.ofit_study.specs.Study.{problem_stated}
use Rattle.ofit_study.proofs.Pushing.{slice_get-Contains}
use Rattle.ofit_study.proofs.Stating.{pairs_distinct}
use Rattle.ofit_check.specs.Check.{amount_along}
use Rattle.ofit_check.proofs.Amounts.{flow_on_pair, pair_of, flow_index, all_before, all_after, nothing_along, found_along}
use Rattle.ofit_check.proofs.balance.amount_on.Goals as goal

pub compare_pairs-requires-clause-first : goal.compare_pairs-requires-clause-first
compare_pairs-requires-clause-first c = flow_on_pair (problem_stated c.args.study.now) c.args.sheet.now c.requires.flows.on_pairs _ (flow_of c.flow_at-low.result) c.flow_at-low.ensures.value

pub compare_pairs-requires-clause-second : goal.compare_pairs-requires-clause-second
compare_pairs-requires-clause-second c = slice_get-Contains (problem_stated c.args.study.now).pairs c.args.index c.pair_at-pair.result c.pair_at-pair.ensures

pub loop-least-preserved-in-Less : goal.loop-least-preserved-in-Less
loop-least-preserved-in-Less c =
    let s = problem_stated c.args.study.now in
    let flows = c.requires.flows in
    let here : (k : ℕ) → slice_get s.pairs k ≡ Some (pair_of (flow_of c.flow_at-low.result)) → k < c.args.index = λ k at. ranked k c.args.index Less (sym c.in-Less.is ∙ c.compare_pairs.ensures k c.args.index at c.pair_at-pair.ensures) in
    record {
      ordered = omega (arith, c.loop-least-test.true);
      inside = c.loop-least.invariant.inside;
      before = all_before s c.args.sheet.now (pairs_distinct c.args.study.now flows.valid) flows.on_pairs flows.in_order c.args.index _ (flow_of c.flow_at-low.result) c.flow_at-low.ensures.value here;
      after = c.loop-least.invariant.after;
    }

pub loop-least-preserved : goal.loop-least-preserved
loop-least-preserved c =
    let s = problem_stated c.args.study.now in
    let flows = c.requires.flows in
    let here : (k : ℕ) → slice_get s.pairs k ≡ Some (pair_of (flow_of c.flow_at-low.result)) → c.args.index < k = λ k at. ranked k c.args.index Greater (sym c.in-Greater.is ∙ c.compare_pairs.ensures k c.args.index at c.pair_at-pair.ensures) in
    record {
      ordered = omega (arith, c.loop-least-test.true);
      inside = omega (arith, c.loop-least-test.true, c.loop-least.invariant.inside);
      before = c.loop-least.invariant.before;
      after = all_after s c.args.sheet.now (pairs_distinct c.args.study.now flows.valid) flows.on_pairs flows.in_order c.args.index _ (flow_of c.flow_at-low.result) c.flow_at-low.ensures.value here;
    }

positive : (z : ℤ) → pos 1 ≤ℤ z → pos (unsigned_abs z) ≡ z
positive z h = omega (arith, ints)

pub returns-in-Equal-clause-amount : goal.returns-in-Equal-clause-amount
returns-in-Equal-clause-amount c =
    let s = problem_stated c.args.study.now in
    let flows = c.requires.flows in
    let g = flow_of c.flow_at-low.result in
    let distinct : HasDistinctPairs s = pairs_distinct c.args.study.now flows.valid in
    let own = flow_index s c.args.sheet.now distinct flows.on_pairs flows.in_order _ g c.flow_at-low.ensures.value in
    let same : own.0 ≡ c.args.index = ranked own.0 c.args.index Equal (sym c.in-Equal.is ∙ c.compare_pairs.ensures own.0 c.args.index own.1 c.pair_at-pair.ensures) in
    let at : slice_get s.pairs c.args.index ≡ Some (pair_of g) = subst (λ (k : ℕ). slice_get s.pairs k ≡ Some (pair_of g)) same own.1 in
    let fits : FitsSigned w128 c.flow_at-low.result.2 = search rules in
    let value_is : to_z w128 (of_z w128 c.flow_at-low.result.2) ≡ c.flow_at-low.result.2 = simp to_z-of_z refl in
    value_is
    ∙ sym (positive c.flow_at-low.result.2 c.flow_at-low.ensures.least)
    ∙ ap pos (sym (found_along s c.args.sheet.now distinct flows.on_pairs flows.in_order c.args.index _ g c.flow_at-low.ensures.value at))
    ∙ ap (λ (e : ℕ × ℕ). pos (amount_along c.args.sheet.now.flows e)) (sym (get_or_from_slice_get s.pairs c.args.index (pair_of g) (0, 0) at))

pub returns-clause-amount : goal.returns-clause-amount
returns-clause-amount c =
    let s = problem_stated c.args.study.now in
    let flows = c.requires.flows in
    ap pos
    (sym
    (nothing_along s c.args.sheet.now (pairs_distinct c.args.study.now flows.valid) flows.on_pairs flows.in_order c.args.index c.loop-least.least c.loop-least.end _ (slice_get-get_or s.pairs c.args.index (0, 0) (slice_get_within s.pairs c.args.index c.pair_at-pair.result c.pair_at-pair.ensures)) c.loop-least-test.false
    c.loop-least.invariant.before c.loop-least.invariant.after))
