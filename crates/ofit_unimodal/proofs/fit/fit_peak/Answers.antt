use Rattle.std.proofs.Common.{◌≡◌, ◌∙◌, ◌<◌, ℕ, List, length, ap, sym, subst, arith}
use Rattle.std.proofs.lemmas.List.{get_or_default}
use Rattle.std.specs.Prelude.{All}
use Rattle.ofit_num.specs.declared.row.Row.{Row}
use Rattle.ofit_num.specs.Fit.{LeastBest}
use Rattle.ofit_num.specs.RowTotals.{all_rows}
use Rattle.ofit_num.specs.Loss.{median}
use Rattle.ofit_num.specs.Problem.{Problem}
use Rattle.ofit_loss.specs.Rows.{AreFittable}
use Rattle.ofit_sheet.specs.Unimodal.{IsBestPeak, whole_trial}
use Rattle.ofit_span.proofs.Fittable.{all_fittable}
use Rattle.ofit_study.specs.Study.{problem_stated}
use Rattle.ofit_study.proofs.Places.{group_count}
use Rattle.ofit_study.proofs.Stating.{groups_filled}
use Rattle.ofit_unimodal.specs.Costs.{split_cost, IsCheapest}
use Rattle.ofit_unimodal.proofs.Cheapest.{peak_inside, cheapest_best}
use Rattle.ofit_unimodal.proofs.SplitCosts.{cost_at, cost_count, cheapest_split}
use Rattle.ofit_unimodal.proofs.UmbrellaFit.{same_umbrella, free_of}
use Rattle.ofit_unimodal.proofs.fit.fit_peak.Goals as goal

pub cheapest-peak-requires-clause-few : goal.cheapest-peak-requires-clause-few
cheapest-peak-requires-clause-few c =
    let study = c.args.study.now in
    omega (arith, cost_count (problem_stated study) c.args.rises.now c.args.falls.now c.as_slice.result.now (c.as_slice.ensures.value ∙ c.in_ok-costs.ensures), group_count study, c.requires.study.few)

pub fit_umbrella-requires-clause-filled : goal.fit_umbrella-requires-clause-filled
fit_umbrella-requires-clause-filled c = subst (All (λ (rows : List Row). 0 < length rows)) (sym c.in_ok-groups.ensures) (groups_filled c.args.study.now)

pub fit_umbrella-requires-clause-fittable : goal.fit_umbrella-requires-clause-fittable
fit_umbrella-requires-clause-fittable c = subst (λ (gs : List (List Row)). AreFittable (all_rows gs)) (sym c.in_ok-groups.ensures) (all_fittable c.args.study.now c.group_count.ensures.valid)

pub fit_umbrella-requires-clause-peak : goal.fit_umbrella-requires-clause-peak
fit_umbrella-requires-clause-peak c =
    let study = c.args.study.now in
    let s = problem_stated study in
    let first = cheapest_split s c.args.rises.now c.args.falls.now c.as_slice.result.now (c.as_slice.ensures.value ∙ c.in_ok-costs.ensures) c.cheapest-peak.result c.cheapest-peak.ensures in
    let some : 0 < s.count = omega (arith, c.if-group_count-eq0.false, c.group_count.ensures.count, group_count study) in
    omega (arith, peak_inside s c.args.rises.now c.args.falls.now c.requires.rises c.requires.falls some c.cheapest-peak.result first, ap (λ (gs : List (List Row)). length gs) c.in_ok-groups.ensures)

pub returns : goal.returns
returns c =
    let study = c.args.study.now in
    let s = problem_stated study in
    let rises = c.args.rises.now in
    let falls = c.args.falls.now in
    let items = c.in_ok-costs.costs.items in
    let b = c.cheapest-peak.result in
    let values = c.in_ok-values.values.items in
    let first : IsCheapest s rises falls b = cheapest_split s rises falls c.as_slice.result.now (c.as_slice.ensures.value ∙ c.in_ok-costs.ensures) b c.cheapest-peak.ensures in
    let there : b < length items = omega (arith, first.inside, cost_count s rises falls items c.in_ok-costs.ensures) in
    let cost : c.index.result.now ≡ split_cost s rises falls b = c.index.ensures ∙ get_or_default items b c.index.result.now 0 there ∙ cost_at s rises falls items c.in_ok-costs.ensures b first.inside in
    let some : 0 < s.count = omega (arith, c.if-group_count-eq0.false, c.group_count.ensures.count, group_count study) in
    let fit : LeastBest median _ (whole_trial values) =
    subst (λ (p : Problem). LeastBest median p (whole_trial values)) (same_umbrella study c.in_ok-groups.groups b c.in_ok-groups.ensures c.requires.study.low c.requires.study.high) c.in_ok-values.ensures.least_best in
    record {
      best =
          subst (λ (n : ℕ). IsBestPeak s b n values) (sym cost)
          (cheapest_best s rises falls c.requires.rises c.requires.falls some b first (free_of study c.requires.study.low c.requires.study.high) values (c.in_ok-values.ensures.count ∙ ap (λ (gs : List (List Row)). length gs) c.in_ok-groups.ensures) fit);
      small = c.in_ok-values.ensures.small;
      least = λ i l. omega (arith, cost, first.least i l);
    }
