use Rattle.std.proofs.Common.{◌≡◌, ℕ, List, ap, sym, ◌∙◌, arith, rules, FitsSigned, to_z, of_z}
use Rattle.std.proofs.lemmas.Int.{to_z-of_z}
use Rattle.std.specs.Int.{w64}
use Rattle.std.specs.Prelude.{ℤ, pos, slice_index_or}
use Rattle.ofit_num.specs.declared.row.Row.{Row}
use Rattle.ofit_num.specs.Loss.{median}
use Rattle.ofit_study.specs.Study.{groups_of, problem_stated}
use Rattle.ofit_check.proofs.PeakCosts.{sum_more, rows_limited, number_there}
use Rattle.ofit_check.proofs.PeakSteps.{rows_there}
use Rattle.ofit_check.proofs.peak.cost.cost_of_values.Goals as goal

pub cost_of-cost-requires : goal.cost_of-cost-requires
cost_of-cost-requires c = rows_limited c.args.study.now c.group_count-place-end.ensures.valid c.loop-place.place c.rows_of.result.now c.rows_of.ensures

pub loop-place-preserved : goal.loop-place-preserved
loop-place-preserved c =
    let s = c.args.study.now in
    let place = c.loop-place.place in
    let values = c.args.peaked.now.values in
    let fits : FitsSigned w64 c.value.result = search rules in
    let value : to_z w64 (of_z w64 c.value.result) ≡ slice_index_or values place (pos 0) = to_z-of_z w64 c.value.result fits ∙ sym (number_there values place c.value.result c.value.ensures) in
    let one : c.cost_of-cost.result ≡ median.cost ((problem_stated s).rows place) (slice_index_or values place (pos 0)) 1 =
    c.cost_of-cost.ensures.exact ∙ ap (λ (z : ℤ). median.cost c.rows_of.result.now z 1) value ∙ ap (λ (rs : List Row). median.cost rs (slice_index_or values place (pos 0)) 1) (sym (rows_there (groups_of s) place c.rows_of.result.now c.rows_of.ensures)) in
    record {
      exact = omega (arith, one, c.loop-place.invariant.exact, sum_more (λ (g : ℕ). median.cost ((problem_stated s).rows g) (slice_index_or values g (pos 0)) 1) place);
      most = omega (arith, c.cost_of-cost.ensures.most, c.loop-place.invariant.most);
    }
