use Rattle.std.proofs.Common.{◌≡◌, ◌+◌, ℕ, List, ap, sym, ◌∙◌, arith, rules, FitsSigned, to_z, of_z}
use Rattle.std.proofs.lemmas.Int.{to_z-of_z}
use Rattle.std.specs.Int.{w64}
use Rattle.std.specs.Prelude.{ℤ}
use Rattle.ofit_num.specs.declared.row.Row.{Row}
use Rattle.ofit_num.specs.Loss.{median}
use Rattle.ofit_study.specs.Study.{groups_of, problem_stated}
use Rattle.ofit_sheet.specs.PeakVerdict.{value_at}
use Rattle.ofit_check.proofs.PeakCosts.{sum_more, rows_limited}
use Rattle.ofit_check.proofs.PeakSteps.{rows_there, value_there}
use Rattle.ofit_check.proofs.peak.cost.cost_of_side.Goals as goal

pub cost_of-cost-requires : goal.cost_of-cost-requires
cost_of-cost-requires c = rows_limited c.args.study.now c.requires.valid (c.args.start + c.loop-index.index) c.rows_of.result.now c.rows_of.ensures

pub loop-index-preserved : goal.loop-index-preserved
loop-index-preserved c =
    let s = c.args.study.now in
    let j = c.loop-index.index in
    let place = c.args.start + j in
    let side = c.args.side.now in
    let fits : FitsSigned w64 c.step-value.result.0 = search rules in
    let value : to_z w64 (of_z w64 c.step-value.result.0) ≡ value_at side j = to_z-of_z w64 c.step-value.result.0 fits ∙ sym (value_there side j c.step-value.result c.step-value.ensures) in
    let one : c.cost_of-cost.result ≡ median.cost ((problem_stated s).rows place) (value_at side j) 1 =
    c.cost_of-cost.ensures.exact ∙ ap (λ (z : ℤ). median.cost c.rows_of.result.now z 1) value ∙ ap (λ (rs : List Row). median.cost rs (value_at side j) 1) (sym (rows_there (groups_of s) place c.rows_of.result.now c.rows_of.ensures)) in
    record {
      exact = omega (arith, one, c.loop-index.invariant.exact, sum_more (λ (k : ℕ). median.cost ((problem_stated s).rows (c.args.start + k)) (value_at side k) 1) j);
      most = omega (arith, c.cost_of-cost.ensures.most, c.loop-index.invariant.most);
    }
