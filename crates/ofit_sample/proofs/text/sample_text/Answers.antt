use Rattle.std.proofs.Common.{List, sym, subst}
use Rattle.std.proofs.lemmas.Result.{IfOk-weaker}
use Rattle.ofit_num.specs.Fit.{LeastBestValues}
use Rattle.ofit_num.specs.Fraction.{Fraction}
use Rattle.ofit_study.specs.Loss.{meaning_of}
use Rattle.ofit_study.specs.Study.{problem_stated}
use Rattle.ofit_sample.specs.SampleText.{SampleText, TellsSample}
use Rattle.ofit_sample.proofs.Fitted.{best_values, limited_by_count, limited_by_fit, made_some, on_err, on_ok}
use Rattle.ofit_sample.proofs.text.sample_text.Goals as goal

pub summary_text-requires-clause-groups : goal.summary_text-requires-clause-groups
summary_text-requires-clause-groups c = made_some c.args.job.now c.in_ok-study.study c.requires.job.0 c.in_ok-study.ensures

pub summary_text-requires-clause-best : goal.summary_text-requires-clause-best
summary_text-requires-clause-best c =
    let s = c.in_ok-study.study in
    best_values (meaning_of s.settings.loss) (problem_stated s) c.as_slice-fit.result.now (subst (λ (vs : List Fraction). LeastBestValues (meaning_of s.settings.loss) (problem_stated s) vs) (sym c.as_slice-fit.ensures.value) c.in_ok-values.ensures.least_best)

pub returns-clause-text : goal.returns-clause-text
returns-clause-text c =
    let job = c.args.job.now in
    let s = c.in_ok-study.study in
    let values = c.as_slice-fit.result.now in
    let least_best : LeastBestValues (meaning_of s.settings.loss) (problem_stated s) values = subst (λ (vs : List Fraction). LeastBestValues (meaning_of s.settings.loss) (problem_stated s) vs) (sym c.as_slice-fit.ensures.value) c.in_ok-values.ensures.least_best in
    IfOk-weaker c.summary_text.result (λ text. TellsSample job s values text.items) (λ text. SampleText job text.items)
    (λ text h. record { study = s; made = c.in_ok-study.ensures; values = values; least_best = least_best; lowest = c.tell_lowest.ensures; tells = h }) c.summary_text.ensures

pub returns-clause-counted : goal.returns-clause-counted
returns-clause-counted c =
    let n = c.in_ok-values.ensures.counted in
    on_ok c.summary_text.result _ (c.in_ok-study.study, c.in_ok-study.ensures, n.0, n.1, n.2)

pub returns-clause-limited : goal.returns-clause-limited
returns-clause-limited c =
    let n = c.in_ok-values.ensures.counted in
    on_err c.summary_text.result _ (limited_by_count c.args.job.now c.in_ok-study.study c.in_ok-study.ensures c.args.tally.now.fits c.fit_study.new.tally.fits n.0 n.1 n.2)

pub returns-in_err-values-clause-limited : goal.returns-in_err-values-clause-limited
returns-in_err-values-clause-limited c =
    on_err c.from_residual-in_err-values.result _ (limited_by_fit c.args.job.now c.in_ok-study.study c.in_ok-study.ensures c.args.tally.now.fits c.fit_study.new.tally.fits c.in_err-values.ensures.limited)
