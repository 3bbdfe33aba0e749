use Rattle.ofit_input.specs.declared.ready.Ready.TheVariants.{Fit}
use Rattle.ofit_study.specs.Study.{problem_stated}
use Rattle.ofit_fit.proofs.Fitted.{one_count}
use Rattle.ofit_top.proofs.Counted.{job_counts, whole_within, job_within}
use Rattle.ofit_sample.proofs.Fitted.{on_err}
use Rattle.ofit_top.proofs.fit.print_fit.Goals as goal

pub returns-in_err-values-clause-within : goal.returns-in_err-values-clause-within
returns-in_err-values-clause-within c =
    let e = c.in_err-values.ensures in
    on_err c.from_residual.result _ (job_within (Fit c.args.study.now) c.args.tally.now c.fit_study.new.tally e.grown e.grown_cuts e.fewer_cuts e.limited)

pub returns-in_err-sheet-clause-within : goal.returns-in_err-sheet-clause-within
returns-in_err-sheet-clause-within c =
    let e = c.in_ok-values.ensures in
    let n = e.counted in
    on_err c.from_residual-in_err-sheet.result _
    (whole_within (Fit c.args.study.now) c.args.tally.now c.fit_study.new.tally (one_count (problem_stated c.args.study.now)) (job_counts (Fit c.args.study.now) c.args.tally.now c.fit_study.new.tally n.0 n.1 n.2 e.grown_cuts e.fewer_cuts))

pub returns-in_err-text-clause-within : goal.returns-in_err-text-clause-within
returns-in_err-text-clause-within c =
    let e = c.in_ok-values.ensures in
    let n = e.counted in
    on_err c.from_residual-in_err-text.result _
    (whole_within (Fit c.args.study.now) c.args.tally.now c.fit_study.new.tally (one_count (problem_stated c.args.study.now)) (job_counts (Fit c.args.study.now) c.args.tally.now c.fit_study.new.tally n.0 n.1 n.2 e.grown_cuts e.fewer_cuts))

pub returns-clause-counts : goal.returns-clause-counts
returns-clause-counts c =
    let e = c.in_ok-values.ensures in
    let n = e.counted in
    job_counts (Fit c.args.study.now) c.args.tally.now c.fit_study.new.tally n.0 n.1 n.2 e.grown_cuts e.fewer_cuts
