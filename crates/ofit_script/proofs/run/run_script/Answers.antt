use Rattle.std.proofs.Common.{arith, subst}
use Rattle.ofit_fit.proofs.Fitted.{at_any}
use Rattle.ofit_study.specs.Study.{IsValid}
use Rattle.ofit_script.proofs.OneRun.{part_within}
use Rattle.ofit_script.proofs.Running.{line_ran, stopped}
use Rattle.ofit_script.proofs.run.run_script.Goals as goal

pub returns-in_err-run_line-clause-part : goal.returns-in_err-run_line-clause-part
returns-in_err-run_line-clause-part c =
    at_any c.from_residual.result
    (stopped c.args.session.now.study c.args.script.now c.loop-index.index (omega (arith, c.loop-index-test.true, c.count-index-end.ensures.count)) c.loop-index.session c.run_line.new.session c.loop-index.text.items c.args.tally.now c.loop-index.tally c.run_line.new.tally
    c.loop-index.invariant c.in_err-run_line.ensures.stops)

pub returns-in_err-run_line-clause-limited : goal.returns-in_err-run_line-clause-limited
returns-in_err-run_line-clause-limited c =
    let valid : IsValid c.args.session.now.study = subst IsValid c.study.ensures.study c.keeps_limits.ensures.valid in
    at_any c.from_residual.result
    (part_within c.args.session.now.study valid.rising c.args.script.now c.run_line.new.session.study c.args.tally.now c.run_line.new.tally
    (stopped c.args.session.now.study c.args.script.now c.loop-index.index (omega (arith, c.loop-index-test.true, c.count-index-end.ensures.count)) c.loop-index.session c.run_line.new.session c.loop-index.text.items c.args.tally.now c.loop-index.tally c.run_line.new.tally
    c.loop-index.invariant c.in_err-run_line.ensures.stops))

pub loop-index-preserved : goal.loop-index-preserved
loop-index-preserved c =
    let e = c.in_ok-run_line.ensures in
    line_ran c.args.session.now.study c.args.script.now c.loop-index.index (omega (arith, c.loop-index-test.true, c.count-index-end.ensures.count)) c.loop-index.session.study c.run_line.new.session.study c.loop-index.text.items c.run_line.new.into.items
    c.args.tally.now c.loop-index.tally c.run_line.new.tally c.loop-index.invariant e.run e.few e.grown_cuts e.fewer_cuts
