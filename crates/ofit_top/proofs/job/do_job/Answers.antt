use Rattle.std.proofs.Common.{refl, subst, sym}
use Rattle.std.specs.Prelude.{IfOk}
use Rattle.ofit_input.specs.declared.ready.Ready.{Ready}
use Rattle.ofit_top.specs.Job.{JobGives, HasFits}
use Rattle.ofit_top.proofs.Counted.{none_counts, none_within}
use Rattle.ofit_sample.proofs.Fitted.{on_ok, on_err}
use Rattle.ofit_top.proofs.job.do_job.Goals as goal

pub returns-in-Verify-clause-gives : goal.returns-in-Verify-clause-gives
returns-in-Verify-clause-gives c =
    subst (λ (r : Ready). IfOk c.print_verdict.result (λ printed. JobGives r printed.answer printed.text.items)) (sym c.in-Verify.is) c.print_verdict.ensures

pub returns-in-Verify-clause-counts : goal.returns-in-Verify-clause-counts
returns-in-Verify-clause-counts c = on_ok c.print_verdict.result _ (none_counts c.args.ready c.args.tally.now (subst (λ (r : Ready). HasFits r 0) (sym c.in-Verify.is) refl))

pub returns-in-Verify-clause-within : goal.returns-in-Verify-clause-within
returns-in-Verify-clause-within c = on_err c.print_verdict.result _ (none_within c.args.ready c.args.tally.now)

pub returns-in-Unimodal-clause-counts : goal.returns-in-Unimodal-clause-counts
returns-in-Unimodal-clause-counts c = on_ok c.print_unimodal.result _ (none_counts c.args.ready c.args.tally.now (subst (λ (r : Ready). HasFits r 0) (sym c.in-Unimodal.is) refl))

pub returns-in-Unimodal-clause-within : goal.returns-in-Unimodal-clause-within
returns-in-Unimodal-clause-within c = on_err c.print_unimodal.result _ (none_within c.args.ready c.args.tally.now)

pub returns-in-VerifyUnimodal-clause-gives : goal.returns-in-VerifyUnimodal-clause-gives
returns-in-VerifyUnimodal-clause-gives c =
    subst (λ (r : Ready). IfOk c.print_peak_verdict.result (λ printed. JobGives r printed.answer printed.text.items)) (sym c.in-VerifyUnimodal.is) c.print_peak_verdict.ensures

pub returns-in-VerifyUnimodal-clause-counts : goal.returns-in-VerifyUnimodal-clause-counts
returns-in-VerifyUnimodal-clause-counts c = on_ok c.print_peak_verdict.result _ (none_counts c.args.ready c.args.tally.now (subst (λ (r : Ready). HasFits r 0) (sym c.in-VerifyUnimodal.is) refl))

pub returns-in-VerifyUnimodal-clause-within : goal.returns-in-VerifyUnimodal-clause-within
returns-in-VerifyUnimodal-clause-within c = on_err c.print_peak_verdict.result _ (none_within c.args.ready c.args.tally.now)
