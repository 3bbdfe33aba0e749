use Rattle.ofit_input.specs.declared.ready.Ready.TheVariants.{Sample}
use Rattle.ofit_top.proofs.Counted.{job_within}
use Rattle.ofit_sample.proofs.Fitted.{on_err}
use Rattle.ofit_top.proofs.sample.print_sample.Goals as goal

pub returns-in_err-text-clause-within : goal.returns-in_err-text-clause-within
returns-in_err-text-clause-within c =
    let e = c.in_err-text.ensures in
    on_err c.from_residual.result _
    (job_within (Sample c.args.made.now) c.args.tally.now c.sample_text.new.tally e.grown e.grown_cuts e.fewer_cuts (λ n h. e.limited h.0 n h.1 h.2))
