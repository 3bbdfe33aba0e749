use Rattle.std.proofs.Common.{inl, inr, refl, subst, ap, arith}
use Rattle.ofit_fit.proofs.Fitted.{at_any}
use Rattle.ofit_num.specs.Tally.{Counts}
use Rattle.ofit_session.specs.Fitted.{Fitted}
use Rattle.ofit_study.specs.Study.{IsValid}
use Rattle.ofit_script.specs.LineText.{refitted_text, refused_text}
use Rattle.ofit_script.proofs.Refused.{none_taken, refused_so}
use Rattle.ofit_script.proofs.run.run_edit.Goals as goal

pub returns-in_err-append_refitted-in-Ok-clause-stops : goal.returns-in_err-append_refitted-in-Ok-clause-stops
returns-in_err-append_refitted-in-Ok-clause-stops c =
    at_any c.from_residual.result
    (inr (record {
      text = refitted_text c.args.number c.in-Ok.touch.refitted c.in-Ok.touch.components;
      fits = c.in-Ok.touch.refitted;
      gives = inl (record { edited = c.in-Ok.ensures.edited; refitted = c.in-Ok.ensures.refitted; components = c.in-Ok.touch.components; are_all = c.in-Ok.ensures.components; printed = refl });
      counts_are = c.in-Ok.ensures.counted;
    }))

pub returns-in_ok-append_refitted-in-Ok-clause-touches : goal.returns-in_ok-append_refitted-in-Ok-clause-touches
returns-in_ok-append_refitted-in-Ok-clause-touches c = (
  record { edit = c.args.edit.now; is = refl; edited = c.in-Ok.ensures.edited },
  c.in-Ok.ensures.refitted,
  c.in-Ok.ensures.components,
  c.in-Ok.ensures.counted,
)

pub returns-in_ok-append_refused-in-Err-clause-run : goal.returns-in_ok-append_refused-in-Err-clause-run
returns-in_ok-append_refused-in-Err-clause-run c =
    let told = refused_so c.in-Err.fault c.in_ok-append_refused-in-Err.ensures.other c.in-Err.ensures.refused in
    record {
      text = refused_text c.args.number c.in-Err.fault;
      fits = 0;
      gives = inr (record { fault = c.in-Err.fault; refused = told.0; stays = ap (λ (f : Fitted). f.study) c.in-Err.ensures.unchanged; none = refl; printed = refl });
      appended = c.in_ok-append_refused-in-Err.ensures.ok;
      counts_are = omega (arith, ap (λ (n : Counts). n.fits) told.1);
    }

pub returns-in_ok-append_refused-in-Err-clause-touches : goal.returns-in_ok-append_refused-in-Err-clause-touches
returns-in_ok-append_refused-in-Err-clause-touches c =
    let told = refused_so c.in-Err.fault c.in_ok-append_refused-in-Err.ensures.other c.in-Err.ensures.refused in
    let valid : IsValid c.args.session.now.study = subst IsValid c.study.ensures.study c.keeps_limits.ensures.valid in (
      (λ taken t. none_taken c.args.session.now.study valid.rising c.args.edit.now c.in-Err.fault told.0 taken t),
      told.1,
    )
