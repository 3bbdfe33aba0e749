use Rattle.std.proofs.Common.{◌∙◌, ◌++◌, List, ℕ, refl, ap}
use Rattle.std.proofs.lemmas.Result.{on_ok_weaker}
use Rattle.ofit_script.specs.LineText.{report_text}
use Rattle.ofit_script.proofs.Printed.{reported}
use Rattle.ofit_script.proofs.print.append_report.Goals as goal

pub returns-clause-ok : goal.returns-clause-ok
returns-clause-ok c =
    on_ok_weaker c.append_all.result
    (λ e. (
      report_text c.args.number c.in_ok-report.report.items,
      record {
        report = c.in_ok-report.report.items;
        is_report = record {
          values = c.args.session.now.values;
          least_best = c.study-study.ensures.fit;
          lowest = c.in_ok-report.ensures.lowest;
          printed = c.in_ok-report.ensures.told;
        };
        stays = refl;
        none = refl;
        printed = refl;
      },
      e ∙ ap (λ (t : List ℕ). c.args.into.now.items ++ t) (reported c.args.number c.as_bytes.result.now c.as_slice.result.now c.in_ok-report.report.items (c.as_bytes.ensures.value ∙ c.format.ensures.text) c.as_slice.ensures.value),
    )) c.append_all.ensures.ok
