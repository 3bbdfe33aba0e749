use Rattle.std.proofs.Common.{◌≡◌, ◌⊎◌, ◌+◌, refl, sym, subst, arith}
use Rattle.std.specs.Prelude.{IfOk, OnErr, OnOk}
use Rattle.ofit_script.specs.declared.line.Line.{Line}
use Rattle.ofit_script.specs.declared.line.Line.TheVariants.{Change, Report, Sheet}
use Rattle.ofit_script.specs.ScriptGives.{LineGives}
use Rattle.ofit_script.specs.Runs.{CountsLine, IsBehind, IsRun, Touches}
use Rattle.ofit_script.proofs.Printed.{line_is, no_edit}
use Rattle.ofit_script.proofs.run.run_line.Goals as goal

pub returns-in-Change-clause-run : goal.returns-in-Change-clause-run
returns-in-Change-clause-run c =
    let at = line_is c.args.script.now c.args.index c.line.result.now (Change c.in-Change.edit) c.line.ensures.line c.in-Change.is in
    subst (λ (l : Line). OnOk c.run_edit.result (IsRun (c.args.index + 1) c.args.session.now.study l c.run_edit.new.session.study c.args.into.now.items c.run_edit.new.into.items c.args.tally.now c.run_edit.new.tally)) (sym at) c.run_edit.ensures.run

pub returns-in-Change-clause-touches : goal.returns-in-Change-clause-touches
returns-in-Change-clause-touches c =
    let at = line_is c.args.script.now c.args.index c.line.result.now (Change c.in-Change.edit) c.line.ensures.line c.in-Change.is in
    subst (λ (l : Line). IfOk c.run_edit.result (Touches c.args.session.now.study l c.run_edit.new.session.study c.args.tally.now c.run_edit.new.tally)) (sym at) c.run_edit.ensures.touches

pub returns-in-Change-clause-stops : goal.returns-in-Change-clause-stops
returns-in-Change-clause-stops c =
    let at = line_is c.args.script.now c.args.index c.line.result.now (Change c.in-Change.edit) c.line.ensures.line c.in-Change.is in
    subst
    (λ (l : Line). OnErr c.run_edit.result (((c.run_edit.new.session ≡ c.args.session.now) × CountsLine c.args.session.now.study l c.args.tally.now c.run_edit.new.tally)
    ⊎ IsBehind (c.args.index + 1) c.args.session.now.study l c.run_edit.new.session.study c.args.tally.now c.run_edit.new.tally)) (sym at) c.run_edit.ensures.stops

pub returns-in_ok-append_report-in-Report-clause-run : goal.returns-in_ok-append_report-in-Report-clause-run
returns-in_ok-append_report-in-Report-clause-run c =
    let s = c.args.session.now.study in
    let at = line_is c.args.script.now c.args.index c.line.result.now Report c.line.ensures.line c.in-Report.is in
    let told = c.in_ok-append_report-in-Report.ensures.ok in
    record {
      text = told.0;
      fits = 0;
      gives = subst (λ (l : Line). LineGives (c.args.index + 1) s l s told.0 0) (sym at) told.1;
      appended = told.2;
      counts_are = omega arith;
    }

pub returns-in_ok-append_report-in-Report-clause-touches : goal.returns-in_ok-append_report-in-Report-clause-touches
returns-in_ok-append_report-in-Report-clause-touches c =
    let at = line_is c.args.script.now c.args.index c.line.result.now Report c.line.ensures.line c.in-Report.is in
    ((λ taken t. no_edit c.args.session.now.study taken _ Report at refl t), refl)

pub returns-in_ok-append_sheet-in-Sheet-clause-run : goal.returns-in_ok-append_sheet-in-Sheet-clause-run
returns-in_ok-append_sheet-in-Sheet-clause-run c =
    let s = c.args.session.now.study in
    let at = line_is c.args.script.now c.args.index c.line.result.now Sheet c.line.ensures.line c.in-Sheet.is in
    let told = c.in_ok-append_sheet-in-Sheet.ensures.ok in
    record {
      text = told.0;
      fits = 0;
      gives = subst (λ (l : Line). LineGives (c.args.index + 1) s l s told.0 0) (sym at) told.1;
      appended = told.2;
      counts_are = omega arith;
    }

pub returns-in_ok-append_sheet-in-Sheet-clause-touches : goal.returns-in_ok-append_sheet-in-Sheet-clause-touches
returns-in_ok-append_sheet-in-Sheet-clause-touches c =
    let at = line_is c.args.script.now c.args.index c.line.result.now Sheet c.line.ensures.line c.in-Sheet.is in
    ((λ taken t. no_edit c.args.session.now.study taken _ Sheet at refl t), refl)
