use Rattle.std.proofs.Common.{ℕ, sym, subst}
use Rattle.ofit_study.specs.Study.{problem_stated}
use Rattle.ofit_sheet.specs.Peaked.{IsShaped}
use Rattle.ofit_sheet.specs.PeakVerdict.{IsPeakVerdict}
use Rattle.ofit_check.specs.Peak.{peak_told}
use Rattle.ofit_check.specs.declared.peak.verdict.PeakVerdict.{PeakVerdict}
use Rattle.ofit_study.proofs.Places.{group_count}
use Rattle.ofit_check.proofs.PeakPassed.{passed_is_best}
use Rattle.ofit_check.proofs.peak.check.verdict_unimodal.Goals as goal

pub returns-clause-best : goal.returns-clause-best
returns-clause-best c =
    let s = c.args.study.now in
    let x = c.args.peaked.now in
    λ e. passed_is_best (problem_stated s) s.settings.places x (subst (λ (n : ℕ). IsShaped n x) (sym (group_count s)) c.requires.shaped)
    (subst (λ (v : PeakVerdict). IsPeakVerdict (problem_stated s) s.settings.places x (peak_told v)) e c.first_fault.ensures)
