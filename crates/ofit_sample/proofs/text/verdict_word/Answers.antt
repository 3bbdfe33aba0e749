use Rattle.ofit_num.specs.Verdict as num
use Rattle.ofit_num.proofs.Verdicts.{one_verdict}
use Rattle.ofit_study.specs.Loss.{meaning_of}
use Rattle.ofit_study.specs.Study.{problem_stated}
use Rattle.ofit_check.specs.Told.{told}
use Rattle.ofit_sample.proofs.Told.{passing}
use Rattle.ofit_sample.proofs.text.verdict_word.Goals as goal

pub unreachable-requires : goal.unreachable-requires
unreachable-requires c =
    let s = c.args.study.now in
    let verdict = c.verdict_sheet.result in
    c.in_default.not-Passes (passing verdict (one_verdict (meaning_of s.settings.loss) (problem_stated s) s.settings c.args.sheet.now (told verdict) num.passes c.verdict_sheet.ensures.verdict c.requires.passes))
