use Rattle.std.proofs.Common.{◌++◌, ℕ, map, ap, ◌∙◌}
use Rattle.std.specs.List.{enumerate_from}
use Rattle.std.proofs.lemmas.Result.{on_ok_weaker}
use Rattle.ofit_records.specs.Written.{records_text}
use Rattle.ofit_study.specs.Study.{names_of}
use Rattle.ofit_sheet.specs.PeakedText.{side_fields, side_start, step_fields}
use Rattle.ofit_sheet.proofs.WrittenPeaked.{headed}
use Rattle.ofit_sheet.proofs.peaked.write.write_side.Goals as goal

pub returns : goal.returns
returns c =
    on_ok_weaker c.write_steps.result
    (λ e. headed (side_fields c.args.slope c.args.index) (map (step_fields (names_of c.args.study.now)) (enumerate_from (side_start c.args.slope c.args.index) c.args.side.now)) c.args.writer.now _ _ c.in_ok-write_side_header.ensures
    (e ∙ ap (λ (k : ℕ). c.write_side_header.new.writer ++ records_text (map (step_fields (names_of c.args.study.now)) (enumerate_from k c.args.side.now))) c.start.ensures)) c.write_steps.ensures
