use Rattle.std.proofs.Common.{◌++◌, ℤ, pos, List, map, get_or, ap, ◌∙◌, arith}
use Rattle.std.specs.List.{enumerate_from}
use Rattle.std.proofs.lemmas.Option.{slice_get-get_or}
use Rattle.ofit_records.specs.Written.{records_text}
use Rattle.ofit_study.specs.Study.{names_of}
use Rattle.ofit_sheet.specs.PeakedText.{step_fields}
use Rattle.ofit_sheet.proofs.WrittenParts.{no_text}
use Rattle.ofit_sheet.proofs.WrittenPeaked.{one_listed, all_listed}
use Rattle.ofit_sheet.proofs.peaked.write.write_steps.Goals as goal

pub loop-step-init : goal.loop-step-init
loop-step-init c = record { placed = omega arith; text = no_text c.args.writer.now }

pub loop-step-preserved : goal.loop-step-preserved
loop-step-preserved c = record {
  placed = omega (arith, c.loop-step.invariant.placed);
  text = one_listed (step_fields (names_of c.args.study.now)) c.args.start c.steps-step-items.result.now c.loop-step.step-index c.loop-step.place
      (get_or c.steps-step-items.result.now c.loop-step.step-index (pos 0, pos 0)) c.args.writer.now c.loop-step.writer c.write_step.new.writer c.loop-step.invariant.placed
      (slice_get-get_or c.steps-step-items.result.now c.loop-step.step-index (pos 0, pos 0) c.loop-step-test.true) c.loop-step.invariant.text c.in_ok-write_step.ensures;
}

pub returns : goal.returns
returns c =
    all_listed (step_fields (names_of c.args.study.now)) c.args.start c.steps-step-items.result.now c.loop-step.step-index c.args.writer.now c.loop-step.writer (omega arith) c.loop-step.invariant.text
    ∙ ap (λ (t : List (ℤ × ℤ)). c.args.writer.now ++ records_text (map (step_fields (names_of c.args.study.now)) (enumerate_from c.args.start t))) c.steps-step-items.ensures
