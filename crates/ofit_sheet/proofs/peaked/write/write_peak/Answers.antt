use Rattle.std.proofs.Common.{◌≡◌, ◌++◌, ℕ, Option, Some, None, sym, ap, ◌∙◌, length}
use Rattle.std.proofs.lemmas.Result.{on_ok_weaker}
use Rattle.ofit_records.specs.Written.{record_text}
use Rattle.ofit_study.specs.Study.{names_of}
use Rattle.ofit_sheet.specs.PeakedText.{peak_fields}
use Rattle.ofit_sheet.proofs.Shapes.{place_there}
use Rattle.ofit_sheet.proofs.peaked.write.write_peak.Goals as goal

pub returns-in-None : goal.returns-in-None
returns-in-None c =
    let none : None ≡ c.args.peaked.now.peak = sym c.in-None.is ∙ c.peak.ensures in
    on_ok_weaker c.write_no_peak.result (λ e. e ∙ ap (λ (p : Option ℕ). c.args.writer.now ++ record_text (peak_fields (names_of c.args.study.now) p c.args.peaked.now.cost)) none) c.write_no_peak.ensures

pub write_peak_at-requires : goal.write_peak_at-requires
write_peak_at-requires c = place_there c.args.peaked.now.peak (length (names_of c.args.study.now)) c.in-Some.place c.requires.peak (sym c.peak.ensures ∙ c.in-Some.is)

pub returns-in-Some : goal.returns-in-Some
returns-in-Some c =
    let some : Some c.in-Some.place ≡ c.args.peaked.now.peak = sym c.in-Some.is ∙ c.peak.ensures in
    on_ok_weaker c.write_peak_at.result
    (λ e. e
    ∙ ap (λ (k : ℕ). c.args.writer.now ++ record_text (peak_fields (names_of c.args.study.now) (Some c.in-Some.place) k)) c.cost.ensures
    ∙ ap (λ (p : Option ℕ). c.args.writer.now ++ record_text (peak_fields (names_of c.args.study.now) p c.args.peaked.now.cost)) some) c.write_peak_at.ensures
