use Rattle.std.proofs.Common.{◌≢◌, ◌++◌, ◌∙◌, List, ℕ, Bor, map, ap, sym}
use Rattle.csv.specs.Writing.{row_text, writer_setup}
use Rattle.csv.specs.declared.writer.WriterBuilder.{WriterBuilder}
use Rattle.csv.specs.declared.writer.QuoteStyle.TheVariants as style
use Rattle.ofit_records.specs.Writing.{text_given}
use Rattle.ofit_records.proofs.WrittenText.{same_text, told}
use Rattle.ofit_records.proofs.writer.writes.Goals as goal

pub returns-clause-text : goal.returns-clause-text
returns-clause-text c went =
    let at = c.requires in
    let fields = map (λ (f : Bor (List ℕ)). f.now) c.args.fields.now in
    let plain : (writer_setup c.args.writer.now).style ≢ style.NonNumeric = rw at.0 (λ e. cc e) in
    told c.write_fields.result (sym c.is_ok.ensures.value ∙ went) c.write_fields.ensures.bytes at.1 at.2 plain
    ∙ ap (λ (s : WriterBuilder). text_given c.args.writer.now ++ row_text s fields) at.0
    ∙ ap (λ (t : List ℕ). text_given c.args.writer.now ++ t) (same_text fields)
