use Rattle.std.proofs.Common.{◌≡◌, ◌++◌, ℕ, List, ap, ◌∙◌}
use Rattle.std.proofs.lemmas.Result.{IfOk-weaker}
use Rattle.ofit_records.specs.Written.{record_text}
use Rattle.ofit_study.specs.Study.{names_of}
use Rattle.ofit_sheet.specs.declared.peaked.slope.Slope.TheVariants.{Rise, Fall}
use Rattle.ofit_sheet.specs.SheetText.{end_fields}
use Rattle.ofit_sheet.specs.PeakedText.{peaked_header_fields, peak_fields, value_records, sides_records, peaked_text}
use Rattle.ofit_sheet.proofs.WrittenPeaked.{whole_peaked}
use Rattle.ofit_sheet.proofs.peaked.write.write_peaked.Goals as goal

pub returns : goal.returns
returns c =
    let names = names_of c.args.study.now in
    let x = c.args.peaked.now in
    let first : c.write_header.new.writer ≡ record_text (peaked_header_fields x.places) =
    c.in_ok-write_header.ensures ∙ ap (λ (t : List ℕ). t ++ record_text (peaked_header_fields c.places.result)) c.in_ok-writer.ensures ∙ ap (λ (k : ℕ). record_text (peaked_header_fields k)) c.places.ensures in
    IfOk-weaker c.into_text.result (λ text. text.items ≡ c.add_record.new.self) (λ text. text.items ≡ peaked_text names x)
    (λ text e. e ∙ whole_peaked (peaked_header_fields x.places) (peak_fields names x.peak x.cost) end_fields (value_records names x.values) (sides_records names Rise x.rises) (sides_records names Fall x.falls)
    _ _ _ _ _ _ first c.in_ok-write_peak.ensures c.in_ok-write_values.ensures c.in_ok-write_sides.ensures c.in_ok-write_sides-2.ensures c.in_ok-add_record.ensures) c.into_text.ensures
