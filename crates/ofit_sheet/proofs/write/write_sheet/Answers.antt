use Rattle.std.proofs.Common.{◌≡◌, ◌++◌, ℕ, List, map, ap, ◌∙◌}
use Rattle.std.proofs.lemmas.Result.{IfOk-weaker}
use Rattle.ofit_records.specs.Written.{record_text}
use Rattle.ofit_study.specs.declared.settings.Settings.{Settings}
use Rattle.ofit_study.specs.Study.{names_of}
use Rattle.ofit_sheet.specs.SheetText.{header_fields, bounds_fields, size_records, value_fields, flow_fields, end_fields, sheet_text}
use Rattle.ofit_sheet.proofs.WrittenParts.{whole_text}
use Rattle.ofit_sheet.proofs.write.write_sheet.Goals as goal

pub returns : goal.returns
returns c =
    let first : c.write_header.new.writer ≡ record_text (header_fields c.args.sheet.now) = c.in_ok-write_header.ensures ∙ ap (λ (t : List ℕ). t ++ record_text (header_fields c.args.sheet.now)) c.in_ok-writer.ensures in
    let second : c.write_bounds.new.writer ≡ c.write_header.new.writer ++ record_text (bounds_fields c.args.sheet.now.settings) =
    c.in_ok-write_bounds.ensures ∙ ap (λ (t : Settings). c.write_header.new.writer ++ record_text (bounds_fields t)) c.settings.ensures.value in
    IfOk-weaker c.into_text.result (λ text. text.items ≡ c.add_record.new.self) (λ text. text.items ≡ sheet_text (names_of c.args.study.now) c.args.sheet.now)
    (λ text e. e ∙ whole_text (header_fields c.args.sheet.now) (bounds_fields c.args.sheet.now.settings) end_fields (size_records c.args.sheet.now.size)
    (map (value_fields (names_of c.args.study.now)) c.args.sheet.now.values) (map (flow_fields (names_of c.args.study.now)) c.args.sheet.now.flows)
    _ _ _ _ _ _ first second c.in_ok-write_size.ensures c.in_ok-write_values.ensures c.in_ok-write_flows.ensures c.in_ok-add_record.ensures) c.into_text.ensures
