use Rattle.std.proofs.Common.{◌≡◌, ◌++◌, Option, Some, None, sym, ap, ◌∙◌}
use Rattle.std.specs.Prelude.{option_map}
use Rattle.std.proofs.lemmas.Result.{on_ok_weaker}
use Rattle.ofit_num.specs.Sheet as num
use Rattle.ofit_records.specs.Written.{records_text}
use Rattle.ofit_sheet.specs.Parts.{size_of}
use Rattle.ofit_sheet.specs.SheetText.{size_fields, size_records}
use Rattle.ofit_sheet.proofs.WrittenParts.{no_text, one_text}
use Rattle.ofit_sheet.proofs.write.write_size.Goals as goal

pub returns-in-None : goal.returns-in-None
returns-in-None c =
    let size : None ≡ c.args.sheet.now.size = ap (option_map size_of) (sym c.in-None.is) ∙ c.size.ensures in
    no_text c.args.writer.now ∙ ap (λ (z : Option num.Size). c.args.writer.now ++ records_text (size_records z)) size

pub returns-in-Some : goal.returns-in-Some
returns-in-Some c =
    let size : Some (size_of c.in-Some.size) ≡ c.args.sheet.now.size = ap (option_map size_of) (sym c.in-Some.is) ∙ c.size.ensures in
    on_ok_weaker c.write_size_record.result
    (λ e. e ∙ one_text c.args.writer.now (size_fields (size_of c.in-Some.size)) ∙ ap (λ (z : Option num.Size). c.args.writer.now ++ records_text (size_records z)) size) c.write_size_record.ensures
