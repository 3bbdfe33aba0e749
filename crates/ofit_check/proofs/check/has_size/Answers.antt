use Rattle.std.proofs.Common.{◌∙◌, ap, sym}
use Rattle.std.specs.Option.{option_map}
use Rattle.ofit_sheet.specs.Parts.{size_of}
use Rattle.ofit_check.proofs.Reading.{weight_told, rows_told}
use Rattle.ofit_check.proofs.check.has_size.Goals as goal

pub returns-then-size-row_count : goal.returns-then-size-row_count
returns-then-size-row_count c =
    weight_told c.args.study.now c.args.sheet.now (size_of c.in-Some.size) (sym c.size.ensures ∙ ap (option_map size_of) c.in-Some.is) c.total_weight.result (c.if-size-row_count.true ∙ c.row_count.ensures.count) c.total_weight.ensures

pub returns-else-size-row_count : goal.returns-else-size-row_count
returns-else-size-row_count c =
    rows_told c.args.study.now c.args.sheet.now (size_of c.in-Some.size) (sym c.size.ensures ∙ ap (option_map size_of) c.in-Some.is) c.row_count.result c.row_count.ensures.count c.if-size-row_count.false
