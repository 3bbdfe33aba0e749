use Rattle.std.proofs.Common.{◌<◌, ◌^◌, length, sym, ap, subst, ◌∙◌, arith}
use Rattle.ofit_num.specs.Sheet as num
use Rattle.ofit_study.specs.declared.settings.Settings.{Settings}
use Rattle.ofit_study.specs.Settings.{InLimits}
use Rattle.ofit_study.specs.Study.{names_of}
use Rattle.ofit_sheet.specs.Made.{ArePartsOfSheet}
use Rattle.ofit_sheet.specs.SheetRead.{settings_of}
use Rattle.ofit_sheet.specs.Told.{Told}
use Rattle.ofit_sheet.proofs.Reached.{rest_fault, parts_so, limits_so, few_values, few_flows, sheet_fits, spelled_by}
use Rattle.ofit_sheet.proofs.read.read_records.Goals as goal

pub returns-in-Err-read_rest-clause-read : goal.returns-in-Err-read_rest-clause-read
returns-in-Err-read_rest-clause-read c =
    let h = c.in-Ok.ensures in
    rest_fault (names_of c.args.study.now) c.args.records.now c.read_header.new.records h.0 c.in-Ok.head c.in-Err-read_rest.fault h.1 h.2 c.in-Err-read_rest.ensures

pub sheet_from-requires-clause-settings : goal.sheet_from-requires-clause-settings
sheet_from-requires-clause-settings c =
    let h = c.in-Ok.ensures in
    let r = c.in-Ok-read_rest.ensures in
    let told = r.1.told in
    subst (λ (t : Told). InLimits (settings_of c.in-Ok.head t.bounds)) (sym told) (limits_so (names_of c.args.study.now) c.in-Ok.head.sized c.read_header.new.records r.0 r.1.good c.in-Ok.head h.2.most h.2.listed)

pub sheet_from-requires-clause-parts : goal.sheet_from-requires-clause-parts
sheet_from-requires-clause-parts c =
    let r = c.in-Ok-read_rest.ensures in
    subst (λ (t : Told). ArePartsOfSheet t.size t.values t.flows) (sym r.1.told) (parts_so (names_of c.args.study.now) c.in-Ok.head.sized c.read_header.new.records r.0 r.1.good)

pub sheet_from-requires-clause-values : goal.sheet_from-requires-clause-values
sheet_from-requires-clause-values c =
    let h = c.in-Ok.ensures in
    let r = c.in-Ok-read_rest.ensures in
    let short : length c.read_header.new.records < 2 ^ 32 = omega (arith, ap length h.1, c.requires) in
    subst (λ (t : Told). length t.values < 2 ^ 32) (sym r.1.told) (few_values (names_of c.args.study.now) c.in-Ok.head.sized c.read_header.new.records r.0 r.1.good (2 ^ 32) short)

pub sheet_from-requires-clause-flows : goal.sheet_from-requires-clause-flows
sheet_from-requires-clause-flows c =
    let h = c.in-Ok.ensures in
    let r = c.in-Ok-read_rest.ensures in
    let short : length c.read_header.new.records < 2 ^ 32 = omega (arith, ap length h.1, c.requires) in
    subst (λ (t : Told). length t.flows < 2 ^ 32) (sym r.1.told) (few_flows (names_of c.args.study.now) c.in-Ok.head.sized c.read_header.new.records r.0 r.1.good (2 ^ 32) short)

pub returns-clause-fits : goal.returns-clause-fits
returns-clause-fits c =
    let h = c.in-Ok.ensures in
    let r = c.in-Ok-read_rest.ensures in
    let short : length c.read_header.new.records < 2 ^ 32 = omega (arith, ap length h.1, c.requires) in
    subst (λ (x : num.Sheet Settings). num.FitsCount (length (names_of c.args.study.now)) x) (sym (c.sheet_from.ensures ∙ spelled_by c.in-Ok.head r.0 c.in-Ok-read_rest.draft r.1.told))
    (sheet_fits (names_of c.args.study.now) c.in-Ok.head.sized c.read_header.new.records r.0 r.1.good c.in-Ok.head h.2.most h.2.listed short)
