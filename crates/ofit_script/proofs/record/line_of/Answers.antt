use Rattle.std.proofs.Common.{sym, subst}
use Rattle.csv.specs.Records.{fields_of}
use Rattle.ofit_script.specs.declared.kind.Kind.{Kind}
use Rattle.ofit_script.specs.declared.line.Line.TheVariants.{Report, Sheet}
use Rattle.ofit_script.specs.Reading.{FieldsRead, SpellsOfKind}
use Rattle.ofit_script.specs.Spelling.{IsShaped}
use Rattle.ofit_script.proofs.Spelled.{report_spelled, sheet_spelled}
use Rattle.ofit_script.proofs.record.line_of.Goals as goal

pub added-requires-clause-shaped : goal.added-requires-clause-shaped
added-requires-clause-shaped c = subst (IsShaped (fields_of c.args.row.now)) c.in-Add.is c.requires.shaped

pub returns-in-Add : goal.returns-in-Add
returns-in-Add c = subst (λ (k : Kind). FieldsRead c.args.places k (fields_of c.args.row.now) c.args.number c.added.result) (sym c.in-Add.is) c.added.ensures

pub removed-requires : goal.removed-requires
removed-requires c = subst (IsShaped (fields_of c.args.row.now)) c.in-Remove.is c.requires.shaped

pub returns-in-Remove : goal.returns-in-Remove
returns-in-Remove c = subst (λ (k : Kind). FieldsRead c.args.places k (fields_of c.args.row.now) c.args.number c.removed.result) (sym c.in-Remove.is) (c.removed.ensures c.args.places)

pub revalued-requires-clause-shaped : goal.revalued-requires-clause-shaped
revalued-requires-clause-shaped c = subst (IsShaped (fields_of c.args.row.now)) c.in-Value.is c.requires.shaped

pub returns-in-Value : goal.returns-in-Value
returns-in-Value c = subst (λ (k : Kind). FieldsRead c.args.places k (fields_of c.args.row.now) c.args.number c.revalued.result) (sym c.in-Value.is) c.revalued.ensures

pub reweighted-requires : goal.reweighted-requires
reweighted-requires c = subst (IsShaped (fields_of c.args.row.now)) c.in-Weight.is c.requires.shaped

pub returns-in-Weight : goal.returns-in-Weight
returns-in-Weight c = subst (λ (k : Kind). FieldsRead c.args.places k (fields_of c.args.row.now) c.args.number c.reweighted.result) (sym c.in-Weight.is) (c.reweighted.ensures c.args.places)

pub related-requires : goal.related-requires
related-requires c = subst (IsShaped (fields_of c.args.row.now)) c.in-Relate.is c.requires.shaped

pub returns-in-Relate : goal.returns-in-Relate
returns-in-Relate c = subst (λ (k : Kind). FieldsRead c.args.places k (fields_of c.args.row.now) c.args.number c.related.result) (sym c.in-Relate.is) (c.related.ensures c.args.places)

pub unrelated-requires : goal.unrelated-requires
unrelated-requires c = subst (IsShaped (fields_of c.args.row.now)) c.in-Unrelate.is c.requires.shaped

pub returns-in-Unrelate : goal.returns-in-Unrelate
returns-in-Unrelate c = subst (λ (k : Kind). FieldsRead c.args.places k (fields_of c.args.row.now) c.args.number c.unrelated.result) (sym c.in-Unrelate.is) (c.unrelated.ensures c.args.places)

pub returns-in-Report : goal.returns-in-Report
returns-in-Report c =
    subst (λ (k : Kind). SpellsOfKind c.args.places k (fields_of c.args.row.now) Report) (sym c.in-Report.is) (report_spelled c.args.places (fields_of c.args.row.now) (subst (IsShaped (fields_of c.args.row.now)) c.in-Report.is c.requires.shaped))

pub returns-in-Sheet : goal.returns-in-Sheet
returns-in-Sheet c =
    subst (λ (k : Kind). SpellsOfKind c.args.places k (fields_of c.args.row.now) Sheet) (sym c.in-Sheet.is) (sheet_spelled c.args.places (fields_of c.args.row.now) (subst (IsShaped (fields_of c.args.row.now)) c.in-Sheet.is c.requires.shaped))
