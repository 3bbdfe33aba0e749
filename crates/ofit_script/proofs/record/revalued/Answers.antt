use Rattle.std.proofs.Common.{◌≡◌, [], ◌∷◌, ℤ, inr, sym, subst, rules, FitsSigned, to_z, of_z}
use Rattle.std.proofs.lemmas.Int.{to_z-of_z}
use Rattle.std.specs.Int.{w64}
use Rattle.ofit_study.specs.declared.edit.Edit.TheVariants.{Value}
use Rattle.ofit_script.specs.declared.kind.Kind.TheVariants as kind
use Rattle.ofit_script.specs.declared.line.Line.TheVariants.{Change}
use Rattle.ofit_script.specs.Reading.{SpellsOfKind}
use Rattle.csv.specs.Records.{fields_of}
use Rattle.ofit_script.specs.Kinds.{row_number, row_value}
use Rattle.ofit_script.proofs.RecordFields.{first_bad, second_bad}
use Rattle.ofit_script.proofs.Spelled.{revalued_spelled}
use Rattle.ofit_script.proofs.record.revalued.Goals as goal

pub returns-in-Err : goal.returns-in-Err
returns-in-Err c = inr (first_bad c.args.places (fields_of c.args.row.now) c.args.number c.in-Err.fault row_number (row_value ∷ []) c.field_at.result.now c.field_at.ensures c.in-Err.ensures.err)

pub returns-in-Ok-row_value : goal.returns-in-Ok-row_value
returns-in-Ok-row_value c =
    let z = c.in-Ok-row_value.value in
    let fits : FitsSigned w64 z = search rules in
    let plain : to_z w64 (of_z w64 z) ≡ z = to_z-of_z w64 z fits in
    subst (λ (t : ℤ). SpellsOfKind c.args.places kind.Value (fields_of c.args.row.now) (Change (Value c.in-Ok.of t))) (sym plain)
    (revalued_spelled c.args.places (fields_of c.args.row.now) c.field_at.result.now c.field_at-2.result.now c.in-Ok.of z c.requires.shaped c.field_at.ensures c.field_at-2.ensures c.in-Ok.ensures.ok c.in-Ok-row_value.ensures.ok)

pub returns-in-Err-row_value : goal.returns-in-Err-row_value
returns-in-Err-row_value c =
    inr (second_bad c.args.places (fields_of c.args.row.now) c.args.number c.in-Err-row_value.fault row_number row_value [] c.field_at.result.now c.field_at-2.result.now c.field_at.ensures c.field_at-2.ensures
    (c.in-Ok.of, c.in-Ok.ensures.ok) c.in-Err-row_value.ensures.err)
