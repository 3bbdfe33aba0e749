use Rattle.std.proofs.Common.{◌≡◌, [], ◌∷◌, ℤ, inr, sym, subst, rules, FitsSigned, to_z, of_z}
use Rattle.std.proofs.lemmas.Int.{to_z-of_z}
use Rattle.std.specs.Int.{w64}
use Rattle.ofit_study.specs.declared.edit.Edit.TheVariants.{Add}
use Rattle.ofit_script.specs.declared.kind.Kind.TheVariants as kind
use Rattle.ofit_script.specs.declared.line.Line.TheVariants.{Change}
use Rattle.ofit_script.specs.Reading.{SpellsOfKind}
use Rattle.csv.specs.Records.{fields_of}
use Rattle.ofit_script.specs.Kinds.{group_name, row_value, row_weight}
use Rattle.ofit_script.proofs.RecordFields.{first_bad, or_else, second_bad, third_bad}
use Rattle.ofit_script.proofs.Spelled.{added_spelled}
use Rattle.ofit_script.proofs.record.added.Goals as goal

pub returns-in-Err : goal.returns-in-Err
returns-in-Err c =
    or_else (first_bad c.args.places (fields_of c.args.row.now) c.args.number c.in-Err.fault group_name (row_value ∷ row_weight ∷ []) c.field_at.result.now c.field_at.ensures) c.in-Err.ensures.err

pub returns-in-Err-row_value : goal.returns-in-Err-row_value
returns-in-Err-row_value c =
    inr (second_bad c.args.places (fields_of c.args.row.now) c.args.number c.in-Err-row_value.fault group_name row_value (row_weight ∷ []) c.field_at.result.now c.field_at-2.result.now c.field_at.ensures c.field_at-2.ensures
    c.in-Ok.ensures.ok.1 c.in-Err-row_value.ensures.err)

pub returns-in-Err-row_weight : goal.returns-in-Err-row_weight
returns-in-Err-row_weight c =
    inr (third_bad c.args.places (fields_of c.args.row.now) c.args.number c.in-Err-row_weight.fault group_name row_value row_weight [] c.field_at.result.now c.field_at-2.result.now c.field_at-3.result.now
    c.field_at.ensures c.field_at-2.ensures c.field_at-3.ensures c.in-Ok.ensures.ok.1 (c.in-Ok-row_value.value, c.in-Ok-row_value.ensures.ok) c.in-Err-row_weight.ensures.err)

pub returns : goal.returns
returns c =
    let z = c.in-Ok-row_value.value in
    let fits : FitsSigned w64 z = search rules in
    let plain : to_z w64 (of_z w64 z) ≡ z = to_z-of_z w64 z fits in
    subst (λ (t : ℤ). SpellsOfKind c.args.places kind.Add (fields_of c.args.row.now) (Change (Add c.in-Ok.group t c.in-Ok-row_weight.weight))) (sym plain)
    (added_spelled c.args.places (fields_of c.args.row.now) c.in-Ok.group c.field_at.result.now c.field_at-2.result.now c.field_at-3.result.now z c.in-Ok-row_weight.weight c.requires.shaped
    c.field_at.ensures c.field_at-2.ensures c.field_at-3.ensures c.in-Ok.ensures.ok.0 c.in-Ok.ensures.ok.1 c.in-Ok-row_value.ensures.ok c.in-Ok-row_weight.ensures.ok)
