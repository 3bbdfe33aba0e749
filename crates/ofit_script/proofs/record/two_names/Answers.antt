use Rattle.std.proofs.Common.{◌∙◌, [], ◌∷◌, List, ℕ, ap₂, sym, subst}
use Rattle.csv.specs.Records.{fields_of}
use Rattle.ofit_script.specs.Kinds.{group_name}
use Rattle.ofit_study.specs.Name.{IsName}
use Rattle.ofit_script.proofs.RecordFields.{first_bad, or_else, second_bad, two_behind}
use Rattle.ofit_script.proofs.record.two_names.Goals as goal

pub returns-in-Err-clause-err : goal.returns-in-Err-clause-err
returns-in-Err-clause-err c = or_else (λ bad places. first_bad places (fields_of c.args.row.now) c.args.number c.in-Err.fault group_name (group_name ∷ []) c.field_at.result.now c.field_at.ensures bad) c.in-Err.ensures.err

pub returns-in-Ok-group_name-clause-ok : goal.returns-in-Ok-group_name-clause-ok
returns-in-Ok-group_name-clause-ok c = (
  two_behind (fields_of c.args.row.now) c.field_at.result.now c.field_at-2.result.now c.requires c.field_at.ensures c.field_at-2.ensures
      ∙ ap₂ (λ (x y : List ℕ). x ∷ y ∷ []) (sym c.in-Ok.ensures.ok.0) (sym c.in-Ok-group_name.ensures.ok.0),
  subst IsName (sym c.in-Ok.ensures.ok.0) c.in-Ok.ensures.ok.1,
  subst IsName (sym c.in-Ok-group_name.ensures.ok.0) c.in-Ok-group_name.ensures.ok.1,
)

pub returns-in-Err-group_name-clause-err : goal.returns-in-Err-group_name-clause-err
returns-in-Err-group_name-clause-err c =
    or_else
    (λ bad places. second_bad places (fields_of c.args.row.now) c.args.number c.in-Err-group_name.fault group_name group_name [] c.field_at.result.now c.field_at-2.result.now c.field_at.ensures c.field_at-2.ensures c.in-Ok.ensures.ok.1 bad)
    c.in-Err-group_name.ensures.err
