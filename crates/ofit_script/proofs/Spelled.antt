-- The lines that records spell, field by field.
use Rattle.std.proofs.Common.{◌≡◌, ◌∙◌, ℕ, ℤ, List, [], ◌∷◌, drop, Some, refl, sym, ap, subst}
use Rattle.std.specs.Prelude.{slice_get}
use Rattle.ofit_sheet.proofs.FourFields.{four_fields}
use Rattle.ofit_study.specs.declared.edit.Edit.TheVariants.{Add, Remove, Value, Weight, Relate, Unrelate}
use Rattle.ofit_study.specs.FieldRead.{IsRowNumber, IsValue, IsWeight}
use Rattle.ofit_study.specs.Name.{IsName}
use Rattle.ofit_script.specs.declared.kind.Kind.TheVariants as kind
use Rattle.ofit_script.specs.declared.line.Line.TheVariants.{Change, Report, Sheet}
use Rattle.ofit_script.specs.Kinds.{kind_name}
use Rattle.ofit_script.specs.Spelling.{IsShaped}
use Rattle.ofit_script.specs.Reading.{SpellsOfKind}
use Rattle.ofit_script.proofs.RecordFields.{behind_first, one_field, two_fields, three_fields}

module _ (places : ℕ) (fields : List (List ℕ)) where
  pub added_spelled : (group text amount size : List ℕ) (value : ℤ) (weight : ℕ) → IsShaped fields kind.Add → slice_get fields 1 ≡ Some text → slice_get fields 2 ≡ Some amount → slice_get fields 3 ≡ Some size
      → group ≡ text → IsName text → IsValue places amount value → IsWeight size weight → SpellsOfKind places kind.Add fields (Change (Add group value weight))
  added_spelled group text amount size value weight shaped one two three same name v w =
      let whole = four_fields fields (kind_name kind.Add) text amount size shaped.count shaped.of one two three in
      record {
        spells = (amount, size, whole ∙ ap (λ (t : List ℕ). kind_name kind.Add ∷ t ∷ amount ∷ size ∷ []) (sym same), subst IsName (sym same) name, v, w);
        limits = (v.1, w.1, w.0.1);
        same = refl;
      }

  pub removed_spelled : (text : List ℕ) (number : ℕ) → IsShaped fields kind.Remove → slice_get fields 1 ≡ Some text → IsRowNumber text number → SpellsOfKind places kind.Remove fields (Change (Remove number))
  removed_spelled text number shaped one n = record { spells = (text, two_fields fields (kind_name kind.Remove) text shaped.count shaped.of one, n); limits = tt; same = refl }

  pub revalued_spelled : (text amount : List ℕ) (number : ℕ) (value : ℤ) → IsShaped fields kind.Value → slice_get fields 1 ≡ Some text → slice_get fields 2 ≡ Some amount → IsRowNumber text number → IsValue places amount value
      → SpellsOfKind places kind.Value fields (Change (Value number value))
  revalued_spelled text amount number value shaped one two n v = record {
    spells = (text, amount, three_fields fields (kind_name kind.Value) text amount shaped.count shaped.of one two, n, v);
    limits = v.1;
    same = refl;
  }

  pub reweighted_spelled : (text size : List ℕ) (number weight : ℕ) → IsShaped fields kind.Weight → slice_get fields 1 ≡ Some text → slice_get fields 2 ≡ Some size → IsRowNumber text number → IsWeight size weight
      → SpellsOfKind places kind.Weight fields (Change (Weight number weight))
  reweighted_spelled text size number weight shaped one two n w = record {
    spells = (text, size, three_fields fields (kind_name kind.Weight) text size shaped.count shaped.of one two, n, w);
    limits = (w.1, w.0.1);
    same = refl;
  }

  pub related_spelled : (low high : List ℕ) → IsShaped fields kind.Relate → drop 1 fields ≡ low ∷ high ∷ [] → IsName low → IsName high → SpellsOfKind places kind.Relate fields (Change (Relate low high))
  related_spelled low high shaped e n m = record { spells = (behind_first fields (kind_name kind.Relate) (low ∷ high ∷ []) shaped.of e, n, m); limits = tt; same = refl }

  pub unrelated_spelled : (low high : List ℕ) → IsShaped fields kind.Unrelate → drop 1 fields ≡ low ∷ high ∷ [] → IsName low → IsName high → SpellsOfKind places kind.Unrelate fields (Change (Unrelate low high))
  unrelated_spelled low high shaped e n m = record { spells = (behind_first fields (kind_name kind.Unrelate) (low ∷ high ∷ []) shaped.of e, n, m); limits = tt; same = refl }

  pub report_spelled : IsShaped fields kind.Report → SpellsOfKind places kind.Report fields Report
  report_spelled shaped = record { spells = one_field fields (kind_name kind.Report) shaped.count shaped.of; limits = tt; same = refl }

  pub sheet_spelled : IsShaped fields kind.Sheet → SpellsOfKind places kind.Sheet fields Sheet
  sheet_spelled shaped = record { spells = one_field fields (kind_name kind.Sheet) shaped.count shaped.of; limits = tt; same = refl }
