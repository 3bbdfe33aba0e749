-- What is read so far, and the fault of the next record.
use Rattle.std.proofs.Common.{◌≡◌, ◌++◌, ◌+◌, ◌⊎◌, ◌∙◌, ℕ, ℤ, List, [], ◌∷◌, inl, inr, length, sym, ap, subst, append_assoc}
use Rattle.std.specs.List.{AllZip}
use Rattle.std.proofs.lemmas.Slice.Zip.{AllZip-long}
use Rattle.ofit_num.proofs.Lists.{zip-push}
use Rattle.ofit_study.specs.declared.settings.Settings.{Settings}
use Rattle.ofit_table.specs.Numbered.{AreNumbered}
use Rattle.ofit_study.specs.Study.{Observation, Study, IsValid}
use Rattle.ofit_table.specs.declared.header.DataColumns.{DataColumns}
use Rattle.ofit_table.specs.declared.fault.DataFault.{DataFault}
use Rattle.ofit_table.specs.declared.fault.DataFault.TheVariants.{Memory}
use Rattle.ofit_table.specs.Rows.{IsGood, IsRow, RowFault}
use Rattle.ofit_table.specs.DataRead.{data_table}
use Rattle.ofit_table.specs.TableRead.{HasFault}
use Rattle.ofit_table.specs.Reading.{GainsRecord, IsSoFar}
use Rattle.ofit_table.proofs.Pushed.{numbered-push, pushed}

same_row : (places : ℕ) (columns : DataColumns) (fields : List (List ℕ)) (group : List ℕ) (value : ℤ) (weight : ℕ) (row : Observation) → IsGood places columns fields group value weight
    → row.group ≡ group → row.value ≡ value → row.weight ≡ weight → IsRow places columns fields row
same_row places columns fields group value weight row good g v w =
    subst (λ (x : List ℕ). IsGood places columns fields x row.value row.weight) (sym g)
    (subst (λ (x : ℤ). IsGood places columns fields group x row.weight) (sym v)
    (subst (λ (x : ℕ). IsGood places columns fields group value x) (sym w) good))

pub one_more : (columns : DataColumns) (records left : List (List (List ℕ))) (fields : List (List ℕ)) (settings : Settings) (s t : Study)
    → IsSoFar columns records (fields ∷ left) settings s → GainsRecord s.settings.places columns fields s t → IsSoFar columns records left settings t
one_more columns records left fields settings s t so g =
    let p = pushed s g.group g.value g.weight t so.numbered g.gains in
    let places : s.settings.places ≡ settings.places = ap (λ (x : Settings). x.places) so.same in
    let good : IsGood settings.places columns fields g.group g.value g.weight = subst (λ (n : ℕ). IsGood n columns fields g.group g.value g.weight) places g.good in
    let row : IsRow settings.places columns fields p.row = same_row settings.places columns fields g.group g.value g.weight p.row good p.group_is p.value_is p.weight_is in
    record {
      done = so.done ++ fields ∷ [];
      parted = so.parted ∙ sym (append_assoc so.done (fields ∷ []) left);
      each = subst (AllZip (IsRow settings.places columns) (so.done ++ fields ∷ [])) (sym p.rows) (zip-push (IsRow settings.places columns) so.done s.rows fields p.row so.each row);
      numbered = subst AreNumbered (sym p.rows) (numbered-push s.rows p.row so.numbered p.number_is);
      same = ap (λ (t : Study). t.settings) g.gains.gains ∙ so.same;
      without = ap (λ (t : Study). t.pairs) g.gains.gains ∙ so.without;
    }

-- the next record has the fault that the call tells
pub fault_found : (columns : DataColumns) (records left : List (List (List ℕ))) (fields : List (List ℕ)) (settings : Settings) (s : Study) (number : ℕ) (fault : DataFault)
    → IsSoFar columns records (fields ∷ left) settings s → IsValid s → number ≡ length s.rows + 2 → (fault ≡ Memory) ⊎ RowFault s.settings.places columns s.rows fields number fault
    → (fault ≡ Memory) ⊎ HasFault (data_table settings) columns records fault
fault_found columns records left fields settings s number fault so valid counted (inl e) = inl e
fault_found columns records left fields settings s number fault so valid counted (inr f) =
    let places : s.settings.places ≡ settings.places = ap (λ (x : Settings). x.places) so.same in
    let next : number ≡ length so.done + 2 = counted ∙ ap (λ (n : ℕ). n + 2) (AllZip-long (IsRow settings.places columns) so.done s.rows so.each) in
    inr (record {
      before = so.done;
      fields = fields;
      after = left;
      parts = s.rows;
      spells = so.parted;
      fine = record { each = so.each; numbered = so.numbered; few = valid.rows; light = valid.together; groups = valid.groups };
      found = subst (λ (n : ℕ). RowFault n columns s.rows fields (length so.done + 2) fault) places (subst (λ (n : ℕ). RowFault s.settings.places columns s.rows fields n fault) next f);
    })
