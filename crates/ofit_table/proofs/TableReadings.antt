-- A data table is read in one way.
use Rattle.std.proofs.Common.{◌≡◌, ◌++◌, ◌∙◌, ℕ, zero, suc, List, [], ◌∷◌, Some, Result, Err, slice_get, inl, inr, refl, sym, ap, subst, arith}
use Rattle.std.specs.List.{AllZip}
use Rattle.ofit_records.specs.Records.{records_of}
use Rattle.ofit_table.specs.Numbered.{AreNumbered}
use Rattle.ofit_study.specs.Study.{Observation, Study}
use Rattle.ofit_study.specs.declared.settings.Settings.{Settings}
use Rattle.ofit_table.specs.declared.fault.DataFault.{DataFault}
use Rattle.ofit_table.specs.declared.fault.DataFault.TheVariants.{Memory}
use Rattle.ofit_table.specs.declared.header.DataColumns.{DataColumns}
use Rattle.ofit_table.specs.DataRead.{DataRead, data_table}
use Rattle.ofit_table.specs.Rows.{AreRows, IsRow, IsTooMuch, LimitFault, RowFault}
use Rattle.ofit_table.proofs.HeaderReadings.{columns_one, header_fault_one, no_header_fault}
use Rattle.ofit_table.proofs.LimitReadings.{limit_one, no_limit}
use Rattle.ofit_study.proofs.Zips.{split}
use Rattle.ofit_table.proofs.OneTable.{AreSure, one_table as one_way}
use Rattle.ofit_table.proofs.Pushed.{NumberedFrom}
use Rattle.ofit_table.proofs.RecordReadings.{good_one, own_good, own_one}

-- a place keeps what stands there
get-before : {B : Type 0} (xs ys : List B) (k : ℕ) (x : B) → slice_get xs k ≡ Some x → slice_get (xs ++ ys) k ≡ Some x
get-before [] ys k x e = cc
get-before (y ∷ xs) ys zero x e = e
get-before (y ∷ xs) ys (suc k) x e = get-before xs ys k x e

numbered_rest : (n : ℕ) (row : Observation) (rows : List Observation) → NumberedFrom n (row ∷ rows) → NumberedFrom (suc n) rows
numbered_rest n row rows h k r at = omega (arith, h (suc k) r at)

numbered_before : (n : ℕ) (done rest : List Observation) → NumberedFrom n (done ++ rest) → NumberedFrom n done
numbered_before n done rest h k r at = h k r (get-before done rest k r at)

module _ (places : ℕ) (columns : DataColumns) where
  row_one : (fields : List (List ℕ)) (n : ℕ) (r s : Observation) → IsRow places columns fields r → IsRow places columns fields s → r.number ≡ n → s.number ≡ n → r ≡ s
  row_one fields n r s h k p q =
      let same = good_one places columns fields r.group s.group r.value s.value r.weight s.weight h k in
      let number : r.number ≡ s.number = p ∙ sym q in
      let group : r.group ≡ s.group = same.groups in
      let value : r.value ≡ s.value = same.values in
      let weight : r.weight ≡ s.weight = same.weights in
      λ i. record { number = number i; group = group i; value = value i; weight = weight i }

  rows_from : (n : ℕ) (records : List (List (List ℕ))) (rows others : List Observation) → AllZip (IsRow places columns) records rows → AllZip (IsRow places columns) records others
      → NumberedFrom n rows → NumberedFrom n others → rows ≡ others
  rows_from n [] [] [] h k p q = refl
  rows_from n [] [] (s ∷ others) h k p q = absurd k
  rows_from n [] (r ∷ rows) others h k p q = absurd h
  rows_from n (fields ∷ records) [] others h k p q = absurd h
  rows_from n (fields ∷ records) (r ∷ rows) [] h k p q = absurd k
  rows_from n (fields ∷ records) (r ∷ rows) (s ∷ others) h k p q =
      let one : r ≡ s = row_one fields n r s h.0 k.0 (omega (arith, p zero r refl)) (omega (arith, q zero s refl)) in
      let all : rows ≡ others = rows_from (suc n) records rows others h.1 k.1 (numbered_rest n r rows p) (numbered_rest n s others q) in
      λ i. one i ∷ all i

  rows_one : (records : List (List (List ℕ))) (rows others : List Observation) → AreRows places columns records rows → AreRows places columns records others → rows ≡ others
  rows_one records rows others h k = rows_from 1 records rows others h.each k.each h.numbered k.numbered

  -- at one record, behind the same rows, there is one fault
  much_one : (rows : List Observation) (fields : List (List ℕ)) (number : ℕ) (f g : DataFault) → IsTooMuch places columns rows fields number f → IsTooMuch places columns rows fields number g → f ≡ g
  much_one rows fields number f g h k =
      let same = good_one places columns fields k.group h.group k.value h.value k.weight h.weight k.good h.good in
      limit_one rows h.group h.weight number f g h.passed
      (subst (λ (w : ℕ). LimitFault rows h.group w number g) same.weights (subst (λ (t : List ℕ). LimitFault rows t k.weight number g) same.groups k.passed))

  fault_one : (rows : List Observation) (fields : List (List ℕ)) (number : ℕ) (f g : DataFault) → RowFault places columns rows fields number f → RowFault places columns rows fields number g → f ≡ g
  fault_one rows fields number f g (inl h) (inl k) = own_one places columns fields number f g h k
  fault_one rows fields number f g (inl h) (inr k) = absurd (own_good places columns fields number f k.group k.value k.weight h k.good)
  fault_one rows fields number f g (inr h) (inl k) = absurd (own_good places columns fields number g h.group h.value h.weight k h.good)
  fault_one rows fields number f g (inr h) (inr k) = much_one rows fields number f g h k

  -- a record with a row, and rows behind it within the limits, has no fault
  none_at : (rows rest : List Observation) (row : Observation) (fields : List (List ℕ)) (number : ℕ) (f : DataFault) (records : List (List (List ℕ))) → RowFault places columns rows fields number f → IsRow places columns fields row
      → AreRows places columns records (rows ++ row ∷ rest) → ⊥
  none_at rows rest row fields number f records (inl h) is all = own_good places columns fields number f row.group row.value row.weight h is
  none_at rows rest row fields number f records (inr h) is all =
      let same = good_one places columns fields h.group row.group h.value row.value h.weight row.weight h.good is in
      let passed : LimitFault rows row.group row.weight number f =
      subst (λ (w : ℕ). LimitFault rows row.group w number f) same.weights (subst (λ (t : List ℕ). LimitFault rows t h.weight number f) same.groups h.passed) in
      no_limit rows rest row number f passed all.few all.light all.groups

  none_among : (before after : List (List (List ℕ))) (fields : List (List ℕ)) (rows all : List Observation) (number : ℕ) (f : DataFault) → AreRows places columns before rows → RowFault places columns rows fields number f
      → AreRows places columns (before ++ fields ∷ after) all → ⊥
  none_among before after fields rows all number f fine found h =
      let s = split (IsRow places columns) before fields after all h.each in
      let numbered : AreNumbered (s.done ++ s.one ∷ s.rest) = subst AreNumbered s.same h.numbered in
      let done : s.done ≡ rows = rows_from 1 before s.done rows s.each fine.each (numbered_before 1 s.done (s.one ∷ s.rest) numbered) fine.numbered in
      let same : all ≡ rows ++ s.one ∷ s.rest = s.same ∙ ap (λ (t : List Observation). t ++ s.one ∷ s.rest) done in
      none_at rows s.rest s.one fields number f (before ++ fields ∷ after) found s.at (subst (AreRows places columns (before ++ fields ∷ after)) same h)

sure : (settings : Settings) → AreSure (data_table settings)
sure settings = record {
  columns_one = columns_one;
  header_one = header_fault_one;
  header_good = no_header_fault;
  parts_one = rows_one settings.places;
  fault_one = fault_one settings.places;
  fault_good = none_among settings.places;
  made_one = λ rows s u h k. h ∙ sym k;
}

pub one_table : (bytes : List ℕ) (settings : Settings) (a b : Result Study DataFault) → DataRead bytes settings a → DataRead bytes settings b → (a ≡ Err Memory → ⊥) → (b ≡ Err Memory → ⊥) → a ≡ b
one_table bytes settings = one_way (data_table settings) (sure settings) (records_of bytes)
