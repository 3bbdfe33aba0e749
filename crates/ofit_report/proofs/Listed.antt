-- Records written one after another.
use Rattle.std.proofs.Common.{◌≡◌, ℕ, ◌+◌, List, [], ◌∷◌, ◌++◌, length-append, refl, sym, ap, ◌∙◌, append_assoc, append-nil, arith}
use Rattle.ofit_records.specs.Written.{record_text, records_text}
use Rattle.ofit_report.specs.ReportText.{AreRecords}
use Rattle.ofit_report.proofs.Places.{pushed}

abbrev pub Fields : Type 0
Fields = List (List ℕ)

-- `later` is `front` with the text of so many records behind it
abbrev pub IsWrittenUpto : (ℕ → Fields → Type 0) → ℕ → List ℕ → List ℕ → Type 0
IsWrittenUpto P n front later = (records : List Fields) × AreRecords P n records × (later ≡ front ++ records_text records)

pub records_text-append : (rows more : List Fields) → records_text (rows ++ more) ≡ records_text rows ++ records_text more
unfolding records_text
records_text-append [] more = refl
records_text-append (row ∷ rows) more =
    ap (λ (t : List ℕ). record_text row ++ t) (records_text-append rows more) ∙ sym (append_assoc (record_text row) (records_text rows) (records_text more))

pub none_written : (P : ℕ → Fields → Type 0) (front : List ℕ) → IsWrittenUpto P 0 front front
unfolding records_text
none_written P front = ([], record { counted = refl; each = λ k l. absurd (omega arith) }, sym (append-nil front))

one_text : (row : Fields) → records_text (row ∷ []) ≡ record_text row
unfolding records_text
one_text row = append-nil (record_text row)

pub one_written : (P : ℕ → Fields → Type 0) (n : ℕ) (front now later : List ℕ) → IsWrittenUpto P n front now → (fields : Fields) × P n fields × (later ≡ now ++ record_text fields) → IsWrittenUpto P (n + 1) front later
one_written P n front now later (records, are, told) (fields, is, new) = (
  records ++ fields ∷ [],
  record {
    counted = omega (arith, length-append records (fields ∷ []), are.counted);
    each = pushed P [] records (records ++ fields ∷ []) n fields are.counted refl are.each is;
  },
  new ∙ ap (λ (t : List ℕ). t ++ record_text fields) told ∙ append_assoc front (records_text records) (record_text fields)
      ∙ ap (λ (t : List ℕ). front ++ (records_text records ++ t)) (sym (one_text fields)) ∙ ap (λ (t : List ℕ). front ++ t) (sym (records_text-append records (fields ∷ []))),
)

joined : (h z g b e : List ℕ) → (((h ++ z) ++ g) ++ b) ++ e ≡ h ++ (z ++ ((g ++ b) ++ (e ++ [])))
joined h z g b e = simp (append_assoc, append-nil) refl

-- the parts of a report's text make the whole
pub whole_text : (first second last : Fields) (groups blocks : List Fields) (w1 w2 w3 w4 w5 : List ℕ) → w1 ≡ record_text first → w2 ≡ w1 ++ record_text second → w3 ≡ w2 ++ records_text groups → w4 ≡ w3 ++ records_text blocks → w5 ≡ w4 ++ record_text last
    → w5 ≡ records_text (first ∷ second ∷ (groups ++ blocks ++ last ∷ []))
unfolding records_text
whole_text first second last groups blocks w1 w2 w3 w4 w5 a b c d e =
    let three : records_text (groups ++ blocks ++ last ∷ []) ≡ (records_text groups ++ records_text blocks) ++ (record_text last ++ []) =
    records_text-append (groups ++ blocks) (last ∷ []) ∙ ap (λ (t : List ℕ). t ++ (record_text last ++ [])) (records_text-append groups blocks) in
    e
    ∙ ap (λ (t : List ℕ). t ++ record_text last) (d ∙ ap (λ (t : List ℕ). t ++ records_text blocks) (c ∙ ap (λ (t : List ℕ). t ++ records_text groups) (b ∙ ap (λ (t : List ℕ). t ++ record_text second) a)))
    ∙ joined (record_text first) (record_text second) (records_text groups) (records_text blocks) (record_text last)
    ∙ ap (λ (t : List ℕ). record_text first ++ (record_text second ++ t)) (sym three)
