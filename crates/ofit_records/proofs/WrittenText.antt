-- The text that the writer writes for a record, and what it is read back as.
use Rattle.std.proofs.Common.{◌≡◌, ◌≢◌, ◌<◌, ◌+◌, ◌++◌, ◌∷◌, [], ℕ, zero, suc, List, refl, sym, ap, ◌∙◌, length, length-append, append_assoc, arith, true, Result, Ok, Err, OnOk}
use Rattle.std.specs.Prelude.{if◌then◌else◌}
use Rattle.std.specs.Result.{is_ok}
use Rattle.std.specs.List.{All}
use Rattle.std.proofs.lemmas.List.Elements.{All-head, All-tail}
use Rattle.std.proofs.lemmas.Bool.{ne_eqb}
use Rattle.csv.specs.Writing.{default_writer, escaped, field_text, fields_text, is_blank, read_back, row_body, row_text}
use Rattle.csv.specs.Reading.{default_config, records_from}
use Rattle.csv.specs.Machine.{next_record}
use Rattle.csv.specs.declared.parser.State.TheVariants as st
use Rattle.csv.proofs.RoundTrip.{read-write}
use Rattle.ofit_records.specs.Records.{records_of, without_marks}
use Rattle.ofit_records.specs.Written.{record_text, records_text}
use Rattle.ofit_records.specs.Writing.{writer_settings}

same_escaped : (field : List ℕ) → escaped writer_settings field ≡ escaped default_writer field
unfolding escaped
same_escaped [] = refl
same_escaped (b ∷ rest) = rw (same_escaped rest) refl

same_field : (field : List ℕ) → field_text writer_settings field ≡ field_text default_writer field
same_field field = rw (same_escaped field) refl

same_fields : (fields : List (List ℕ)) → fields_text writer_settings fields ≡ fields_text default_writer fields
unfolding fields_text
same_fields [] = refl
same_fields (field ∷ rest) = rw (same_escaped field, same_fields rest) refl

same_blank : (fields : List (List ℕ)) → is_blank writer_settings fields ≡ is_blank default_writer fields
unfolding is_blank
same_blank [] = refl
same_blank (field ∷ []) = rw (same_escaped field) refl
same_blank (field ∷ next ∷ rest) = refl

same_body : (fields : List (List ℕ)) → row_body writer_settings fields ≡ row_body default_writer fields
same_body [] = refl
same_body (field ∷ rest) = rw (same_escaped field, same_fields rest) refl

-- records of any length are written as those of one length
pub same_text : (fields : List (List ℕ)) → row_text writer_settings fields ≡ record_text fields
same_text fields = rw (same_body fields, same_blank fields) refl

text_more : (fields : List (List ℕ)) (rest : List ℕ) → length rest < length (record_text fields ++ rest)
text_more fields rest =
    let text = row_body default_writer fields ++ (if is_blank default_writer fields then 34 ∷ 34 ∷ [] else []) in
    let one : record_text fields ≡ text ++ (10 ∷ []) = sym (append_assoc (row_body default_writer fields) (if is_blank default_writer fields then 34 ∷ 34 ∷ [] else []) (10 ∷ [])) in
    let whole = length-append (record_text fields) rest in
    let last = length-append text (10 ∷ []) in
    let size : length (record_text fields) ≡ length (text ++ (10 ∷ [])) = ap length one in
    omega arith

read_back_same : (fields : List (List ℕ)) → fields ≢ [] → read_back fields ≡ fields
read_back_same [] h = absurd (h refl)
read_back_same (x ∷ rest) h = refl

-- the texts of records are read as these, by any count of turns that is above the bytes' count
all_read : (n : ℕ) (rows : List (List (List ℕ))) → All (λ fields. fields ≢ []) rows → length (records_text rows) < n → records_from default_config n st.StartRecord (records_text rows) ≡ rows
unfolding records_from records_text next_record
all_read zero rows each room = absurd (omega arith)
all_read (suc n) [] each room = refl
all_read (suc n) (row ∷ rows) each room =
    let more = text_more row (records_text rows) in
    let less : length (records_text rows) < n = omega arith in
    let rest = all_read n rows (All-tail (λ fields. fields ≢ []) row rows each) less in
    let first = read_back_same row (All-head (λ fields. fields ≢ []) row rows each) in
    rw (read-write row (records_text rows)) (rw (first, rest) refl)

pub read_back_all : (rows : List (List (List ℕ))) → All (λ fields. fields ≢ []) rows → without_marks (records_text rows) ≡ records_text rows → records_of (records_text rows) ≡ rows
read_back_all rows each unmarked =
    let room : length (records_text rows) < length (records_text rows) + 1 = omega arith in
    ap (λ (t : List ℕ). records_from default_config (length t + 1) st.StartRecord t) unmarked ∙ all_read (length (records_text rows) + 1) rows each room

pub no_mark : (first : ℕ) (rest : List ℕ) → first ≢ 239 → without_marks (first ∷ rest) ≡ first ∷ rest
unfolding without_marks
no_mark first [] h = refl
no_mark first (b ∷ []) h = refl
no_mark first (b ∷ c ∷ rest) h = rw (ne_eqb first 239 h) refl

-- what a call says of Ok, where it answered Ok
pub told : {T E : Type 0} {P : Type 0} (r : Result T E) → is_ok r ≡ true → OnOk r P → P
told (Ok x) e h = h
told (Err x) e h = cc
