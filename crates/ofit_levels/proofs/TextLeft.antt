-- What is left to write of the level table, record by record.
use Rattle.std.proofs.Common.{◌≡◌, ℕ, suc, ◌+◌, ◌<◌, ◌≤◌, List, [], ◌∷◌, ◌++◌, drop, length, ap, sym, ◌∙◌, append_assoc, append-nil, drop-cons, drop_of_length-le, arith}
use Rattle.std.proofs.lemmas.List.FromFn.{length-map-range_with_len, get_or-map-range_with_len}
use Rattle.ofit_records.specs.Written.{record_text, records_text}
use Rattle.ofit_levels.specs.Factorial.{factorial}
use Rattle.ofit_levels.specs.Level.{level}
use Rattle.ofit_levels.specs.LevelText.{header_fields, level_fields, level_records, end_fields, level_table}

-- the records behind those of the first `place` levels
unfoldable pub text_left : ℕ → ℕ → List ℕ
text_left k place = records_text (drop place (level_records k) ++ end_fields ∷ [])

pub all_left : (k all : ℕ) (before after : List ℕ) → all ≡ factorial k → before ≡ [] → after ≡ before ++ record_text (header_fields k all) → after ++ text_left k 0 ≡ level_table k
unfolding text_left level_table records_text
all_left k all before after a b e =
    ap (λ (t : List ℕ). t ++ text_left k 0) (e ∙ ap (λ (t : List ℕ). t ++ record_text (header_fields k all)) b)
    ∙ ap (λ (n : ℕ). record_text (header_fields k n) ++ text_left k 0) a

next_record : (k place : ℕ) → place < k → drop place (level_records k) ≡ level_fields (place + 1) (level k (place + 1)) (factorial k) ∷ drop (place + 1) (level_records k)
next_record k place h =
    let row = λ (l : ℕ). level_fields l (level k l) (factorial k) in
    let next : place + 1 ≡ suc place = omega arith in
    let within : place < length (level_records k) = omega (arith, length-map-range_with_len row 1 k) in
    drop-cons (level_records k) place [] within
    ∙ ap (λ (t : List (List ℕ)). t ∷ drop (suc place) (level_records k)) (get_or-map-range_with_len row 1 k place (place + 1) [] h (omega arith))
    ∙ ap (λ (n : ℕ). row (place + 1) ∷ drop n (level_records k)) (sym next)

pub one_less : (k place count all : ℕ) (before after : List ℕ) → place < k → count ≡ level k (place + 1) → all ≡ factorial k
    → before ++ text_left k place ≡ level_table k → after ≡ before ++ record_text (level_fields (place + 1) count all) → after ++ text_left k (place + 1) ≡ level_table k
unfolding text_left records_text
one_less k place count all before after h c a told e =
    let l = place + 1 in
    ap (λ (t : List ℕ). t ++ text_left k l) (e ∙ ap (λ (n : ℕ). before ++ record_text (level_fields l n all)) c ∙ ap (λ (n : ℕ). before ++ record_text (level_fields l (level k l) n)) a)
    ∙ append_assoc before (record_text (level_fields l (level k l) (factorial k))) (text_left k l)
    ∙ ap (λ (rows : List (List (List ℕ))). before ++ records_text (rows ++ end_fields ∷ [])) (sym (next_record k place h))
    ∙ told

pub none_left : (k place : ℕ) (before after : List ℕ) → k ≤ place → before ++ text_left k place ≡ level_table k → after ≡ before ++ record_text end_fields → after ≡ level_table k
unfolding text_left records_text
none_left k place before after h told e =
    let row = λ (l : ℕ). level_fields l (level k l) (factorial k) in
    let none : drop place (level_records k) ≡ [] = drop_of_length-le (level_records k) (omega (arith, length-map-range_with_len row 1 k)) in
    e ∙ ap (λ (t : List ℕ). before ++ t) (sym (append-nil (record_text end_fields)))
    ∙ ap (λ (rows : List (List (List ℕ))). before ++ records_text (rows ++ end_fields ∷ [])) (sym none)
    ∙ told
