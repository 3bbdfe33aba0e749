-- The text of a sheet, part by part.
use Rattle.std.proofs.Common.{◌≡◌, ℕ, ◌+◌, ◌<◌, List, [], ◌∷◌, ◌++◌, map, take, length, get_or, refl, sym, ap, ◌∙◌, append_assoc, append-nil, arith}
use Rattle.std.specs.Prelude.{slice_get, Some}
use Rattle.std.proofs.lemmas.List.{take_more, take_all, map-append}
use Rattle.std.proofs.lemmas.Option.{slice_get_within, get_or_from_slice_get}
use Rattle.ofit_records.specs.Written.{record_text, records_text}

pub no_text : (text : List ℕ) → text ≡ text ++ records_text []
unfolding records_text
no_text text = sym (append-nil text)

pub one_text : (text : List ℕ) (row : List (List ℕ)) → text ++ record_text row ≡ text ++ records_text (row ∷ [])
unfolding records_text
one_text text row = ap (λ (t : List ℕ). text ++ t) (sym (append-nil (record_text row)))

pub records_text-append : (rows more : List (List (List ℕ))) → records_text (rows ++ more) ≡ records_text rows ++ records_text more
unfolding records_text
records_text-append [] more = refl
records_text-append (row ∷ rows) more =
    ap (λ (t : List ℕ). record_text row ++ t) (records_text-append rows more) ∙ sym (append_assoc (record_text row) (records_text rows) (records_text more))

-- the item at a place of a list
pub item_at : {X : Type 0} (xs : List X) (i : ℕ) (x : X) → slice_get xs i ≡ Some x → (i < length xs) × (get_or xs i x ≡ x)
item_at xs i x e = (slice_get_within xs i x e, get_or_from_slice_get xs i x x e)

-- one record more of those that a list tells
pub one_more : {X : Type 0} (f : X → List (List ℕ)) (xs : List X) (i : ℕ) (x : X) (front now later : List ℕ) → slice_get xs i ≡ Some x → now ≡ front ++ records_text (map f (take i xs))
    → later ≡ now ++ record_text (f x) → later ≡ front ++ records_text (map f (take (i + 1) xs))
one_more {X} f xs i x front now later e n l =
    let at = item_at xs i x e in
    let longer : take (i + 1) xs ≡ take i xs ++ x ∷ [] = take_more xs i x at.0 ∙ ap (λ (t : X). take i xs ++ t ∷ []) at.1 in
    let texts : records_text (map f (take (i + 1) xs)) ≡ records_text (map f (take i xs)) ++ records_text (f x ∷ []) =
    ap (λ (t : List X). records_text (map f t)) longer ∙ ap records_text (map-append f (take i xs) (x ∷ [])) ∙ records_text-append (map f (take i xs)) (f x ∷ []) in
    l ∙ one_text now (f x) ∙ ap (λ (t : List ℕ). t ++ records_text (f x ∷ [])) n ∙ append_assoc front (records_text (map f (take i xs))) (records_text (f x ∷ [])) ∙ ap (λ (t : List ℕ). front ++ t) (sym texts)

pub all_taken : {X : Type 0} (f : X → List (List ℕ)) (xs : List X) (i : ℕ) (front now : List ℕ) → length xs ≡ i → now ≡ front ++ records_text (map f (take i xs)) → now ≡ front ++ records_text (map f xs)
all_taken {X} f xs i front now e n = n ∙ ap (λ (t : List X). front ++ records_text (map f t)) (take_all i xs (omega (arith, e)))

joined : (h b s v f e : List ℕ) → ((((h ++ b) ++ s) ++ v) ++ f) ++ e ≡ h ++ (b ++ (((s ++ v) ++ f) ++ (e ++ [])))
joined h b s v f e = simp (append_assoc, append-nil) refl

-- the parts of a sheet's text make the whole
pub whole_text : (first second last : List (List ℕ)) (sizes values flows : List (List (List ℕ))) (w1 w2 w3 w4 w5 w6 : List ℕ)
    → w1 ≡ record_text first → w2 ≡ w1 ++ record_text second → w3 ≡ w2 ++ records_text sizes → w4 ≡ w3 ++ records_text values → w5 ≡ w4 ++ records_text flows → w6 ≡ w5 ++ record_text last
    → w6 ≡ records_text (first ∷ second ∷ (sizes ++ values ++ flows ++ last ∷ []))
unfolding records_text
whole_text first second last sizes values flows w1 w2 w3 w4 w5 w6 a b c d e f =
    let four : records_text (sizes ++ values ++ flows ++ last ∷ []) ≡ ((records_text sizes ++ records_text values) ++ records_text flows) ++ (record_text last ++ []) =
    records_text-append (sizes ++ values ++ flows) (last ∷ [])
    ∙ ap (λ (t : List ℕ). t ++ (record_text last ++ [])) (records_text-append (sizes ++ values) flows ∙ ap (λ (t : List ℕ). t ++ records_text flows) (records_text-append sizes values)) in
    f
    ∙ ap (λ (t : List ℕ). t ++ record_text last)
    (e ∙ ap (λ (t : List ℕ). t ++ records_text flows)
    (d ∙ ap (λ (t : List ℕ). t ++ records_text values) (c ∙ ap (λ (t : List ℕ). t ++ records_text sizes) (b ∙ ap (λ (t : List ℕ). t ++ record_text second) a))))
    ∙ joined (record_text first) (record_text second) (records_text sizes) (records_text values) (records_text flows) (record_text last)
    ∙ ap (λ (t : List ℕ). record_text first ++ (record_text second ++ t)) (sym four)
