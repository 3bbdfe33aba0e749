-- The text of a peaked sheet, part by part.
use Rattle.std.proofs.Common.{◌≡◌, ℕ, zero, suc, ◌+◌, List, [], ◌∷◌, ◌++◌, map, take, length, refl, sym, ap, ◌∙◌, append_assoc, append-nil, arith}
use Rattle.std.specs.Prelude.{slice_get, Some}
use Rattle.std.specs.List.{enumerate_from, flat_map}
use Rattle.std.proofs.lemmas.List.{take_more, take_all}
use Rattle.std.proofs.lemmas.List.Concat.{flat_map-append}
use Rattle.std.proofs.lemmas.List.FromFn.{length-enumerate_from}
use Rattle.ofit_records.specs.Written.{record_text, records_text}
use Rattle.ofit_sheet.proofs.WrittenParts.{one_more, all_taken, item_at, records_text-append, whole_text}

-- an element of a list with its number
pub listed_at : {X : Type 0} (start : ℕ) (xs : List X) (i p : ℕ) (x : X) → p ≡ start + i → slice_get xs i ≡ Some x → slice_get (enumerate_from start xs) i ≡ Some (p, x)
listed_at start [] i p x e h = absurd (cc)
listed_at {X} start (y ∷ ys) zero p x e h =
    let same : y ≡ x = cc in
    let number : start ≡ p = omega (arith, e) in
    λ i. Some (number i, same i)
listed_at start (y ∷ ys) (suc i) p x e h = listed_at (start + 1) ys i p x (omega (arith, e)) h

-- one record more of those that a numbered list tells
pub one_listed : {X : Type 0} (f : ℕ × X → List (List ℕ)) (start : ℕ) (xs : List X) (i p : ℕ) (x : X) (front now later : List ℕ) → p ≡ start + i → slice_get xs i ≡ Some x
    → now ≡ front ++ records_text (map f (take i (enumerate_from start xs))) → later ≡ now ++ record_text (f (p, x)) → later ≡ front ++ records_text (map f (take (i + 1) (enumerate_from start xs)))
one_listed f start xs i p x front now later e h n l = one_more f (enumerate_from start xs) i (p, x) front now later (listed_at start xs i p x e h) n l

pub all_listed : {X : Type 0} (f : ℕ × X → List (List ℕ)) (start : ℕ) (xs : List X) (i : ℕ) (front now : List ℕ) → length xs ≡ i
    → now ≡ front ++ records_text (map f (take i (enumerate_from start xs))) → now ≡ front ++ records_text (map f (enumerate_from start xs))
all_listed f start xs i front now e n = all_taken f (enumerate_from start xs) i front now (length-enumerate_from start xs ∙ e) n

-- and one group of records more
pub one_part : {X : Type 0} (f : ℕ × X → List (List (List ℕ))) (xs : List X) (i : ℕ) (x : X) (front now later : List ℕ) → slice_get xs i ≡ Some x
    → now ≡ front ++ records_text (flat_map f (take i (enumerate_from 0 xs))) → later ≡ now ++ records_text (f (i, x)) → later ≡ front ++ records_text (flat_map f (take (i + 1) (enumerate_from 0 xs)))
one_part {X} f xs i x front now later h n l =
    let all : List (ℕ × X) = enumerate_from 0 xs in
    let at = item_at all i (i, x) (listed_at 0 xs i i x (omega arith) h) in
    let longer : take (i + 1) all ≡ take i all ++ (i, x) ∷ [] = take_more all i (i, x) at.0 ∙ ap (λ (t : ℕ × X). take i all ++ t ∷ []) at.1 in
    let one : flat_map f ((i, x) ∷ []) ≡ f (i, x) = simp append-nil refl in
    let texts : records_text (flat_map f (take (i + 1) all)) ≡ records_text (flat_map f (take i all)) ++ records_text (f (i, x)) =
    ap (λ (t : List (ℕ × X)). records_text (flat_map f t)) longer ∙ ap records_text (flat_map-append f (take i all) ((i, x) ∷ []) ∙ ap (λ (t : List (List (List ℕ))). flat_map f (take i all) ++ t) one)
    ∙ records_text-append (flat_map f (take i all)) (f (i, x)) in
    l ∙ ap (λ (t : List ℕ). t ++ records_text (f (i, x))) n ∙ append_assoc front (records_text (flat_map f (take i all))) (records_text (f (i, x))) ∙ ap (λ (t : List ℕ). front ++ t) (sym texts)

pub all_parts : {X : Type 0} (f : ℕ × X → List (List (List ℕ))) (xs : List X) (i : ℕ) (front now : List ℕ) → length xs ≡ i
    → now ≡ front ++ records_text (flat_map f (take i (enumerate_from 0 xs))) → now ≡ front ++ records_text (flat_map f (enumerate_from 0 xs))
all_parts {X} f xs i front now e n = n ∙ ap (λ (t : List (ℕ × X)). front ++ records_text (flat_map f t)) (take_all i (enumerate_from 0 xs) (omega (arith, e, length-enumerate_from 0 xs)))

-- a first record and others
pub headed : (first : List (List ℕ)) (others : List (List (List ℕ))) (front mid later : List ℕ) → mid ≡ front ++ record_text first → later ≡ mid ++ records_text others → later ≡ front ++ records_text (first ∷ others)
unfolding records_text
headed first others front mid later m l = l ∙ ap (λ (t : List ℕ). t ++ records_text others) m ∙ append_assoc front (record_text first) (records_text others)

to_right : (a b c d : List (List (List ℕ))) → ((a ++ b) ++ c) ++ d ≡ a ++ (b ++ (c ++ d))
to_right a b c d = simp append_assoc refl

-- the parts of a peaked sheet's text make the whole
pub whole_peaked : (first second last : List (List ℕ)) (values rises falls : List (List (List ℕ))) (w1 w2 w3 w4 w5 w6 : List ℕ)
    → w1 ≡ record_text first → w2 ≡ w1 ++ record_text second → w3 ≡ w2 ++ records_text values → w4 ≡ w3 ++ records_text rises → w5 ≡ w4 ++ records_text falls → w6 ≡ w5 ++ record_text last
    → w6 ≡ records_text (first ∷ second ∷ (values ++ (rises ++ (falls ++ last ∷ []))))
whole_peaked first second last values rises falls w1 w2 w3 w4 w5 w6 a b c d e f =
    whole_text first second last values rises falls w1 w2 w3 w4 w5 w6 a b c d e f ∙ ap (λ (t : List (List (List ℕ))). records_text (first ∷ second ∷ t)) (to_right values rises falls (last ∷ []))
