-- Records of four fields.
use Rattle.std.proofs.Common.{◌≡◌, ℕ, ◌≤◌, List, [], ◌∷◌, length, Some, Err, arith}
use Rattle.std.specs.Prelude.{slice_get}
use Rattle.ofit_num.specs.NumberText.{IsWhole}
use Rattle.ofit_num.proofs.Numerals.{IsWhole-number}
use Rattle.ofit_sheet.specs.declared.fault.RecordFault.{RecordFault}
use Rattle.ofit_sheet.specs.declared.fault.RecordFault.TheVariants.{Bad, TooLarge}
use Rattle.ofit_sheet.specs.declared.header.Header.{Header}
use Rattle.ofit_sheet.specs.Reading.{IsReading}
use Rattle.ofit_sheet.specs.Spelling.{IsHeader}

pub four_fields : (xs : List (List ℕ)) (a b c d : List ℕ) → length xs ≡ 4 → slice_get xs 0 ≡ Some a → slice_get xs 1 ≡ Some b → slice_get xs 2 ≡ Some c → slice_get xs 3 ≡ Some d → xs ≡ a ∷ b ∷ c ∷ d ∷ []
four_fields [] a b c d l e f g h = absurd (omega (arith, l))
four_fields (x ∷ []) a b c d l e f g h = absurd (omega (arith, l))
four_fields (x ∷ y ∷ []) a b c d l e f g h = absurd (omega (arith, l))
four_fields (x ∷ y ∷ z ∷ []) a b c d l e f g h = absurd (omega (arith, l))
four_fields (x ∷ y ∷ z ∷ w ∷ []) a b c d l e f g h = cc
four_fields (x ∷ y ∷ z ∷ w ∷ v ∷ rest) a b c d l e f g h = absurd (omega (arith, l))

pub no_places : (text : List ℕ) (fault : RecordFault) (n : ℕ) → IsReading {X = ℕ} (λ n. IsWhole text n) (λ n. n ≤ 6) (Err fault) → IsWhole text n → n ≤ 6 → ⊥
no_places text Bad n h w l = h n w
no_places text TooLarge n h w l = h.2 (omega (arith, l, IsWhole-number text n h.0 w h.1))

pub no_header : (fields : List (List ℕ)) (kind first second third : List ℕ) (fault : RecordFault) → fields ≡ kind ∷ first ∷ second ∷ third ∷ [] → IsReading {X = ℕ} (λ n. IsWhole third n) (λ n. n ≤ 6) (Err fault)
    → (head : Header) → IsHeader fields head → ⊥
no_header fields kind first second third fault e h head i =
    let same : i.places_text ≡ third = let fours = i.spells in cc in
    no_places third fault head.places h (rw same at i.places) i.most
