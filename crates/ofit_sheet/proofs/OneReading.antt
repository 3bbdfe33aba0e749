-- Records are read in one way alone.
use Rattle.std.proofs.Common.{◌≡◌, ◌≢◌, ℕ, ℤ, pos, negsuc, Bool, true, false, List, ◌∷◌, get_or, Option, Some, None, Result, Err, refl, sym, ap, subst, ◌∙◌, arith}
use Rattle.std.specs.Prelude.{AllPairs, codes}
use Rattle.ofit_num.specs.NumberText.{IsWhole, IsSigned}
use Rattle.ofit_num.specs.Sheet as num
use Rattle.ofit_num.proofs.Numerals.{IsWhole-number, IsSigned-number}
use Rattle.ofit_study.specs.declared.settings.Settings.{Settings}
use Rattle.ofit_study.specs.Loss.{loss_text}
use Rattle.ofit_study.proofs.LossTexts.{one_name}
use Rattle.ofit_study.proofs.Places.{named_place}
use Rattle.ofit_sheet.specs.declared.header.Header.{Header}
use Rattle.ofit_sheet.specs.declared.fields.Kind.{Kind}
use Rattle.ofit_sheet.specs.declared.fields.Kind.TheVariants as kind
use Rattle.ofit_sheet.specs.declared.item.Item.{Item}
use Rattle.ofit_sheet.specs.declared.item.Item.TheVariants as it
use Rattle.ofit_sheet.specs.declared.fault.SheetFault.{SheetFault}
use Rattle.ofit_sheet.specs.declared.fault.SheetFault.TheVariants as fault
use Rattle.ofit_sheet.specs.Spelling.{version_of, IsHeader, IsBoundText, kind_in, kind_name, FieldsSpell, Spells}
use Rattle.ofit_sheet.specs.Rules.{IsAllowed}
use Rattle.ofit_sheet.specs.SheetRead.{SheetRead, sheet_grammar, sheet_spelled}
use Rattle.ofit_sheet.proofs.Numerals.{digits_of}
use Rattle.ofit_sheet.proofs.OneFrame.{one_reading as one_way}

-- two texts that begin with different bytes
differ : (xs ys : List ℕ) → xs ≡ ys → (get_or xs 0 0 ≡ get_or ys 0 0)
differ xs ys e = ap (λ (t : List ℕ). get_or t 0 0) e

version_one : (a b : Bool) → version_of a ≡ version_of b → a ≡ b
version_one true true e = refl
version_one true false e = absurd (omega (arith, differ (codes "2") (codes "1") e))
version_one false true e = absurd (omega (arith, differ (codes "1") (codes "2") e))
version_one false false e = refl

kind_one : (a b : Kind) → kind_name a ≡ kind_name b → a ≡ b
kind_one kind.Bounds kind.Bounds e = refl
kind_one kind.Bounds kind.Size e = absurd (omega (arith, differ (codes "bounds") (codes "size") e))
kind_one kind.Bounds kind.Value e = absurd (omega (arith, differ (codes "bounds") (codes "value") e))
kind_one kind.Bounds kind.Flow e = absurd (omega (arith, differ (codes "bounds") (codes "flow") e))
kind_one kind.Bounds kind.End e = absurd (omega (arith, differ (codes "bounds") (codes "end") e))
kind_one kind.Size kind.Bounds e = absurd (omega (arith, differ (codes "size") (codes "bounds") e))
kind_one kind.Size kind.Size e = refl
kind_one kind.Size kind.Value e = absurd (omega (arith, differ (codes "size") (codes "value") e))
kind_one kind.Size kind.Flow e = absurd (omega (arith, differ (codes "size") (codes "flow") e))
kind_one kind.Size kind.End e = absurd (omega (arith, differ (codes "size") (codes "end") e))
kind_one kind.Value kind.Bounds e = absurd (omega (arith, differ (codes "value") (codes "bounds") e))
kind_one kind.Value kind.Size e = absurd (omega (arith, differ (codes "value") (codes "size") e))
kind_one kind.Value kind.Value e = refl
kind_one kind.Value kind.Flow e = absurd (omega (arith, differ (codes "value") (codes "flow") e))
kind_one kind.Value kind.End e = absurd (omega (arith, differ (codes "value") (codes "end") e))
kind_one kind.Flow kind.Bounds e = absurd (omega (arith, differ (codes "flow") (codes "bounds") e))
kind_one kind.Flow kind.Size e = absurd (omega (arith, differ (codes "flow") (codes "size") e))
kind_one kind.Flow kind.Value e = absurd (omega (arith, differ (codes "flow") (codes "value") e))
kind_one kind.Flow kind.Flow e = refl
kind_one kind.Flow kind.End e = absurd (omega (arith, differ (codes "flow") (codes "end") e))
kind_one kind.End kind.Bounds e = absurd (omega (arith, differ (codes "end") (codes "bounds") e))
kind_one kind.End kind.Size e = absurd (omega (arith, differ (codes "end") (codes "size") e))
kind_one kind.End kind.Value e = absurd (omega (arith, differ (codes "end") (codes "value") e))
kind_one kind.End kind.Flow e = absurd (omega (arith, differ (codes "end") (codes "flow") e))
kind_one kind.End kind.End e = refl

none_unsigned : (z : ℤ) → IsSigned (codes "none") z → ⊥
none_unsigned (pos n) w = absurd (omega (arith, (digits_of (codes "none") n w).digits.0.1))
none_unsigned (negsuc n) w = absurd (omega (arith, differ (codes "none") (45 ∷ w.0) w.1))

bound_one : (text : List ℕ) (a b : Option ℤ) → IsBoundText text a → IsBoundText text b → a ≡ b
bound_one text None None h k = refl
bound_one text None (Some z) h k = absurd (none_unsigned z (subst (λ (t : List ℕ). IsSigned t z) h k))
bound_one text (Some z) None h k = absurd (none_unsigned z (subst (λ (t : List ℕ). IsSigned t z) k h))
bound_one text (Some y) (Some z) h k = ap Some (IsSigned-number text y z h k)

header_one : (fields : List (List ℕ)) (a b : Header) → IsHeader fields a → IsHeader fields b → a ≡ b
header_one fields a b h k =
    let sized : a.sized ≡ b.sized = version_one a.sized b.sized (let e = h.spells in let f = k.spells in cc) in
    let loss : a.loss ≡ b.loss = one_name (loss_text a.loss) a.loss b.loss refl (let e = h.spells in let f = k.spells in cc) in
    let texts : k.places_text ≡ h.places_text = let e = h.spells in let f = k.spells in cc in
    let places : a.places ≡ b.places = IsWhole-number h.places_text a.places b.places h.places (subst (λ (t : List ℕ). IsWhole t b.places) texts k.places) in
    λ i. record { sized = sized i; loss = loss i; places = places i }

module _ (names : List (List ℕ)) (apart : AllPairs (λ a b. a ≢ b) names) where
  fields_one : (a b c : List ℕ) (i j : Item) → kind_in i ≡ kind_in j → FieldsSpell names a b c i → FieldsSpell names a b c j → i ≡ j
  fields_one a b c (it.Bounds lo hi) (it.Bounds lo2 hi2) e s t =
      let x : lo ≡ lo2 = bound_one a lo lo2 s.low t.low in
      let y : hi ≡ hi2 = bound_one b hi hi2 s.high t.high in
      λ i. it.Bounds (x i) (y i)
  fields_one a b c (it.Bounds lo hi) (it.Size y) e s t = absurd (cc)
  fields_one a b c (it.Bounds lo hi) (it.Value q w) e s t = absurd (cc)
  fields_one a b c (it.Bounds lo hi) (it.Flow l2 h2 m2) e s t = absurd (cc)
  fields_one a b c (it.Bounds lo hi) it.End e s t = absurd (cc)
  fields_one a b c (it.Size z) (it.Bounds lo2 hi2) e s t = absurd (cc)
  fields_one a b c (it.Size z) (it.Size y) e s t =
      let r : z.rows ≡ y.rows = IsWhole-number a z.rows y.rows s.count t.count in
      let w : z.weight ≡ y.weight = IsWhole-number b z.weight y.weight s.total t.total in
      λ i. it.Size (record { rows = r i; weight = w i })
  fields_one a b c (it.Size z) (it.Value q w) e s t = absurd (cc)
  fields_one a b c (it.Size z) (it.Flow l2 h2 m2) e s t = absurd (cc)
  fields_one a b c (it.Size z) it.End e s t = absurd (cc)
  fields_one a b c (it.Value p v) (it.Bounds lo2 hi2) e s t = absurd (cc)
  fields_one a b c (it.Value p v) (it.Size y) e s t = absurd (cc)
  fields_one a b c (it.Value p v) (it.Value q w) e s t =
      let g : p ≡ q = named_place names a p q apart s.group t.group in
      let n : v.num ≡ w.num = IsSigned-number b v.num w.num s.fraction.numerator t.fraction.numerator in
      let d : v.den ≡ w.den = IsWhole-number c v.den w.den s.fraction.denominator t.fraction.denominator in
      λ i. it.Value (g i) (record { num = n i; den = d i })
  fields_one a b c (it.Value p v) (it.Flow l2 h2 m2) e s t = absurd (cc)
  fields_one a b c (it.Value p v) it.End e s t = absurd (cc)
  fields_one a b c (it.Flow l h m) (it.Bounds lo2 hi2) e s t = absurd (cc)
  fields_one a b c (it.Flow l h m) (it.Size y) e s t = absurd (cc)
  fields_one a b c (it.Flow l h m) (it.Value q w) e s t = absurd (cc)
  fields_one a b c (it.Flow l h m) (it.Flow l2 h2 m2) e s t =
      let x : l ≡ l2 = named_place names a l l2 apart s.low_group t.low_group in
      let y : h ≡ h2 = named_place names b h h2 apart s.high_group t.high_group in
      let n : s.size ≡ t.size = IsWhole-number c s.size t.size s.whole t.whole in
      let z : m ≡ m2 = s.is_size ∙ ap pos n ∙ sym t.is_size in
      λ i. it.Flow (x i) (y i) (z i)
  fields_one a b c (it.Flow l h m) it.End e s t = absurd (cc)
  fields_one a b c it.End (it.Bounds lo2 hi2) e s t = absurd (cc)
  fields_one a b c it.End (it.Size y) e s t = absurd (cc)
  fields_one a b c it.End (it.Value q w) e s t = absurd (cc)
  fields_one a b c it.End (it.Flow l2 h2 m2) e s t = absurd (cc)
  fields_one a b c it.End it.End e s t = refl

  item_one : (fields : List (List ℕ)) (i j : Item) → Spells names fields i → Spells names fields j → i ≡ j
  item_one fields i j s t =
      let e = s.four in
      let f = t.four in
      let kinds : kind_in i ≡ kind_in j = kind_one (kind_in i) (kind_in j) (cc) in
      let x : t.first ≡ s.first = cc in
      let y : t.second ≡ s.second = cc in
      let z : t.third ≡ s.third = cc in
      fields_one s.first s.second s.third i j kinds s.spelled
      (subst (λ (u : List ℕ). FieldsSpell names u s.second s.third j) x (subst (λ (u : List ℕ). FieldsSpell names t.first u s.third j) y (subst (λ (u : List ℕ). FieldsSpell names t.first t.second u j) z t.spelled)))

  rule_one : (head : Header) (before : List Item) (fields : List (List ℕ)) (i j : Item) → Spells names fields i × IsAllowed head.sized before i → Spells names fields j × IsAllowed head.sized before j → i ≡ j
  rule_one head before fields i j s t = item_one fields i j s.0 t.0

  pub one_reading : (rows : List (List (List ℕ))) (a b : Result (num.Sheet Settings) SheetFault) → SheetRead names rows a → SheetRead names rows b → (a ≡ Err fault.Memory → ⊥) → (b ≡ Err fault.Memory → ⊥) → a ≡ b
  one_reading rows = one_way (sheet_grammar names) header_one rule_one rows (λ head items x. x ≡ sheet_spelled head items) (λ head items x y h k. h ∙ sym k)
