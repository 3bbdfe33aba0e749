-- A record of a data table is read in one way.
use Rattle.std.proofs.Common.{◌≡◌, ◌∙◌, ℕ, ℤ, List, Option, Some, None, Result, Ok, Err, inl, inr, refl, sym, ap, subst, arith}
use Rattle.std.specs.Prelude.{slice_get}
use Rattle.ofit_num.specs.declared.decimal.NumFault.{NumFault}
use Rattle.ofit_num.specs.declared.decimal.NumFault.TheVariants as num
use Rattle.ofit_num.specs.DecimalText.{IsUnits}
use Rattle.ofit_num.proofs.DecimalTexts.{one_number}
use Rattle.ofit_study.specs.FieldRead.{IsValue, ValueRead}
use Rattle.ofit_study.proofs.FieldReads.{one_value, one_weight}
use Rattle.ofit_study.specs.Name.{IsName}
use Rattle.ofit_table.specs.declared.fault.DataFault.{DataFault}
use Rattle.ofit_table.specs.declared.fault.DataFault.TheVariants.{FieldMissing, NotName, NotNumber, TooFine, TooLarge, BadWeight}
use Rattle.ofit_table.specs.declared.header.DataColumns.{DataColumns}
use Rattle.ofit_table.specs.Rows.{AreNamed, AreTexts, IsGood, IsShortOf, IsTooShort, IsRowWeight, IsWeightText, OwnFault, Texts}
use Rattle.ofit_table.specs.Reading.{value_fault}
use Rattle.ofit_table.proofs.Places.{within}

pub field_one : (fields : List (List ℕ)) (place : ℕ) (a b : List ℕ) → slice_get fields place ≡ Some a → slice_get fields place ≡ Some b → a ≡ b
field_one fields place a b h k = cc

weight_text_one : (place : Option ℕ) (fields : List (List ℕ)) (a b : Option (List ℕ)) → IsWeightText place fields a → IsWeightText place fields b → a ≡ b
weight_text_one None fields None None h k = refl
weight_text_one None fields None (Some b) h k = absurd k
weight_text_one None fields (Some a) b h k = absurd h
weight_text_one (Some place) fields None b h k = absurd h
weight_text_one (Some place) fields (Some a) None h k = absurd k
weight_text_one (Some place) fields (Some a) (Some b) h k = ap Some (field_one fields place a b h k)

short_weight : (place : Option ℕ) (fields : List (List ℕ)) (text : Option (List ℕ)) → IsShortOf place fields → IsWeightText place fields text → ⊥
short_weight None fields text s h = absurd s
short_weight (Some place) fields None s h = absurd h
short_weight (Some place) fields (Some text) s h = absurd (omega (arith, s, within fields place text h))

weight_one : (text : Option (List ℕ)) (a b : ℕ) → IsRowWeight text a → IsRowWeight text b → a ≡ b
weight_one None a b h k = h ∙ sym k
weight_one (Some text) a b h k = one_weight text a b h k

err_same : (a b : NumFault) (r s : Result ℤ NumFault) → r ≡ s → r ≡ Err a → s ≡ Err b → a ≡ b
err_same a b r s e p q = cc

err_ok : (a : NumFault) (z : ℤ) (r s : Result ℤ NumFault) → r ≡ s → r ≡ Err a → s ≡ Ok z → ⊥
err_ok a z r s e p q = absurd cc

-- two readings of a record without a fault
pub record SameRow (group other : List ℕ) (value amount : ℤ) (weight size : ℕ) : Type 0 where
  pub groups : group ≡ other
  pub values : value ≡ amount
  pub weights : weight ≡ size

module _ (places : ℕ) (columns : DataColumns) (fields : List (List ℕ)) where
  texts_one : (t u : Texts) → AreTexts columns fields t → AreTexts columns fields u → t ≡ u
  texts_one t u h k =
      let g : t.group ≡ u.group = field_one fields columns.group t.group u.group h.group k.group in
      let v : t.value ≡ u.value = field_one fields columns.value t.value u.value h.value k.value in
      let w : t.weight ≡ u.weight = weight_text_one columns.weight fields t.weight u.weight h.weight k.weight in
      λ i. record { group = g i; value = v i; weight = w i }

  not_short : (t : Texts) → IsTooShort columns fields → AreTexts columns fields t → ⊥
  not_short t (inl s) h = absurd (omega (arith, s, within fields columns.group t.group h.group))
  not_short t (inr (inl s)) h = absurd (omega (arith, s, within fields columns.value t.value h.value))
  not_short t (inr (inr s)) h = short_weight columns.weight fields t.weight s h.weight

  pub good_one : (group other : List ℕ) (value amount : ℤ) (weight size : ℕ) → IsGood places columns fields group value weight → IsGood places columns fields other amount size → SameRow group other value amount weight size
  good_one group other value amount weight size h k =
      let t : k.texts ≡ h.texts = texts_one k.texts h.texts k.taken h.taken in
      record {
        groups = sym h.same ∙ ap (λ (x : Texts). x.group) (sym t) ∙ k.same;
        values = one_number h.texts.value places value amount h.is_value.0 (subst (λ (x : Texts). IsUnits x.value places amount) t k.is_value.0);
        weights = weight_one h.texts.weight weight size h.is_weight (subst (λ (x : Texts). IsRowWeight x.weight size) t k.is_weight);
      }

  module _ (number : ℕ) where
    -- why a record has no row, by its fields alone
    data OwnCase (fault : DataFault) : Type 0 where
      short : IsTooShort columns fields → fault ≡ FieldMissing number → OwnCase fault
      unnamed : (texts : Texts) → AreTexts columns fields texts → (IsName texts.group → ⊥) → fault ≡ NotName number → OwnCase fault
      valueless : (texts : Texts) → AreNamed columns fields texts → (why : NumFault) → ValueRead places texts.value (Err why) → fault ≡ value_fault why number → OwnCase fault
      weightless : (texts : Texts) → AreNamed columns fields texts → (value : ℤ) → IsValue places texts.value value → ((weight : ℕ) → IsRowWeight texts.weight weight → ⊥) → fault ≡ BadWeight number → OwnCase fault

    own_case : (fault : DataFault) → OwnFault places columns fields number fault → OwnCase fault
    own_case (FieldMissing n) (e, s) = short s (ap FieldMissing e)
    own_case (NotName n) (e, t, a, denied) = unnamed t a denied (ap NotName e)
    own_case (NotNumber n) (e, (t, a, r)) = valueless t a num.NotNumber r (ap NotNumber e)
    own_case (TooFine n) (e, (t, a, r)) = valueless t a num.TooFine r (ap TooFine e)
    own_case (TooLarge n) (e, (t, a, r)) = valueless t a num.TooLarge r (ap TooLarge e)
    own_case (BadWeight n) (e, t, a, (z, is), denied) = weightless t a z is denied (ap BadWeight e)
    own_case fault h = absurd h

    named : (t u : Texts) → AreTexts columns fields t → (IsName t.group → ⊥) → AreNamed columns fields u → ⊥
    named t u a denied b = denied (subst (λ (x : Texts). IsName x.group) (texts_one u t b.taken a) b.name)

    valued : (t u : Texts) (why : NumFault) (z : ℤ) → AreTexts columns fields t → AreTexts columns fields u → ValueRead places t.value (Err why) → IsValue places u.value z → ⊥
    valued t u why z a b r v =
        let is : IsValue places t.value z = subst (λ (x : Texts). IsValue places x.value z) (texts_one u t b a) v in
        err_ok why z (Err why) (Ok z) (one_value places t.value (Err why) (Ok z) r is) refl refl

    by_case : (f g : DataFault) → OwnCase f → OwnCase g → f ≡ g
    by_case f g (short s e) (short t q) = e ∙ sym q
    by_case f g (short s e) (unnamed u b denied q) = absurd (not_short u s b)
    by_case f g (short s e) (valueless u b why r q) = absurd (not_short u s b.taken)
    by_case f g (short s e) (weightless u b z v denied q) = absurd (not_short u s b.taken)
    by_case f g (unnamed t a not e) (short s q) = absurd (not_short t s a)
    by_case f g (unnamed t a not e) (unnamed u b denied q) = e ∙ sym q
    by_case f g (unnamed t a not e) (valueless u b why r q) = absurd (named t u a not b)
    by_case f g (unnamed t a not e) (weightless u b z v denied q) = absurd (named t u a not b)
    by_case f g (valueless t a why r e) (short s q) = absurd (not_short t s a.taken)
    by_case f g (valueless t a why r e) (unnamed u b denied q) = absurd (named u t b denied a)
    by_case f g (valueless t a why r e) (valueless u b what p q) =
        let same = one_value places t.value (Err why) (Err what) r (subst (λ (x : Texts). ValueRead places x.value (Err what)) (texts_one u t b.taken a.taken) p) in
        e ∙ ap (λ (x : NumFault). value_fault x number) (err_same why what (Err why) (Err what) same refl refl) ∙ sym q
    by_case f g (valueless t a why r e) (weightless u b z v denied q) = absurd (valued t u why z a.taken b.taken r v)
    by_case f g (weightless t a z v denied e) (short s q) = absurd (not_short t s a.taken)
    by_case f g (weightless t a z v denied e) (unnamed u b not q) = absurd (named u t b not a)
    by_case f g (weightless t a z v denied e) (valueless u b why r q) = absurd (valued u t why z b.taken a.taken r v)
    by_case f g (weightless t a z v denied e) (weightless u b y w not q) = e ∙ sym q

    not_good : (f : DataFault) (group : List ℕ) (value : ℤ) (weight : ℕ) → OwnCase f → IsGood places columns fields group value weight → ⊥
    not_good f group value weight (short s e) h = not_short h.texts s h.taken
    not_good f group value weight (unnamed t a denied e) h = denied (subst IsName (sym h.same ∙ ap (λ (x : Texts). x.group) (texts_one h.texts t h.taken a)) h.name)
    not_good f group value weight (valueless t a why r e) h = valued t h.texts why value a.taken h.taken r h.is_value
    not_good f group value weight (weightless t a z v denied e) h = denied weight (subst (λ (x : Texts). IsRowWeight x.weight weight) (texts_one h.texts t h.taken a.taken) h.is_weight)

    pub own_one : (f g : DataFault) → OwnFault places columns fields number f → OwnFault places columns fields number g → f ≡ g
    own_one f g h k = by_case f g (own_case f h) (own_case g k)

    pub own_good : (f : DataFault) (group : List ℕ) (value : ℤ) (weight : ℕ) → OwnFault places columns fields number f → IsGood places columns fields group value weight → ⊥
    own_good f group value weight h k = not_good f group value weight (own_case f h) k
