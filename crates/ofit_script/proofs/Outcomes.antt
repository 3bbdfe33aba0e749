-- An edit of a study has one outcome.
use Rattle.std.proofs.Common.{◌≡◌, ◌≢◌, ◌∙◌, ◌⊎◌, ◌+◌, ◌<◌, ◌≤◌, ◌++◌, ℕ, List, [], ◌∷◌, Ok, Err, inl, inr, refl, sym, ap, subst, arith, length}
use Rattle.std.specs.Prelude.{Contains}
use Rattle.std.proofs.lemmas.List.Elements.{All-contains}
use Rattle.ofit_num.specs.declared.limits.TheConstants.{MOST_WEIGHT}
use Rattle.ofit_study.specs.declared.edit.Edit.{Edit}
use Rattle.ofit_study.specs.declared.edit.Edit.TheVariants.{Add, Remove, Value, Weight, Relate, Unrelate}
use Rattle.ofit_study.specs.declared.edit.End.TheVariants.{Low, High}
use Rattle.ofit_study.specs.declared.fault.EditFault.{EditFault}
use Rattle.ofit_study.specs.declared.fault.EditFault.TheVariants.{TooManyRows, TooHeavy, TooManyGroups, NoRow, GroupInUse, NoGroup, PairPresent, PairAbsent, TooManyPairs}
use Rattle.ofit_study.specs.Adding.{HasGroupOrRoom, IsTaken}
use Rattle.ofit_study.specs.Edited.{Edited, HasJustPairs, HasRow, IsAccepted, IsAfter, IsInUse, IsRefusal, IsUnknown, weight_with, with_rows, with_value, with_weight}
use Rattle.ofit_study.specs.Study.{Observation, Study, most_groups, most_pairs, most_rows, names_of, total_weight}
use Rattle.ofit_study.proofs.PairOrder.{ordered_one}
use Rattle.ofit_script.proofs.RowParts.{AreRising, gain_one, row_one}

just_one : (s : Study) (P : List ℕ × List ℕ → Type 0) (a b : Study) → HasJustPairs s P a → HasJustPairs s P b → a ≡ b
just_one s P a b h k =
    let pairs : a.pairs ≡ b.pairs = ordered_one a.pairs b.pairs h.in_order k.in_order (λ e c. (k.just e).1 ((h.just e).0 c)) (λ e c. (h.just e).1 ((k.just e).0 c)) in
    h.others ∙ ap (λ (t : List (List ℕ × List ℕ)). record s { pairs = t }) pairs ∙ sym k.others

not_among : (s : Study) (name : List ℕ) → IsUnknown s name → Contains (names_of s) name → ⊥
not_among s name h c = All-contains (λ known. known ≢ name) (names_of s) name h c refl

module _ (s : Study) (rising : AreRising s.rows) where
  -- the study after an edit
  after_one : (edit : Edit) (a b : Study) → IsAfter s edit a → IsAfter s edit b → a ≡ b
  after_one (Add group value weight) a b h k = gain_one s group value weight a b h k
  after_one (Remove number) a b (at, e) (there, q) =
      let same = row_one s number rising at there in
      let lower : at.lower ≡ there.lower = same.lower in
      let higher : at.higher ≡ there.higher = same.higher in
      let moved : with_rows s at.lower [] at.higher ≡ with_rows s there.lower [] there.higher = (λ i. with_rows s (lower i) [] (higher i)) in
      e ∙ moved ∙ sym q
  after_one (Value number value) a b (at, e) (there, q) =
      let same = row_one s number rising at there in
      let lower : at.lower ≡ there.lower = same.lower in
      let row : at.row ≡ there.row = same.row in
      let higher : at.higher ≡ there.higher = same.higher in
      let moved : with_rows s at.lower (with_value at.row value ∷ []) at.higher ≡ with_rows s there.lower (with_value there.row value ∷ []) there.higher = (λ i. with_rows s (lower i) (with_value (row i) value ∷ []) (higher i)) in
      e ∙ moved ∙ sym q
  after_one (Weight number weight) a b (at, e) (there, q) =
      let same = row_one s number rising at there in
      let lower : at.lower ≡ there.lower = same.lower in
      let row : at.row ≡ there.row = same.row in
      let higher : at.higher ≡ there.higher = same.higher in
      let moved : with_rows s at.lower (with_weight at.row weight ∷ []) at.higher ≡ with_rows s there.lower (with_weight there.row weight ∷ []) there.higher = (λ i. with_rows s (lower i) (with_weight (row i) weight ∷ []) (higher i)) in
      e ∙ moved ∙ sym q
  after_one (Relate low high) a b h k = just_one s (λ e. Contains s.pairs e ⊎ (e ≡ (low, high))) a b h k
  after_one (Unrelate low high) a b h k = just_one s (λ e. Contains s.pairs e × (e ≢ (low, high))) a b h k

  group_same : (number : ℕ) (a b : HasRow s number) → IsInUse s a.row.group → IsInUse s b.row.group
  group_same number a b h = subst (λ (t : Observation). IsInUse s t.group) (row_one s number rising a b).row h

  weight_same : (number : ℕ) (a b : HasRow s number) (weight : ℕ) → weight_with a weight ≡ weight_with b weight
  weight_same number a b weight =
      let same = row_one s number rising a b in
      let lower : a.lower ≡ b.lower = same.lower in
      let row : a.row ≡ b.row = same.row in
      let higher : a.higher ≡ b.higher = same.higher in
      λ i. total_weight (lower i ++ with_weight (row i) weight ∷ higher i)

  -- why an edit is refused, in the order of its reasons
  data WhyAdd (group : List ℕ) (weight : ℕ) (fault : EditFault) : Type 0 where
    rows : most_rows ≤ length s.rows → fault ≡ TooManyRows → WhyAdd group weight fault
    heavy : length s.rows < most_rows → MOST_WEIGHT < total_weight s.rows + weight → fault ≡ TooHeavy → WhyAdd group weight fault
    groups : length s.rows < most_rows → total_weight s.rows + weight ≤ MOST_WEIGHT → IsUnknown s group → most_groups ≤ length (names_of s) → fault ≡ TooManyGroups → WhyAdd group weight fault

  data WhyRemove (number : ℕ) (fault : EditFault) : Type 0 where
    no_such : (HasRow s number → ⊥) → fault ≡ NoRow → WhyRemove number fault
    in_use : (at : HasRow s number) → IsInUse s at.row.group → fault ≡ GroupInUse → WhyRemove number fault

  data WhyWeight (number weight : ℕ) (fault : EditFault) : Type 0 where
    rowless : (HasRow s number → ⊥) → fault ≡ NoRow → WhyWeight number weight fault
    overweight : (at : HasRow s number) → MOST_WEIGHT < weight_with at weight → fault ≡ TooHeavy → WhyWeight number weight fault

  data WhyRelate (low high : List ℕ) (fault : EditFault) : Type 0 where
    no_low : IsUnknown s low → fault ≡ NoGroup Low → WhyRelate low high fault
    no_high : Contains (names_of s) low → IsUnknown s high → fault ≡ NoGroup High → WhyRelate low high fault
    present : Contains (names_of s) low → Contains (names_of s) high → Contains s.pairs (low, high) → fault ≡ PairPresent → WhyRelate low high fault
    many : Contains (names_of s) low → Contains (names_of s) high → (Contains s.pairs (low, high) → ⊥) → most_pairs ≤ length s.pairs → fault ≡ TooManyPairs → WhyRelate low high fault

  abbrev Why : Edit → EditFault → Type 0
  Why (Add group value weight) fault = WhyAdd group weight fault
  Why (Remove number) fault = WhyRemove number fault
  Why (Value number value) fault = (HasRow s number → ⊥) × (fault ≡ NoRow)
  Why (Weight number weight) fault = WhyWeight number weight fault
  Why (Relate low high) fault = WhyRelate low high fault
  Why (Unrelate low high) fault = (Contains s.pairs (low, high) → ⊥) × (fault ≡ PairAbsent)

  why : (edit : Edit) (fault : EditFault) → IsRefusal s edit fault → Why edit fault
  why (Add group value weight) TooManyRows h = rows h refl
  why (Add group value weight) TooHeavy h = heavy h.0 h.1 refl
  why (Add group value weight) TooManyGroups h = groups h.0 h.1 h.2 h.3 refl
  why (Add group value weight) fault h = absurd h
  why (Remove number) NoRow h = no_such h refl
  why (Remove number) GroupInUse h = in_use h.0 h.1 refl
  why (Remove number) fault h = absurd h
  why (Value number value) NoRow h = (h, refl)
  why (Value number value) fault h = absurd h
  why (Weight number weight) NoRow h = rowless h refl
  why (Weight number weight) TooHeavy h = overweight h.0 h.1 refl
  why (Weight number weight) fault h = absurd h
  why (Relate low high) (NoGroup Low) h = no_low h refl
  why (Relate low high) (NoGroup High) h = no_high h.0 h.1 refl
  why (Relate low high) PairPresent h = present h.0 h.1 h.2 refl
  why (Relate low high) TooManyPairs h = many h.0 h.1 h.2 h.3 refl
  why (Relate low high) fault h = absurd h
  why (Unrelate low high) PairAbsent h = (h, refl)
  why (Unrelate low high) fault h = absurd h

  add_one : (group : List ℕ) (weight : ℕ) (f g : EditFault) → WhyAdd group weight f → WhyAdd group weight g → f ≡ g
  add_one group weight f g (rows l e) (rows m q) = e ∙ sym q
  add_one group weight f g (rows l e) (heavy m n q) = absurd (omega (arith, l, m))
  add_one group weight f g (rows l e) (groups m n u o q) = absurd (omega (arith, l, m))
  add_one group weight f g (heavy l j e) (rows m q) = absurd (omega (arith, l, m))
  add_one group weight f g (heavy l j e) (heavy m n q) = e ∙ sym q
  add_one group weight f g (heavy l j e) (groups m n u o q) = absurd (omega (arith, j, n))
  add_one group weight f g (groups l j v i e) (rows m q) = absurd (omega (arith, l, m))
  add_one group weight f g (groups l j v i e) (heavy m n q) = absurd (omega (arith, j, n))
  add_one group weight f g (groups l j v i e) (groups m n u o q) = e ∙ sym q

  remove_one : (number : ℕ) (f g : EditFault) → WhyRemove number f → WhyRemove number g → f ≡ g
  remove_one number f g (no_such h e) (no_such k q) = e ∙ sym q
  remove_one number f g (no_such h e) (in_use at u q) = absurd (h at)
  remove_one number f g (in_use at u e) (no_such k q) = absurd (k at)
  remove_one number f g (in_use at u e) (in_use there v q) = e ∙ sym q

  weight_one : (number weight : ℕ) (f g : EditFault) → WhyWeight number weight f → WhyWeight number weight g → f ≡ g
  weight_one number weight f g (rowless h e) (rowless k q) = e ∙ sym q
  weight_one number weight f g (rowless h e) (overweight at l q) = absurd (h at)
  weight_one number weight f g (overweight at l e) (rowless k q) = absurd (k at)
  weight_one number weight f g (overweight at l e) (overweight there m q) = e ∙ sym q

  relate_one : (low high : List ℕ) (f g : EditFault) → WhyRelate low high f → WhyRelate low high g → f ≡ g
  relate_one low high f g (no_low h e) (no_low k q) = e ∙ sym q
  relate_one low high f g (no_low h e) (no_high k l q) = absurd (not_among s low h k)
  relate_one low high f g (no_low h e) (present k l m q) = absurd (not_among s low h k)
  relate_one low high f g (no_low h e) (many k l m n q) = absurd (not_among s low h k)
  relate_one low high f g (no_high h i e) (no_low k q) = absurd (not_among s low k h)
  relate_one low high f g (no_high h i e) (no_high k l q) = e ∙ sym q
  relate_one low high f g (no_high h i e) (present k l m q) = absurd (not_among s high i l)
  relate_one low high f g (no_high h i e) (many k l m n q) = absurd (not_among s high i l)
  relate_one low high f g (present h i j e) (no_low k q) = absurd (not_among s low k h)
  relate_one low high f g (present h i j e) (no_high k l q) = absurd (not_among s high l i)
  relate_one low high f g (present h i j e) (present k l m q) = e ∙ sym q
  relate_one low high f g (present h i j e) (many k l m n q) = absurd (m j)
  relate_one low high f g (many h i j o e) (no_low k q) = absurd (not_among s low k h)
  relate_one low high f g (many h i j o e) (no_high k l q) = absurd (not_among s high l i)
  relate_one low high f g (many h i j o e) (present k l m q) = absurd (j m)
  relate_one low high f g (many h i j o e) (many k l m n q) = e ∙ sym q

  why_one : (edit : Edit) (f g : EditFault) → Why edit f → Why edit g → f ≡ g
  why_one (Add group value weight) f g h k = add_one group weight f g h k
  why_one (Remove number) f g h k = remove_one number f g h k
  why_one (Value number value) f g h k = h.1 ∙ sym k.1
  why_one (Weight number weight) f g h k = weight_one number weight f g h k
  why_one (Relate low high) f g h k = relate_one low high f g h k
  why_one (Unrelate low high) f g h k = h.1 ∙ sym k.1

  -- what nothing refuses has no reason
  no_room : (group : List ℕ) → HasGroupOrRoom s group → IsUnknown s group → most_groups ≤ length (names_of s) → ⊥
  no_room group (inl c) u l = not_among s group u c
  no_room group (inr m) u l = absurd (omega (arith, m, l))

  add_free : (group : List ℕ) (weight : ℕ) (f : EditFault) → IsTaken s group weight → WhyAdd group weight f → ⊥
  add_free group weight f t (rows l e) = absurd (omega (arith, t.few, l))
  add_free group weight f t (heavy l j e) = absurd (omega (arith, t.light, j))
  add_free group weight f t (groups l j u i e) = no_room group t.group u i

  remove_free : (number : ℕ) (f : EditFault) (at : HasRow s number) → (IsInUse s at.row.group → ⊥) → WhyRemove number f → ⊥
  remove_free number f at free (no_such h e) = h at
  remove_free number f at free (in_use there u e) = free (group_same number there at u)

  weight_free : (number weight : ℕ) (f : EditFault) (at : HasRow s number) → weight_with at weight ≤ MOST_WEIGHT → WhyWeight number weight f → ⊥
  weight_free number weight f at light (rowless h e) = h at
  weight_free number weight f at light (overweight there l e) = absurd (omega (arith, l, light, weight_same number there at weight))

  relate_free : (low high : List ℕ) (f : EditFault) → Contains (names_of s) low → Contains (names_of s) high → (Contains s.pairs (low, high) → ⊥) → length s.pairs < most_pairs → WhyRelate low high f → ⊥
  relate_free low high f a b new few (no_low h e) = not_among s low h a
  relate_free low high f a b new few (no_high h i e) = not_among s high i b
  relate_free low high f a b new few (present h i j e) = new j
  relate_free low high f a b new few (many h i j o e) = absurd (omega (arith, few, o))

  free : (edit : Edit) (f : EditFault) → IsAccepted s edit → Why edit f → ⊥
  free (Add group value weight) f h k = add_free group weight f h k
  free (Remove number) f h k = remove_free number f h.0 h.1 k
  free (Value number value) f h k = k.0 h
  free (Weight number weight) f h k = weight_free number weight f h.0 h.1 k
  free (Relate low high) f h k = relate_free low high f h.0 h.1 h.2 h.3 k
  free (Unrelate low high) f h k = k.0 h

  -- an edit is taken or refused
  pub not_refused : (edit : Edit) (after : Study) (f : EditFault) → Edited s edit (Ok after) → Edited s edit (Err f) → ⊥
  not_refused edit after f h k = free edit f h.0 (why edit f k)

  pub one_after : (edit : Edit) (a b : Study) → Edited s edit (Ok a) → Edited s edit (Ok b) → a ≡ b
  one_after edit a b h k = after_one edit a b h.1 k.1

  pub one_refusal : (edit : Edit) (f g : EditFault) → Edited s edit (Err f) → Edited s edit (Err g) → f ≡ g
  one_refusal edit f g h k = why_one edit f g (why edit f h) (why edit g k)
