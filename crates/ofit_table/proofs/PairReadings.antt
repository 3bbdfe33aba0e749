-- A record of an order file is read in one way.
use Rattle.std.proofs.Common.{◌≡◌, ◌≢◌, ◌≤◌, ◌+◌, ◌⊎◌, ◌++◌, ◌∙◌, ℕ, List, [], ◌∷◌, Some, length, get_or, inl, inr, sym, ap, subst, arith}
use Rattle.std.specs.Prelude.{All, AllPairs, Contains, slice_get}
use Rattle.std.proofs.lemmas.List.{length-append}
use Rattle.std.proofs.lemmas.List.Elements.{All-contains, Contains-append_left, Contains-append_right, Contains-get_or, Contains-push_cases}
use Rattle.std.proofs.lemmas.List.Quantifiers.{all_pairs_push}
use Rattle.ofit_study.specs.Study.{most_pairs}
use Rattle.ofit_table.specs.declared.fault.OrderFault.{OrderFault}
use Rattle.ofit_table.specs.declared.fault.OrderFault.TheVariants.{FieldMissing, UnknownGroup}
use Rattle.ofit_table.specs.declared.header.OrderColumns.{OrderColumns}
use Rattle.ofit_table.specs.Pairs.{AreDistinct, AreEnds, ArePairs, IsPair, IsPairTooMany, IsUnknown, OwnPairFault, PairFault}
use Rattle.ofit_num.proofs.Members.{cons_first}
use Rattle.ofit_num.proofs.Pigeonhole.{distinct_few}
use Rattle.ofit_study.proofs.Places.{named_place}
use Rattle.ofit_table.proofs.Places.{nowhere, within}
use Rattle.ofit_table.proofs.RecordReadings.{field_one}

module _ (columns : OrderColumns) (names : List (List ℕ)) where
  -- two readings of the names that a record relates
  record SameEnds (low high other another : List ℕ) : Type 0 where
    lows : low ≡ other
    highs : high ≡ another

  ends_one : (fields : List (List ℕ)) (low high other another : List ℕ) → AreEnds columns fields low high → AreEnds columns fields other another → SameEnds low high other another
  ends_one fields low high other another h k = record {
    lows = field_one fields columns.low low other h.at_low k.at_low;
    highs = field_one fields columns.high high another h.at_high k.at_high;
  }

  -- the record is too short for a column
  abbrev IsTooShort : List (List ℕ) → Type 0
  IsTooShort fields = (length fields ≤ columns.low) ⊎ (length fields ≤ columns.high)

  not_short : (fields : List (List ℕ)) (low high : List ℕ) → IsTooShort fields → AreEnds columns fields low high → ⊥
  not_short fields low high (inl s) h = absurd (omega (arith, s, within fields columns.low low h.at_low))
  not_short fields low high (inr s) h = absurd (omega (arith, s, within fields columns.high high h.at_high))

  not_known : (fields : List (List ℕ)) (low high : List ℕ) (pair : ℕ × ℕ) → AreEnds columns fields low high → IsUnknown names low ⊎ IsUnknown names high → IsPair columns names fields pair → ⊥
  not_known fields low high pair h (inl u) k =
      nowhere names low pair.0 u (subst (λ (t : List ℕ). slice_get names pair.0 ≡ Some t) (ends_one fields k.low k.high low high k.ends h).lows k.low_place)
  not_known fields low high pair h (inr u) k =
      nowhere names high pair.1 u (subst (λ (t : List ℕ). slice_get names pair.1 ≡ Some t) (ends_one fields k.low k.high low high k.ends h).highs k.high_place)

  -- why a record has no pair, or none behind these ones
  data PairCase (before : List (ℕ × ℕ)) (fields : List (List ℕ)) (number : ℕ) (fault : OrderFault) : Type 0 where
    short : IsTooShort fields → fault ≡ FieldMissing number → PairCase before fields number fault
    unknown : (low high : List ℕ) → AreEnds columns fields low high → IsUnknown names low ⊎ IsUnknown names high → fault ≡ UnknownGroup number → PairCase before fields number fault
    too_many : IsPairTooMany columns names before fields number fault → PairCase before fields number fault

  module _ (before : List (ℕ × ℕ)) (fields : List (List ℕ)) (number : ℕ) where
    own_case : (fault : OrderFault) → OwnPairFault columns names fields number fault → PairCase before fields number fault
    own_case (FieldMissing n) (e, s) = short s (ap FieldMissing e)
    own_case (UnknownGroup n) (e, low, high, ends, who) = unknown low high ends who (ap UnknownGroup e)
    own_case fault h = absurd h

    pair_case : (fault : OrderFault) → PairFault columns names before fields number fault → PairCase before fields number fault
    pair_case fault (inl h) = own_case fault h
    pair_case fault (inr h) = too_many h

    by_case : (f g : OrderFault) → PairCase before fields number f → PairCase before fields number g → f ≡ g
    by_case f g (short s e) (short t q) = e ∙ sym q
    by_case f g (short s e) (unknown low high ends who q) = absurd (not_short fields low high s ends)
    by_case f g (short s e) (too_many m) = absurd (not_short fields m.related.low m.related.high s m.related.ends)
    by_case f g (unknown low high ends who e) (short s q) = absurd (not_short fields low high s ends)
    by_case f g (unknown low high ends who e) (unknown other another both what q) = e ∙ sym q
    by_case f g (unknown low high ends who e) (too_many m) = absurd (not_known fields low high m.pair ends who m.related)
    by_case f g (too_many m) (short s q) = absurd (not_short fields m.related.low m.related.high s m.related.ends)
    by_case f g (too_many m) (unknown low high ends who q) = absurd (not_known fields low high m.pair ends who m.related)
    by_case f g (too_many m) (too_many n) = m.is ∙ sym n.is

    pub pair_fault_one : (f g : OrderFault) → PairFault columns names before fields number f → PairFault columns names before fields number g
        → f ≡ g
    pair_fault_one f g h k = by_case f g (pair_case f h) (pair_case g k)

  module _ (apart : AllPairs (λ a b. a ≢ b) names) where
    pub pair_one : (fields : List (List ℕ)) (p q : ℕ × ℕ) → IsPair columns names fields p → IsPair columns names fields q → p ≡ q
    pair_one fields p q h k =
        let same = ends_one fields k.low k.high h.low h.high k.ends h.ends in
        let low : p.0 ≡ q.0 = named_place names h.low p.0 q.0 apart h.low_place (subst (λ (t : List ℕ). slice_get names q.0 ≡ Some t) same.lows k.low_place) in
        let high : p.1 ≡ q.1 = named_place names h.high p.1 q.1 apart h.high_place (subst (λ (t : List ℕ). slice_get names q.1 ≡ Some t) same.highs k.high_place) in
        λ i. (low i, high i)

    -- pairs of which one is new behind as many as there may be are too many
    overfull : (before rest : List (ℕ × ℕ)) (pair : ℕ × ℕ) (kept all : List (ℕ × ℕ)) → AreDistinct before kept → All (λ earlier. earlier ≢ pair) before → AreDistinct (before ++ pair ∷ rest) all → length kept + 1 ≤ length all
    overfull before rest pair kept all d new a =
        let apart_from : All (λ earlier. earlier ≢ pair) kept = λ k e lt. All-contains (λ x. x ≢ pair) before (get_or kept k e) new ((d.same (get_or kept k e)).0 (Contains-get_or kept k e lt)) in
        let within_all = distinct_few (kept ++ pair ∷ []) all (all_pairs_push (λ x y. x ≢ y) kept pair d.each apart_from) (λ e h. on e (Contains-push_cases kept pair e h)) in
        omega (arith, within_all, length-append kept (pair ∷ []))
      where
        on : (e : ℕ × ℕ) → Contains kept e ⊎ (pair ≡ e) → Contains all e
        on e (inl h) = (a.same e).1 (Contains-append_left before (pair ∷ rest) e ((d.same e).0 h))
        on e (inr h) = subst (Contains all) h ((a.same pair).1 (Contains-append_right before (pair ∷ rest) pair (cons_first rest pair)))

    none_by : (before rest : List (ℕ × ℕ)) (pair : ℕ × ℕ) (fields : List (List ℕ)) (number : ℕ) (f : OrderFault) (all : List (ℕ × ℕ)) → PairCase before fields number f → IsPair columns names fields pair
        → AreDistinct (before ++ pair ∷ rest) all → length all ≤ most_pairs → ⊥
    none_by before rest pair fields number f all (short s e) is a few = not_short fields is.low is.high s is.ends
    none_by before rest pair fields number f all (unknown low high ends who e) is a few = not_known fields low high pair ends who is
    none_by before rest pair fields number f all (too_many m) is a few =
        let same : pair ≡ m.pair = pair_one fields pair m.pair is m.related in
        let over = overfull before rest m.pair m.known all m.distinct m.new (subst (λ (t : ℕ × ℕ). AreDistinct (before ++ t ∷ rest) all) same a) in
        absurd (omega (arith, over, few, m.full))

    -- a record with a pair, and pairs behind it that aren't too many, has no fault
    pub none_at : (before rest : List (ℕ × ℕ)) (pair : ℕ × ℕ) (fields : List (List ℕ)) (number : ℕ) (f : OrderFault) (records : List (List (List ℕ)))
        → PairFault columns names before fields number f → IsPair columns names fields pair → ArePairs columns names records (before ++ pair ∷ rest) → ⊥
    none_at before rest pair fields number f records h is all = none_by before rest pair fields number f all.known (pair_case before fields number f h) is all.distinct all.few
