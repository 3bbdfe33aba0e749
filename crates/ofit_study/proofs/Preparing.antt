-- Changes that are made of a study's parts.
use Rattle.std.proofs.Common.{◌≡◌, ℕ, suc, ◌+◌, ◌-◌, ◌<◌, ◌≤◌, ◌⊎◌, inl, inr, List, [], ◌∷◌, ◌++◌, refl, sym, ap, ap₂, ◌∙◌, subst, arith, length, take, drop, set, get_or, append-nil}
use Rattle.std.proofs.Math.ListN.{get_or-eq_default}
use Rattle.std.proofs.lemmas.Bool.{cases_order}
use Rattle.std.proofs.lemmas.List.{get_or-map, length-map, map-append, take-map, drop-map, take-append-drop, set_split}
use Rattle.std.proofs.lemmas.List.Elements.{All-append, All-cons, All-drop, All-head, All-nil, All-take, All-weaker}
use Rattle.std.proofs.lemmas.List.Sums.{sum_by-append, sum_by-cons}
use Rattle.std.proofs.lemmas.Option.{slice_get-get_or}
use Rattle.std.specs.Prelude.{All, AllPairs, Contains, map, slice_get, Some}
use Rattle.ofit_num.specs.declared.limits.TheConstants.{MOST_WEIGHT}
use Rattle.ofit_num.specs.declared.row.Row.{Row}
use Rattle.ofit_num.proofs.Sheets.{AllPairs-head}
use Rattle.ofit_study.specs.declared.entry.Entry.{Entry}
use Rattle.ofit_study.specs.declared.settings.Settings.{Settings}
use Rattle.ofit_study.specs.Added.{observation}
use Rattle.ofit_study.specs.Change.{AreOf, Entries, At, Whole, Change, IsChangeOf, changed, rows_with}
use Rattle.ofit_study.specs.Kept.{AreKept, made_of, name_at, observed}
use Rattle.ofit_study.specs.Put.{PutsAt}
use Rattle.ofit_study.specs.Splice.{IsSpliced}
use Rattle.ofit_study.specs.Study.{Observation, Study, IsValid, group_names, groups_of, names_of, plain_row, rows_named, total_weight}
use Rattle.ofit_study.proofs.Edits.{row_parted}
use Rattle.ofit_study.proofs.Exchanging.{group_at}
use Rattle.ofit_study.proofs.GroupNames.{group_names-push, group_names-push_known}
use Rattle.ofit_study.proofs.Respliced.{named_rising, spliced_names, spliced_others, spliced_own}
use Rattle.ofit_study.proofs.Splicing.{AllPairs-across, AllPairs-right}

abbrev Rising : List Observation → Type 0
Rising rows = AllPairs (λ a b. a.number < b.number) rows

-- a change of rows of one group into others of it
module _ (s : Study) (lower old new higher : List Observation) (parted : s.rows ≡ lower ++ (old ++ higher)) (place : ℕ) (inside : place < length (names_of s)) (of_old : All (λ r. r.group ≡ name_at (names_of s) place) old) (of_new : All (λ r. r.group ≡ name_at (names_of s) place) new)
    (front : group_names (lower ++ new) ≡ group_names (lower ++ old)) where
  pub change_made : IsValid (record s { rows = lower ++ (new ++ higher) }) → (number taken : ℕ) (group put made : List Row) → group ≡ get_or (groups_of s) place [] → put ≡ map plain_row new → taken ≡ length old
      → All (λ r. r.number < number) lower → All (λ r. number ≤ r.number) old → All (λ r. number ≤ r.number) higher → IsSpliced group number taken put made
      → (es : Entries) → AreOf (length s.rows) (length (names_of s)) es → rows_with (names_of s) s.rows es ≡ lower ++ (new ++ higher) → (weight : ℕ) → weight ≡ total_weight (lower ++ (new ++ higher))
      → IsChangeOf s (record { place = place; entries = es; rows = made; weight = weight })
  change_made valid number taken group put made is_group is_put count below at above sp es of is weight weighs = record {
    of = of;
    place = inside;
    valid = subst (λ (rows : List Observation). IsValid (record s { rows = rows })) (sym is) valid;
    names = ap group_names is ∙ spliced_names s lower old new higher parted (name_at (names_of s) place) of_old of_new front;
    own = spliced_own s lower old new higher parted (name_at (names_of s) place) of_old of_new number taken group put made (is_group ∙ group_at s place inside) is_put count below at above sp
        ∙ ap (λ (rows : List Observation). rows_named rows (name_at (names_of s) place)) (sym is);
    others = λ n d. ap (λ (rows : List Observation). rows_named rows n) is ∙ spliced_others s lower old new higher parted (name_at (names_of s) place) of_old of_new n d;
    weight = weighs ∙ ap total_weight (sym is);
  }

all_one : {X : Type 0} (P : X → Type 0) (x : X) → P x → All P (x ∷ [])
all_one P x h = All-cons P x [] h (All-nil P)

-- the numbers about a row
below_one : (lower higher : List Observation) (r : Observation) → Rising (lower ++ r ∷ higher) → All (λ q. q.number < r.number) lower
below_one lower higher r h = All-weaker (λ a. All (λ b. a.number < b.number) (r ∷ higher)) (λ q. q.number < r.number) (λ a k. All-head (λ b. a.number < b.number) r higher k) lower (AllPairs-across (λ a b. a.number < b.number) lower (r ∷ higher) h)

above_one : (lower higher : List Observation) (r : Observation) → Rising (lower ++ r ∷ higher) → All (λ q. r.number ≤ q.number) higher
above_one lower higher r h =
    All-weaker (λ q. r.number < q.number) (λ q. r.number ≤ q.number) (λ q l. omega arith) higher
    (AllPairs-head (λ a b. a.number < b.number) r higher (AllPairs-right (λ a b. a.number < b.number) lower (r ∷ higher) h))

weighs_one : (lower higher : List Observation) (r : Observation) → total_weight (lower ++ r ∷ higher) ≡ total_weight lower + r.weight + total_weight higher
weighs_one lower higher r = omega (arith, sum_by-append (λ (q : Observation). q.weight) lower (r ∷ higher), sum_by-cons (λ (q : Observation). q.weight) r higher)

weighs_none : (lower higher : List Observation) → total_weight (lower ++ higher) ≡ total_weight lower + total_weight higher
weighs_none lower higher = sum_by-append (λ (q : Observation). q.weight) lower higher

module _ (settings : Settings) (names : List (List ℕ)) (entries : List Entry) (groups : List (List Row)) (pairs : List (ℕ × ℕ)) (weight : ℕ) (kept : AreKept settings names entries groups pairs weight) where
  abbrev own : Study
  own = made_of settings names entries pairs

  entries_count : length (map (observed names) entries) ≡ length entries
  entries_count = length-map entries (observed names)

  -- the row of an entry
  row_there : (index : ℕ) (e : Entry) → index < length entries → e ≡ get_or entries index e → slice_get (map (observed names) entries) index ≡ Some (observed names e)
  row_there index e l is =
      slice_get-get_or (map (observed names) entries) index (observed names e) (omega (arith, l, entries_count))
      ∙ ap (λ (r : Observation). Some r) (get_or-map (observed names) entries index e (observed names e) l ∙ ap (observed names) (sym is))

  pub place_there : (index : ℕ) (e : Entry) → index < length entries → e ≡ get_or entries index e → e.place < length (names_of own)
  place_there index e l is = omega (arith, ap length kept.names_are, subst (λ (x : Entry). x.place < length names) (sym is) (kept.placed index e l))

  name_there : (p : ℕ) → name_at names p ≡ name_at (names_of own) p
  name_there p = ap (λ (t : List (List ℕ)). name_at t p) kept.names_are

  group_there : (p : ℕ) → get_or groups p [] ≡ get_or (groups_of own) p []
  group_there p = ap (λ (t : List (List Row)). get_or t p []) kept.groups_are

  -- the rows of each group rise, and past the last place there are none
  pub group_rises : (p : ℕ) → AllPairs (λ q r. q.number < r.number) (get_or groups p [])
  group_rises p = subst (λ (t : List (List Row)). AllPairs (λ q r. q.number < r.number) (get_or t p [])) (sym kept.groups_are) (go (cases_order p (length (names_of own)))) where
    there : p < length (names_of own) → AllPairs (λ q r. q.number < r.number) (get_or (groups_of own) p [])
    there l = subst (AllPairs (λ q r. q.number < r.number)) (sym (group_at own p l)) (named_rising own.rows (name_at (names_of own) p) kept.valid.rising)

    past : length (groups_of own) ≤ p → AllPairs (λ q r. q.number < r.number) (get_or (groups_of own) p [])
    past l = subst (AllPairs (λ q r. q.number < r.number)) (sym (get_or-eq_default (groups_of own) [] l)) (λ i j d a b. absurd (omega arith))

    go : (p ≡ length (names_of own)) ⊎ ((p < length (names_of own)) ⊎ (length (names_of own) < p)) → AllPairs (λ q r. q.number < r.number) (get_or (groups_of own) p [])
    go (inl e) = past (omega (arith, e, length-map (names_of own) (rows_named own.rows)))
    go (inr (inl l)) = there l
    go (inr (inr l)) = past (omega (arith, l, length-map (names_of own) (rows_named own.rows)))

  -- entries in place of others are rows in place of others
  spliced_rows : (start end : ℕ) (put : List Entry) → map (observed (names_of own)) (take start entries ++ (put ++ drop end entries)) ≡ take start own.rows ++ (map (observed names) put ++ drop end own.rows)
  spliced_rows start end put =
      ap (λ (t : List (List ℕ)). map (observed t) (take start entries ++ (put ++ drop end entries))) (sym kept.names_are)
      ∙ map-append (observed names) (take start entries) (put ++ drop end entries)
      ∙ ap₂ (λ (x y : List Observation). x ++ y) (sym (take-map (observed names) start entries))
      (map-append (observed names) put (drop end entries) ∙ ap (λ (x : List Observation). map (observed names) put ++ x) (sym (drop-map (observed names) end entries)))

  placed_spliced : (start end : ℕ) (put : List Entry) → All (λ e. e.place < length names) put → All (λ e. e.place < length (names_of own)) (take start entries ++ (put ++ drop end entries))
  placed_spliced start end put h = subst (λ (n : ℕ). All (λ e. e.place < n) (take start entries ++ (put ++ drop end entries))) (ap length kept.names_are)
      (All-append (λ e. e.place < length names) (take start entries) (put ++ drop end entries) (All-take (λ e. e.place < length names) start entries kept.placed)
      (All-append (λ e. e.place < length names) put (drop end entries) h (All-drop (λ e. e.place < length names) end entries kept.placed)))

  module _ (index : ℕ) (e : Entry) (l : index < length entries) (is : e ≡ get_or entries index e) where
    abbrev lower : List Observation
    lower = take index own.rows

    abbrev higher : List Observation
    higher = drop (index + 1) own.rows

    abbrev stood : Observation
    stood = observed names e

    parted : own.rows ≡ lower ++ stood ∷ higher
    parted = row_parted own.rows index stood (row_there index e l is)

    rising : Rising (lower ++ stood ∷ higher)
    rising = subst Rising parted kept.valid.rising

    of_stood : stood.group ≡ name_at (names_of own) e.place
    of_stood = name_there e.place

    weighs_stood : weight ≡ total_weight lower + e.row.weight + total_weight higher
    weighs_stood = kept.weight_is ∙ ap total_weight parted ∙ weighs_one lower higher stood

    stood_inside : e.row.weight ≤ weight
    stood_inside = omega (arith, weighs_stood)

    -- another row in its place
    module _ (row : Row) (number : e.row.number ≡ row.number) (valid : IsValid (record own { rows = lower ++ observation stood.group row ∷ higher })) where
      other_weighs : weight - e.row.weight + row.weight ≡ total_weight (lower ++ observation stood.group row ∷ higher)
      other_weighs = omega (arith, weighs_stood, weighs_one lower higher (observation stood.group row))

      next : suc index ≡ index + 1
      next = omega arith

      other_rows : rows_with (names_of own) own.rows (At index (record { place = e.place; row = row })) ≡ lower ++ observation stood.group row ∷ higher
      other_rows =
          ap (λ (n : List ℕ). set own.rows index (observation n row)) (sym (name_there e.place))
          ∙ set_split own.rows index (observation stood.group row) (omega (arith, l, entries_count))
          ∙ ap (λ (n : ℕ). take index own.rows ++ observation stood.group row ∷ drop n own.rows) next

      other_puts : (made : List Row) → IsSpliced (get_or groups e.place []) row.number 1 (row ∷ []) made
          → PutsAt own index (row ∷ []) (record { place = e.place; entries = At index (record { place = e.place; row = row }); rows = made; weight = weight - e.row.weight + row.weight })
      other_puts made sp = record {
        of = change_made own lower (stood ∷ []) (observation stood.group row ∷ []) higher parted e.place (place_there index e l is)
            (all_one (λ r. r.group ≡ name_at (names_of own) e.place) stood of_stood) (all_one (λ r. r.group ≡ name_at (names_of own) e.place) (observation stood.group row) of_stood)
            (group_names-push lower (observation stood.group row) ∙ sym (group_names-push lower stood))
            valid row.number 1 (get_or groups e.place []) (row ∷ []) made (group_there e.place) refl refl
            (subst (λ (n : ℕ). All (λ q. q.number < n) lower) number (below_one lower higher stood rising))
            (all_one (λ (q : Observation). row.number ≤ q.number) stood (omega (arith, number)))
            (subst (λ (n : ℕ). All (λ q. n ≤ q.number) higher) number (above_one lower higher stood rising))
            sp (At index (record { place = e.place; row = row })) (omega (arith, l, entries_count), place_there index e l is) other_rows
            (weight - e.row.weight + row.weight) other_weighs;
        row = stood;
        at = row_there index e l is;
        after = ap (λ (rows : List Observation). record own { rows = rows }) other_rows;
        group = sym of_stood;
      }

    -- no row in its place
    module _ (before : Contains (group_names lower) stood.group) (valid : IsValid (record own { rows = lower ++ higher })) where
      less_puts : (made : List Row) → IsSpliced (get_or groups e.place []) e.row.number 1 [] made
          → PutsAt own index [] (record { place = e.place; entries = Whole (take index entries ++ ([] ++ drop (index + 1) entries)); rows = made; weight = weight - e.row.weight })
      less_puts made sp = record {
        of = change_made own lower (stood ∷ []) [] higher parted e.place (place_there index e l is)
            (all_one (λ r. r.group ≡ name_at (names_of own) e.place) stood of_stood) (All-nil (λ r. r.group ≡ name_at (names_of own) e.place))
            (ap group_names (append-nil lower) ∙ sym (group_names-push_known lower stood before))
            valid e.row.number 1 (get_or groups e.place []) [] made (group_there e.place) refl refl
            (below_one lower higher stood rising) (all_one (λ (q : Observation). e.row.number ≤ q.number) stood (omega arith)) (above_one lower higher stood rising)
            sp (Whole (take index entries ++ ([] ++ drop (index + 1) entries))) (placed_spliced index (index + 1) [] (All-nil (λ f. f.place < length names))) (spliced_rows index (index + 1) [])
            (weight - e.row.weight) (omega (arith, weighs_stood, weighs_none lower higher));
        row = stood;
        at = row_there index e l is;
        after = ap (λ (rows : List Observation). record own { rows = rows }) (spliced_rows index (index + 1) []);
        group = sym of_stood;
      }

  -- a row more
  module _ (index place : ℕ) (row : Row) (inside : place < length (names_of own)) (below : All (λ q. q.number < row.number) (take index own.rows)) (above : All (λ q. row.number < q.number) (drop index own.rows))
      (before : Contains (group_names (take index own.rows)) (name_at (names_of own) place)) (valid : IsValid (record own { rows = take index own.rows ++ observation (name_at (names_of own) place) row ∷ drop index own.rows })) where
    abbrev entry : Entry
    entry = record { place = place; row = row }

    more_rows : map (observed (names_of own)) (take index entries ++ (entry ∷ [] ++ drop index entries)) ≡ take index own.rows ++ observation (name_at (names_of own) place) row ∷ drop index own.rows
    more_rows =
        spliced_rows index index (entry ∷ [])
        ∙ ap (λ (n : List ℕ). take index own.rows ++ observation n row ∷ drop index own.rows) (name_there place)

    more_weighs : weight + row.weight ≡ total_weight (take index own.rows ++ observation (name_at (names_of own) place) row ∷ drop index own.rows)
    more_weighs = omega (
      arith,
      kept.weight_is,
      ap total_weight (sym (take-append-drop index own.rows)),
      weighs_none (take index own.rows) (drop index own.rows),
      weighs_one (take index own.rows) (drop index own.rows) (observation (name_at (names_of own) place) row),
    )

    more_change : (made : List Row) → IsSpliced (get_or groups place []) row.number 0 (row ∷ []) made
        → IsChangeOf own (record { place = place; entries = Whole (take index entries ++ (entry ∷ [] ++ drop index entries)); rows = made; weight = weight + row.weight })
    more_change made sp =
        change_made own (take index own.rows) [] (observation (name_at (names_of own) place) row ∷ []) (drop index own.rows) (sym (take-append-drop index own.rows)) place inside
        (All-nil (λ r. r.group ≡ name_at (names_of own) place)) (all_one (λ r. r.group ≡ name_at (names_of own) place) (observation (name_at (names_of own) place) row) refl)
        (group_names-push_known (take index own.rows) (observation (name_at (names_of own) place) row) before ∙ sym (ap group_names (append-nil (take index own.rows))))
        valid row.number 0 (get_or groups place []) (row ∷ []) made (group_there place) refl refl
        below (All-nil (λ r. row.number ≤ r.number)) (All-weaker (λ q. row.number < q.number) (λ q. row.number ≤ q.number) (λ q h. omega arith) (drop index own.rows) above)
        sp (Whole (take index entries ++ (entry ∷ [] ++ drop index entries))) (placed_spliced index index (entry ∷ []) (all_one (λ e. e.place < length names) entry (omega (arith, inside, ap length kept.names_are)))) more_rows
        (weight + row.weight) more_weighs

  -- the same of the study that is of these parts
  pub stood_within : (s : Study) → own ≡ s → (index : ℕ) (e : Entry) → index < length s.rows → e ≡ get_or entries index e → e.row.weight ≤ weight
  stood_within s same index e l is = stood_inside index e (omega (arith, l, ap (λ (t : Study). length t.rows) same, entries_count)) is

  module _ (index : ℕ) (e : Entry) (is : e ≡ get_or entries index e) where
    entry_inside : index < length own.rows → index < length entries
    entry_inside l = omega (arith, l, entries_count)

    abbrev OtherPuts : Row → Study → Type 0
    OtherPuts row s = index < length s.rows → ((r : Observation) → slice_get s.rows index ≡ Some r → r.number ≡ row.number)
        → ((r : Observation) → slice_get s.rows index ≡ Some r → IsValid (record s { rows = take index s.rows ++ observation r.group row ∷ drop (index + 1) s.rows }))
        → (weight - e.row.weight + row.weight ≤ MOST_WEIGHT) × ((made : List Row) → IsSpliced (get_or groups e.place []) row.number 1 (row ∷ []) made
        → PutsAt s index (row ∷ []) (record { place = e.place; entries = At index (record { place = e.place; row = row }); rows = made; weight = weight - e.row.weight + row.weight }))

    pub puts_other : (row : Row) (s : Study) → own ≡ s → OtherPuts row s
    puts_other row s same = subst (OtherPuts row) same (λ l number valid.
        let k : index < length entries = entry_inside l in
        let at : slice_get own.rows index ≡ Some (observed names e) = row_there index e k is in
        let v = valid (observed names e) at in (
          omega (arith, other_weighs index e k is row (number (observed names e) at) v, v.together),
          λ made sp. other_puts index e k is row (number (observed names e) at) v made sp,
        ))

    abbrev LessPuts : Study → Type 0
    LessPuts s = index < length s.rows → ((r : Observation) → slice_get s.rows index ≡ Some r → Contains (group_names (take index s.rows)) r.group)
        → IsValid (record s { rows = take index s.rows ++ drop (index + 1) s.rows })
        → (made : List Row) → IsSpliced (get_or groups e.place []) e.row.number 1 [] made
        → PutsAt s index [] (record { place = e.place; entries = Whole (take index entries ++ ([] ++ drop (index + 1) entries)); rows = made; weight = weight - e.row.weight })

    pub puts_less : (s : Study) → own ≡ s → LessPuts s
    puts_less s same = subst LessPuts same (λ l before valid.
        let k : index < length entries = entry_inside l in
        less_puts index e k is (before (observed names e) (row_there index e k is)) valid)

  module _ (index place : ℕ) (row : Row) where
    abbrev MoreChanges : Study → Type 0
    MoreChanges s = place < length (names_of s) → All (λ q. q.number < row.number) (take index s.rows) → All (λ q. row.number < q.number) (drop index s.rows)
        → Contains (group_names (take index s.rows)) (name_at (names_of s) place) → IsValid (record s { rows = take index s.rows ++ observation (name_at (names_of s) place) row ∷ drop index s.rows })
        → (made : List Row) → IsSpliced (get_or groups place []) row.number 0 (row ∷ []) made
        → (c : Change) → c ≡ record { place = place; entries = Whole (take index entries ++ (record { place = place; row = row } ∷ [] ++ drop index entries)); rows = made; weight = weight + row.weight }
        → IsChangeOf s c × (changed s c ≡ record s { rows = take index s.rows ++ observation (name_at (names_of s) place) row ∷ drop index s.rows })

    pub changes_more : (s : Study) → own ≡ s → MoreChanges s
    changes_more s same = subst MoreChanges same (λ inside below above before valid made sp c is. (
      subst (IsChangeOf own) (sym is) (more_change index place row inside below above before valid made sp),
      ap (changed own) is ∙ ap (λ (rows : List Observation). record own { rows = rows }) (more_rows index place row inside below above before valid),
    ))
