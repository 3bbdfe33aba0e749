-- A study's parts after the exchange of a change.
use Rattle.std.proofs.Common.{◌≡◌, ℕ, ◌<◌, List, [], refl, sym, ap, ap₂, ◌∙◌, subst, arith, length, set, get_or}
use Rattle.std.proofs.lemmas.List.{get_or-map, length-map, length-set, map-set, set-get_or, set-set}
use Rattle.std.proofs.lemmas.List.Elements.{All-set}
use Rattle.std.proofs.lemmas.Option.{get_or_from_slice_get, slice_get-get_or}
use Rattle.std.specs.Prelude.{All, map, slice_get, Some}
use Rattle.ofit_num.specs.declared.row.Row.{Row}
use Rattle.ofit_study.specs.declared.entry.Entry.{Entry}
use Rattle.ofit_study.specs.declared.settings.Settings.{Settings}
use Rattle.ofit_study.specs.Change.{AreOf, Change, Entries, At, Whole, IsChangeOf, changed, rows_with}
use Rattle.ofit_study.specs.Kept.{AreKept, made_of, name_at, observed}
use Rattle.ofit_study.specs.Study.{Observation, Study, IsValid, groups_of, names_of, rows_named, total_weight}
use Rattle.ofit_study.specs.Told.{AreInside, entries_left, entries_with}
use Rattle.ofit_study.proofs.GroupNames.{group_names-distinct}
use Rattle.ofit_study.proofs.Pushing.{map-changed, places_are}

-- the groups of a study with a change
pub changed_groups : (s : Study) (c : Change) → IsChangeOf s c → groups_of (changed s c) ≡ set (groups_of s) c.place c.rows
changed_groups s c h =
    ap (map (rows_named (changed s c).rows)) h.names
    ∙ map-changed (rows_named s.rows) (rows_named (changed s c).rows) (names_of s) c.place (name_at (names_of s) c.place) (group_names-distinct s.rows) (slice_get-get_or (names_of s) c.place [] h.place) h.others
    ∙ ap (set (groups_of s) c.place) (sym h.own)

-- the group at a place
pub group_at : (s : Study) (p : ℕ) → p < length (names_of s) → get_or (groups_of s) p [] ≡ rows_named s.rows (name_at (names_of s) p)
group_at s p l = get_or-map (rows_named s.rows) (names_of s) p [] [] l

module _ (settings : Settings) (names : List (List ℕ)) (entries : List Entry) (groups : List (List Row)) (pairs : List (ℕ × ℕ)) (weight : ℕ) (kept : AreKept settings names entries groups pairs weight) (c : Change) where
  abbrev own : Study
  own = made_of settings names entries pairs

  rows_made : (es : Entries) → map (observed names) (entries_with entries es) ≡ rows_with names (map (observed names) entries) es
  rows_made (At index entry) = map-set (observed names) entries index entry
  rows_made (Whole others) = refl

  inside_of : (es : Entries) → AreOf (length (map (observed names) entries)) (length (names_of (made_of settings names entries pairs))) es → AreInside entries es
  inside_of (At index entry) h = omega (arith, h.0, length-map entries (observed names))
  inside_of (Whole others) h = tt

  placed_with : (es : Entries) → AreOf (length (map (observed names) entries)) (length (names_of (made_of settings names entries pairs))) es → All (λ e. e.place < length names) (entries_with entries es)
  placed_with (At index entry) h = All-set (λ e. e.place < length names) entries index entry (omega (arith, h.1, ap length kept.names_are)) kept.placed
  placed_with (Whole others) h = subst (λ (n : ℕ). All (λ e. e.place < n) others) (sym (ap length kept.names_are)) h

  module _ (h : IsChangeOf (made_of settings names entries pairs) c) where
    pub change_inside : AreInside entries c.entries
    change_inside = inside_of c.entries h.of

    pub made-changed : made_of settings names (entries_with entries c.entries) pairs ≡ changed (made_of settings names entries pairs) c
    made-changed =
        ap (λ (rows : List Observation). record (made_of settings names entries pairs) { rows = rows })
        (rows_made c.entries ∙ ap (λ (t : List (List ℕ)). rows_with t (map (observed names) entries) c.entries) kept.names_are)

    names_same : names ≡ names_of (made_of settings names (entries_with entries c.entries) pairs)
    names_same = kept.names_are ∙ sym h.names ∙ ap names_of (sym made-changed)

    pub kept-changed : AreKept settings names (entries_with entries c.entries) (set groups c.place c.rows) pairs c.weight
    kept-changed = record {
      valid = subst IsValid (sym made-changed) h.valid;
      names_are = names_same;
      groups_are = ap (λ (t : List (List Row)). set t c.place c.rows) kept.groups_are ∙ sym (changed_groups (made_of settings names entries pairs) c h) ∙ ap groups_of (sym made-changed);
      pairs_are = places_are names (map (observed names) (entries_with entries c.entries)) names_same pairs kept.ends;
      weight_is = h.weight ∙ ap (λ (t : Study). total_weight t.rows) (sym made-changed);
      placed = placed_with c.entries h.of;
      ends = kept.ends;
    }

    -- what is left of the study goes back into it
    abbrev pub left : List Row → Change
    left rows = record { place = c.place; entries = entries_left entries c.entries; rows = rows; weight = weight }

    rows_back : (es : Entries) → AreInside entries es → rows_with names (rows_with names (map (observed names) entries) es) (entries_left entries es) ≡ map (observed names) entries
    rows_back (At index entry) l =
        set-set (map (observed names) entries) index (observed names entry) (observed names (get_or entries index entry))
        ∙ ap (set (map (observed names) entries) index) (sym (get_or-map (observed names) entries index entry (observed names entry) l))
        ∙ set-get_or (map (observed names) entries) index (observed names entry)
    rows_back (Whole others) l = refl

    pub changed_back : (rows : List Row) → changed (changed (made_of settings names entries pairs) c) (left rows) ≡ made_of settings names entries pairs
    changed_back rows =
        ap (λ (t : List Observation). record (made_of settings names entries pairs) { rows = t })
        (ap₂ (λ (m n : List (List ℕ)). rows_with m (rows_with n (map (observed names) entries) c.entries) (entries_left entries c.entries)) (h.names ∙ sym kept.names_are) (sym kept.names_are)
        ∙ rows_back c.entries change_inside)

    left_of : (es : Entries) (rows : List Observation) → AreInside entries es → rows ≡ rows_with names (map (observed names) entries) es → AreOf (length rows) (length names) (entries_left entries es)
    left_of (At index entry) rows l is = (omega (arith, l, ap length is, length-set (map (observed names) entries) index (observed names entry), length-map entries (observed names)), kept.placed index entry l)
    left_of (Whole others) rows l is = kept.placed

    same_count : names ≡ names_of (changed (made_of settings names entries pairs) c)
    same_count = kept.names_are ∙ sym h.names

    pub left_change : (rows : List Row) → slice_get groups c.place ≡ Some rows → IsChangeOf (changed (made_of settings names entries pairs) c) (left rows)
    left_change rows at = record {
      of = subst (λ (t : List (List ℕ)). AreOf (length (changed own c).rows) (length t) (entries_left entries c.entries)) same_count
          (left_of c.entries (changed own c).rows change_inside (ap (λ (t : List (List ℕ)). rows_with t (map (observed names) entries) c.entries) (sym kept.names_are)));
      place = subst (λ (t : List (List ℕ)). c.place < length t) (sym h.names) h.place;
      valid = subst IsValid (sym (changed_back rows)) kept.valid;
      names = ap names_of (changed_back rows) ∙ sym h.names;
      own = own_rows ∙ ap₂ (λ (t : Study) (n : List ℕ). rows_named t.rows n) (sym (changed_back rows)) (ap (λ (t : List (List ℕ)). name_at t c.place) (sym h.names));
      others = λ n d.
          ap (λ (t : Study). rows_named t.rows n) (changed_back rows)
          ∙ sym (h.others n (λ e. d (e ∙ ap (λ (t : List (List ℕ)). name_at t c.place) (sym h.names))));
      weight = kept.weight_is ∙ ap (λ (t : Study). total_weight t.rows) (sym (changed_back rows));
    } where
      own_rows : rows ≡ rows_named own.rows (name_at (names_of own) c.place)
      own_rows = sym (get_or_from_slice_get groups c.place rows [] at) ∙ ap (λ (t : List (List Row)). get_or t c.place []) kept.groups_are ∙ group_at own c.place h.place
