-- A row more after the others.
use Rattle.std.proofs.Common.{◌≡◌, ◌≢◌, ℕ, zero, suc, ◌+◌, ◌<◌, List, [], ◌∷◌, ◌++◌, refl, sym, ap, ap₂, ◌∙◌, subst, arith, length, Bool, true, false, cond, set, get_or, append-nil}
use Rattle.std.proofs.lemmas.List.{map-append, map_push, length_push, get_or-map, get_or_append_left, get_or_push}
use Rattle.std.proofs.lemmas.List.Elements.{All-head, All-tail, All-push, All-weaker, All-contains, filter-append}
use Rattle.std.proofs.lemmas.List.Sums.{sum_by_push, position_or_len_is}
use Rattle.std.proofs.lemmas.Option.{slice_get_within, slice_get-get_or, get_or_from_slice_get, same_Some}
use Rattle.std.specs.Prelude.{All, AllPairs, Contains, filter, map, slice_get, Some}
use Rattle.ofit_num.proofs.Sheets.{AllPairs-head, AllPairs-tail}
use Rattle.ofit_num.specs.declared.row.Row.{Row}
use Rattle.ofit_study.specs.declared.entry.Entry.{Entry}
use Rattle.ofit_study.specs.declared.settings.Settings.{Settings}
use Rattle.ofit_study.specs.Study.{Observation, IsValid, group_names, is_same_name, place_among, plain_row, rows_named, total_weight}
use Rattle.ofit_study.specs.Kept.{AreKept, made_of, observed, named, name_at}
use Rattle.ofit_study.specs.Added.{observation, with_row}
use Rattle.ofit_study.proofs.GroupNames.{is_same, is_other, group_names-push_known, group_names-push_new, group_names-distinct, group_names-each}

-- lists by a function

pub map-agree : {X Y : Type 0} (f g : X → Y) (xs : List X) → All (λ x. f x ≡ g x) xs → map f xs ≡ map g xs
map-agree f g [] h = refl
map-agree {X} {Y} f g (x ∷ xs) h = ap₂ (λ (y : Y) (ys : List Y). y ∷ ys) (All-head (λ x. f x ≡ g x) x xs h) (map-agree f g xs (All-tail (λ x. f x ≡ g x) x xs h))

pub slice_get-Contains : {X : Type 0} (xs : List X) (k : ℕ) (x : X) → slice_get xs k ≡ Some x → Contains xs x
slice_get-Contains xs k x e = (k, slice_get_within xs k x e, get_or_from_slice_get xs k x x e)

-- the function changes at one element alone
pub map-changed : {X Y : Type 0} (f g : X → Y) (xs : List X) (p : ℕ) (x : X) → AllPairs (λ a b. a ≢ b) xs → slice_get xs p ≡ Some x → ((y : X) → y ≢ x → g y ≡ f y) → map g xs ≡ set (map f xs) p (g x)
map-changed f g [] p x d e h = cc
map-changed {X} {Y} f g (y ∷ xs) zero x d e h =
    let same : y ≡ x = same_Some y x e in
    ap₂ (λ (z : Y) (zs : List Y). z ∷ zs) (ap g same)
    (map-agree g f xs (All-weaker (λ z. y ≢ z) (λ z. g z ≡ f z) (λ z n. h z (λ k. n (same ∙ sym k))) xs (AllPairs-head (λ a b. a ≢ b) y xs d)))
map-changed {X} {Y} f g (y ∷ xs) (suc p) x d e h =
    ap₂ (λ (z : Y) (zs : List Y). z ∷ zs) (h y (All-contains (λ z. y ≢ z) xs x (AllPairs-head (λ a b. a ≢ b) y xs d) (slice_get-Contains xs p x e)))
    (map-changed f g xs p x (AllPairs-tail (λ a b. a ≢ b) y xs d) e h)

pub filter-none : {X : Type 0} (p : X → Bool) (xs : List X) → All (λ x. p x ≡ false) xs → filter p xs ≡ []
filter-none p [] h = refl
filter-none p (x ∷ xs) h =
    ap (λ (t : Bool). cond t (x ∷ filter p xs) (filter p xs)) (All-head (λ y. p y ≡ false) x xs h) ∙ filter-none p xs (All-tail (λ y. p y ≡ false) x xs h)

-- the rows of each group

rows_named-push : (rows : List Observation) (r : Observation) (name : List ℕ) → rows_named (rows ++ r ∷ []) name ≡ rows_named rows name ++ cond (is_same_name name r.group) (plain_row r ∷ []) []
rows_named-push rows r name =
    ap (map plain_row) (filter-append (λ o. is_same_name name o.group) rows (r ∷ []))
    ∙ map-append plain_row (filter (λ o. is_same_name name o.group) rows) (cond (is_same_name name r.group) (r ∷ []) [])
    ∙ ap (λ (t : List Row). rows_named rows name ++ t) (one (is_same_name name r.group))
  where
    one : (t : Bool) → map plain_row (cond t (r ∷ []) []) ≡ cond t (plain_row r ∷ []) []
    one true = refl
    one false = refl

rows_named-own : (rows : List Observation) (r : Observation) → rows_named (rows ++ r ∷ []) r.group ≡ rows_named rows r.group ++ plain_row r ∷ []
rows_named-own rows r = rows_named-push rows r r.group ∙ ap (λ (t : Bool). rows_named rows r.group ++ cond t (plain_row r ∷ []) []) (is_same r.group)

rows_named-other : (rows : List Observation) (r : Observation) (name : List ℕ) → name ≢ r.group → rows_named (rows ++ r ∷ []) name ≡ rows_named rows name
rows_named-other rows r name d =
    rows_named-push rows r name ∙ ap (λ (t : Bool). rows_named rows name ++ cond t (plain_row r ∷ []) []) (is_other name r.group d) ∙ append-nil (rows_named rows name)

rows_named-none : (rows : List Observation) (name : List ℕ) → All (λ known. known ≢ name) (group_names rows) → rows_named rows name ≡ []
rows_named-none rows name h =
    ap (map plain_row) (filter-none (λ o. is_same_name name o.group) rows
    (All-weaker (λ o. Contains (group_names rows) o.group) (λ o. is_same_name name o.group ≡ false) (λ o k. is_other name o.group (λ e. All-contains (λ known. known ≢ name) (group_names rows) o.group h k (sym e))) rows (group_names-each rows)))

groups-push_known : (rows : List Observation) (r : Observation) (p : ℕ) → slice_get (group_names rows) p ≡ Some r.group
    → map (rows_named (rows ++ r ∷ [])) (group_names (rows ++ r ∷ [])) ≡ set (map (rows_named rows) (group_names rows)) p (get_or (map (rows_named rows) (group_names rows)) p [] ++ plain_row r ∷ [])
groups-push_known rows r p e =
    ap (map (rows_named (rows ++ r ∷ []))) (group_names-push_known rows r (slice_get-Contains (group_names rows) p r.group e))
    ∙ map-changed (rows_named rows) (rows_named (rows ++ r ∷ [])) (group_names rows) p r.group (group_names-distinct rows) e (rows_named-other rows r)
    ∙ ap (set (map (rows_named rows) (group_names rows)) p) (rows_named-own rows r ∙ ap (λ (t : List Row). t ++ plain_row r ∷ []) (sym here))
  where
    here : get_or (map (rows_named rows) (group_names rows)) p [] ≡ rows_named rows r.group
    here = get_or-map (rows_named rows) (group_names rows) p r.group [] (slice_get_within (group_names rows) p r.group e) ∙ ap (rows_named rows) (get_or_from_slice_get (group_names rows) p r.group r.group e)

groups-push_new : (rows : List Observation) (r : Observation) → All (λ known. known ≢ r.group) (group_names rows)
    → map (rows_named (rows ++ r ∷ [])) (group_names (rows ++ r ∷ [])) ≡ map (rows_named rows) (group_names rows) ++ (plain_row r ∷ []) ∷ []
groups-push_new rows r h =
    ap (map (rows_named (rows ++ r ∷ []))) (group_names-push_new rows r h)
    ∙ map-append (rows_named (rows ++ r ∷ [])) (group_names rows) (r.group ∷ [])
    ∙ ap₂ (λ (t : List (List Row)) (u : List Row). t ++ u ∷ [])
    (map-agree (rows_named (rows ++ r ∷ [])) (rows_named rows) (group_names rows) (All-weaker (λ known. known ≢ r.group) (λ known. rows_named (rows ++ r ∷ []) known ≡ rows_named rows known) (rows_named-other rows r) (group_names rows) h))
    (rows_named-own rows r ∙ ap (λ (t : List Row). t ++ plain_row r ∷ []) (rows_named-none rows r.group h))

-- the parts of a study with a row more

pub name_at-get : (names : List (List ℕ)) (p : ℕ) (name : List ℕ) → slice_get names p ≡ Some name → name_at names p ≡ name
name_at-get names p name e = get_or_from_slice_get names p name [] e

name_at-kept : (names : List (List ℕ)) (name : List ℕ) (p : ℕ) → p < length names → name_at (names ++ name ∷ []) p ≡ name_at names p
name_at-kept names name p l = get_or_append_left names (name ∷ []) [] p l

rows-kept : (names : List (List ℕ)) (name : List ℕ) (entries : List Entry) → All (λ e. e.place < length names) entries → map (observed (names ++ name ∷ [])) entries ≡ map (observed names) entries
rows-kept names name entries h =
    map-agree (observed (names ++ name ∷ [])) (observed names) entries
    (All-weaker (λ e. e.place < length names) (λ e. observed (names ++ name ∷ []) e ≡ observed names e) (λ e l. ap (λ (t : List ℕ). observation t e.row) (name_at-kept names name e.place l)) entries h)

pairs-kept : (names : List (List ℕ)) (name : List ℕ) (pairs : List (ℕ × ℕ)) → All (λ e. (e.0 < length names) × (e.1 < length names)) pairs → map (named (names ++ name ∷ [])) pairs ≡ map (named names) pairs
pairs-kept names name pairs h =
    map-agree (named (names ++ name ∷ [])) (named names) pairs
    (All-weaker (λ e. (e.0 < length names) × (e.1 < length names)) (λ e. named (names ++ name ∷ []) e ≡ named names e) (λ e l. ap₂ (λ (s t : List ℕ). (s, t)) (name_at-kept names name e.0 l.0) (name_at-kept names name e.1 l.1)) pairs h)

-- the place of the name at a place
pub place_among-at : (names : List (List ℕ)) → AllPairs (λ a b. a ≢ b) names → (p : ℕ) → p < length names → place_among names (name_at names p) ≡ p
place_among-at names d p l =
    position_or_len_is (is_same_name (name_at names p)) names p [] (omega arith) (λ k b. is_other (name_at names p) (get_or names k []) (λ e. d k p [] b l (sym e))) (λ b. is_same (name_at names p))

-- pairs of places are those of their names
pub places-back : (names : List (List ℕ)) → AllPairs (λ a b. a ≢ b) names → (pairs : List (ℕ × ℕ)) → All (λ e. (e.0 < length names) × (e.1 < length names)) pairs
    → map (λ e. (place_among names e.0, place_among names e.1)) (map (named names) pairs) ≡ pairs
places-back names d [] h = refl
places-back names d (e ∷ pairs) h =
    let first = All-head (λ f. (f.0 < length names) × (f.1 < length names)) e pairs h in
    ap₂ (λ (f : ℕ × ℕ) (fs : List (ℕ × ℕ)). f ∷ fs) (ap₂ (λ (a b : ℕ). (a, b)) (place_among-at names d e.0 first.0) (place_among-at names d e.1 first.1))
    (places-back names d pairs (All-tail (λ f. (f.0 < length names) × (f.1 < length names)) e pairs h))

pub places_are : (names : List (List ℕ)) (rows : List Observation) → names ≡ group_names rows → (pairs : List (ℕ × ℕ)) → All (λ e. (e.0 < length names) × (e.1 < length names)) pairs
    → pairs ≡ map (λ e. (place_among (group_names rows) e.0, place_among (group_names rows) e.1)) (map (named names) pairs)
places_are names rows e pairs h =
    sym (places-back names (subst (AllPairs (λ a b. a ≢ b)) (sym e) (group_names-distinct rows)) pairs h)
    ∙ ap (λ (t : List (List ℕ)). map (λ f. (place_among t f.0, place_among t f.1)) (map (named names) pairs)) e

module _ (settings : Settings) (names : List (List ℕ)) (entries : List Entry) (groups : List (List Row)) (pairs : List (ℕ × ℕ)) (weight : ℕ) (kept : AreKept settings names entries groups pairs weight) where
  abbrev rows : List Observation
  rows = map (observed names) entries

  -- with the same names
  module _ (e : Entry) (place : e.place < length names) (valid : IsValid (with_row (made_of settings names entries pairs) (observed names e))) where
    more : map (observed names) (entries ++ e ∷ []) ≡ rows ++ observed names e ∷ []
    more = map_push (observed names) entries e

    pub made-push_known : made_of settings names (entries ++ e ∷ []) pairs ≡ with_row (made_of settings names entries pairs) (observed names e)
    made-push_known = ap (λ (t : List Observation). record { settings = settings; rows = t; pairs = map (named names) pairs }) more

    at_place : slice_get (group_names rows) e.place ≡ Some (name_at names e.place)
    at_place = subst (λ (t : List (List ℕ)). slice_get t e.place ≡ Some (name_at names e.place)) kept.names_are (slice_get-get_or names e.place [] place)

    same_names : group_names (rows ++ observed names e ∷ []) ≡ group_names rows
    same_names = group_names-push_known rows (observed names e) (slice_get-Contains (group_names rows) e.place (name_at names e.place) at_place)

    names_are : names ≡ group_names (map (observed names) (entries ++ e ∷ []))
    names_are = kept.names_are ∙ sym same_names ∙ ap group_names (sym more)

    pub kept-push_known : AreKept settings names (entries ++ e ∷ []) (set groups e.place (get_or groups e.place [] ++ e.row ∷ [])) pairs (weight + e.row.weight)
    kept-push_known = record {
      valid = subst IsValid (sym made-push_known) valid;
      names_are = names_are;
      groups_are =
          ap (λ (t : List (List Row)). set t e.place (get_or t e.place [] ++ e.row ∷ [])) kept.groups_are
          ∙ sym (groups-push_known rows (observed names e) e.place at_place)
          ∙ ap (λ (t : List Observation). map (rows_named t) (group_names t)) (sym more);
      pairs_are = places_are names (map (observed names) (entries ++ e ∷ [])) names_are pairs kept.ends;
      weight_is = omega (arith, kept.weight_is, ap total_weight more, sum_by_push (λ (q : Observation). q.weight) rows (observed names e));
      placed = All-push (λ f. f.place < length names) entries e kept.placed place;
      ends = kept.ends;
    }

  -- with a name more
  module _ (name : List ℕ) (e : Entry) (new : All (λ known. known ≢ name) names) (place : e.place ≡ length names) (valid : IsValid (with_row (made_of settings names entries pairs) (observation name e.row))) where
    abbrev all_names : List (List ℕ)
    all_names = names ++ name ∷ []

    last_name : name_at all_names e.place ≡ name
    last_name = get_or_push names name [] e.place (sym place)

    more_new : map (observed all_names) (entries ++ e ∷ []) ≡ rows ++ observation name e.row ∷ []
    more_new =
        map_push (observed all_names) entries e
        ∙ ap₂ (λ (t : List Observation) (u : List ℕ). t ++ observation u e.row ∷ []) (rows-kept names name entries kept.placed) last_name

    pub made-push_new : made_of settings all_names (entries ++ e ∷ []) pairs ≡ with_row (made_of settings names entries pairs) (observation name e.row)
    made-push_new = ap₂ (λ (t : List Observation) (u : List (List ℕ × List ℕ)). record { settings = settings; rows = t; pairs = u }) more_new (pairs-kept names name pairs kept.ends)

    unknown : All (λ known. known ≢ name) (group_names rows)
    unknown = subst (All (λ known. known ≢ name)) kept.names_are new

    names_more : group_names (rows ++ observation name e.row ∷ []) ≡ group_names rows ++ name ∷ []
    names_more = group_names-push_new rows (observation name e.row) unknown

    all_names_are : all_names ≡ group_names (map (observed all_names) (entries ++ e ∷ []))
    all_names_are = ap (λ (t : List (List ℕ)). t ++ name ∷ []) kept.names_are ∙ sym names_more ∙ ap group_names (sym more_new)

    longer : length all_names ≡ length names + 1
    longer = length_push names name

    ends_more : All (λ f. (f.0 < length all_names) × (f.1 < length all_names)) pairs
    ends_more = All-weaker (λ f. (f.0 < length names) × (f.1 < length names)) (λ f. (f.0 < length all_names) × (f.1 < length all_names)) (λ f h. (omega (arith, longer, h.0), omega (arith, longer, h.1))) pairs kept.ends

    pub kept-push_new : AreKept settings all_names (entries ++ e ∷ []) (groups ++ (e.row ∷ []) ∷ []) pairs (weight + e.row.weight)
    kept-push_new = record {
      valid = subst IsValid (sym made-push_new) valid;
      names_are = all_names_are;
      groups_are =
          ap (λ (t : List (List Row)). t ++ (e.row ∷ []) ∷ []) kept.groups_are
          ∙ sym (groups-push_new rows (observation name e.row) unknown)
          ∙ ap (λ (t : List Observation). map (rows_named t) (group_names t)) (sym more_new);
      pairs_are = places_are all_names (map (observed all_names) (entries ++ e ∷ [])) all_names_are pairs ends_more;
      weight_is = omega (arith, kept.weight_is, ap total_weight more_new, sum_by_push (λ (q : Observation). q.weight) rows (observation name e.row));
      placed = All-push (λ f. f.place < length all_names) entries e (All-weaker (λ f. f.place < length names) (λ f. f.place < length all_names) (λ f h. omega (arith, longer, h)) entries kept.placed) (omega (arith, longer, place));
      ends = ends_more;
    }
