-- Lists in parts, and studies with other rows.
use Rattle.std.proofs.Common.{◌≡◌, ℕ, ◌+◌, ◌<◌, ◌≤◌, ◌^◌, List, [], ◌∷◌, ◌++◌, refl, sym, ap, ap₂, ◌-◌, ◌∙◌, subst, arith, length, get_or, take, drop, append_assoc, append-nil}
use Rattle.std.proofs.lemmas.List.{length-append, take-append-drop, take-take, drop-take, drop-drop, drop_more, take_rest}
use Rattle.std.proofs.lemmas.Option.{slice_get_within, get_or_from_slice_get}
use Rattle.std.proofs.lemmas.List.Elements.{All-nil, All-cons, All-head, All-tail, All-append, All-weaker, All-contains, Contains-append_left}
use Rattle.std.proofs.lemmas.List.Kept.{AllPairs-cons}
use Rattle.std.proofs.lemmas.List.Sums.{sum_by-append}
use Rattle.std.specs.Prelude.{All, AllPairs, Contains, slice_get, Some}
use Rattle.ofit_num.proofs.Pigeonhole.{distinct_few}
pub use Rattle.ofit_num.proofs.RowLists.{all_front as All-left, all_back as All-right}
use Rattle.ofit_num.proofs.Sheets.{AllPairs-head, AllPairs-tail}
use Rattle.ofit_study.specs.Study.{Observation, Study, IsObservation, IsValid, group_names, names_of, total_weight, most_rows, most_groups}
use Rattle.ofit_study.specs.Splice.{rows_between}
use Rattle.ofit_study.proofs.GroupNames.{IsOfRow, group_names-distinct, group_names-each, group_names-come_from}

-- lists in two parts

pub AllPairs-append : {X : Type 0} (R : X → X → Type 0) (xs ys : List X) → AllPairs R xs → AllPairs R ys → All (λ x. All (R x) ys) xs → AllPairs R (xs ++ ys)
AllPairs-append R [] ys a b c = b
AllPairs-append R (x ∷ xs) ys a b c =
    AllPairs-cons R x (xs ++ ys) (All-append (R x) xs ys (AllPairs-head R x xs a) (All-head (λ z. All (R z) ys) x xs c))
    (AllPairs-append R xs ys (AllPairs-tail R x xs a) b (All-tail (λ z. All (R z) ys) x xs c))

pub AllPairs-left : {X : Type 0} (R : X → X → Type 0) (xs ys : List X) → AllPairs R (xs ++ ys) → AllPairs R xs
AllPairs-left R [] ys h = λ i j d l k. absurd (omega arith)
AllPairs-left R (x ∷ xs) ys h = AllPairs-cons R x xs (All-left (R x) xs ys (AllPairs-head R x (xs ++ ys) h)) (AllPairs-left R xs ys (AllPairs-tail R x (xs ++ ys) h))

pub AllPairs-right : {X : Type 0} (R : X → X → Type 0) (xs ys : List X) → AllPairs R (xs ++ ys) → AllPairs R ys
AllPairs-right R [] ys h = h
AllPairs-right R (x ∷ xs) ys h = AllPairs-right R xs ys (AllPairs-tail R x (xs ++ ys) h)

pub AllPairs-across : {X : Type 0} (R : X → X → Type 0) (xs ys : List X) → AllPairs R (xs ++ ys) → All (λ x. All (R x) ys) xs
AllPairs-across R [] ys h = All-nil (λ x. All (R x) ys)
AllPairs-across R (x ∷ xs) ys h = All-cons (λ z. All (R z) ys) x xs (All-right (R x) xs ys (AllPairs-head R x (xs ++ ys) h)) (AllPairs-across R xs ys (AllPairs-tail R x (xs ++ ys) h))

-- names of rows

pub row_name : (rows : List Observation) (r : Observation) → Contains rows r → Contains (group_names rows) r.group
row_name rows r c = All-contains (λ q. Contains (group_names rows) q.group) rows r (group_names-each rows) c

-- the names of rows are at most these, where each row's group is among these
pub names_among : (rows : List Observation) (names : List (List ℕ)) → ((r : Observation) → Contains rows r → Contains names r.group) → (n : List ℕ) → Contains (group_names rows) n → Contains names n
names_among rows names h n c =
    let o : IsOfRow rows n = All-contains (IsOfRow rows) (group_names rows) n (group_names-come_from rows) c in
    subst (Contains names) o.2 (h o.0 o.1)

pub names_few : (rows : List Observation) (names : List (List ℕ)) → ((r : Observation) → Contains rows r → Contains names r.group) → length (group_names rows) ≤ length names
names_few rows names h = distinct_few (group_names rows) names (group_names-distinct rows) (names_among rows names h)

-- each pair names groups of these rows
abbrev pub AreKnown : List Observation → List (List ℕ × List ℕ) → Type 0
AreKnown rows pairs = All (λ e. Contains (group_names rows) e.0 × Contains (group_names rows) e.1) pairs

-- a valid study with other rows
pub valid-with : (s : Study) → IsValid s → (rows : List Observation) → All IsObservation rows → AllPairs (λ a b. a.number < b.number) rows → total_weight rows ≤ 10 ^ 10 → length rows ≤ most_rows → length (group_names rows) ≤ most_groups
    → AreKnown rows s.pairs → IsValid (record s { rows = rows })
valid-with s v rows each rising light few groups known = record {
  settings = v.settings;
  each = each;
  rising = rising;
  together = light;
  rows = few;
  groups = groups;
  known = known;
  in_order = v.in_order;
  pairs = v.pairs;
}

abbrev Rises : Observation → Observation → Type 0
Rises a b = a.number < b.number

-- a valid study with other rows at and about a place
module _ (s : Study) (v : IsValid s) (lower old higher : List Observation) (parted : s.rows ≡ lower ++ (old ++ higher)) where
  each_of : All IsObservation (lower ++ (old ++ higher))
  each_of = subst (All IsObservation) parted v.each

  rising_of : AllPairs Rises (lower ++ (old ++ higher))
  rising_of = subst (AllPairs Rises) parted v.rising

  apart : All (λ a. All (Rises a) higher) lower
  apart = All-weaker (λ a. All (Rises a) (old ++ higher)) (λ a. All (Rises a) higher) (λ a h. All-right (Rises a) old higher h) lower (AllPairs-across Rises lower (old ++ higher) rising_of)

  pub weighs : total_weight s.rows ≡ total_weight lower + total_weight old + total_weight higher
  weighs = ap total_weight parted ∙ omega (arith, sum_by-append (λ (r : Observation). r.weight) lower (old ++ higher), sum_by-append (λ (r : Observation). r.weight) old higher)

  pub valid-splice : (new : List Observation) → All IsObservation new → AllPairs Rises new → All (λ a. All (Rises a) new) lower → All (λ a. All (Rises a) higher) new
      → total_weight (lower ++ (new ++ higher)) ≤ 10 ^ 10 → length (lower ++ (new ++ higher)) ≤ most_rows → length (group_names (lower ++ (new ++ higher))) ≤ most_groups → AreKnown (lower ++ (new ++ higher)) s.pairs
      → IsValid (record s { rows = lower ++ (new ++ higher) })
  valid-splice new each rising below above light few groups known =
      valid-with s v (lower ++ (new ++ higher))
      (All-append IsObservation lower (new ++ higher) (All-left IsObservation lower (old ++ higher) each_of) (All-append IsObservation new higher each (All-right IsObservation old higher (All-right IsObservation lower (old ++ higher) each_of))))
      (AllPairs-append Rises lower (new ++ higher) (AllPairs-left Rises lower (old ++ higher) rising_of)
      (AllPairs-append Rises new higher rising (AllPairs-right Rises old higher (AllPairs-right Rises lower (old ++ higher) rising_of)) above)
      (both lower below apart))
      light few groups known
    where
      both : (xs : List Observation) → All (λ a. All (Rises a) new) xs → All (λ a. All (Rises a) higher) xs → All (λ a. All (Rises a) (new ++ higher)) xs
      both xs p q k d l = All-append (Rises (get_or xs k d)) new higher (p k d l) (q k d l)

-- the first rows of a study without pairs
pub valid-first : (s : Study) → s.pairs ≡ [] → (xs ys : List Observation) → IsValid (record s { rows = xs ++ ys }) → IsValid (record s { rows = xs })
valid-first s none xs ys v = record {
  settings = v.settings;
  each = All-left IsObservation xs ys v.each;
  rising = AllPairs-left Rises xs ys v.rising;
  together = omega (arith, v.together, sum_by-append (λ (r : Observation). r.weight) xs ys);
  rows = omega (arith, v.rows, length-append xs ys);
  groups = omega (arith, v.groups, names_few xs (group_names (xs ++ ys)) (λ r c. row_name (xs ++ ys) r (Contains-append_left xs ys r c)));
  known = subst (AreKnown xs) (sym none) (All-nil (λ e. Contains (group_names xs) e.0 × Contains (group_names xs) e.1));
  in_order = v.in_order;
  pairs = v.pairs;
}

-- rows by their indexes

pub between_split : (rows : List Observation) (start m end : ℕ) → start ≤ m → m ≤ end → rows_between rows start end ≡ rows_between rows start m ++ rows_between rows m end
between_split rows start m end l k =
    let whole : end - start ≡ (m - start) + (end - m) = omega arith in
    let there : start + (m - start) ≡ m = omega arith in
    ap (λ (n : ℕ). take n (drop start rows)) whole
    ∙ sym (take-append-drop (m - start) (take ((m - start) + (end - m)) (drop start rows)))
    ∙ ap₂ (λ (x y : List Observation). x ++ y) (take-take (m - start) ((m - start) + (end - m)) (drop start rows) (omega arith))
    (drop-take (m - start) (end - m) (drop start rows) ∙ ap (take (end - m)) (drop-drop (m - start) start rows ∙ ap (λ (n : ℕ). drop n rows) there))

pub between_none : (rows : List Observation) (n : ℕ) → rows_between rows n n ≡ []
between_none rows n =
    let none : n - n ≡ 0 = omega arith in
    ap (λ (k : ℕ). take k (drop n rows)) none

pub between_one : (rows : List Observation) (n : ℕ) (r : Observation) → slice_get rows n ≡ Some r → rows_between rows n (n + 1) ≡ r ∷ []
between_one rows n r e =
    let one : n + 1 - n ≡ 1 = omega arith in
    ap (λ (k : ℕ). take k (drop n rows)) one
    ∙ ap (take 1) (drop_more rows n r (slice_get_within rows n r e) ∙ ap (λ (x : Observation). x ∷ drop (n + 1) rows) (get_or_from_slice_get rows n r r e))

pub between_first : (rows : List Observation) (n : ℕ) → rows_between rows 0 n ≡ take n rows
between_first rows n =
    let all : n - 0 ≡ n = omega arith in
    ap (λ (k : ℕ). take k rows) all

pub between_last : (rows : List Observation) (n : ℕ) → rows_between rows n (length rows) ≡ drop n rows
between_last rows n = take_rest rows n

-- a study built row by row, without pairs until the end
abbrev pub bare : Study → List Observation → Study
bare s rows = record s { rows = rows; pairs = [] }

pub bare_more : (s t u : Study) (xs ys : List Observation) → t ≡ bare s xs → u ≡ record t { rows = t.rows ++ ys } → u ≡ bare s (xs ++ ys)
bare_more s t u xs ys e f = f ∙ ap (λ (x : Study). record x { rows = x.rows ++ ys }) e

pub bare_valid : (s t : Study) (xs ys zs whole : List Observation) → t ≡ bare s xs → IsValid (record s { rows = whole }) → whole ≡ (xs ++ ys) ++ zs → IsValid (record t { rows = t.rows ++ ys })
bare_valid s t xs ys zs whole e v is =
    subst (λ (x : Study). IsValid (record x { rows = x.rows ++ ys })) (sym e)
    (valid-first (bare s []) refl (xs ++ ys) zs (subst (λ (rows : List Observation). IsValid (bare s rows)) is (without_pairs v)))
  where
    without_pairs : IsValid (record s { rows = whole }) → IsValid (bare s whole)
    without_pairs w = record {
      settings = w.settings;
      each = w.each;
      rising = w.rising;
      together = w.together;
      rows = w.rows;
      groups = w.groups;
      known = All-nil (λ e. Contains (group_names whole) e.0 × Contains (group_names whole) e.1);
      in_order = λ i j d l k. absurd (omega arith);
      pairs = omega arith;
    }

pub bare_known : (s t : Study) (whole : List Observation) → t ≡ bare s whole → IsValid (record s { rows = whole }) → All (λ e. Contains (names_of t) e.0 × Contains (names_of t) e.1) s.pairs
bare_known s t whole e v = subst (λ (x : Study). All (λ p. Contains (names_of x) p.0 × Contains (names_of x) p.1) s.pairs) (sym e) v.known

-- rows put one by one after those of a study without pairs

pub put_valid : (s t : Study) (xs ys zs whole : List Observation) → s.pairs ≡ [] → IsValid (record s { rows = whole }) → t ≡ record s { rows = xs } → whole ≡ (xs ++ ys) ++ zs → IsValid (record t { rows = t.rows ++ ys })
put_valid s t xs ys zs whole none v e is =
    subst (λ (x : Study). IsValid (record x { rows = x.rows ++ ys })) (sym e)
    (valid-first s none (xs ++ ys) zs (subst (λ (rows : List Observation). IsValid (record s { rows = rows })) is v))

module _ (own rows : List Observation) (start k end : ℕ) (r : Observation) (low : start ≤ k) (high : k < end) (at : slice_get rows k ≡ Some r) where
  pub put_parts : own ++ rows_between rows start end ≡ ((own ++ rows_between rows start k) ++ r ∷ []) ++ rows_between rows (k + 1) end
  put_parts =
      ap (λ (x : List Observation). own ++ x)
      (between_split rows start k end low (omega arith)
      ∙ ap (λ (x : List Observation). rows_between rows start k ++ x)
      (between_split rows k (k + 1) end (omega arith) (omega arith) ∙ ap (λ (x : List Observation). x ++ rows_between rows (k + 1) end) (between_one rows k r at)))
      ∙ sym (append_assoc own (rows_between rows start k) (r ∷ rows_between rows (k + 1) end))
      ∙ sym (append_assoc (own ++ rows_between rows start k) (r ∷ []) (rows_between rows (k + 1) end))

  pub put_step : (own ++ rows_between rows start k) ++ r ∷ [] ≡ own ++ rows_between rows start (k + 1)
  put_step =
      append_assoc own (rows_between rows start k) (r ∷ [])
      ∙ ap (λ (x : List Observation). own ++ x) (ap (λ (x : List Observation). rows_between rows start k ++ x) (sym (between_one rows k r at)) ∙ sym (between_split rows start k (k + 1) low (omega arith)))

pub put_none : (s : Study) (rows : List Observation) (n : ℕ) → s ≡ record s { rows = s.rows ++ rows_between rows n n }
put_none s rows n = ap (λ (x : List Observation). record s { rows = x }) (sym (append-nil s.rows) ∙ ap (λ (x : List Observation). s.rows ++ x) (sym (between_none rows n)))

pub put_more : (s t u : Study) (xs ys : List Observation) (r : Observation) → t ≡ record s { rows = xs } → u ≡ record t { rows = t.rows ++ r ∷ [] } → xs ++ r ∷ [] ≡ ys → u ≡ record s { rows = ys }
put_more s t u xs ys r e f g = f ∙ ap (λ (x : Study). record x { rows = x.rows ++ r ∷ [] }) e ∙ ap (λ (x : List Observation). record s { rows = x }) g

-- the rows before an index, a row, and those from another index on
module _ (s : Study) (start end n : ℕ) (r : Observation) (last : n ≡ length s.rows) where
  pub with_first : take start s.rows ++ r ∷ drop end s.rows ≡ rows_between s.rows 0 start ++ r ∷ drop end s.rows
  with_first = ap (λ (x : List Observation). x ++ r ∷ drop end s.rows) (sym (between_first s.rows start))

  pub with_second : take start s.rows ++ r ∷ drop end s.rows ≡ (rows_between s.rows 0 start ++ r ∷ []) ++ drop end s.rows
  with_second = with_first ∙ sym (append_assoc (rows_between s.rows 0 start) (r ∷ []) (drop end s.rows))

  pub with_third : (rows_between s.rows 0 start ++ r ∷ []) ++ rows_between s.rows end n ≡ take start s.rows ++ r ∷ drop end s.rows
  with_third =
      ap (λ (x : List Observation). (rows_between s.rows 0 start ++ r ∷ []) ++ x) (ap (rows_between s.rows end) last ∙ between_last s.rows end) ∙ sym with_second

-- the rows before an index, and those from another on
module _ (s : Study) (start end n : ℕ) (last : n ≡ length s.rows) where
  pub without_first : take start s.rows ++ drop end s.rows ≡ rows_between s.rows 0 start ++ drop end s.rows
  without_first = ap (λ (x : List Observation). x ++ drop end s.rows) (sym (between_first s.rows start))

  pub without_second : rows_between s.rows 0 start ++ rows_between s.rows end n ≡ take start s.rows ++ drop end s.rows
  without_second = ap (λ (x : List Observation). rows_between s.rows 0 start ++ x) (ap (rows_between s.rows end) last ∙ between_last s.rows end) ∙ sym without_first
