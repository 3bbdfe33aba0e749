-- The problem that a study states.
use Rattle.std.proofs.Common.{◌≡◌, ◌≢◌, ℕ, zero, suc, ◌+◌, ◌<◌, ◌≤◌, inl, inr, refl, sym, ap, ◌∙◌, subst, arith, List, [], ◌∷◌, length, Bool, true, false, not, cond, get_or, true≢false}
use Rattle.std.proofs.lemmas.List.{length-map, get_or-map}
use Rattle.std.proofs.lemmas.List.Elements.{All-nil, All-head, All-tail, All-append, All-filter, All-map, All-weaker, All-contains}
use Rattle.std.proofs.lemmas.List.Sums.{sum_by-cons, sum_by-append}
use Rattle.std.specs.Prelude.{All, AllPairs, Contains, filter, map, sum_by, slice_get, unwrap_or}
use Rattle.std.specs.declared.cmp.Ordering.TheVariants.{Less, Equal}
use Rattle.ofit_num.specs.declared.row.Row.{Row}
use Rattle.ofit_num.specs.Fit.{sum_below}
use Rattle.ofit_num.specs.RowTotals.{all_rows}
use Rattle.ofit_num.specs.RowLimits.{IsRowWithinLimits, AreWithinLimits}
use Rattle.ofit_num.specs.Loss.{row_sum}
use Rattle.ofit_num.specs.ProblemPairs.{HasPlaces, HasDistinctPairs}
use Rattle.ofit_num.proofs.RowSums.{row_sum-sum_by}
use Rattle.ofit_num.proofs.Sheets.{AllPairs-head, AllPairs-tail}
use Rattle.ofit_study.specs.Study.{Observation, Study, IsValid, IsObservation, ComesBefore, names_of, groups_of, places_of, place_among, is_same_name, plain_row, rows_named, problem_stated, total_weight, most_rows}
use Rattle.ofit_study.specs.Name.{IsName}
use Rattle.ofit_study.specs.Kept.{name_at}
use Rattle.ofit_study.specs.PairOrder.{text_order}
use Rattle.ofit_study.proofs.GroupNames.{same_name, other_name, is_same, is_other, group_names-distinct, group_names-each, group_names-come_from, IsOfRow}
use Rattle.ofit_study.proofs.PairLists.{text_order-same}

-- sums by groups

none_is : (x : List ℕ) (k : ℕ) (names : List (List ℕ)) → All (λ n. n ≢ x) names → sum_by (λ n. cond (is_same_name n x) k 0) names ≡ 0
none_is x k [] h = refl
none_is x k (n ∷ names) h = omega (
  arith,
  sum_by-cons (λ (m : List ℕ). cond (is_same_name m x) k 0) n names,
  ap {B = ℕ} (λ (t : Bool). cond t k 0) (is_other n x (All-head (λ m. m ≢ x) n names h)),
  none_is x k names (All-tail (λ m. m ≢ x) n names h),
)

-- of distinct names one is x
one_is : (x : List ℕ) (k : ℕ) (names : List (List ℕ)) → AllPairs (λ a b. a ≢ b) names → Contains names x → sum_by (λ n. cond (is_same_name n x) k 0) names ≡ k
one_is x k [] d h = absurd (omega (arith, h.1))
one_is x k (n ∷ names) d h = go (is_same_name n x) refl (λ k2. one_is x k names (AllPairs-tail (λ a b. a ≢ b) n names d) k2) where
  later : (j : ℕ) → j < length (n ∷ names) → get_or (n ∷ names) j x ≡ x → n ≢ x → Contains names x
  later zero l e un = absurd (un e)
  later (suc j) l e un = (j, omega arith, e)

  go : (t : Bool) → is_same_name n x ≡ t → (Contains names x → sum_by (λ m. cond (is_same_name m x) k 0) names ≡ k) → sum_by (λ m. cond (is_same_name m x) k 0) (n ∷ names) ≡ k
  go true e rest = omega (
    arith,
    sum_by-cons (λ (m : List ℕ). cond (is_same_name m x) k 0) n names,
    ap {B = ℕ} (λ (t : Bool). cond t k 0) e,
    none_is x k names (All-weaker (λ m. n ≢ m) (λ m. m ≢ x) (λ m un same. un (same_name n x e ∙ sym same)) names (AllPairs-head (λ a b. a ≢ b) n names d)),
  )
  go false e rest = omega (
    arith,
    sum_by-cons (λ (m : List ℕ). cond (is_same_name m x) k 0) n names,
    ap {B = ℕ} (λ (t : Bool). cond t k 0) e,
    rest (later h.0 h.1 h.2 (other_name n x e)),
  )

sum_by-plus : {X : Type 0} (f g : X → ℕ) (xs : List X) → sum_by (λ x. f x + g x) xs ≡ sum_by f xs + sum_by g xs
sum_by-plus f g [] = refl
sum_by-plus {X} f g (x ∷ xs) = omega (arith, sum_by-cons (λ (y : X). f y + g y) x xs, sum_by-cons f x xs, sum_by-cons g x xs, sum_by-plus f g xs)

sum_by-nothing : {X : Type 0} (xs : List X) → sum_by (λ x. 0) xs ≡ 0
sum_by-nothing [] = refl
sum_by-nothing {X} (x ∷ xs) = omega (arith, sum_by-cons (λ (y : X). 0) x xs, sum_by-nothing xs)

sum_by-agree : {X : Type 0} (f g : X → ℕ) (xs : List X) → ((x : X) → f x ≡ g x) → sum_by f xs ≡ sum_by g xs
sum_by-agree f g [] h = refl
sum_by-agree f g (x ∷ xs) h = omega (arith, sum_by-cons f x xs, sum_by-cons g x xs, h x, sum_by-agree f g xs h)

sum_by-map : {X Y : Type 0} (f : Y → ℕ) (g : X → Y) (xs : List X) → sum_by f (map g xs) ≡ sum_by (λ x. f (g x)) xs
sum_by-map f g [] = refl
sum_by-map {X} f g (x ∷ xs) = omega (arith, sum_by-cons f (g x) (map g xs), sum_by-cons (λ (y : X). f (g y)) x xs, sum_by-map f g xs)

length-sum : {X : Type 0} (xs : List X) → length xs ≡ sum_by (λ x. 1) xs
length-sum [] = refl
length-sum {X} (x ∷ xs) = omega (arith, sum_by-cons (λ (y : X). 1) x xs, length-sum xs)

of_group : (f : Row → ℕ) (r : Observation) (rows : List Observation) (name : List ℕ) → sum_by f (rows_named (r ∷ rows) name) ≡ cond (is_same_name name r.group) (f (plain_row r)) 0 + sum_by f (rows_named rows name)
of_group f r rows name = go (is_same_name name r.group) where
  go : (t : Bool) → sum_by f (map plain_row (cond t (r ∷ filter (λ o. is_same_name name o.group) rows) (filter (λ o. is_same_name name o.group) rows))) ≡ cond t (f (plain_row r)) 0 + sum_by f (rows_named rows name)
  go true = sum_by-cons f (plain_row r) (rows_named rows name)
  go false = omega arith

-- the rows of distinct names that have each row's group are all rows
by_names : (f : Row → ℕ) (names : List (List ℕ)) → AllPairs (λ a b. a ≢ b) names → (rows : List Observation) → All (λ r. Contains names r.group) rows → sum_by (λ n. sum_by f (rows_named rows n)) names ≡ sum_by (λ r. f (plain_row r)) rows
by_names f names d [] h = sum_by-nothing names
by_names f names d (r ∷ rows) h = omega (
  arith,
  sum_by-agree (λ (n : List ℕ). sum_by f (rows_named (r ∷ rows) n)) (λ (n : List ℕ). cond (is_same_name n r.group) (f (plain_row r)) 0 + sum_by f (rows_named rows n)) names (of_group f r rows),
  sum_by-plus (λ (n : List ℕ). cond (is_same_name n r.group) (f (plain_row r)) 0) (λ (n : List ℕ). sum_by f (rows_named rows n)) names,
  one_is r.group (f (plain_row r)) names d (All-head (λ o. Contains names o.group) r rows h),
  by_names f names d rows (All-tail (λ o. Contains names o.group) r rows h),
  sum_by-cons (λ (o : Observation). f (plain_row o)) r rows,
)

pub by_groups : (f : Row → ℕ) (s : Study) → sum_by (λ rows. sum_by f rows) (groups_of s) ≡ sum_by (λ r. f (plain_row r)) s.rows
by_groups f s = sum_by-map (λ (rows : List Row). sum_by f rows) (rows_named s.rows) (names_of s) ∙ by_names f (names_of s) (group_names-distinct s.rows) s.rows (group_names-each s.rows)

sum_below-first : (f : ℕ → ℕ) (n : ℕ) → sum_below f (suc n) ≡ f 0 + sum_below (λ g. f (suc g)) n
sum_below-first f zero = omega arith
sum_below-first f (suc n) = omega (arith, sum_below-first f n)

-- sums over the places of a list
sum_below-list : {X : Type 0} (f : X → ℕ) (d : X) (xs : List X) → sum_below (λ g. f (unwrap_or (slice_get xs g) d)) (length xs) ≡ sum_by f xs
sum_below-list f d [] = refl
sum_below-list {X} f d (x ∷ xs) = omega (arith, sum_below-first (λ g. f (unwrap_or (slice_get (x ∷ xs) g) d)) (length xs), sum_below-list f d xs, sum_by-cons f x xs)

pub rows_counted : (s : Study) → length s.rows ≡ sum_below (λ g. length ((problem_stated s).rows g)) (problem_stated s).count
rows_counted s =
    length-sum s.rows ∙ sym (by_groups (λ r. 1) s)
    ∙ sum_by-agree (λ rows. sum_by (λ r. 1) rows) (λ rows. length rows) (groups_of s) (λ rows. sym (length-sum rows))
    ∙ sym (sum_below-list (λ rows. length rows) [] (groups_of s))

pub rows_weighed : (s : Study) → total_weight s.rows ≡ sum_below (λ g. row_sum (λ r. r.weight) ((problem_stated s).rows g)) (problem_stated s).count
rows_weighed s =
    sym (by_groups (λ r. r.weight) s)
    ∙ sum_by-agree (λ rows. sum_by (λ r. r.weight) rows) (λ rows. row_sum (λ r. r.weight) rows) (groups_of s) (λ rows. sym (row_sum-sum_by (λ r. r.weight) rows))
    ∙ sym (sum_below-list (λ rows. row_sum (λ r. r.weight) rows) [] (groups_of s))

-- rows within their limits

sum_by-all_rows : (f : Row → ℕ) (groups : List (List Row)) → sum_by f (all_rows groups) ≡ sum_by (λ rows. sum_by f rows) groups
sum_by-all_rows f [] = refl
sum_by-all_rows f (rows ∷ groups) = omega (arith, sum_by-append f rows (all_rows groups), sum_by-cons (λ (xs : List Row). sum_by f xs) rows groups, sum_by-all_rows f groups)

each_row : (P : Row → Type 0) (rows : List Observation) (names : List (List ℕ)) → All (λ r. P (plain_row r)) rows → All P (all_rows (map (rows_named rows) names))
each_row P rows [] h = All-nil P
each_row P rows (n ∷ names) h =
    All-append P (rows_named rows n) (all_rows (map (rows_named rows) names))
    (All-map P plain_row (filter (λ r. is_same_name n r.group) rows) (All-filter (λ r. is_same_name n r.group) (λ r. P (plain_row r)) rows h))
    (each_row P rows names h)

pub rows_within : (s : Study) → IsValid s → AreWithinLimits (all_rows (groups_of s))
rows_within s v = record {
  each = each_row IsRowWithinLimits s.rows (names_of s) (All-weaker IsObservation (λ r. IsRowWithinLimits (plain_row r)) (λ r o. record { value = o.value; weight = o.weight }) s.rows v.each);
  together = omega (arith, sum_by-all_rows (λ (r : Row). r.weight) (groups_of s), by_groups (λ (r : Row). r.weight) s, v.together);
}

pub numbers_within : (s : Study) → IsValid s → All (λ r. r.number ≤ most_rows) (all_rows (groups_of s))
numbers_within s v = each_row (λ r. r.number ≤ most_rows) s.rows (names_of s) (All-weaker IsObservation (λ r. r.number ≤ most_rows) (λ r o. o.greatest_number) s.rows v.each)

-- groups

filter-some : {X : Type 0} (p : X → Bool) (xs : List X) (x : X) → Contains xs x → p x ≡ true → 0 < length (filter p xs)
filter-some p [] x h e = absurd (omega (arith, h.1))
filter-some {X} p (y ∷ xs) x h e = go (p y) refl (λ k. filter-some p xs x k e) where
  later : (j : ℕ) → j < length (y ∷ xs) → get_or (y ∷ xs) j x ≡ x → (y ≡ x → ⊥) → Contains xs x
  later zero l f un = absurd (un f)
  later (suc j) l f un = (j, omega arith, f)

  go : (t : Bool) → p y ≡ t → (Contains xs x → 0 < length (filter p xs)) → 0 < length (cond (p y) (y ∷ filter p xs) (filter p xs))
  go true f rest = subst (λ (t : Bool). 0 < length (cond t (y ∷ filter p xs) (filter p xs))) (sym f) (omega arith)
  go false f rest = subst (λ (t : Bool). 0 < length (cond t (y ∷ filter p xs) (filter p xs))) (sym f) (rest (later h.0 h.1 h.2 (λ same. true≢false (sym e ∙ ap p (sym same) ∙ f))))

pub groups_filled : (s : Study) → All (λ rows. 0 < length rows) (groups_of s)
groups_filled s = All-map (λ rows. 0 < length rows) (rows_named s.rows) (names_of s) (All-weaker (IsOfRow s.rows) (λ n. 0 < length (rows_named s.rows n)) some (names_of s) (group_names-come_from s.rows)) where
  some : (n : List ℕ) → IsOfRow s.rows n → 0 < length (rows_named s.rows n)
  some n h = omega (
    arith,
    length-map (filter (λ r. is_same_name n r.group) s.rows) plain_row,
    filter-some (λ r. is_same_name n r.group) s.rows h.0 h.1 (subst (λ (t : List ℕ). is_same_name n t ≡ true) (sym h.2) (is_same n)),
  )

pub groups_named : (s : Study) → IsValid s → All IsName (names_of s)
groups_named s v = All-weaker (IsOfRow s.rows) IsName named (names_of s) (group_names-come_from s.rows) where
  named : (n : List ℕ) → IsOfRow s.rows n → IsName n
  named n h = subst IsName h.2 (group_of h.0 (All-contains IsObservation s.rows h.0 v.each h.1)) where
    group_of : (r : Observation) → IsObservation r → IsName r.group
    group_of r o = o.group

-- pairs

-- a name stands at its place
pub name_at-place : (names : List (List ℕ)) (n : List ℕ) → Contains names n → (place_among names n < length names) × (name_at names (place_among names n) ≡ n)
name_at-place [] n h = absurd (omega (arith, h.1))
name_at-place (m ∷ names) n h = go (is_same_name n m) refl (λ k. name_at-place names n k) where
  later : (j : ℕ) → j < length (m ∷ names) → get_or (m ∷ names) j n ≡ n → m ≢ n → Contains names n
  later zero l e un = absurd (un e)
  later (suc j) l e un = (j, omega arith, e)

  go : (t : Bool) → is_same_name n m ≡ t → (Contains names n → (place_among names n < length names) × (name_at names (place_among names n) ≡ n)) → (place_among (m ∷ names) n < length (m ∷ names)) × (name_at (m ∷ names) (place_among (m ∷ names) n) ≡ n)
  go true e rest =
      let first : place_among (m ∷ names) n ≡ 0 = ap (λ (t : Bool). cond (not t) (1 + place_among names n) 0) e in
      (omega (arith, first), subst (λ (k : ℕ). name_at (m ∷ names) k ≡ n) (sym first) (sym (same_name n m e)))
  go false e rest =
      let next : place_among (m ∷ names) n ≡ suc (place_among names n) = ap (λ (t : Bool). cond (not t) (1 + place_among names n) 0) e ∙ omega arith in
      let found = rest (later h.0 h.1 h.2 (λ same. other_name n m e (sym same))) in
      (omega (arith, next, found.0), subst (λ (k : ℕ). name_at (m ∷ names) k ≡ n) (sym next) found.1)

pub pairs_have_places : (s : Study) → IsValid s → HasPlaces (problem_stated s)
pairs_have_places s v =
    All-map (λ e. (e.0 < length (groups_of s)) × (e.1 < length (groups_of s))) (λ e. (place_among (names_of s) e.0, place_among (names_of s) e.1)) s.pairs
    (All-weaker (λ e. Contains (names_of s) e.0 × Contains (names_of s) e.1) (λ e. (place_among (names_of s) e.0 < length (groups_of s)) × (place_among (names_of s) e.1 < length (groups_of s))) (λ e h. (inside e.0 h.0, inside e.1 h.1)) s.pairs v.known)
  where
    inside : (n : List ℕ) → Contains (names_of s) n → place_among (names_of s) n < length (groups_of s)
    inside n h = omega (arith, length-map (names_of s) (rows_named s.rows), (name_at-place (names_of s) n h).0)

pub pairs_distinct : (s : Study) → IsValid s → HasDistinctPairs (problem_stated s)
pairs_distinct s v i j d l m same =
    let k : j < length s.pairs = omega (arith, length-map s.pairs at) in
    let first : get_or (places_of s) i d ≡ at (get_or s.pairs i ([], [])) = get_or-map at s.pairs i ([], []) d (omega arith) in
    let second : get_or (places_of s) j d ≡ at (get_or s.pairs j ([], [])) = get_or-map at s.pairs j ([], []) d k in
    apart (get_or s.pairs i ([], [])) (get_or s.pairs j ([], [])) (v.known i ([], []) (omega arith)) (v.known j ([], []) k) (sym first ∙ same ∙ second) (v.in_order i j ([], []) l k)
  where
    at : List ℕ × List ℕ → ℕ × ℕ
    at e = (place_among (names_of s) e.0, place_among (names_of s) e.1)

    equal_names : (a b : List ℕ) → Contains (names_of s) a → Contains (names_of s) b → place_among (names_of s) a ≡ place_among (names_of s) b → a ≡ b
    equal_names a b ha hb e = sym (name_at-place (names_of s) a ha).1 ∙ ap (name_at (names_of s)) e ∙ (name_at-place (names_of s) b hb).1

    not_before : (a b : List ℕ) → a ≡ b → text_order a b ≡ Less → ⊥
    not_before a b e h =
        let equal : text_order a b ≡ Equal = text_order-same [] a b e in
        cc

    apart : (e f : List ℕ × List ℕ) → Contains (names_of s) e.0 × Contains (names_of s) e.1 → Contains (names_of s) f.0 × Contains (names_of s) f.1 → at e ≡ at f → ComesBefore e f → ⊥
    apart e f he hf q (inl b) = not_before e.0 f.0 (equal_names e.0 f.0 he.0 hf.0 (ap (λ (t : ℕ × ℕ). t.0) q)) b
    apart e f he hf q (inr b) = not_before e.1 f.1 (equal_names e.1 f.1 he.1 hf.1 (ap (λ (t : ℕ × ℕ). t.1) q)) b.1
