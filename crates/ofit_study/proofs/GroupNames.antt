-- The names of groups: each once, in the order of their first rows.
use Rattle.std.proofs.Common.{◌≡◌, ◌≢◌, ℕ, List, [], ◌∷◌, ◌++◌, refl, sym, ap, ap₂, ◌∙◌, arith, Bool, true, false, not, cond, append-nil, true≢false}
use Rattle.std.proofs.lemmas.Map.Views.{any-filter_same, list_any-from_Contains, Contains-from_any}
use Rattle.std.proofs.lemmas.List.Elements.{All-nil, All-cons, All-filter, All-weaker, filter-append, filter_passes, Contains-append_right, All-contains}
use Rattle.std.proofs.lemmas.List.Kept.{AllPairs-cons, AllPairs-filter}
use Rattle.std.specs.Prelude.{All, AllPairs, Contains, filter, ◌||◌, ◌&&◌}
use Rattle.std.specs.List.{list_any}
use Rattle.std.specs.Cmp.Lexicographic.{bytes_decides, nat_list_eq_equiv}
use Rattle.ofit_study.specs.Study.{Observation, group_names, is_same_name}

pub same_name : (a b : List ℕ) → is_same_name a b ≡ true → a ≡ b
same_name a b e = (bytes_decides a b).0 e

pub is_same : (a : List ℕ) → is_same_name a a ≡ true
is_same a = (bytes_decides a a).1 refl

pub other_name : (a b : List ℕ) → is_same_name a b ≡ false → a ≢ b
other_name a b e same = true≢false (sym ((bytes_decides a b).1 same) ∙ e)

pub is_other : (a b : List ℕ) → a ≢ b → is_same_name a b ≡ false
is_other a b d = go (is_same_name a b) refl where
  go : (t : Bool) → is_same_name a b ≡ t → t ≡ false
  go true e = absurd (d (same_name a b e))
  go false e = refl

-- the names with one that may be new
abbrev pub with_name : List (List ℕ) → List ℕ → List (List ℕ)
with_name names name = cond (list_any (is_same_name name) names) names (names ++ name ∷ [])

abbrev others : List ℕ → List (List ℕ) → List (List ℕ)
others x names = filter (λ name. not (is_same_name x name)) names

filter_one : (b c : Bool) (names : List (List ℕ)) (x n : List ℕ) → is_same_name x n ≡ c → others x (cond b names (names ++ n ∷ [])) ≡ cond b (others x names) (others x names ++ cond (not c) (n ∷ []) [])
filter_one true c names x n e = refl
filter_one false c names x n e = filter-append (λ name. not (is_same_name x name)) names (n ∷ []) ∙ ap (λ (t : Bool). others x names ++ cond (not t) (n ∷ []) []) e

any_other : (names : List (List ℕ)) (x n : List ℕ) → list_any (is_same_name n) (others x names) ≡ (not (is_same_name x n) && list_any (is_same_name n) names)
any_other names x n = any-filter_same (is_same_name n) (λ name. not (is_same_name x name)) (not (is_same_name x n)) (λ k e. ap (λ (t : List ℕ). not (is_same_name x t)) (sym (same_name n k e))) names

by_cases : (b c : Bool) (x n : List ℕ) (names : List (List ℕ)) → x ∷ cond b names (names ++ cond (not c) (n ∷ []) []) ≡ cond (c || (not c && b)) (x ∷ names) ((x ∷ names) ++ n ∷ [])
by_cases true true x n names = refl
by_cases true false x n names = refl
by_cases false true x n names = ap (λ (t : List (List ℕ)). x ∷ t) (append-nil names)
by_cases false false x n names = refl

one_more : (x n : List ℕ) (names : List (List ℕ)) → x ∷ others x (with_name names n) ≡ with_name (x ∷ others x names) n
one_more x n names =
    ap (λ (t : List (List ℕ)). x ∷ t) (filter_one (list_any (is_same_name n) names) (is_same_name x n) names x n refl)
    ∙ by_cases (list_any (is_same_name n) names) (is_same_name x n) x n (others x names)
    ∙ ap (λ (t : Bool). cond t (x ∷ others x names) ((x ∷ others x names) ++ n ∷ [])) (ap₂ (λ (s t : Bool). s || t) (nat_list_eq_equiv.symm x n) (sym (any_other names x n)))

-- a row more adds its group's name, where that is new
pub group_names-push : (rows : List Observation) (r : Observation) → group_names (rows ++ r ∷ []) ≡ with_name (group_names rows) r.group
group_names-push [] r = refl
group_names-push (q ∷ rows) r = ap (λ (t : List (List ℕ)). q.group ∷ others q.group t) (group_names-push rows r) ∙ one_more q.group r.group (group_names rows)

pub group_names-push_known : (rows : List Observation) (r : Observation) → Contains (group_names rows) r.group → group_names (rows ++ r ∷ []) ≡ group_names rows
group_names-push_known rows r h =
    group_names-push rows r ∙ ap (λ (t : Bool). cond t (group_names rows) (group_names rows ++ r.group ∷ [])) (list_any-from_Contains nat_list_eq_equiv r.group (group_names rows) h)

not_any : (n : List ℕ) (names : List (List ℕ)) → All (λ known. known ≢ n) names → list_any (is_same_name n) names ≡ false
not_any n names h = go (list_any (is_same_name n) names) refl where
  go : (t : Bool) → list_any (is_same_name n) names ≡ t → t ≡ false
  go true e = absurd (All-contains (λ known. known ≢ n) names n h (Contains-from_any same_name n names e) refl)
  go false e = refl

pub group_names-push_new : (rows : List Observation) (r : Observation) → All (λ known. known ≢ r.group) (group_names rows) → group_names (rows ++ r ∷ []) ≡ group_names rows ++ r.group ∷ []
group_names-push_new rows r h =
    group_names-push rows r ∙ ap (λ (t : Bool). cond t (group_names rows) (group_names rows ++ r.group ∷ [])) (not_any r.group (group_names rows) h)

-- no name stands twice
pub group_names-distinct : (rows : List Observation) → AllPairs (λ a b. a ≢ b) (group_names rows)
group_names-distinct [] = λ i j d l k. absurd (omega arith)
group_names-distinct (r ∷ rows) =
    AllPairs-cons (λ a b. a ≢ b) r.group (others r.group (group_names rows))
    (All-weaker (λ name. not (is_same_name r.group name) ≡ true) (λ name. r.group ≢ name) differs (others r.group (group_names rows)) (filter_passes (λ name. not (is_same_name r.group name)) (group_names rows)))
    (AllPairs-filter (λ a b. a ≢ b) (λ name. not (is_same_name r.group name)) (group_names rows) (group_names-distinct rows))
  where
    denied : (t : Bool) → not t ≡ true → t ≡ false
    denied true e = sym e
    denied false e = refl

    differs : (name : List ℕ) → not (is_same_name r.group name) ≡ true → r.group ≢ name
    differs name e = other_name r.group name (denied (is_same_name r.group name) e)

-- each row's group is among the names
pub group_names-each : (rows : List Observation) → All (λ r. Contains (group_names rows) r.group) rows
group_names-each [] = All-nil (λ r. Contains (group_names []) r.group)
group_names-each (q ∷ rows) =
    All-cons (λ r. Contains (group_names (q ∷ rows)) r.group) q rows (0, omega arith, refl)
    (All-weaker (λ r. Contains (group_names rows) r.group) (λ r. Contains (group_names (q ∷ rows)) r.group) (λ r h. later r.group h) rows (group_names-each rows))
  where
    later : (n : List ℕ) → Contains (group_names rows) n → Contains (q.group ∷ others q.group (group_names rows)) n
    later n h = go (is_same_name q.group n) refl where
      go : (t : Bool) → is_same_name q.group n ≡ t → Contains (q.group ∷ others q.group (group_names rows)) n
      go true e = (0, omega arith, same_name q.group n e)
      go false e =
          Contains-append_right (q.group ∷ []) (others q.group (group_names rows)) n
          (Contains-from_any same_name n (others q.group (group_names rows)) (any_other (group_names rows) q.group n ∙ ap₂ (λ (s t : Bool). not s && t) e (list_any-from_Contains nat_list_eq_equiv n (group_names rows) h)))

-- the name is that of a row
abbrev pub IsOfRow : List Observation → List ℕ → Type 0
IsOfRow rows name = (r : Observation) × Contains rows r × (r.group ≡ name)

pub group_names-come_from : (rows : List Observation) → All (IsOfRow rows) (group_names rows)
group_names-come_from [] = All-nil (IsOfRow [])
group_names-come_from (q ∷ rows) =
    All-cons (IsOfRow (q ∷ rows)) q.group (others q.group (group_names rows)) (q, (0, omega arith, refl), refl)
    (All-filter (λ name. not (is_same_name q.group name)) (IsOfRow (q ∷ rows)) (group_names rows) (All-weaker (IsOfRow rows) (IsOfRow (q ∷ rows)) later (group_names rows) (group_names-come_from rows)))
  where
    later : (name : List ℕ) → IsOfRow rows name → IsOfRow (q ∷ rows) name
    later name h = (h.0, Contains-append_right (q ∷ []) rows h.0 h.1, h.2)
