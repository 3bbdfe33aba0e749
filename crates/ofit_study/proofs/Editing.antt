-- Studies after edits of their rows are valid.
use Rattle.std.proofs.Common.{◌≡◌, ℕ, zero, suc, ◌+◌, ◌<◌, ◌≤◌, ◌^◌, ◌⊎◌, inl, inr, List, [], ◌∷◌, ◌++◌, refl, sym, ap, ◌∙◌, subst, arith, length, get_or, Bool, true, false, cond}
use Rattle.std.proofs.lemmas.Bool.{cases_order}
use Rattle.std.proofs.lemmas.List.{length-append, length_push, map-append}
use Rattle.std.proofs.lemmas.List.Elements.{All-nil, All-cons, All-head, All-weaker, All-contains, filter-append, Contains-get_or, Contains-append_cases, Contains-append_left, Contains-append_right}
use Rattle.std.proofs.lemmas.List.Sums.{sum_by-cons, sum_by-append}
use Rattle.std.specs.Prelude.{All, AllPairs, Contains, filter, map}
use Rattle.ofit_num.proofs.Sheets.{AllPairs-head}
use Rattle.ofit_study.specs.Study.{Observation, Study, IsObservation, IsValid, group_names, names_of, rows_named, plain_row, is_same_name, total_weight, most_groups}
use Rattle.ofit_study.specs.Adding.{IsTaken, HasGroupOrRoom}
use Rattle.ofit_study.specs.Edited.{HasRow, IsInUse}
use Rattle.ofit_study.proofs.GroupNames.{IsOfRow, same_name, is_same, group_names-come_from}
use Rattle.ofit_study.proofs.Splicing.{AreKnown, AllPairs-across, AllPairs-right, row_name, names_among, names_few, valid-splice, weighs}

pub only_one : {X : Type 0} (x y : X) → Contains (x ∷ []) y → x ≡ y
only_one x y (zero, l, e) = e
only_one x y (suc k, l, e) = absurd (omega (arith, l))

-- where an element of a list in three parts stands
pub parts_cases : {X : Type 0} (lower mid higher : List X) (x : X) → Contains (lower ++ (mid ++ higher)) x → Contains mid x ⊎ Contains (lower ++ higher) x
parts_cases {X} lower mid higher x c = outer (Contains-append_cases lower (mid ++ higher) x c) where
  inner : Contains mid x ⊎ Contains higher x → Contains mid x ⊎ Contains (lower ++ higher) x
  inner (inl h) = inl h
  inner (inr h) = inr (Contains-append_right lower higher x h)

  outer : Contains lower x ⊎ Contains (mid ++ higher) x → Contains mid x ⊎ Contains (lower ++ higher) x
  outer (inl h) = inr (Contains-append_left lower higher x h)
  outer (inr h) = inner (Contains-append_cases mid higher x h)

pub parts_mid : {X : Type 0} (lower mid higher : List X) (x : X) → Contains mid x → Contains (lower ++ (mid ++ higher)) x
parts_mid lower mid higher x h = Contains-append_right lower (mid ++ higher) x (Contains-append_left mid higher x h)

pub parts_others : {X : Type 0} (lower mid higher : List X) (x : X) → Contains (lower ++ higher) x → Contains (lower ++ (mid ++ higher)) x
parts_others {X} lower mid higher x h = go (Contains-append_cases lower higher x h) where
  go : Contains lower x ⊎ Contains higher x → Contains (lower ++ (mid ++ higher)) x
  go (inl a) = Contains-append_left lower (mid ++ higher) x a
  go (inr b) = Contains-append_right lower (mid ++ higher) x (Contains-append_right mid higher x b)

-- names that are known stay so, where each row's group does
kept_known : (s : Study) → IsValid s → (rows : List Observation) → ((r : Observation) → Contains s.rows r → Contains (group_names rows) r.group) → AreKnown rows s.pairs
kept_known s v rows h =
    All-weaker (λ e. Contains (names_of s) e.0 × Contains (names_of s) e.1) (λ e. Contains (group_names rows) e.0 × Contains (group_names rows) e.1)
    (λ e k. (names_among s.rows (group_names rows) h e.0 k.0, names_among s.rows (group_names rows) h e.1 k.1)) s.pairs v.known

-- a row more
module _ (s : Study) (v : IsValid s) (lower higher : List Observation) (parted : s.rows ≡ lower ++ higher) (r : Observation) (taken : IsTaken s r.group r.weight) where
  from_parts : (names : List (List ℕ)) → ((q : Observation) → Contains s.rows q → Contains names q.group) → Contains names r.group → (q : Observation) → Contains (lower ++ (r ∷ higher)) q → Contains names q.group
  from_parts names old new q c = go (parts_cases lower (r ∷ []) higher q c) where
    go : Contains (r ∷ []) q ⊎ Contains (lower ++ higher) q → Contains names q.group
    go (inl h) = subst (λ (x : Observation). Contains names x.group) (only_one r q h) new
    go (inr h) = old q (subst (λ (x : List Observation). Contains x q) (sym parted) h)

  more_groups : HasGroupOrRoom s r.group → length (group_names (lower ++ (r ∷ higher))) ≤ most_groups
  more_groups (inl known) = omega (arith, v.groups, names_few (lower ++ (r ∷ higher)) (names_of s) (from_parts (names_of s) (row_name s.rows) known))
  more_groups (inr room) =
      omega (
        arith,
        room,
        length_push (names_of s) r.group,
        names_few (lower ++ (r ∷ higher)) (names_of s ++ r.group ∷ [])
            (from_parts (names_of s ++ r.group ∷ []) (λ q c. Contains-append_left (names_of s) (r.group ∷ []) q.group (row_name s.rows q c)) (Contains-append_right (names_of s) (r.group ∷ []) r.group (0, omega arith, refl))),
      )

  pub valid-insert : IsObservation r → All (λ q. q.number < r.number) lower → All (λ q. r.number < q.number) higher → IsValid (record s { rows = lower ++ r ∷ higher })
  valid-insert o below above =
      valid-splice s v lower [] higher parted (r ∷ [])
      (All-cons IsObservation r [] o (All-nil IsObservation))
      (λ i j d l k. absurd (omega arith))
      (All-weaker (λ q. q.number < r.number) (λ q. All (λ b. q.number < b.number) (r ∷ [])) (λ q h. All-cons (λ b. q.number < b.number) r [] h (All-nil (λ b. q.number < b.number))) lower below)
      (All-cons (λ a. All (λ b. a.number < b.number) higher) r [] above (All-nil (λ a. All (λ b. a.number < b.number) higher)))
      (omega (arith, taken.light, weighs s v lower [] higher parted, sum_by-append (λ (q : Observation). q.weight) lower (r ∷ higher), sum_by-cons (λ (q : Observation). q.weight) r higher))
      (omega (arith, taken.few, ap length parted, length-append lower higher, length-append lower (r ∷ higher)))
      (more_groups taken.group)
      (kept_known s v (lower ++ (r ∷ higher)) (λ q c. row_name (lower ++ (r ∷ higher)) q (parts_others lower (r ∷ []) higher q (subst (λ (x : List Observation). Contains x q) parted c))))

-- the rows of a group, part by part
pub named-append : (xs ys : List Observation) (name : List ℕ) → rows_named (xs ++ ys) name ≡ rows_named xs name ++ rows_named ys name
named-append xs ys name =
    ap (map plain_row) (filter-append (λ o. is_same_name name o.group) xs ys)
    ∙ map-append plain_row (filter (λ o. is_same_name name o.group) xs) (filter (λ o. is_same_name name o.group) ys)

pub named-cons : (r : Observation) (rows : List Observation) (name : List ℕ) → rows_named (r ∷ rows) name ≡ cond (is_same_name name r.group) (plain_row r ∷ rows_named rows name) (rows_named rows name)
named-cons r rows name = go (is_same_name name r.group) where
  go : (t : Bool) → map plain_row (cond t (r ∷ filter (λ o. is_same_name name o.group) rows) (filter (λ o. is_same_name name o.group) rows)) ≡ cond t (plain_row r ∷ rows_named rows name) (rows_named rows name)
  go true = refl
  go false = refl

-- a group with rows is known
pub named_known : (rows : List Observation) (name : List ℕ) → 0 < length (rows_named rows name) → Contains (group_names rows) name
named_known [] name h = absurd (omega arith)
named_known (r ∷ rows) name h = go (is_same_name name r.group) refl (named_known rows name) where
  later : Contains (group_names rows) name → Contains (group_names (r ∷ rows)) name
  later c = names_among rows (group_names (r ∷ rows)) (λ q k. row_name (r ∷ rows) q (Contains-append_right (r ∷ []) rows q k)) name c

  go : (t : Bool) → is_same_name name r.group ≡ t → (0 < length (rows_named rows name) → Contains (group_names rows) name) → Contains (group_names (r ∷ rows)) name
  go true e rest = subst (Contains (group_names (r ∷ rows))) (sym (same_name name r.group e)) (0, omega arith, refl)
  go false e rest = later (rest (subst (λ (n : ℕ). 0 < n) (ap length (named-cons r rows name) ∙ ap (λ (t : Bool). length (cond t (plain_row r ∷ rows_named rows name) (rows_named rows name))) e) h))

-- a row taken away
module _ (s : Study) (v : IsValid s) (number : ℕ) (at : HasRow s number) where
  pub own_rows : length (rows_named s.rows at.row.group) ≡ length (rows_named (at.lower ++ at.higher) at.row.group) + 1
  own_rows =
      ap (λ (t : List Observation). length (rows_named t at.row.group)) at.parted
      ∙ omega (
        arith,
        ap length (named-append at.lower (at.row ∷ at.higher) at.row.group),
        length-append (rows_named at.lower at.row.group) (rows_named (at.row ∷ at.higher) at.row.group),
        ap length (named-cons at.row at.higher at.row.group),
        ap (λ (t : Bool). length (cond t (plain_row at.row ∷ rows_named at.higher at.row.group) (rows_named at.higher at.row.group))) (is_same at.row.group),
        ap length (named-append at.lower at.higher at.row.group),
        length-append (rows_named at.lower at.row.group) (rows_named at.higher at.row.group),
      )

  pub valid-remove : (IsInUse s at.row.group → ⊥) → IsValid (record s { rows = at.lower ++ at.higher })
  valid-remove free =
      valid-splice s v at.lower (at.row ∷ []) at.higher at.parted []
      (All-nil IsObservation)
      (λ i j d l k. absurd (omega arith))
      (λ k d l. All-nil (λ b. (get_or at.lower k d).number < b.number))
      (All-nil (λ a. All (λ b. a.number < b.number) at.higher))
      (omega (arith, v.together, weighs s v at.lower (at.row ∷ []) at.higher at.parted, sum_by-append (λ (q : Observation). q.weight) at.lower at.higher))
      (omega (arith, v.rows, ap length at.parted, length-append at.lower at.higher, length-append at.lower (at.row ∷ at.higher)))
      (omega (arith, v.groups, names_few (at.lower ++ at.higher) (names_of s) (λ q c. row_name s.rows q (subst (λ (x : List Observation). Contains x q) (sym at.parted) (parts_others at.lower (at.row ∷ []) at.higher q c)))))
      known
    where
      other : (n : List ℕ) → (at.row.group ≡ n → (length (rows_named s.rows at.row.group) ≡ 1) → ⊥) → IsOfRow s.rows n → Contains (group_names (at.lower ++ at.higher)) n
      other n shared (q, c, e) = go (parts_cases at.lower (at.row ∷ []) at.higher q (subst (λ (x : List Observation). Contains x q) at.parted c)) where
        left : at.row.group ≡ n → Contains (group_names (at.lower ++ at.higher)) n
        left same = subst (Contains (group_names (at.lower ++ at.higher))) same (named_known (at.lower ++ at.higher) at.row.group (by (cases_order (length (rows_named (at.lower ++ at.higher) at.row.group)) 0))) where
          by : (length (rows_named (at.lower ++ at.higher) at.row.group) ≡ 0) ⊎ ((length (rows_named (at.lower ++ at.higher) at.row.group) < 0) ⊎ (0 < length (rows_named (at.lower ++ at.higher) at.row.group)))
              → 0 < length (rows_named (at.lower ++ at.higher) at.row.group)
          by (inl none) = absurd (shared same (omega (arith, own_rows, none)))
          by (inr (inl l)) = absurd (omega (arith, l))
          by (inr (inr l)) = l

        go : Contains (at.row ∷ []) q ⊎ Contains (at.lower ++ at.higher) q → Contains (group_names (at.lower ++ at.higher)) n
        go (inl h) = left (ap (λ (x : Observation). x.group) (only_one at.row q h) ∙ e)
        go (inr h) = subst (Contains (group_names (at.lower ++ at.higher))) e (row_name (at.lower ++ at.higher) q h)

      of_name : (n : List ℕ) → Contains (names_of s) n → IsOfRow s.rows n
      of_name n c = All-contains (IsOfRow s.rows) (names_of s) n (group_names-come_from s.rows) c

      known : AreKnown (at.lower ++ at.higher) s.pairs
      known k d l =
          let e = get_or s.pairs k d in
          let c = v.known k d l in
          let here : Contains s.pairs e = Contains-get_or s.pairs k d l in (
            other e.0 (λ same one. free (record { only = one; pair = e; stands = here; names = inl (sym same) })) (of_name e.0 c.0),
            other e.1 (λ same one. free (record { only = one; pair = e; stands = here; names = inr (sym same) })) (of_name e.1 c.1),
          )

  -- a row changed
  pub valid-change : (r : Observation) → r.number ≡ at.row.number → r.group ≡ at.row.group → IsObservation r → total_weight (at.lower ++ r ∷ at.higher) ≤ 10 ^ 10 → IsValid (record s { rows = at.lower ++ r ∷ at.higher })
  valid-change r number_is group_is o light =
      valid-splice s v at.lower (at.row ∷ []) at.higher at.parted (r ∷ [])
      (All-cons IsObservation r [] o (All-nil IsObservation))
      (λ i j d l k. absurd (omega arith))
      below
      (All-cons (λ a. All (λ b. a.number < b.number) at.higher) r [] above (All-nil (λ a. All (λ b. a.number < b.number) at.higher)))
      light
      (omega (arith, v.rows, ap length at.parted, length-append at.lower (r ∷ at.higher), length-append at.lower (at.row ∷ at.higher)))
      (omega (arith, v.groups, names_few (at.lower ++ (r ∷ at.higher)) (names_of s) among))
      (kept_known s v (at.lower ++ (r ∷ at.higher)) back)
    where
      rising : AllPairs (λ a b. a.number < b.number) (at.lower ++ at.row ∷ at.higher)
      rising = subst (AllPairs (λ a b. a.number < b.number)) at.parted v.rising

      below : All (λ a. All (λ b. a.number < b.number) (r ∷ [])) at.lower
      below =
          All-weaker (λ a. All (λ b. a.number < b.number) (at.row ∷ at.higher)) (λ a. All (λ b. a.number < b.number) (r ∷ []))
          (λ a h. All-cons (λ b. a.number < b.number) r [] (omega (arith, number_is, All-head (λ b. a.number < b.number) at.row at.higher h)) (All-nil (λ b. a.number < b.number)))
          at.lower (AllPairs-across (λ a b. a.number < b.number) at.lower (at.row ∷ at.higher) rising)

      above : All (λ b. r.number < b.number) at.higher
      above =
          subst (λ (n : ℕ). All (λ b. n < b.number) at.higher) (sym number_is)
          (AllPairs-head (λ a b. a.number < b.number) at.row at.higher (AllPairs-right (λ a b. a.number < b.number) at.lower (at.row ∷ at.higher) rising))

      in_study : (q : Observation) → Contains (at.lower ++ at.row ∷ at.higher) q → Contains s.rows q
      in_study q c = subst (λ (x : List Observation). Contains x q) (sym at.parted) c

      among : (q : Observation) → Contains (at.lower ++ (r ∷ at.higher)) q → Contains (names_of s) q.group
      among q c = go (parts_cases at.lower (r ∷ []) at.higher q c) where
        go : Contains (r ∷ []) q ⊎ Contains (at.lower ++ at.higher) q → Contains (names_of s) q.group
        go (inl h) =
            subst (λ (n : List ℕ). Contains (names_of s) n) (sym group_is ∙ ap (λ (x : Observation). x.group) (only_one r q h))
            (row_name s.rows at.row (in_study at.row (parts_mid at.lower (at.row ∷ []) at.higher at.row (0, omega arith, refl))))
        go (inr h) = row_name s.rows q (in_study q (parts_others at.lower (at.row ∷ []) at.higher q h))

      back : (q : Observation) → Contains s.rows q → Contains (group_names (at.lower ++ (r ∷ at.higher))) q.group
      back q c = go (parts_cases at.lower (at.row ∷ []) at.higher q (subst (λ (x : List Observation). Contains x q) at.parted c)) where
        go : Contains (at.row ∷ []) q ⊎ Contains (at.lower ++ at.higher) q → Contains (group_names (at.lower ++ (r ∷ at.higher))) q.group
        go (inl h) =
            subst (λ (n : List ℕ). Contains (group_names (at.lower ++ (r ∷ at.higher))) n) (group_is ∙ ap (λ (x : Observation). x.group) (only_one at.row q h))
            (row_name (at.lower ++ (r ∷ at.higher)) r (parts_mid at.lower (r ∷ []) at.higher r (0, omega arith, refl)))
        go (inr h) = row_name (at.lower ++ (r ∷ at.higher)) q (parts_others at.lower (r ∷ []) at.higher q h)
