-- Studies in which rows of one group come in place of others of it.
use Rattle.std.proofs.Common.{◌≡◌, ◌≢◌, ℕ, ◌+◌, ◌<◌, ◌≤◌, ◌⊎◌, inl, inr, min, List, [], ◌∷◌, ◌++◌, refl, sym, ap, ap₂, ◌∙◌, subst, arith, length, take, drop, append-nil, append_assoc, Bool, true, cond}
use Rattle.std.proofs.Math.Seq.{drop-append_seam}
use Rattle.std.proofs.lemmas.List.{drop_all, get_or-map, length-map}
use Rattle.std.proofs.lemmas.List.Elements.{All-append, All-filter, All-head, All-map, All-tail, All-weaker}
use Rattle.std.proofs.lemmas.Bool.{cases_order}
use Rattle.std.proofs.lemmas.List.Kept.{AllPairs-filter}
use Rattle.std.specs.Prelude.{pos, All, AllPairs, filter, map}
use Rattle.ofit_num.specs.declared.row.Row.{Row}
use Rattle.ofit_study.specs.Splice.{IsCut, IsSpliced}
use Rattle.ofit_study.specs.Study.{Observation, Study, group_names, is_same_name, names_of, plain_row, rows_named}
use Rattle.ofit_study.proofs.Bisecting.{cut_back, cut_front}
use Rattle.ofit_study.proofs.Editing.{named-append, named-cons}
use Rattle.ofit_study.proofs.GroupNames.{group_names-push, is_same, with_name}
use Rattle.ofit_study.proofs.Touching.{named_apart}

-- names that rows give are settled by those that the first rows give
pub same_front : (xs ys rest : List Observation) → group_names xs ≡ group_names ys → group_names (xs ++ rest) ≡ group_names (ys ++ rest)
same_front xs ys [] e = ap group_names (append-nil xs) ∙ e ∙ sym (ap group_names (append-nil ys))
same_front xs ys (r ∷ rest) e =
    ap group_names (sym (append_assoc xs (r ∷ []) rest))
    ∙ same_front (xs ++ r ∷ []) (ys ++ r ∷ []) rest (group_names-push xs r ∙ ap (λ (t : List (List ℕ)). with_name t r.group) e ∙ sym (group_names-push ys r))
    ∙ ap group_names (append_assoc ys (r ∷ []) rest)

-- rows of one group are all of its rows
named_all : (rows : List Observation) (name : List ℕ) → All (λ r. r.group ≡ name) rows → rows_named rows name ≡ map plain_row rows
named_all [] name h = refl
named_all (r ∷ rows) name h =
    let same : r.group ≡ name = All-head (λ q. q.group ≡ name) r rows h in
    named-cons r rows name
    ∙ ap (λ (t : Bool). cond t (plain_row r ∷ rows_named rows name) (rows_named rows name)) (subst (λ (n : List ℕ). is_same_name name n ≡ true) (sym same) (is_same name))
    ∙ ap (λ (t : List Row). plain_row r ∷ t) (named_all rows name (All-tail (λ q. q.group ≡ name) r rows h))

-- what holds of the numbers of rows holds of those of a group
named_numbers : (P : ℕ → Type 0) (rows : List Observation) (name : List ℕ) → All (λ r. P r.number) rows → All (λ r. P r.number) (rows_named rows name)
named_numbers P rows name h =
    All-map (λ (r : Row). P r.number) plain_row (filter (λ r. is_same_name name r.group) rows) (All-filter (λ r. is_same_name name r.group) (λ (r : Observation). P r.number) rows h)

-- and rows that rise by their numbers do so in each group
pub named_rising : (rows : List Observation) (name : List ℕ) → AllPairs (λ a b. a.number < b.number) rows → AllPairs (λ q r. q.number < r.number) (rows_named rows name)
named_rising rows name h i j d l k =
    let found : List Observation = filter (λ r. is_same_name name r.group) rows in
    let e : Observation = record { number = 0; group = []; value = pos 0; weight = 0 } in
    let last : j < length found = omega (arith, k, length-map found plain_row) in
    omega (
      arith,
      AllPairs-filter (λ a b. a.number < b.number) (λ r. is_same_name name r.group) rows h i j e l last,
      ap (λ (r : Row). r.number) (get_or-map plain_row found i e d (omega (arith, l, last))),
      ap (λ (r : Row). r.number) (get_or-map plain_row found j e d last),
    )

-- past the end of a list there is nothing
pub drop_least : (rows : List Row) (n end : ℕ) → end ≡ min (length rows) n → drop end rows ≡ drop n rows
drop_least rows n end e = go (cases_order n (length rows)) where
  go : (n ≡ length rows) ⊎ ((n < length rows) ⊎ (length rows < n)) → drop end rows ≡ drop n rows
  go (inl same) =
      let there : end ≡ n = omega (arith, e, same) in
      ap (λ (k : ℕ). drop k rows) there
  go (inr (inl l)) =
      let there : end ≡ n = omega (arith, e, l) in
      ap (λ (k : ℕ). drop k rows) there
  go (inr (inr l)) = drop_all end rows (omega (arith, e, l)) ∙ sym (drop_all n rows (omega (arith, l)))

no_row : Row
no_row = record { number = 0; value = pos 0; weight = 0 }

module _ (s : Study) (lower old new higher : List Observation) (parted : s.rows ≡ lower ++ (old ++ higher)) (name : List ℕ) (of_old : All (λ r. r.group ≡ name) old) (of_new : All (λ r. r.group ≡ name) new) where
  pub spliced_names : group_names (lower ++ new) ≡ group_names (lower ++ old) → group_names (lower ++ (new ++ higher)) ≡ names_of s
  spliced_names front =
      ap group_names (sym (append_assoc lower new higher))
      ∙ same_front (lower ++ new) (lower ++ old) higher front
      ∙ ap group_names (append_assoc lower old higher ∙ sym parted)

  apart : (rows : List Observation) (n : List ℕ) → n ≢ name → All (λ r. r.group ≡ name) rows → All (λ r. n ≢ r.group) rows
  apart rows n d h = All-weaker (λ r. r.group ≡ name) (λ r. n ≢ r.group) (λ r e same. d (same ∙ e)) rows h

  pub spliced_others : (n : List ℕ) → n ≢ name → rows_named (lower ++ (new ++ higher)) n ≡ rows_named s.rows n
  spliced_others n d =
      named_apart lower new higher n (apart new n d of_new)
      ∙ sym (ap (λ (t : List Observation). rows_named t n) parted ∙ named_apart lower old higher n (apart old n d of_old))

  own_parts : (mid : List Observation) → All (λ r. r.group ≡ name) mid → rows_named (lower ++ (mid ++ higher)) name ≡ rows_named lower name ++ (map plain_row mid ++ rows_named higher name)
  own_parts mid h =
      named-append lower (mid ++ higher) name
      ∙ ap (λ (t : List Row). rows_named lower name ++ t) (named-append mid higher name ∙ ap (λ (t : List Row). t ++ rows_named higher name) (named_all mid name h))

  -- the group's own rows, spliced at the number
  pub spliced_own : (number taken : ℕ) (group put made : List Row) → group ≡ rows_named s.rows name → put ≡ map plain_row new → taken ≡ length old
      → All (λ r. r.number < number) lower → All (λ r. number ≤ r.number) old → All (λ r. number ≤ r.number) higher → IsSpliced group number taken put made → made ≡ rows_named (lower ++ (new ++ higher)) name
  spliced_own number taken group put made is_group is_put count below at above sp =
      sp.made_of
      ∙ ap₂ (λ (x y : List Row). x ++ (put ++ y)) front back
      ∙ ap (λ (x : List Row). rows_named lower name ++ (x ++ rows_named higher name)) is_put
      ∙ sym (own_parts new of_new)
    where
      first : List Row
      first = rows_named lower name

      rest : List Row
      rest = map plain_row old ++ rows_named higher name

      parts : group ≡ first ++ rest
      parts = is_group ∙ ap (λ (t : List Observation). rows_named t name) parted ∙ own_parts old of_old

      under : All (λ r. r.number < number) first
      under = named_numbers (λ n. n < number) lower name below

      over : All (λ r. number ≤ r.number) rest
      over =
          All-append (λ (r : Row). number ≤ r.number) (map plain_row old) (rows_named higher name) (All-map (λ (r : Row). number ≤ r.number) plain_row old at)
          (named_numbers (λ n. number ≤ n) higher name above)

      front : take sp.cut group ≡ first
      front = ap (take sp.cut) parts ∙ cut_front (λ (r : Row). r.number) first rest number sp.cut no_row under over (subst (λ (t : List Row). IsCut (λ (r : Row). r.number) t number sp.cut) parts sp.is)

      counted : taken ≡ length (map plain_row old)
      counted = count ∙ sym (length-map old plain_row)

      back : drop (sp.cut + taken) group ≡ rows_named higher name
      back =
          ap (drop (sp.cut + taken)) parts
          ∙ cut_back (λ (r : Row). r.number) first rest number sp.cut no_row under over (subst (λ (t : List Row). IsCut (λ (r : Row). r.number) t number sp.cut) parts sp.is) taken
          ∙ ap (λ (n : ℕ). drop n rest) counted
          ∙ drop-append_seam (map plain_row old) (rows_named higher name)
