-- A limit that rows pass is passed in one way, and not within the limits.
use Rattle.std.proofs.Common.{◌≡◌, ◌≢◌, ◌≤◌, ◌<◌, ◌+◌, ◌^◌, ◌++◌, ◌∙◌, ℕ, List, [], ◌∷◌, Bool, true, false, cond, length, sym, ap, append_assoc, append-nil, arith}
use Rattle.std.specs.Prelude.{All}
use Rattle.std.specs.List.{list_any}
use Rattle.std.proofs.lemmas.List.{length-append}
use Rattle.std.proofs.lemmas.List.Sums.{sum_by-append, sum_by-cons}
use Rattle.ofit_study.specs.Study.{Observation, group_names, is_same_name, most_groups, most_rows, total_weight}
use Rattle.ofit_study.proofs.GroupNames.{group_names-push, group_names-push_new}
use Rattle.ofit_table.specs.declared.fault.DataFault.{DataFault}
use Rattle.ofit_table.specs.declared.fault.DataFault.TheVariants.{TooManyRows, TooHeavy, TooManyGroups}
use Rattle.ofit_table.specs.Rows.{LimitFault}

cond_longer : (b : Bool) (names : List (List ℕ)) (name : List ℕ) → length names ≤ length (cond b names (names ++ name ∷ []))
cond_longer true names name = omega arith
cond_longer false names name = omega (arith, length-append names (name ∷ []))

push_longer : (rows : List Observation) (r : Observation) → length (group_names rows) ≤ length (group_names (rows ++ r ∷ []))
push_longer rows r = omega (arith, ap length (group_names-push rows r), cond_longer (list_any (is_same_name r.group) (group_names rows)) (group_names rows) r.group)

-- more rows have as many groups or more
groups_grow : (rest rows : List Observation) → length (group_names rows) ≤ length (group_names (rows ++ rest))
groups_grow [] rows = omega (arith, ap (λ (t : List Observation). length (group_names t)) (append-nil rows))
groups_grow (r ∷ rest) rows =
    omega (arith, push_longer rows r, groups_grow rest (rows ++ r ∷ []), ap (λ (t : List Observation). length (group_names t)) (append_assoc rows (r ∷ []) rest))

module _ (before : List Observation) (group : List ℕ) (weight number : ℕ) where
  -- the limit that a row passes
  data LimitCase (fault : DataFault) : Type 0 where
    too_many : most_rows ≤ length before → fault ≡ TooManyRows number → LimitCase fault
    too_heavy : length before < most_rows → 10 ^ 10 < total_weight before + weight → fault ≡ TooHeavy number → LimitCase fault
    too_wide : length before < most_rows → total_weight before + weight ≤ 10 ^ 10 → All (λ known. known ≢ group) (group_names before) → most_groups ≤ length (group_names before) → fault ≡ TooManyGroups number → LimitCase fault

  limit_case : (fault : DataFault) → LimitFault before group weight number fault → LimitCase fault
  limit_case (TooManyRows n) (e, many) = too_many many (ap TooManyRows e)
  limit_case (TooHeavy n) (e, few, much) = too_heavy few much (ap TooHeavy e)
  limit_case (TooManyGroups n) (e, few, light, new, full) = too_wide few light new full (ap TooManyGroups e)
  limit_case fault h = absurd h

  by_case : (f g : DataFault) → LimitCase f → LimitCase g → f ≡ g
  by_case f g (too_many h e) (too_many k q) = e ∙ sym q
  by_case f g (too_many h e) (too_heavy k l q) = absurd (omega (arith, h, k))
  by_case f g (too_many h e) (too_wide k l m o q) = absurd (omega (arith, h, k))
  by_case f g (too_heavy h i e) (too_many k q) = absurd (omega (arith, h, k))
  by_case f g (too_heavy h i e) (too_heavy k l q) = e ∙ sym q
  by_case f g (too_heavy h i e) (too_wide k l m o q) = absurd (omega (arith, i, l))
  by_case f g (too_wide h i j p e) (too_many k q) = absurd (omega (arith, h, k))
  by_case f g (too_wide h i j p e) (too_heavy k l q) = absurd (omega (arith, i, l))
  by_case f g (too_wide h i j p e) (too_wide k l m o q) = e ∙ sym q

  pub limit_one : (f g : DataFault) → LimitFault before group weight number f → LimitFault before group weight number g → f ≡ g
  limit_one f g h k = by_case f g (limit_case f h) (limit_case g k)

-- rows within the limits
record AreWithin (rows : List Observation) : Type 0 where
  few : length rows ≤ most_rows
  light : total_weight rows ≤ 10 ^ 10
  groups : length (group_names rows) ≤ most_groups

within_limits : (before rest : List Observation) (row : Observation) (number : ℕ) (fault : DataFault) → LimitCase before row.group row.weight number fault → AreWithin (before ++ row ∷ rest) → ⊥
within_limits before rest row number fault (too_many h e) w = absurd (omega (arith, h, w.few, length-append before (row ∷ rest)))
within_limits before rest row number fault (too_heavy h i e) w =
    absurd (omega (arith, i, w.light, sum_by-append (λ (r : Observation). r.weight) before (row ∷ rest), sum_by-cons (λ (r : Observation). r.weight) row rest))
within_limits before rest row number fault (too_wide h i new full e) w =
    let more = ap length (group_names-push_new before row new) ∙ length-append (group_names before) (row.group ∷ []) in
    let all = groups_grow rest (before ++ row ∷ []) in
    let same = ap (λ (t : List Observation). length (group_names t)) (append_assoc before (row ∷ []) rest) in
    absurd (omega (arith, full, w.groups, more, all, same))

pub no_limit : (before rest : List Observation) (row : Observation) (number : ℕ) (fault : DataFault) → LimitFault before row.group row.weight number fault
    → length (before ++ row ∷ rest) ≤ most_rows → total_weight (before ++ row ∷ rest) ≤ 10 ^ 10 → length (group_names (before ++ row ∷ rest)) ≤ most_groups → ⊥
no_limit before rest row number fault h few light groups =
    within_limits before rest row number fault (limit_case before row.group row.weight number fault h) (record { few = few; light = light; groups = groups })
