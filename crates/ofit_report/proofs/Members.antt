-- Sums over the members of a block, and what their rows hold.
use Rattle.std.proofs.Common.{◌≡◌, ℕ, ◌<◌, ◌≤◌, ◌^◌, refl, sym, ap, ◌∙◌, arith, cond, Bool, true, false, List, [], ◌∷◌, length, length-append, get_or}
use Rattle.std.proofs.lemmas.Int.{ints}
use Rattle.std.proofs.lemmas.Bool.{eqb-true, eq-eqb, ne_eqb}
use Rattle.std.proofs.lemmas.List.Elements.{All-nil, All-append}
use Rattle.std.proofs.lemmas.List.Sums.{sum_by-append}
use Rattle.std.proofs.lemmas.Option.{slice_get-get_or}
use Rattle.std.specs.List.{Contains}
use Rattle.std.specs.List.Sorted.{IsStrictlyIncreasing}
use Rattle.std.specs.Prelude.{ℤ, pos, ◌+ℤ◌, ◌≤ℤ◌, All, nat_eq, slice_get, Some, Option, unwrap_or}
use Rattle.ofit_num.specs.declared.row.Row.{Row}
use Rattle.ofit_num.specs.Fit.{sum_below}
use Rattle.ofit_num.specs.RowTotals.{total_weight}
use Rattle.ofit_num.specs.RowLimits.{IsRowWithinLimits, AreWithinLimits}
use Rattle.ofit_num.specs.Loss.{row_sum}
use Rattle.ofit_num.specs.Sets.{set_sum}
use Rattle.ofit_num.proofs.Blocks.{set_sum-equal, set_sum-none}
use Rattle.ofit_num.proofs.Cuts.{union, set_sum-union}
use Rattle.ofit_num.proofs.Layers.{set_sum-is}
use Rattle.ofit_num.proofs.Lists.{All-slice_get}
use Rattle.ofit_num.proofs.RowLists.{group_within}
use Rattle.ofit_num.proofs.RowSums.{row_sum-sum_by}
use Rattle.ofit_num.proofs.Sums.{int_sum-at, int_sum-mono, int_sum-pos, sum_below-same}
use Rattle.ofit_order.proofs.DoubleCounting.{has, has-not}
use Rattle.ofit_order.proofs.Increasing.{Contains-cons, Contains-head, increasing_head, increasing_tail}
use Rattle.ofit_study.specs.Study.{Study, IsValid, names_of, groups_of, problem_stated, total_weight as study_weight}
use Rattle.ofit_study.proofs.Stating.{rows_within, rows_weighed, groups_filled}
use Rattle.ofit_report.specs.Cost.{rows_among}
use Rattle.ofit_study.proofs.Places.{group_count}

-- the sum over the members, one by one
abbrev pub member_sum : (ℕ → ℤ) → List ℕ → ℤ
member_sum f [] = pos 0
member_sum f (m ∷ members) = f m +ℤ member_sum f members

lone_sum : (m : ℕ) (f : ℕ → ℤ) (n : ℕ) → m < n → set_sum (nat_eq m) f n ≡ f m
lone_sum m f n l = set_sum-is (nat_eq m) f n ∙ int_sum-at (λ g. cond (nat_eq m g) (f g) (pos 0)) n m l
    (λ g b away. ap (λ (x : Bool). cond x (f g) (pos 0)) (ne_eqb m g (λ e. away (sym e))))
    ∙ ap (λ (x : Bool). cond x (f m) (pos 0)) (eq-eqb m m refl)

pub member_sum-has : (f : ℕ → ℤ) (members : List ℕ) (n : ℕ) → IsStrictlyIncreasing members → ((m : ℕ) → Contains members m → m < n) → set_sum (has members) f n ≡ member_sum f members
unfolding union
member_sum-has f [] n rising below = set_sum-none (has []) f n (λ g l. refl)
member_sum-has f (m ∷ members) n rising below = omega (
  arith,
  ints,
  member_sum-has f members n (increasing_tail m members rising) (λ p h. below p (Contains-cons m members p h)),
  lone_sum m f n (below m (Contains-head m members)),
  set_sum-union (nat_eq m) (has members) f n (λ g l e. has-not members g (λ h. absurd (omega (arith, eqb-true m g e, increasing_head m members g rising h)))),
  set_sum-equal (has (m ∷ members)) (union (nat_eq m) (has members)) f n (λ g l. refl),
)

pub member_sum-same : (f h : ℕ → ℤ) (members : List ℕ) → ((m : ℕ) → Contains members m → f m ≡ h m) → member_sum f members ≡ member_sum h members
member_sum-same f h [] same = refl
member_sum-same f h (m ∷ members) same = omega (arith, ints, same m (Contains-head m members), member_sum-same f h members (λ p c. same p (Contains-cons m members p c)))

module _ (s : Study) (v : IsValid s) where
  abbrev rows : ℕ → List Row
  rows = (problem_stated s).rows

  pub group_at : (g : ℕ) → g < length (groups_of s) → slice_get (groups_of s) g ≡ Some (rows g)
  group_at g l =
      let at : slice_get (groups_of s) g ≡ Some (get_or (groups_of s) g []) = slice_get-get_or (groups_of s) g [] l in
      at ∙ ap Some (sym (ap (λ (o : Option (List Row)). unwrap_or o []) at))

  -- the weight of some groups' rows
  weights : (members : List ℕ) → pos (total_weight (rows_among s members)) ≡ member_sum (λ g. pos (total_weight (rows g))) members
  weights [] = refl
  weights (m ∷ members) = omega (arith, ints, sum_by-append (λ (r : Row). r.weight) (rows m) (rows_among s members), weights members)

  set_at_most : (a : ℕ → Bool) (f : ℕ → ℕ) (n : ℕ) → set_sum a (λ g. pos (f g)) n ≤ℤ pos (sum_below f n)
  set_at_most a f n = omega (arith, ints, set_sum-is a (λ g. pos (f g)) n, int_sum-pos f n, int_sum-mono (λ g. cond (a g) (pos (f g)) (pos 0)) (λ g. pos (f g)) n (λ g l. some (a g) (f g))) where
    some : (b : Bool) (x : ℕ) → cond b (pos x) (pos 0) ≤ℤ pos x
    some true x = omega (arith, ints)
    some false x = omega (arith, ints)

  all_weight : sum_below (λ g. total_weight (rows g)) (length (groups_of s)) ≡ study_weight s.rows
  all_weight = sum_below-same (λ g. total_weight (rows g)) (λ g. row_sum (λ r. r.weight) (rows g)) (length (groups_of s)) (λ g l. sym (row_sum-sum_by (λ (r : Row). r.weight) (rows g))) ∙ sym (rows_weighed s)

  module _ (members : List ℕ) (rising : IsStrictlyIncreasing members) (inside : (m : ℕ) → Contains members m → m < length (names_of s)) where
    inside_groups : (m : ℕ) → Contains members m → m < length (groups_of s)
    inside_groups m h = omega (arith, inside m h, group_count s)

    together : total_weight (rows_among s members) ≤ 10 ^ 10
    together = omega (
      arith,
      ints,
      weights members,
      member_sum-has (λ g. pos (total_weight (rows g))) members (length (groups_of s)) rising inside_groups,
      set_at_most (has members) (λ g. total_weight (rows g)) (length (groups_of s)),
      all_weight,
      v.together,
    )

  each_within : (members : List ℕ) → ((m : ℕ) → Contains members m → m < length (groups_of s)) → All IsRowWithinLimits (rows_among s members)
  each_within [] inside = All-nil IsRowWithinLimits
  each_within (m ∷ members) inside =
      All-append IsRowWithinLimits (rows m) (rows_among s members)
      (group_within (groups_of s) m (rows m) (group_at m (inside m (Contains-head m members))) (rows_within s v)).each
      (each_within members (λ p h. inside p (Contains-cons m members p h)))

  pub among_within : (members : List ℕ) → IsStrictlyIncreasing members → ((m : ℕ) → Contains members m → m < length (names_of s)) → AreWithinLimits (rows_among s members)
  among_within members rising inside = record { each = each_within members (inside_groups members rising inside); together = together members rising inside }

  pub among_some : (members : List ℕ) → ((m : ℕ) → Contains members m → m < length (names_of s)) → 0 < length members → 0 < length (rows_among s members)
  among_some [] inside some = absurd (omega arith)
  among_some (m ∷ members) inside some = omega (
    arith,
    length-append (rows m) (rows_among s members),
    All-slice_get (λ (rows : List Row). 0 < length rows) (groups_of s) m (rows m) (groups_filled s) (group_at m (omega (arith, inside m (Contains-head m members), group_count s))),
  )
