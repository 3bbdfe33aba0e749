-- the rows of some places taken together
use Rattle.std.proofs.Common.{◌≡◌, ℕ, zero, suc, ◌+◌, ◌*◌, ◌^◌, ◌<◌, ◌≤◌, refl, sym, ap, subst, ◌∙◌, arith, cond, Bool, true, false, List, [], ◌∷◌, ◌++◌, length, take, map, get_or, length-append, max}
use Rattle.std.proofs.Math.Nat.{le-max_left, le-max_right, max-le}
use Rattle.std.proofs.lemmas.Int.{ints}
use Rattle.std.proofs.lemmas.List.{take_all, take_more, map-append}
use Rattle.std.proofs.lemmas.List.Sums.{sum_by-append, sum_by-cons}
use Rattle.std.proofs.lemmas.List.Elements.{All-nil, All-append, All-head, All-tail}
use Rattle.std.specs.Prelude.{ℤ, pos, ◌+ℤ◌, ◌≤ℤ◌, All, Any, slice_get, Some, unwrap_or, nat_lt, unsigned_abs}
use Rattle.std.specs.List.{AllPairs, flat_map}
use Rattle.ofit_num.specs.declared.row.Row.{Row}
use Rattle.ofit_num.specs.Groups.{RowLists}
use Rattle.ofit_num.specs.Problem.{Problem}
use Rattle.ofit_num.specs.Unbounded.{no_bounds}
use Rattle.ofit_num.specs.Meaning.{Meaning}
use Rattle.ofit_num.specs.Fraction.{Fraction}
use Rattle.ofit_num.specs.Law.{least_at, greatest_at}
use Rattle.ofit_num.specs.RowTotals.{total_weight, all_rows}
use Rattle.ofit_num.specs.RowLimits.{IsRowWithinLimits}
use Rattle.ofit_num.specs.Sets.{set_sum}
use Rattle.ofit_num.proofs.RowLists.{all_rows-take_more, group_at}
use Rattle.ofit_num.proofs.Lists.{All-slice_get}
use Rattle.ofit_loss.specs.Rows.{AreFittable, IsPlain, special_count}
use Rattle.ofit_loss.specs.Laws.{HasLossLaws}
use Rattle.ofit_loss.specs.Least.{IsLeastMinimiser, balance_sizes}
use Rattle.ofit_loss.proofs.ProblemLaws.{fittable-front, fittable-back, groups_fittable, pooled_minimiser, pooled_costs}
use Rattle.ofit_cut.specs.Sets.{total_size}
use Rattle.ofit_partition.specs.Piece.{holds, rows_of, partition_problem}
use Rattle.ofit_partition.specs.Cut.{span_sizes, IsPooledValue}
use Rattle.ofit_partition.proofs.Places.{place_sum, place_sum-holds}
use Rattle.ofit_num.proofs.Order.{size_add}

-- what adds over rows is over a set of groups at most what it is over all
set_bound : (F : List Row → ℕ) → ((xs ys : List Row) → F (xs ++ ys) ≡ F xs + F ys) → (groups : RowLists) (a : ℕ → Bool) (n : ℕ) → n ≤ length groups
    → set_sum a (λ g. pos (F (rows_of groups g))) n ≤ℤ pos (F (all_rows (take n groups)))
set_bound F adds groups a zero l = omega (arith, ints)
set_bound F adds groups a (suc n) l =
    let k : (rows : List Row) × (slice_get groups n ≡ Some rows) = group_at groups n (omega arith) in
    let more : F (all_rows (take (suc n) groups)) ≡ F (all_rows (take n groups)) + F k.0 = ap F (all_rows-take_more groups n k.0 k.1) ∙ adds (all_rows (take n groups)) k.0 in
    let here : F (rows_of groups n) ≡ F k.0 = ap (λ o. F (unwrap_or o [])) k.1 in
    go (a n) (set_bound F adds groups a n (omega arith)) more here where
      go : (x : Bool) → {i : ℕ} → {b c e : ℕ} → {z : ℤ} → z ≤ℤ pos b → c ≡ b + e → i ≡ e → (z +ℤ cond x (pos i) (pos 0)) ≤ℤ pos c
      go true h m q = omega (arith, ints)
      go false h m q = omega (arith, ints)

rows_sum : (F : List Row → ℕ) → ((xs ys : List Row) → F (xs ++ ys) ≡ F xs + F ys) → F [] ≡ 0 → (groups : RowLists) (places : List ℕ)
    → pos (F (flat_map (rows_of groups) places)) ≡ place_sum (λ g. pos (F (rows_of groups g))) places
rows_sum F adds none groups [] = ap pos none
rows_sum F adds none groups (p ∷ places) = omega (arith, ints, adds (rows_of groups p) (flat_map (rows_of groups) places), rows_sum F adds none groups places)

-- so it is at most that for the rows of some places
rows_bound : (F : List Row → ℕ) → ((xs ys : List Row) → F (xs ++ ys) ≡ F xs + F ys) → F [] ≡ 0 → (groups : RowLists) (places : List ℕ) → AllPairs (λ x y. x < y) places → All (λ g. g < length groups) places
    → F (flat_map (rows_of groups) places) ≤ F (all_rows groups)
rows_bound F adds none groups places rising below = omega (
  arith,
  ints,
  rows_sum F adds none groups places,
  place_sum-holds (λ g. pos (F (rows_of groups g))) places (length groups) rising below,
  set_bound F adds groups (holds places) (length groups) (omega arith),
  ap (λ (gs : RowLists). F (all_rows gs)) (take_all (length groups) groups (omega arith)),
)

module _ (groups : RowLists) (fit : AreFittable (all_rows groups)) where
  pub group_fits : (g : ℕ) → g < length groups → AreFittable (rows_of groups g)
  group_fits g l = (groups_fittable groups [] no_bounds fit).groups g l

  rows_within : (places : List ℕ) → All (λ g. g < length groups) places → All IsRowWithinLimits (flat_map (rows_of groups) places)
  rows_within [] below = All-nil IsRowWithinLimits
  rows_within (p ∷ places) below = All-append IsRowWithinLimits (rows_of groups p) (flat_map (rows_of groups) places) (group_fits p (All-head (λ g. g < length groups) p places below)).limits.each
      (rows_within places (All-tail (λ g. g < length groups) p places below))

  pub rows_fit : (places : List ℕ) → AllPairs (λ x y. x < y) places → All (λ g. g < length groups) places → AreFittable (flat_map (rows_of groups) places)
  rows_fit places rising below = record {
    limits = record {
      each = rows_within places below;
      together = omega (arith, rows_bound total_weight (λ xs ys. sum_by-append (λ (r : Row). r.weight) xs ys) refl groups places rising below, fit.limits.together);
    };
    special = omega (arith, rows_bound special_count (λ xs ys. sum_by-append (λ (r : Row). cond (nat_lt 4294967293 r.number) 1 0) xs ys) refl groups places rising below, fit.special);
  }

some_rows : (rows : List Row) → Any IsPlain rows → 0 < length rows
some_rows rows h = omega (arith, h.2)

at_group : (P : List Row → Type 0) (groups : RowLists) (g : ℕ) → All P groups → g < length groups → P (rows_of groups g)
at_group P groups g h l =
    let k : (rows : List Row) × (slice_get groups g ≡ Some rows) = group_at groups g l in
    subst P (ap (λ o. unwrap_or o []) (sym k.1)) (All-slice_get P groups g k.0 h k.1)

pub plain_at : (groups : RowLists) (g : ℕ) → All (λ rows. Any IsPlain rows) groups → g < length groups → Any IsPlain (rows_of groups g)
plain_at groups g h l = at_group (λ rows. Any IsPlain rows) groups g h l

pub rows_some : (groups : RowLists) (places : List ℕ) → All (λ rows. Any IsPlain rows) groups → All (λ g. g < length groups) places → 0 < length places → 0 < length (flat_map (rows_of groups) places)
rows_some groups [] plain below some = absurd (omega arith)
rows_some groups (p ∷ places) plain below some = omega (
  arith,
  length-append (rows_of groups p) (flat_map (rows_of groups) places),
  some_rows (rows_of groups p) (plain_at groups p plain (All-head (λ g. g < length groups) p places below)),
)

module _ (m : Meaning) (strict : Bool) (laws : HasLossLaws m strict) where
  -- the ends of rows' span are at most the sizes of the rows' balances
  end_sizes : (c : Fraction) → 0 < c.den → (rows : List Row) → AreFittable rows → (unsigned_abs (m.least rows c.num c.den) ≤ balance_sizes m rows c) × (unsigned_abs (m.greatest rows c.num c.den) ≤ balance_sizes m rows c)
  end_sizes c l [] fit = (omega (arith, ap unsigned_abs (laws.none.least c.num c.den l)), omega (arith, ap unsigned_abs (laws.none.greatest c.num c.den l)))
  end_sizes c l (r ∷ rows) fit =
      let rest : (unsigned_abs (m.least rows c.num c.den) ≤ balance_sizes m rows c) × (unsigned_abs (m.greatest rows c.num c.den) ≤ balance_sizes m rows c) = end_sizes c l rows (fittable-back (r ∷ []) rows fit) in
      let sum : balance_sizes m (r ∷ rows) c ≡ max (unsigned_abs (m.least (r ∷ []) c.num c.den)) (unsigned_abs (m.greatest (r ∷ []) c.num c.den)) + balance_sizes m rows c =
      sum_by-cons (λ r. max (unsigned_abs (m.least (r ∷ []) c.num c.den)) (unsigned_abs (m.greatest (r ∷ []) c.num c.den))) r rows in (
        omega (
          arith,
          sum,
          rest.0,
          ap unsigned_abs ((laws.sums (r ∷ []) rows fit).least c.num c.den l),
          size_add (m.least (r ∷ []) c.num c.den) (m.least rows c.num c.den),
          le-max_left (unsigned_abs (m.least (r ∷ []) c.num c.den)) (unsigned_abs (m.greatest (r ∷ []) c.num c.den)),
        ),
        omega (
          arith,
          sum,
          rest.1,
          ap unsigned_abs ((laws.sums (r ∷ []) rows fit).greatest c.num c.den l),
          size_add (m.greatest (r ∷ []) c.num c.den) (m.greatest rows c.num c.den),
          le-max_right (unsigned_abs (m.least (r ∷ []) c.num c.den)) (unsigned_abs (m.greatest (r ∷ []) c.num c.den)),
        ),
      )

  module _ (groups : RowLists) (pairs : List (ℕ × ℕ)) (c : Fraction) (lc : 0 < c.den) where
    least_sum : (places : List ℕ) → AreFittable (flat_map (rows_of groups) places) → m.least (flat_map (rows_of groups) places) c.num c.den ≡ place_sum (least_at m (partition_problem groups pairs) c) places
    least_sum [] fit = laws.none.least c.num c.den lc
    least_sum (p ∷ places) fit = (laws.sums (rows_of groups p) (flat_map (rows_of groups) places) fit).least c.num c.den lc
        ∙ ap (λ (z : ℤ). m.least (rows_of groups p) c.num c.den +ℤ z) (least_sum places (fittable-back (rows_of groups p) (flat_map (rows_of groups) places) fit))

    greatest_sum : (places : List ℕ) → AreFittable (flat_map (rows_of groups) places) → m.greatest (flat_map (rows_of groups) places) c.num c.den ≡ place_sum (greatest_at m (partition_problem groups pairs) c) places
    greatest_sum [] fit = laws.none.greatest c.num c.den lc
    greatest_sum (p ∷ places) fit = (laws.sums (rows_of groups p) (flat_map (rows_of groups) places) fit).greatest c.num c.den lc
        ∙ ap (λ (z : ℤ). m.greatest (rows_of groups p) c.num c.den +ℤ z) (greatest_sum places (fittable-back (rows_of groups p) (flat_map (rows_of groups) places) fit))

    sizes_small : (places : List ℕ) → AreFittable (flat_map (rows_of groups) places) → span_sizes m (partition_problem groups pairs) c places ≤ balance_sizes m (flat_map (rows_of groups) places) c
    sizes_small [] fit = omega arith
    sizes_small (p ∷ places) fit =
        let one : (unsigned_abs (m.least (rows_of groups p) c.num c.den) ≤ balance_sizes m (rows_of groups p) c) × (unsigned_abs (m.greatest (rows_of groups p) c.num c.den) ≤ balance_sizes m (rows_of groups p) c) =
        end_sizes c lc (rows_of groups p) (fittable-front (rows_of groups p) (flat_map (rows_of groups) places) fit) in
        omega (
          arith,
          sum_by-cons (λ g. max (unsigned_abs (least_at m (partition_problem groups pairs) c g)) (unsigned_abs (greatest_at m (partition_problem groups pairs) c g))) p places,
          max-le one.0 one.1,
          sum_by-append (λ r. max (unsigned_abs (m.least (r ∷ []) c.num c.den)) (unsigned_abs (m.greatest (r ∷ []) c.num c.den))) (rows_of groups p) (flat_map (rows_of groups) places),
          sizes_small places (fittable-back (rows_of groups p) (flat_map (rows_of groups) places) fit),
        )

  -- the least minimiser of the rows of some places is that of the places
  pub pooled_places : (groups : RowLists) (pairs : List (ℕ × ℕ)) (places : List ℕ) (c : Fraction) → AreFittable (all_rows groups) → AllPairs (λ x y. x < y) places → All (λ g. g < length groups) places
      → IsLeastMinimiser m strict (flat_map (rows_of groups) places) c → balance_sizes m (flat_map (rows_of groups) places) c ≤ 2 * 10 ^ 33 → IsPooledValue m (partition_problem groups pairs) strict places c
  pooled_places groups pairs places c fit rising below low small = record {
    pooled = pooled_minimiser m strict (partition_problem groups pairs) (holds places) (flat_map (rows_of groups) places) c
        (λ b lb. least_sum groups pairs b lb places fits ∙ place_sum-holds (least_at m (partition_problem groups pairs) b) places (length groups) rising below) low;
    costs = pooled_costs m strict (partition_problem groups pairs) (holds places) (flat_map (rows_of groups) places) c
        (λ b lb. greatest_sum groups pairs b lb places fits ∙ place_sum-holds (greatest_at m (partition_problem groups pairs) b) places (length groups) rising below) low;
    small = omega (arith, small, sizes_small groups pairs c low.den places fits);
  } where
    fits : AreFittable (flat_map (rows_of groups) places)
    fits = rows_fit groups fit places rising below

-- the least and the greatest ends of the places are no greater than the sizes of their spans
pub least_sizes : (m : Meaning) (s : Problem) (c : Fraction) (places : List ℕ) → total_size (map (least_at m s c) places) ≤ span_sizes m s c places
least_sizes m s c [] = omega arith
least_sizes m s c (p ∷ places) = omega (
  arith,
  sum_by-cons unsigned_abs (least_at m s c p) (map (least_at m s c) places),
  sum_by-cons (λ g. max (unsigned_abs (least_at m s c g)) (unsigned_abs (greatest_at m s c g))) p places,
  le-max_left (unsigned_abs (least_at m s c p)) (unsigned_abs (greatest_at m s c p)),
  least_sizes m s c places,
)

pub greatest_sizes : (m : Meaning) (s : Problem) (c : Fraction) (places : List ℕ) → total_size (map (greatest_at m s c) places) ≤ span_sizes m s c places
greatest_sizes m s c [] = omega arith
greatest_sizes m s c (p ∷ places) = omega (
  arith,
  sum_by-cons unsigned_abs (greatest_at m s c p) (map (greatest_at m s c) places),
  sum_by-cons (λ g. max (unsigned_abs (least_at m s c g)) (unsigned_abs (greatest_at m s c g))) p places,
  le-max_right (unsigned_abs (least_at m s c p)) (unsigned_abs (greatest_at m s c p)),
  greatest_sizes m s c places,
)

-- one place more
pub push_more : (f : ℕ → ℤ) (places : List ℕ) (i : ℕ) (xs ys : List ℤ) (y : ℤ) → i < length places → xs ≡ map f (take i places) → ys ≡ xs ++ y ∷ [] → y ≡ f (get_or places i 0) → ys ≡ map f (take (i + 1) places)
push_more f places i xs ys y l so_far new here = new ∙ ap (λ zs. zs ++ y ∷ []) so_far ∙ ap (λ z. map f (take i places) ++ z ∷ []) here ∙ sym (map-append f (take i places) (get_or places i 0 ∷ [])) ∙ ap (map f) (sym (take_more places i 0 l))
