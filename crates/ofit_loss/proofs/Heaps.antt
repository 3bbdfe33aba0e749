-- rows that are put into the two sides of a pool, and moved across
use Rattle.std.proofs.Common.{◌≡◌, ℕ, ◌+◌, ◌≤◌, ◌<◌, List, [], ◌∷◌, length, get_or, refl, sym, ap, subst, arith, cond, Bool, true, false, inl, inr, ◌*◌, ◌-◌, mul-le-mul_left, take, drop}
use Rattle.std.proofs.lemmas.Bool.{cases_order}
use Rattle.std.proofs.lemmas.Int.{ints}
use Rattle.std.proofs.lemmas.Cmp.{int_ranked}
use Rattle.std.proofs.lemmas.List.Elements.{All-from_recursion, All-cons, All-head, All-tail, All-weaker, All-get_or}
use Rattle.std.proofs.lemmas.List.Sums.{sum_by-cons, sum_by-le-sum_by, sum_by-take-drop}
use Rattle.std.proofs.lemmas.List.Sorted.{All-permutation, sum_by_pushed}
use Rattle.std.specs.Prelude.{ℤ, ◌≤ℤ◌, ◌<ℤ◌, All, sum_by, IsTrue}
use Rattle.std.specs.BinaryHeap.{IsUpperBound}
use Rattle.std.specs.List.Sorted.{IsPermutation}
use Rattle.std.specs.Ordering.{int_cmp, is_lt, MatchOrdering}
use Rattle.std.specs.declared.cmp.Ordering.{Ordering}
use Rattle.std.specs.declared.cmp.Ordering.TheVariants.{Less, Equal, Greater}
use Rattle.std.specs.declared.cmp.Reverse.{Reverse}
use Rattle.ofit_num.specs.declared.row.Row.{Row}
use Rattle.ofit_loss.specs.declared.entry.Entry.{Entry}
use Rattle.ofit_loss.specs.Entry.{entry_cmp}
use Rattle.ofit_loss.specs.Quantile.{entry_under, AreApart}

not_less : (x y : Entry) → is_lt (entry_cmp x y) ≡ false → y.value ≤ℤ x.value
not_less x y h = go (int_cmp x.value y.value) (int_ranked x.value y.value (int_cmp x.value y.value) refl) h where
  go : (o : Ordering) → MatchOrdering o (x.value <ℤ y.value) (x.value ≡ y.value) (y.value <ℤ x.value) → is_lt o ≡ false → y.value ≤ℤ x.value
  go Less l e = absurd (cc)
  go Equal l e = omega (arith, ints, l)
  go Greater l e = omega (arith, ints, l)

-- the top of each heap is the greatest, or the least
pub at_most_top : (x : Entry) (low : List Entry) → IsUpperBound entry_cmp x low → All (λ y. y.value ≤ℤ x.value) low
at_most_top x low h = All-weaker _ (λ y. y.value ≤ℤ x.value) (λ y e. not_less x y e) low (All-from_recursion _ low h)

pub at_least_top : (x : Reverse Entry) (high : List (Reverse Entry)) → IsUpperBound (λ a b. entry_cmp b.0 a.0) x high → All (λ y. x.0.value ≤ℤ y.0.value) high
at_least_top x high h = All-weaker _ (λ (y : Reverse Entry). x.0.value ≤ℤ y.0.value) (λ y e. not_less y.0 x.0 e) high (All-from_recursion _ high h)

-- one row more on the upper side, and on the lower one
pub apart_high : (low : List Entry) (high more : List (Reverse Entry)) (r : Reverse Entry) → AreApart low high → All (λ x. x.value ≤ℤ r.0.value) low → IsPermutation (r ∷ high) more → AreApart low more
apart_high low high more r apart one same = All-permutation (λ (y : Reverse Entry). All (λ x. x.value ≤ℤ y.0.value) low) (r ∷ high) more same (All-cons (λ (y : Reverse Entry). All (λ x. x.value ≤ℤ y.0.value) low) r high one apart)

pub apart_low : (low more : List Entry) (high : List (Reverse Entry)) (e : Entry) → AreApart low high → All (λ y. e.value ≤ℤ y.0.value) high → IsPermutation (e ∷ low) more → AreApart more high
apart_low low more high e apart one same = λ k d l. All-permutation (λ (x : Entry). x.value ≤ℤ (get_or high k d).0.value) (e ∷ low) more same (All-cons (λ (x : Entry). x.value ≤ℤ (get_or high k d).0.value) e low (one k d l) (apart k d l))

-- the top of the lower side goes up
pub apart_raised : (low rest : List Entry) (high more : List (Reverse Entry)) (e : Entry) (r : Reverse Entry) → AreApart low high → IsUpperBound entry_cmp e low → IsPermutation low (e ∷ rest) → r.0 ≡ e → IsPermutation (r ∷ high) more → AreApart rest more
apart_raised low rest high more e r apart top popped is pushed = apart_high rest high more r
    (λ k d l. All-tail (λ (x : Entry). x.value ≤ℤ (get_or high k d).0.value) e rest (All-permutation (λ (x : Entry). x.value ≤ℤ (get_or high k d).0.value) low (e ∷ rest) popped (apart k d l)))
    (subst (λ (t : Entry). All (λ x. x.value ≤ℤ t.value) rest) (sym is) (All-tail (λ (x : Entry). x.value ≤ℤ e.value) e rest (All-permutation (λ (x : Entry). x.value ≤ℤ e.value) low (e ∷ rest) popped (at_most_top e low top))))
    pushed

-- the top of the upper side goes down
pub apart_lowered : (low more : List Entry) (high rest : List (Reverse Entry)) (r : Reverse Entry) → AreApart low high → IsUpperBound (λ a b. entry_cmp b.0 a.0) r high → IsPermutation high (r ∷ rest) → IsPermutation (r.0 ∷ low) more → AreApart more rest
apart_lowered low more high rest r apart top popped pushed = apart_low low more rest r.0
    (All-tail (λ (y : Reverse Entry). All (λ x. x.value ≤ℤ y.0.value) low) r rest (All-permutation (λ (y : Reverse Entry). All (λ x. x.value ≤ℤ y.0.value) low) high (r ∷ rest) popped apart))
    (All-tail (λ (y : Reverse Entry). r.0.value ≤ℤ y.0.value) r rest (All-permutation (λ (y : Reverse Entry). r.0.value ≤ℤ y.0.value) high (r ∷ rest) popped (at_least_top r high top)))
    pushed

under_le : (v : ℤ) (e : Entry) → entry_under v e ≤ e.weight
under_le v e = go (is_lt (int_cmp e.value v)) where
  go : (b : Bool) → cond b e.weight 0 ≤ e.weight
  go true = omega arith
  go false = omega arith

-- what lies at a value or above it weighs nothing below it
pub none_under : (v : ℤ) (e : Entry) → v ≤ℤ e.value → entry_under v e ≡ 0
none_under v e h = go (int_cmp e.value v) (int_ranked e.value v (int_cmp e.value v) refl) where
  go : (o : Ordering) → MatchOrdering o (e.value <ℤ v) (e.value ≡ v) (v <ℤ e.value) → cond (is_lt o) e.weight 0 ≡ 0
  go Less l = absurd (omega (arith, ints, l))
  go Equal l = refl
  go Greater l = refl

under_all : (v : ℤ) (xs : List Entry) → sum_by (entry_under v) xs ≤ sum_by (λ e. e.weight) xs
under_all v xs = sum_by-le-sum_by (entry_under v) (λ e. e.weight) xs (under_le v)

-- Below each row of the lower side, to which one at least as great came, lies no more than that side weighed.
pub under_lowered : (low more : List Entry) (e : Entry) → All (λ x. x.value ≤ℤ e.value) low → IsPermutation (e ∷ low) more → All (λ x. sum_by (entry_under x.value) more ≤ sum_by (λ e. e.weight) low) more
under_lowered low more e least same = All-weaker (λ (x : Entry). x.value ≤ℤ e.value) (λ x. sum_by (entry_under x.value) more ≤ sum_by (λ e. e.weight) low)
    (λ x h. omega (arith, sum_by_pushed (entry_under x.value) e low more same, none_under x.value e h, under_all x.value low)) more
    (All-permutation (λ (x : Entry). x.value ≤ℤ e.value) (e ∷ low) more same (All-cons (λ (x : Entry). x.value ≤ℤ e.value) e low (omega (arith, ints)) least))

-- Below each row of the lower side lies at most what it weighs without its top.
pub under_top : (low : List Entry) (e : Entry) → 0 < length low → e ≡ get_or low 0 e → IsUpperBound entry_cmp e low → All (λ x. sum_by (entry_under x.value) low + e.weight ≤ sum_by (λ e. e.weight) low) low
under_top [] e some is top = absurd (omega arith)
under_top (y ∷ ys) e some is top = All-weaker (λ (x : Entry). x.value ≤ℤ e.value) (λ x. sum_by (entry_under x.value) (y ∷ ys) + e.weight ≤ sum_by (λ e. e.weight) (y ∷ ys))
    (λ x h. omega (
      arith,
      sum_by-cons (entry_under x.value) y ys,
      sum_by-cons (λ (e : Entry). e.weight) y ys,
      under_all x.value ys,
      none_under x.value y (subst (λ (t : Entry). x.value ≤ℤ t.value) is h),
      ap (λ (t : Entry). t.weight) is,
    )) (y ∷ ys) (at_most_top e (y ∷ ys) top)

-- a value above the least row of the upper side lies above the lower side
pub above_low : (low : List Entry) (high : List (Reverse Entry)) (r : Reverse Entry) (v : ℤ) → 0 < length high → r ≡ get_or high 0 r → AreApart low high → r.0.value <ℤ v → All (λ x. x.value ≤ℤ v) low
above_low low high r v some is apart l = All-weaker (λ (x : Entry). x.value ≤ℤ r.0.value) (λ x. x.value ≤ℤ v) (λ x h. omega (arith, ints, h, l)) low
    (subst (λ (t : Reverse Entry). All (λ x. x.value ≤ℤ t.0.value) low) (sym is) (All-get_or (λ (y : Reverse Entry). All (λ x. x.value ≤ℤ y.0.value) low) high 0 r some apart))

-- as does one above its top
pub above_top : (low : List Entry) (e : Entry) (v : ℤ) → e.value <ℤ v → IsUpperBound entry_cmp e low → All (λ x. x.value ≤ℤ v) low
above_top low e v l top = All-weaker (λ (x : Entry). x.value ≤ℤ e.value) (λ x. x.value ≤ℤ v) (λ x h. omega (arith, ints, h, l)) low (at_most_top e low top)

-- and one at most there below the upper side
pub below_high : (high : List (Reverse Entry)) (r : Reverse Entry) (v : ℤ) → v ≤ℤ r.0.value → IsUpperBound (λ a b. entry_cmp b.0 a.0) r high → All (λ y. v ≤ℤ y.0.value) high
below_high high r v l top = All-weaker (λ (y : Reverse Entry). r.0.value ≤ℤ y.0.value) (λ y. v ≤ℤ y.0.value) (λ y h. omega (arith, ints, h, l)) high (at_least_top r high top)

-- the least row of the upper side lies above the lower side
pub low_at_most : (low : List Entry) (high rest : List (Reverse Entry)) (r : Reverse Entry) → AreApart low high → IsPermutation high (r ∷ rest) → All (λ x. x.value ≤ℤ r.0.value) low
low_at_most low high rest r apart popped = All-head (λ (y : Reverse Entry). All (λ x. x.value ≤ℤ y.0.value) low) r rest (All-permutation (λ (y : Reverse Entry). All (λ x. x.value ≤ℤ y.0.value) low) high (r ∷ rest) popped apart)

-- k times what a side weighs without its top is less than the share s, so it is for what weighs no more
pub under_share : (k s under top side whole : ℕ) → under + top ≤ whole → side ≡ whole → (s ≤ k * (side - top) → ⊥) → k * under < s
under_share k s under top side whole h e fails = elim (cases_order (k * under) s) [
  | inl same ↦ absurd (fails (omega (arith, same, most)))
  | inr o ↦ elim o [ inl less ↦ less | inr more ↦ absurd (fails (omega (arith, more, most))) ]
] where
  most : k * under ≤ k * (side - top)
  most = mul-le-mul_left k (omega arith)

pub not_both : (b : Bool) → IsTrue b → b ≡ false → ⊥
not_both b holds fails = cc

-- a sum over rows that are parted twice
pub parted_sum : (f : Row → ℕ) (rows front rest sample back : List Row) (n k : ℕ) → front ≡ take n rows → rest ≡ drop n rows → sample ≡ take k rest → back ≡ drop k rest → sum_by f rows ≡ sum_by f front + (sum_by f sample + sum_by f back)
parted_sum f rows front rest sample back n k first second third fourth = omega (
  arith,
  sum_by-take-drop f rows n,
  sum_by-take-drop f rest k,
  ap (λ (xs : List Row). sum_by f xs) first,
  ap (λ (xs : List Row). sum_by f xs) second,
  ap (λ (xs : List Row). sum_by f xs) third,
  ap (λ (xs : List Row). sum_by f xs) fourth,
)
