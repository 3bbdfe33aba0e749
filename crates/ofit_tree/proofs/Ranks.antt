-- ranks and the order of values
use Rattle.std.proofs.Common.{◌≡◌, ℕ, ◌<◌, arith}
use Rattle.std.proofs.lemmas.Int.{ints, by_lt_z}
use Rattle.std.specs.Prelude.{ℤ, pos, ◌*ℤ◌, ◌≤ℤ◌, neg_ℤ}
use Rattle.ofit_num.specs.Fraction.{Fraction, AtMost, SameValue}
use Rattle.ofit_num.proofs.Gap.{is_gap, gap-same, gap-mul, gap-neg, pos-gap}
use Rattle.ofit_tree.specs.declared.direction.Direction.{Direction}
use Rattle.ofit_tree.specs.declared.direction.Direction.TheVariants.{RootGreatest, RootLeast}
use Rattle.ofit_tree.specs.Entry.{IsInOrder, rank_of}
use Rattle.ofit_num.proofs.Division.{at_most_trans}

negated : (x : ℤ) (k : ℕ) → neg_ℤ x *ℤ pos k ≡ neg_ℤ (x *ℤ pos k)
negated x k = rw (is_gap x) (simp (pos-gap, gap-neg, gap-mul) (gap-same _ _ _ _ (omega arith)))

same_at_most : (x y : Fraction) → SameValue x y → AtMost y x
same_at_most x y e = omega (arith, ints, e)

pub rank_den : (d : Direction) (x : Fraction) → 0 < x.den → 0 < (rank_of d x).den
rank_den RootGreatest x l = l
rank_den RootLeast x l = l

-- a value whose rank is at most the rank of another one stands before it
pub in_order_from_ranks : (d : Direction) (x y r : Fraction) → 0 < x.den → 0 < y.den → 0 < r.den → AtMost (rank_of d x) r → SameValue (rank_of d y) r → IsInOrder d x y
in_order_from_ranks RootGreatest x y r lx ly lr h e = at_most_trans x r y lx lr ly h (same_at_most y r e)
in_order_from_ranks RootLeast x y r lx ly lr h e =
    let both : (neg_ℤ x.num *ℤ pos y.den) ≤ℤ (neg_ℤ y.num *ℤ pos x.den) =
    at_most_trans (rank_of RootLeast x) r (rank_of RootLeast y) lx lr ly h (same_at_most (rank_of RootLeast y) r e) in
    omega (arith, ints, both, negated x.num y.den, negated y.num x.den)

-- of two values one stands before the other
pub in_order_either : {A : Type 0} (d : Direction) (x y : Fraction) → (IsInOrder d x y → A) → (IsInOrder d y x → A) → A
in_order_either RootGreatest x y f g = by_lt_z (x.num *ℤ pos y.den) (y.num *ℤ pos x.den) (λ h. f (omega (arith, ints))) (λ h. g h)
in_order_either RootLeast x y f g = by_lt_z (x.num *ℤ pos y.den) (y.num *ℤ pos x.den) (λ h. g (omega (arith, ints))) (λ h. f h)
