-- Groups that pairs of equal values connect have one value.
use Rattle.std.proofs.Common.{◌≡◌, ℕ, ◌<◌, inl, inr, refl, sym, ap, ◌∙◌, arith, true, List, length, get_or}
use Rattle.std.proofs.lemmas.Bool.Decides.{Decides-int_eq}
use Rattle.std.proofs.lemmas.List.Elements.{All-filter, All-contains, All-contains_itself, filter_passes}
use Rattle.std.proofs.lemmas.Option.{slice_get-get_or}
use Rattle.std.specs.List.{Contains}
use Rattle.std.specs.Ordering.{int_eq}
use Rattle.std.specs.Prelude.{ℤ, pos, ◌*ℤ◌, slice_get, Some, Option, unwrap_or}
use Rattle.ofit_num.specs.Fraction.{Fraction}
use Rattle.ofit_num.specs.Trial.{scale_of, value_of}
use Rattle.ofit_num.proofs.Order.{cancel_ℤ, assoc_swap}
use Rattle.ofit_num.proofs.Trials.{value_of-den, den_above}
use Rattle.ofit_order.specs.Connection.{Joins, AreConnected}
use Rattle.ofit_order.proofs.Walks.{IsReached-keeps}
use Rattle.ofit_report.specs.Tight.{value_at, is_tight, tight_among}

from_equal : (x y : ℤ) → int_eq x y ≡ true → x ≡ y
from_equal x y e = grind (arith, Decides-int_eq)

to_equal : (x y : ℤ) → x ≡ y → int_eq x y ≡ true
to_equal x y e = grind (arith, Decides-int_eq)

-- x/q and y/q are n/d and m/e
one_value : (x y n m : ℤ) (d e q : ℕ) → 0 < d → 0 < e → x *ℤ pos d ≡ n *ℤ pos q → y *ℤ pos e ≡ m *ℤ pos q → n *ℤ pos e ≡ m *ℤ pos d → x ≡ y
one_value x y n m d e q ld le a b same = cancel_ℤ x y d ld (cancel_ℤ (x *ℤ pos d) (y *ℤ pos d) e le (
    ap (λ (z : ℤ). z *ℤ pos e) a ∙ assoc_swap n (pos q) (pos e) ∙ ap (λ (z : ℤ). z *ℤ pos q) same ∙ assoc_swap m (pos d) (pos q)
    ∙ ap (λ (z : ℤ). z *ℤ pos d) (sym b) ∙ assoc_swap y (pos e) (pos d)
    ))

same_value : (x n m : ℤ) (d e q : ℕ) → 0 < q → x *ℤ pos d ≡ n *ℤ pos q → x *ℤ pos e ≡ m *ℤ pos q → n *ℤ pos e ≡ m *ℤ pos d
same_value x n m d e q lq a b = cancel_ℤ (n *ℤ pos e) (m *ℤ pos d) q lq (
    assoc_swap n (pos e) (pos q) ∙ ap (λ (z : ℤ). z *ℤ pos e) (sym a) ∙ assoc_swap x (pos d) (pos e)
    ∙ ap (λ (z : ℤ). z *ℤ pos d) b ∙ assoc_swap m (pos q) (pos d)
    )

module _ (values : List Fraction) (scale : 0 < scale_of values) where
  pub own_at : (g : ℕ) → g < length values → slice_get values g ≡ Some (value_at values g)
  own_at g l =
      let zero_value : Fraction = record { num = pos 0; den = 1 } in
      let at : slice_get values g ≡ Some (get_or values g zero_value) = slice_get-get_or values g zero_value l in
      at ∙ ap Some (sym (ap (λ (o : Option Fraction). unwrap_or o zero_value) at))

  pub own_value : (g : ℕ) → g < length values → value_of values g *ℤ pos (value_at values g).den ≡ (value_at values g).num *ℤ pos (scale_of values)
  own_value g l = value_of-den values g (value_at values g) (own_at g l)

  pub own_den : (g : ℕ) → g < length values → 0 < (value_at values g).den
  own_den g l = den_above values scale g (value_at values g) (own_at g l)

  pub tight_same : (e : ℕ × ℕ) → e.0 < length values → e.1 < length values → is_tight values e ≡ true → value_of values e.0 ≡ value_of values e.1
  tight_same e l m tight = one_value _ _ (value_at values e.0).num (value_at values e.1).num (value_at values e.0).den (value_at values e.1).den (scale_of values) (own_den e.0 l) (own_den e.1 m) (own_value e.0 l) (own_value e.1 m) (from_equal _ _ tight)

  pub same_tight : (e : ℕ × ℕ) → e.0 < length values → e.1 < length values → value_of values e.0 ≡ value_of values e.1 → is_tight values e ≡ true
  same_tight e l m same = to_equal _ _ (same_value (value_of values e.0) (value_at values e.0).num (value_at values e.1).num (value_at values e.0).den (value_at values e.1).den (scale_of values) scale (own_value e.0 l)
      (ap (λ (z : ℤ). z *ℤ pos (value_at values e.1).den) same ∙ own_value e.1 m))

  module _ (pairs : List (ℕ × ℕ)) (inside : (e : ℕ × ℕ) → Contains pairs e → (e.0 < length values) × (e.1 < length values)) where
    pub tight_is : (e : ℕ × ℕ) → Contains (tight_among values pairs) e → is_tight values e ≡ true
    tight_is e h = All-contains (λ e. is_tight values e ≡ true) (tight_among values pairs) e (filter_passes (is_tight values) pairs) h

    pub tight_pair : (e : ℕ × ℕ) → Contains (tight_among values pairs) e → Contains pairs e
    tight_pair e h = All-contains (Contains pairs) (tight_among values pairs) e (All-filter (is_tight values) (Contains pairs) pairs (All-contains_itself pairs)) h

    along : (a b : ℕ) → Contains (tight_among values pairs) (a, b) → value_of values a ≡ value_of values b
    along a b h = let in_range = inside (a, b) (tight_pair (a, b) h) in tight_same (a, b) in_range.0 in_range.1 (tight_is (a, b) h)

    step : (p a b : ℕ) → value_of values a ≡ value_of values p → Joins (tight_among values pairs) a b → value_of values b ≡ value_of values p
    step p a b e (inl h) = sym (along a b h) ∙ e
    step p a b e (inr h) = along b a h ∙ e

    pub connected_same : (p g : ℕ) → AreConnected (tight_among values pairs) p g → value_of values g ≡ value_of values p
    connected_same p g h = IsReached-keeps (Joins (tight_among values pairs)) (λ g. value_of values g ≡ value_of values p) (λ a b e j. step p a b e j) p g h refl
