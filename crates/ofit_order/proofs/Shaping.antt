-- The shape that each form gives.
use Rattle.std.proofs.Common.{◌≡◌, ℕ, ◌≤◌, ◌⊎◌, inl, inr, Bool, cond, List, [], ◌∷◌, length, refl, sym, subst, ap, ◌∙◌, arith}
use Rattle.std.specs.List.{Contains, All, count_by, sum_by}
use Rattle.std.proofs.lemmas.List.Elements.{All-contains}
use Rattle.std.proofs.lemmas.List.Sums.{length-filter, sum_by-cons}
use Rattle.ofit_order.specs.Relation.{Relation}
use Rattle.ofit_order.specs.Within.{AreWithin}
use Rattle.ofit_order.specs.Connection.{LeadsUp, Joins, AreConnected}
use Rattle.ofit_order.specs.Component.{AreMembers}
use Rattle.ofit_order.specs.Form.{pairs_among, higher_count, lower_count, HasOneFewer, RisesOnce, FallsOnce, FitsForm}
use Rattle.ofit_order.specs.Shape.{LeadsDown, RunsTo, IsShaped, HasShape}
use Rattle.ofit_order.specs.declared.form.Form.{Form}
use Rattle.ofit_order.specs.declared.form.Form.TheVariants.{Chain, TreeUp, TreeDown, General}
use Rattle.ofit_order.proofs.Walks.{IsReached-weaker}
use Rattle.ofit_order.proofs.PairOrder.{bool_same}
use Rattle.ofit_order.proofs.Increasing.{increasing_same}
use Rattle.ofit_order.proofs.Uniqueness.{LiesIn-at, LiesIn-connected, members_along}
use Rattle.ofit_order.proofs.DoubleCounting.{has, Contains-from_has, has-from_Contains, count_by_ends, sum_by-higher_count}
use Rattle.ofit_order.proofs.Leading.{Counts-higher, Counts-lower, Contains-pair_head, Contains-pair_cons}
use Rattle.ofit_order.proofs.Trees.{IsWhole, IsSingle-from, RunsTo-from, IsChainOf-from}

members_connected : (order : Relation) (k : ℕ) (members : List ℕ) → AreMembers order k members → (a b : ℕ) → Contains members a → Contains members b → AreConnected order.pairs a b
members_connected order k members m a b h i =
    let c = (m.exact a).0 h in
    let d = (m.exact b).0 i in
    LiesIn-connected order c.0 k a b c.2 (LiesIn-at order c.0 d.0 k b c.1 d.1 d.2)

whole_up : (order : Relation) (k : ℕ) (members : List ℕ) → AreMembers order k members → AreWithin order.pairs order.places → IsWhole (LeadsUp order.pairs) members
whole_up order k members m within = record {
  onward = λ a b h s. members_along order k members m within a b (inl s) h;
  backward = λ a b h s. members_along order k members m within b a (inr s) h;
  joined = λ a b h i. members_connected order k members m a b h i;
}

whole_down : (order : Relation) (k : ℕ) (members : List ℕ) → AreMembers order k members → AreWithin order.pairs order.places → IsWhole (LeadsDown order.pairs) members
whole_down order k members m within = record {
  onward = λ a b h s. members_along order k members m within a b (inr s) h;
  backward = λ a b h s. members_along order k members m within b a (inl s) h;
  joined = λ a b h i.
      IsReached-weaker (Joins order.pairs) (λ x y. LeadsDown order.pairs x y ⊎ LeadsDown order.pairs y x)
      (λ x y j. elim j [ inl s ↦ inr s | inr s ↦ inl s ]) a b (members_connected order k members m a b h i);
}

count_by-agree : (t u : ℕ × ℕ → Bool) (ps : List (ℕ × ℕ)) → ((p : ℕ × ℕ) → Contains ps p → t p ≡ u p) → count_by t ps ≡ count_by u ps
count_by-agree t u [] same = refl
count_by-agree t u (p ∷ ps) same =
    let a = sum_by-cons (λ (q : ℕ × ℕ). cond (t q) 1 0) p ps in
    let b = sum_by-cons (λ (q : ℕ × ℕ). cond (u q) 1 0) p ps in
    let here : ◌≡◌ {A = ℕ} (cond (t p) 1 0) (cond (u p) 1 0) = ap (λ (s : Bool). cond s 1 0) (same p (Contains-pair_head p ps)) in
    let rest = count_by-agree t u ps (λ q h. same q (Contains-pair_cons p ps q h)) in
    omega (arith, a, b, here, rest)

-- the lower neighbours of all members are as many as the pairs among them
sum_by-lower_count : (order : Relation) (k : ℕ) (members : List ℕ) → AreMembers order k members → AreWithin order.pairs order.places → sum_by (lower_count order.pairs) members ≡ length (pairs_among order.pairs members)
sum_by-lower_count order k members m within =
    let ps = order.pairs in
    let same : (p : ℕ × ℕ) → Contains ps p → has members p.1 ≡ has members p.0 = λ p h.
    bool_same (has members p.1) (has members p.0)
    (λ e. has-from_Contains members p.0 (members_along order k members m within p.1 p.0 (inr h) (Contains-from_has members p.1 e)))
    (λ e. has-from_Contains members p.1 (members_along order k members m within p.0 p.1 (inl h) (Contains-from_has members p.0 e))) in
    count_by_ends (λ p. p.1) ps members m.rising
    ∙ count_by-agree (λ p. has members p.1) (λ p. has members p.0) ps same
    ∙ sym (length-filter (λ (p : ℕ × ℕ). has members p.0) ps)

few_from : (f : ℕ → ℕ) (members : List ℕ) → All (λ m. f m ≤ 1) members → (p : ℕ) → Contains members p → f p ≤ 1
few_from f members all p h = All-contains (λ m. f m ≤ 1) members p all h

up_from : (order : Relation) (k : ℕ) (members : List ℕ) → AreMembers order k members → AreWithin order.pairs order.places → HasOneFewer order.pairs members → RisesOnce order.pairs members → (top : ℕ) × RunsTo (LeadsUp order.pairs) members top
up_from order k members m within one once =
    let sum = sum_by-higher_count order.pairs members m.rising in
    RunsTo-from (LeadsUp order.pairs) (higher_count order.pairs) members (Counts-higher order.pairs) (whole_up order k members m within) (few_from (higher_count order.pairs) members once) (omega (arith, sum, one))

down_from : (order : Relation) (k : ℕ) (members : List ℕ) → AreMembers order k members → AreWithin order.pairs order.places → HasOneFewer order.pairs members → FallsOnce order.pairs members → (bottom : ℕ) × RunsTo (LeadsDown order.pairs) members bottom
down_from order k members m within one once =
    let sum = sum_by-lower_count order k members m within in
    RunsTo-from (LeadsDown order.pairs) (lower_count order.pairs) members (Counts-lower order.pairs) (whole_down order k members m within) (few_from (lower_count order.pairs) members once) (omega (arith, sum, one))

pub IsShaped-from : (order : Relation) (k : ℕ) (members : List ℕ) (form : Form) → AreMembers order k members → AreWithin order.pairs order.places → FitsForm order.pairs members form → IsShaped order.pairs members form
IsShaped-from order k members Chain m within h =
    let up = up_from order k members m within h.0 h.1 in
    let down = down_from order k members m within h.0 h.2 in
    let single = IsSingle-from (LeadsUp order.pairs) (higher_count order.pairs) members up.0 (Counts-higher order.pairs) (whole_up order k members m within) (few_from (higher_count order.pairs) members h.1) up.1.last in
    IsChainOf-from order.pairs members up.0 down.0 single up.1 down.1
IsShaped-from order k members TreeUp m within h = up_from order k members m within h.0 h.1
IsShaped-from order k members TreeDown m within h = down_from order k members m within h.0 h.1
IsShaped-from order k members General m within h = tt

pub AreMembers-same : (order : Relation) (k : ℕ) (xs ys : List ℕ) → AreMembers order k xs → AreMembers order k ys → xs ≡ ys
AreMembers-same order k xs ys a b =
    increasing_same xs ys a.rising b.rising (λ p h. (b.exact p).1 ((a.exact p).0 h)) (λ p h. (a.exact p).1 ((b.exact p).0 h))

pub HasShape-from : (order : Relation) (k : ℕ) (members : List ℕ) (form : Form) → AreMembers order k members → AreWithin order.pairs order.places → FitsForm order.pairs members form → HasShape order k form
HasShape-from order k members form m within h =
    λ others n. subst (λ (t : List ℕ). IsShaped order.pairs t form) (AreMembers-same order k members others m n) (IsShaped-from order k members form m within h)
