-- Flows that stand in the order of distinct pairs: the amount along each pair is that of one flow, or 0.
use Rattle.std.proofs.Common.{◌≡◌, ◌≢◌, ℕ, zero, suc, ◌+◌, ◌-◌, ◌<◌, ◌≤◌, ◌⊎◌, inl, inr, refl, sym, ap, ap₂, subst, ◌∙◌, arith, List, [], ◌∷◌, length, cond, nat_eq, Bool, true, false, get_or, Ordering}
use Rattle.std.proofs.lemmas.Bool.{cases_order}
use Rattle.std.proofs.lemmas.Bool.Decides.{nat_tests}
use Rattle.std.proofs.lemmas.List.Sums.{sum_by-cons}
use Rattle.std.proofs.lemmas.Option.{slice_get_within, slice_get-get_or, get_or_from_slice_get, same_Some}
use Rattle.std.specs.Prelude.{AllPairs, Contains, slice_get, Option, Some, IfSome, ◌&&◌, ◌↔◌, IsTrue}
use Rattle.ofit_num.specs.Flow.{Flow}
use Rattle.ofit_num.specs.Problem.{Problem}
use Rattle.ofit_num.specs.ProblemPairs.{HasDistinctPairs}
use Rattle.ofit_num.specs.Sheet.{Sheet}
use Rattle.ofit_num.specs.Verdict.{AllBelow, IsOnPair, IsInOrder, StandsBefore}
use Rattle.std.specs.Ordering.{nat_cmp, is_lt}
use Rattle.ofit_check.specs.Check.{amount_along}
use Rattle.ofit_check.proofs.Comparing.{less_told}
use Rattle.ofit_num.proofs.Pieces.{and_both}

abbrev pub pair_of : Flow → ℕ × ℕ
pair_of f = (f.low, f.high)

abbrev pub is_along : ℕ × ℕ → Flow → Bool
is_along e f = nat_eq f.low e.0 && nat_eq f.high e.1

equal_numbers : (a b : ℕ) → nat_eq a b ≡ true → a ≡ b
equal_numbers a b e = grind (arith, nat_tests)

same_numbers : (a b : ℕ) → a ≡ b → nat_eq a b ≡ true
same_numbers a b e = grind (arith, nat_tests)

pub along_same : (e : ℕ × ℕ) (f : Flow) → is_along e f ≡ true → pair_of f ≡ e
along_same e f h =
    let t = and_both (nat_eq f.low e.0) (nat_eq f.high e.1) h in
    ap₂ (λ (a b : ℕ). (a, b)) (equal_numbers f.low e.0 t.0) (equal_numbers f.high e.1 t.1)

pub same_along : (e : ℕ × ℕ) (f : Flow) → pair_of f ≡ e → is_along e f ≡ true
same_along e f h = ap₂ (λ (a b : Bool). a && b) (same_numbers f.low e.0 (ap (λ (t : ℕ × ℕ). t.0) h)) (same_numbers f.high e.1 (ap (λ (t : ℕ × ℕ). t.1) h))

pub other_along : (e : ℕ × ℕ) (f : Flow) → (pair_of f ≡ e → ⊥) → is_along e f ≡ false
other_along e f d = go (is_along e f) refl where
  go : (t : Bool) → is_along e f ≡ t → t ≡ false
  go true h = absurd (d (along_same e f h))
  go false h = refl

along_cons : (e : ℕ × ℕ) (f : Flow) (fs : List Flow) → amount_along (f ∷ fs) e ≡ cond (is_along e f) f.amount 0 + amount_along fs e
along_cons e f fs = sum_by-cons (λ (h : Flow). cond (is_along e h) h.amount 0) f fs

-- no flow is along the pair
pub none_along : (flows : List Flow) (e : ℕ × ℕ) → ((j : ℕ) (f : Flow) → slice_get flows j ≡ Some f → pair_of f ≡ e → ⊥) → amount_along flows e ≡ 0
none_along [] e h = refl
none_along (f ∷ fs) e h = omega (arith, along_cons e f fs, ap {B = ℕ} (λ (b : Bool). cond b f.amount 0) (other_along e f (h 0 f refl)), none_along fs e (λ j g at. h (suc j) g at))

-- one flow is along the pair
pub one_along : (flows : List Flow) (e : ℕ × ℕ) (k : ℕ) (x : Flow) → slice_get flows k ≡ Some x → pair_of x ≡ e → ((j : ℕ) (f : Flow) → slice_get flows j ≡ Some f → j ≢ k → pair_of f ≡ e → ⊥) → amount_along flows e ≡ x.amount
one_along [] e k x at is h = cc
one_along (f ∷ fs) e zero x at is h =
    let same : f ≡ x = same_Some f x at in
    omega (
      arith,
      along_cons e f fs,
      ap {B = ℕ} (λ (b : Bool). cond b f.amount 0) (same_along e f (ap pair_of same ∙ is)),
      ap (λ (t : Flow). t.amount) same,
      none_along fs e (λ j g a. h (suc j) g a (λ s. omega arith)),
    )
one_along (f ∷ fs) e (suc k) x at is h = omega (
  arith,
  along_cons e f fs,
  ap {B = ℕ} (λ (b : Bool). cond b f.amount 0) (other_along e f (h 0 f refl (λ s. omega arith))),
  one_along fs e k x at is (λ j g a d. h (suc j) g a (λ s. d (omega arith))),
)

-- a pair stands at one index
pub one_index : (pairs : List (ℕ × ℕ)) → AllPairs (λ e f. e ≡ f → ⊥) pairs → (k m : ℕ) (e : ℕ × ℕ) → slice_get pairs k ≡ Some e → slice_get pairs m ≡ Some e → k ≡ m
one_index pairs d k m e a b = go (cases_order k m) where
  at_k : get_or pairs k e ≡ e
  at_k = get_or_from_slice_get pairs k e e a

  at_m : get_or pairs m e ≡ e
  at_m = get_or_from_slice_get pairs m e e b

  go : (k ≡ m) ⊎ ((k < m) ⊎ (m < k)) → k ≡ m
  go (inl s) = s
  go (inr (inl l)) = absurd (d k m e l (slice_get_within pairs m e b) (at_k ∙ sym at_m))
  go (inr (inr l)) = absurd (d m k e l (slice_get_within pairs k e a) (at_m ∙ sym at_k))

pub contained_at : (pairs : List (ℕ × ℕ)) (e : ℕ × ℕ) → Contains pairs e → (k : ℕ) × (slice_get pairs k ≡ Some e)
contained_at pairs e h = (h.0, slice_get-get_or pairs h.0 e h.1 ∙ ap Some h.2)

pub at_index : (P : Flow → Type 0) (flows : List Flow) (j : ℕ) (f : Flow) → IfSome (slice_get flows j) P → slice_get flows j ≡ Some f → P f
at_index P flows j f h e = subst (λ (o : Option Flow). IfSome o P) e h

-- each flow is on its pair
pub flow_on_pair : {S : Type 0} (s : Problem) (x : Sheet S) → AllBelow (IsOnPair s x) (length x.flows) → (j : ℕ) (f : Flow) → slice_get x.flows j ≡ Some f → Contains s.pairs (pair_of f)
flow_on_pair s x on_pairs j f e = at_index (λ h. Contains s.pairs (h.low, h.high)) x.flows j f (on_pairs j (slice_get_within x.flows j f e)) e

-- flows whose pairs come before the one at an index, and after it
abbrev pub AreBefore : List Flow → List (ℕ × ℕ) → ℕ → ℕ → Type 0
AreBefore flows pairs i end = (j : ℕ) (f : Flow) (k : ℕ) → j < end → slice_get flows j ≡ Some f → slice_get pairs k ≡ Some (pair_of f) → k < i

abbrev pub AreAfter : List Flow → List (ℕ × ℕ) → ℕ → ℕ → Type 0
AreAfter flows pairs i from = (j : ℕ) (f : Flow) (k : ℕ) → from ≤ j → slice_get flows j ≡ Some f → slice_get pairs k ≡ Some (pair_of f) → i < k

module _ {S : Type 0} (s : Problem) (x : Sheet S) (distinct : HasDistinctPairs s) (on_pairs : AllBelow (IsOnPair s x) (length x.flows)) (in_order : AllBelow (IsInOrder s x) (length x.flows)) where
  pub flow_index : (j : ℕ) (f : Flow) → slice_get x.flows j ≡ Some f → (k : ℕ) × (slice_get s.pairs k ≡ Some (pair_of f))
  flow_index j f e = contained_at s.pairs (pair_of f) (flow_on_pair s x on_pairs j f e)

  next_index : (j : ℕ) (f h : Flow) (k m : ℕ) → slice_get x.flows j ≡ Some f → slice_get x.flows (suc j) ≡ Some h → slice_get s.pairs k ≡ Some (pair_of f) → slice_get s.pairs m ≡ Some (pair_of h) → k < m
  next_index j f h k m a b c d =
      let stands : StandsBefore s f h = at_index (λ g. StandsBefore s f g) x.flows (suc j) h (at_index (λ g. IfSome (slice_get x.flows (suc j)) (λ g'. StandsBefore s g g')) x.flows j f (in_order (suc j) (slice_get_within x.flows (suc j) h b)) a) b in
      omega (arith, stands.rises, one_index s.pairs distinct k stands.first (pair_of f) c stands.first_pair, one_index s.pairs distinct m stands.second (pair_of h) d stands.second_pair)

  -- the pairs of flows rise with the flows
  pub rising_index : (i j : ℕ) (f h : Flow) (k m : ℕ) → i < j → slice_get x.flows i ≡ Some f → slice_get x.flows j ≡ Some h → slice_get s.pairs k ≡ Some (pair_of f) → slice_get s.pairs m ≡ Some (pair_of h) → k < m
  rising_index i zero f h k m l a b c d = absurd (omega arith)
  rising_index i (suc j) f h k m l a b c d = go (cases_order i j) (λ g p n q r. rising_index i j f g k n p a q c r) where
    inside : j < length x.flows
    inside = omega (arith, slice_get_within x.flows (suc j) h b)

    between : slice_get x.flows j ≡ Some (get_or x.flows j h)
    between = slice_get-get_or x.flows j h inside

    go : (i ≡ j) ⊎ ((i < j) ⊎ (j < i)) → ((g : Flow) → i < j → (n : ℕ) → slice_get x.flows j ≡ Some g → slice_get s.pairs n ≡ Some (pair_of g) → k < n) → k < m
    go (inl e) rec = next_index j f h k m (subst (λ (t : ℕ). slice_get x.flows t ≡ Some f) e a) b c d
    go (inr (inl p)) rec =
        let n = flow_index j (get_or x.flows j h) between in
        omega (arith, rec (get_or x.flows j h) p n.0 between n.1, next_index j (get_or x.flows j h) h n.0 m between b n.1 d)
    go (inr (inr p)) rec = absurd (omega arith)

  pub all_before : (i mid : ℕ) (g : Flow) → slice_get x.flows mid ≡ Some g → ((k : ℕ) → slice_get s.pairs k ≡ Some (pair_of g) → k < i) → AreBefore x.flows s.pairs i (mid + 1)
  all_before i mid g at here j f k l a c = go (cases_order j mid) where
    own : (k : ℕ) × (slice_get s.pairs k ≡ Some (pair_of g))
    own = flow_index mid g at

    go : (j ≡ mid) ⊎ ((j < mid) ⊎ (mid < j)) → k < i
    go (inl e) =
        let same : f ≡ g = same_Some f g (sym a ∙ ap (slice_get x.flows) e ∙ at) in
        here k (c ∙ ap (λ (t : Flow). Some (pair_of t)) same)
    go (inr (inl p)) = omega (arith, rising_index j mid f g k own.0 p a at c own.1, here own.0 own.1)
    go (inr (inr p)) = absurd (omega arith)

  pub all_after : (i mid : ℕ) (g : Flow) → slice_get x.flows mid ≡ Some g → ((k : ℕ) → slice_get s.pairs k ≡ Some (pair_of g) → i < k) → AreAfter x.flows s.pairs i mid
  all_after i mid g at here j f k l a c = go (cases_order mid j) where
    own : (k : ℕ) × (slice_get s.pairs k ≡ Some (pair_of g))
    own = flow_index mid g at

    go : (mid ≡ j) ⊎ ((mid < j) ⊎ (j < mid)) → i < k
    go (inl e) =
        let same : f ≡ g = same_Some f g (sym a ∙ ap (slice_get x.flows) (sym e) ∙ at) in
        here k (c ∙ ap (λ (t : Flow). Some (pair_of t)) same)
    go (inr (inl p)) = omega (arith, rising_index mid j g f own.0 k p at a own.1 c, here own.0 own.1)
    go (inr (inr p)) = absurd (omega arith)

  -- nothing is left between them
  pub nothing_along : (i end from : ℕ) (e : ℕ × ℕ) → slice_get s.pairs i ≡ Some e → from ≤ end → AreBefore x.flows s.pairs i end → AreAfter x.flows s.pairs i from → amount_along x.flows e ≡ 0
  nothing_along i end from e at l before after = none_along x.flows e (λ j f a same. go j f a (at ∙ ap Some (sym same)) (cases_order j end)) where
    go : (j : ℕ) (f : Flow) → slice_get x.flows j ≡ Some f → slice_get s.pairs i ≡ Some (pair_of f) → (j ≡ end) ⊎ ((j < end) ⊎ (end < j)) → ⊥
    go j f a c (inl p) = omega (arith, after j f i (omega (arith, p)) a c)
    go j f a c (inr (inl p)) = omega (arith, before j f i p a c)
    go j f a c (inr (inr p)) = omega (arith, after j f i (omega arith) a c)

  -- the flow at mid is the one along the pair
  pub found_along : (i mid : ℕ) (g : Flow) → slice_get x.flows mid ≡ Some g → slice_get s.pairs i ≡ Some (pair_of g) → amount_along x.flows (pair_of g) ≡ g.amount
  found_along i mid g at is = one_along x.flows (pair_of g) mid g at refl (λ j f a d same. go j f a d (is ∙ ap Some (sym same)) (cases_order j mid)) where
    go : (j : ℕ) (f : Flow) → slice_get x.flows j ≡ Some f → j ≢ mid → slice_get s.pairs i ≡ Some (pair_of f) → (j ≡ mid) ⊎ ((j < mid) ⊎ (mid < j)) → ⊥
    go j f a d c (inl p) = d p
    go j f a d c (inr (inl p)) = omega (arith, rising_index j mid f g i i p a at c is)
    go j f a d c (inr (inr p)) = omega (arith, rising_index mid j g f i i p at a is c)

-- two flows on pairs stand in the order of the pairs
module _ {S : Type 0} (s : Problem) (x : Sheet S) (on_pairs : AllBelow (IsOnPair s x) (length x.flows)) where
  stands_told : (f h : Flow) (o : Ordering) → Contains s.pairs (pair_of f) → Contains s.pairs (pair_of h) → ((i j : ℕ) → slice_get s.pairs i ≡ Some (pair_of f) → slice_get s.pairs j ≡ Some (pair_of h) → o ≡ nat_cmp i j) → IsTrue (is_lt o) ↔ StandsBefore s f h
  stands_told f h o cf ch says =
      let i = contained_at s.pairs (pair_of f) cf in
      let j = contained_at s.pairs (pair_of h) ch in (
        λ t. record { first = i.0; second = j.0; rises = (less_told i.0 j.0 o (says i.0 j.0 i.1 j.1)).0 t; first_pair = i.1; second_pair = j.1 },
        λ t. (less_told t.first t.second o (says t.first t.second t.first_pair t.second_pair)).1 t.rises,
      )

  pub order_told : (index : ℕ) → (index ≡ 0 → ⊥) → (f h : Flow) (o : Ordering) → slice_get x.flows (index - 1) ≡ Some f → slice_get x.flows index ≡ Some h
      → ((i j : ℕ) → slice_get s.pairs i ≡ Some (pair_of f) → slice_get s.pairs j ≡ Some (pair_of h) → o ≡ nat_cmp i j) → IsTrue (is_lt o) ↔ IsInOrder s x index
  order_told zero d f h o a b says = absurd (d refl)
  order_told (suc i) d f h o a b says =
      let before : slice_get x.flows i ≡ Some f = subst (λ (k : ℕ). slice_get x.flows k ≡ Some f) (omega arith) a in
      let on_f : Contains s.pairs (pair_of f) = at_index (λ g. Contains s.pairs (pair_of g)) x.flows i f (on_pairs i (slice_get_within x.flows i f before)) before in
      let on_h : Contains s.pairs (pair_of h) = at_index (λ g. Contains s.pairs (pair_of g)) x.flows (suc i) h (on_pairs (suc i) (slice_get_within x.flows (suc i) h b)) b in
      subst (λ (p : Option Flow). IsTrue (is_lt o) ↔ IfSome p (λ g. IfSome (slice_get x.flows (suc i)) (λ k. StandsBefore s g k))) (sym before)
      (subst (λ (p : Option Flow). IsTrue (is_lt o) ↔ IfSome p (λ k. StandsBefore s f k)) (sym b) (stands_told f h o on_f on_h says))
