-- A sheet has at most one verdict.
use Rattle.std.proofs.Common.{◌≡◌, ℕ, zero, suc, ◌<◌, ◌≤◌, inl, inr, refl, ap, arith, length, below_more}
use Rattle.std.proofs.lemmas.Bool.{cases_order}
use Rattle.std.specs.Prelude.{⊤}
use Rattle.ofit_num.specs.Problem.{Problem}
use Rattle.ofit_num.specs.Meaning.{Meaning}
use Rattle.ofit_num.specs.Sheet.{Sheet}
use Rattle.ofit_num.specs.Verdict.{
  Verdict,
  settings_differ,
  size_differs,
  group_missing,
  disobeys,
  out_of_bounds,
  flow_not_pair,
  flow_order,
  flow_not_tight,
  balance_outside,
  passes,
  AllBelow,
  FailsFirst,
  AgreesInSettings,
  AgreesInSize,
  HasValue,
  RisesAlong,
  IsInBounds,
  IsOnPair,
  IsInOrder,
  JoinsEqual,
  IsBalanced,
  IsSized,
  IsComplete,
  IsObedient,
  IsWithinBounds,
  FlowsOnPairs,
  FlowsInOrder,
  FlowsAreTight,
  Passes,
  IsVerdict,
}

pub FailsFirst-same : (P : ℕ → Type 0) (n i j : ℕ) → FailsFirst P n i → FailsFirst P n j → i ≡ j
FailsFirst-same P n i j f h = elim (cases_order i j) [
  | inl e ↦ e
  | inr o ↦ elim o [ inl l ↦ absurd (f.fails (h.before i l)) | inr l ↦ absurd (h.fails (f.before j l)) ]
]

pub not_all : (P : ℕ → Type 0) (n i : ℕ) → FailsFirst P n i → AllBelow P n → ⊥
not_all P n i f h = f.fails (h i f.below)

-- Things are looked at one after another, and a verdict tells the first that isn't in order, or that all are. So as many are in order before each of two verdicts.
module _ {V : Type 0} (Item : ℕ → Type 0) (IsGiven : V → Type 0) (depth : V → ℕ) (last : ℕ)
    (past : (v : V) → IsGiven v → (k : ℕ) → k < depth v → Item k) (at_fault : (v : V) → IsGiven v → depth v < last → Item (depth v) → ⊥) (most : (v : V) → depth v ≤ last) where
  pub one_depth : (v w : V) → IsGiven v → IsGiven w → depth v ≡ depth w
  one_depth v w h k = elim (cases_order (depth v) (depth w)) [
    | inl e ↦ e
    | inr o ↦ elim o [
      | inl l ↦ absurd (at_fault v h (omega (arith, most w)) (past w k (depth v) l))
      | inr l ↦ absurd (at_fault w k (omega (arith, most v)) (past v h (depth w) l))
    ]
  ]

-- how many things are in order before the verdict is found
abbrev depth : Verdict → ℕ
depth settings_differ = 0
depth size_differs = 1
depth (group_missing g) = 2
depth (disobeys i) = 3
depth (out_of_bounds g) = 4
depth (flow_not_pair i) = 5
depth (flow_order i) = 6
depth (flow_not_tight i) = 7
depth (balance_outside g) = 8
depth passes = 9

module _ {S : Type 0} (m : Meaning) (s : Problem) (own : S) (x : Sheet S) where
  -- the things that are looked at, numbered
  abbrev Item : ℕ → Type 0
  Item zero = AgreesInSettings own x
  Item (suc zero) = AgreesInSize s x
  Item (suc (suc zero)) = AllBelow (HasValue x) s.count
  Item (suc (suc (suc zero))) = AllBelow (RisesAlong s x) (length s.pairs)
  Item (suc (suc (suc (suc zero)))) = AllBelow (IsInBounds s x) s.count
  Item (suc (suc (suc (suc (suc zero))))) = AllBelow (IsOnPair s x) (length x.flows)
  Item (suc (suc (suc (suc (suc (suc zero)))))) = AllBelow (IsInOrder s x) (length x.flows)
  Item (suc (suc (suc (suc (suc (suc (suc zero))))))) = AllBelow (JoinsEqual x) (length x.flows)
  Item (suc (suc (suc (suc (suc (suc (suc (suc zero)))))))) = AllBelow (IsBalanced m s x) s.count
  Item (suc (suc (suc (suc (suc (suc (suc (suc (suc n))))))))) = ⊤

  none : (k : ℕ) → k < 0 → Item k
  none k l = absurd (omega arith)

  sized : IsSized s own x → (k : ℕ) → k < 2 → Item k
  sized r = below_more Item 1 (below_more Item 0 none r.settings) r.size

  complete : IsComplete s own x → (k : ℕ) → k < 3 → Item k
  complete r = below_more Item 2 (sized r.sized) r.complete

  obedient : IsObedient s own x → (k : ℕ) → k < 4 → Item k
  obedient r = below_more Item 3 (complete r.complete) r.rises

  within : IsWithinBounds s own x → (k : ℕ) → k < 5 → Item k
  within r = below_more Item 4 (obedient r.obedient) r.within

  on_pairs : FlowsOnPairs s own x → (k : ℕ) → k < 6 → Item k
  on_pairs r = below_more Item 5 (within r.within_bounds) r.on_pairs

  in_order : FlowsInOrder s own x → (k : ℕ) → k < 7 → Item k
  in_order r = below_more Item 6 (on_pairs r.on_pairs) r.in_order

  tight : FlowsAreTight s own x → (k : ℕ) → k < 8 → Item k
  tight r = below_more Item 7 (in_order r.in_order) r.tight

  all_nine : Passes m s own x → (k : ℕ) → k < 9 → Item k
  all_nine r = below_more Item 8 (tight r.tight) r.balances

  past : (v : Verdict) → IsVerdict m s own x v → (k : ℕ) → k < depth v → Item k
  past settings_differ h = none
  past size_differs h = below_more Item 0 none h.0
  past (group_missing g) h = sized h.0
  past (disobeys i) h = complete h.0
  past (out_of_bounds g) h = obedient h.0
  past (flow_not_pair zero) h = absurd h
  past (flow_not_pair (suc i)) h = within h.0
  past (flow_order zero) h = absurd h
  past (flow_order (suc i)) h = on_pairs h.0
  past (flow_not_tight zero) h = absurd h
  past (flow_not_tight (suc i)) h = in_order h.0
  past (balance_outside g) h = tight h.0
  past passes h = all_nine h

  -- what the verdict says isn't in order
  at_fault : (v : Verdict) → IsVerdict m s own x v → depth v < 9 → Item (depth v) → ⊥
  at_fault settings_differ h l i = h i
  at_fault size_differs h l i = h.1 i
  at_fault (group_missing g) h l i = not_all (HasValue x) s.count g h.1 i
  at_fault (disobeys k) h l i = not_all (RisesAlong s x) (length s.pairs) k h.1 i
  at_fault (out_of_bounds g) h l i = not_all (IsInBounds s x) s.count g h.1 i
  at_fault (flow_not_pair zero) h l i = h
  at_fault (flow_not_pair (suc k)) h l i = not_all (IsOnPair s x) (length x.flows) k h.1 i
  at_fault (flow_order zero) h l i = h
  at_fault (flow_order (suc k)) h l i = not_all (IsInOrder s x) (length x.flows) k h.1 i
  at_fault (flow_not_tight zero) h l i = h
  at_fault (flow_not_tight (suc k)) h l i = not_all (JoinsEqual x) (length x.flows) k h.1 i
  at_fault (balance_outside g) h l i = not_all (IsBalanced m s x) s.count g h.1 i
  at_fault passes h l i = absurd (omega arith)

  depth_le : (v : Verdict) → depth v ≤ 9
  depth_le settings_differ = omega arith
  depth_le size_differs = omega arith
  depth_le (group_missing g) = omega arith
  depth_le (disobeys i) = omega arith
  depth_le (out_of_bounds g) = omega arith
  depth_le (flow_not_pair i) = omega arith
  depth_le (flow_order i) = omega arith
  depth_le (flow_not_tight i) = omega arith
  depth_le (balance_outside g) = omega arith
  depth_le passes = omega arith

  at_one_depth : (v w : Verdict) → IsVerdict m s own x v → IsVerdict m s own x w → depth v ≡ depth w → v ≡ w
  at_one_depth settings_differ settings_differ h k e = refl
  at_one_depth size_differs size_differs h k e = refl
  at_one_depth (group_missing g) (group_missing j) h k e = ap group_missing (FailsFirst-same (HasValue x) s.count g j h.1 k.1)
  at_one_depth (disobeys i) (disobeys j) h k e = ap disobeys (FailsFirst-same (RisesAlong s x) (length s.pairs) i j h.1 k.1)
  at_one_depth (out_of_bounds g) (out_of_bounds j) h k e = ap out_of_bounds (FailsFirst-same (IsInBounds s x) s.count g j h.1 k.1)
  at_one_depth (flow_not_pair zero) (flow_not_pair j) h k e = absurd h
  at_one_depth (flow_not_pair (suc i)) (flow_not_pair zero) h k e = absurd k
  at_one_depth (flow_not_pair (suc i)) (flow_not_pair (suc j)) h k e = ap (λ (n : ℕ). flow_not_pair (suc n)) (FailsFirst-same (IsOnPair s x) (length x.flows) i j h.1 k.1)
  at_one_depth (flow_order zero) (flow_order j) h k e = absurd h
  at_one_depth (flow_order (suc i)) (flow_order zero) h k e = absurd k
  at_one_depth (flow_order (suc i)) (flow_order (suc j)) h k e = ap (λ (n : ℕ). flow_order (suc n)) (FailsFirst-same (IsInOrder s x) (length x.flows) i j h.1 k.1)
  at_one_depth (flow_not_tight zero) (flow_not_tight j) h k e = absurd h
  at_one_depth (flow_not_tight (suc i)) (flow_not_tight zero) h k e = absurd k
  at_one_depth (flow_not_tight (suc i)) (flow_not_tight (suc j)) h k e = ap (λ (n : ℕ). flow_not_tight (suc n)) (FailsFirst-same (JoinsEqual x) (length x.flows) i j h.1 k.1)
  at_one_depth (balance_outside g) (balance_outside j) h k e = ap balance_outside (FailsFirst-same (IsBalanced m s x) s.count g j h.1 k.1)
  at_one_depth passes passes h k e = refl
  at_one_depth v w h k e = absurd (omega arith)

  -- Two verdicts of one sheet are the same.
  pub one_verdict : (v w : Verdict) → IsVerdict m s own x v → IsVerdict m s own x w → v ≡ w
  one_verdict v w h k = at_one_depth v w h k (one_depth Item (IsVerdict m s own x) depth 9 past at_fault depth_le v w h k)
