-- What the checker says of a sheet that fits the count of groups: the first of nine faults, or that it passes.
use Rattle.std.specs.Prelude.{◌≡◌, ℕ, zero, suc, ◌<◌, length, IfSome, IsSome, Contains, slice_get, Some, ⊤, pos, ◌*ℤ◌, ◌≤ℤ◌}
use Rattle.ofit_num.specs.Problem.{Problem}
use Rattle.ofit_num.specs.Meaning.{Meaning}
use Rattle.ofit_num.specs.Fraction.{AtMost, SameValue}
use Rattle.ofit_num.specs.Fit.{sum_below}
use Rattle.ofit_num.specs.Span.{InOpenSpan}
use Rattle.ofit_num.specs.Flow.{Flow, balance}
use Rattle.ofit_num.specs.Loss.{row_sum}
use Rattle.ofit_num.specs.Sheet.{Sheet, entry_value, sheet_value}

-- places and pairs count from 0, flows from 1
pub data Verdict : Type 0 where
  settings_differ : Verdict
  size_differs : Verdict
  group_missing : ℕ → Verdict
  disobeys : ℕ → Verdict
  out_of_bounds : ℕ → Verdict
  flow_not_pair : ℕ → Verdict
  flow_order : ℕ → Verdict
  flow_not_tight : ℕ → Verdict
  balance_outside : ℕ → Verdict
  passes : Verdict

-- P holds of each number below n
abbrev pub AllBelow : (ℕ → Type 0) → ℕ → Type 0
AllBelow P n = (k : ℕ) → k < n → P k

-- i is the first number below n of which P fails
pub record FailsFirst (P : ℕ → Type 0) (n i : ℕ) : Type 0 where
  pub below : i < n
  pub before : (k : ℕ) → k < i → P k
  pub fails : P i → ⊥

-- The nine things that are looked at, in their order. From the third on each speaks of one place, pair or flow, pairs and flows by their indexes from 0.

-- loss, places, lo and hi are those of the study
abbrev pub AgreesInSettings : {S : Type 0} → S → Sheet S → Type 0
AgreesInSettings own x = x.settings ≡ own

-- a size that is there is the number of rows and their total weight
abbrev pub AgreesInSize : {S : Type 0} → Problem → Sheet S → Type 0
AgreesInSize s x = IfSome x.size (λ z. (z.rows ≡ sum_below (λ g. length (s.rows g)) s.count) × (z.weight ≡ sum_below (λ g. row_sum (λ r. r.weight) (s.rows g)) s.count))

abbrev pub HasValue : {S : Type 0} → Sheet S → ℕ → Type 0
HasValue x g = IsSome (entry_value x.values g)

-- the low value of the pair is at most the high one
abbrev pub RisesAlong : {S : Type 0} → Problem → Sheet S → ℕ → Type 0
RisesAlong s x i = IfSome (slice_get s.pairs i) (λ e. AtMost (sheet_value x e.0) (sheet_value x e.1))

abbrev pub IsInBounds : {S : Type 0} → Problem → Sheet S → ℕ → Type 0
IsInBounds s x g = IfSome (s.bounds g).lo (λ lo. (lo *ℤ pos (sheet_value x g).den) ≤ℤ (sheet_value x g).num) × IfSome (s.bounds g).hi (λ hi. (sheet_value x g).num ≤ℤ (hi *ℤ pos (sheet_value x g).den))

abbrev pub IsOnPair : {S : Type 0} → Problem → Sheet S → ℕ → Type 0
IsOnPair s x i = IfSome (slice_get x.flows i) (λ f. Contains s.pairs (f.low, f.high))

-- the pair of f stands before that of h in the study's list
pub record StandsBefore (s : Problem) (f h : Flow) : Type 0 where
  pub first : ℕ
  pub second : ℕ
  pub rises : first < second
  pub first_pair : slice_get s.pairs first ≡ Some (f.low, f.high)
  pub second_pair : slice_get s.pairs second ≡ Some (h.low, h.high)

-- the flow's pair is after that of the flow before it
abbrev pub IsInOrder : {S : Type 0} → Problem → Sheet S → ℕ → Type 0
IsInOrder s x zero = ⊤
IsInOrder s x (suc i) = IfSome (slice_get x.flows i) (λ f. IfSome (slice_get x.flows (suc i)) (λ h. StandsBefore s f h))

-- the flow's two ends have one value
abbrev pub JoinsEqual : {S : Type 0} → Sheet S → ℕ → Type 0
JoinsEqual x i = IfSome (slice_get x.flows i) (λ f. SameValue (sheet_value x f.low) (sheet_value x f.high))

-- flow out minus flow in is in the open span at the sheet's own num and den, which are in lowest terms by FitsCount
abbrev pub IsBalanced : {S : Type 0} → Meaning → Problem → Sheet S → ℕ → Type 0
IsBalanced m s x g = InOpenSpan m (s.rows g) (s.bounds g) (sheet_value x g).num (sheet_value x g).den (balance x.flows g)

-- the sheets that come past the first two, three, up to eight of these, and those that come past all nine
pub record IsSized {S : Type 0} (s : Problem) (own : S) (x : Sheet S) : Type 0 where
  pub settings : AgreesInSettings own x
  pub size : AgreesInSize s x

pub record IsComplete {S : Type 0} (s : Problem) (own : S) (x : Sheet S) : Type 0 where
  pub sized : IsSized s own x
  pub complete : AllBelow (HasValue x) s.count

pub record IsObedient {S : Type 0} (s : Problem) (own : S) (x : Sheet S) : Type 0 where
  pub complete : IsComplete s own x
  pub rises : AllBelow (RisesAlong s x) (length s.pairs)

pub record IsWithinBounds {S : Type 0} (s : Problem) (own : S) (x : Sheet S) : Type 0 where
  pub obedient : IsObedient s own x
  pub within : AllBelow (IsInBounds s x) s.count

pub record FlowsOnPairs {S : Type 0} (s : Problem) (own : S) (x : Sheet S) : Type 0 where
  pub within_bounds : IsWithinBounds s own x
  pub on_pairs : AllBelow (IsOnPair s x) (length x.flows)

pub record FlowsInOrder {S : Type 0} (s : Problem) (own : S) (x : Sheet S) : Type 0 where
  pub on_pairs : FlowsOnPairs s own x
  pub in_order : AllBelow (IsInOrder s x) (length x.flows)

pub record FlowsAreTight {S : Type 0} (s : Problem) (own : S) (x : Sheet S) : Type 0 where
  pub in_order : FlowsInOrder s own x
  pub tight : AllBelow (JoinsEqual x) (length x.flows)

pub record Passes {S : Type 0} (m : Meaning) (s : Problem) (own : S) (x : Sheet S) : Type 0 where
  pub tight : FlowsAreTight s own x
  pub balances : AllBelow (IsBalanced m s x) s.count

-- the first of the nine that fails, where it fails first; own are the settings of the study
abbrev pub IsVerdict : {S : Type 0} → Meaning → Problem → S → Sheet S → Verdict → Type 0
IsVerdict m s own x settings_differ = AgreesInSettings own x → ⊥
IsVerdict m s own x size_differs = AgreesInSettings own x × (AgreesInSize s x → ⊥)
IsVerdict m s own x (group_missing g) = IsSized s own x × FailsFirst (HasValue x) s.count g
IsVerdict m s own x (disobeys i) = IsComplete s own x × FailsFirst (RisesAlong s x) (length s.pairs) i
IsVerdict m s own x (out_of_bounds g) = IsObedient s own x × FailsFirst (IsInBounds s x) s.count g
IsVerdict m s own x (flow_not_pair zero) = ⊥
IsVerdict m s own x (flow_not_pair (suc i)) = IsWithinBounds s own x × FailsFirst (IsOnPair s x) (length x.flows) i
IsVerdict m s own x (flow_order zero) = ⊥
IsVerdict m s own x (flow_order (suc i)) = FlowsOnPairs s own x × FailsFirst (IsInOrder s x) (length x.flows) i
IsVerdict m s own x (flow_not_tight zero) = ⊥
IsVerdict m s own x (flow_not_tight (suc i)) = FlowsInOrder s own x × FailsFirst (JoinsEqual x) (length x.flows) i
IsVerdict m s own x (balance_outside g) = FlowsAreTight s own x × FailsFirst (IsBalanced m s x) s.count g
IsVerdict m s own x passes = Passes m s own x
