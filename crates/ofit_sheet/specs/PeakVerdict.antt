-- What the checker says of a peaked sheet that has the shape of those of a study: the first of six faults, or that it passes.
use Rattle.std.specs.Prelude.{◌≡◌, ◌+◌, ◌-◌, ◌<◌, ◌≤◌, ℕ, zero, suc, ℤ, pos, ◌-ℤ◌, ◌≤ℤ◌, ◌<ℤ◌, List, length, IfSome, slice_index_or}
use Rattle.ofit_num.specs.declared.row.Row.{Row}
use Rattle.ofit_num.specs.Problem.{Problem}
use Rattle.ofit_num.specs.Loss.{median}
use Rattle.ofit_num.specs.Fit.{sum_below, trial_cost}
use Rattle.ofit_num.specs.Verdict.{AllBelow, FailsFirst}
use Rattle.ofit_sheet.specs.Peaked.{Peaked, rise_at, fall_at}
use Rattle.ofit_sheet.specs.Unimodal.{whole_trial}

-- places count from 0; rises are called from 1 on, falls from 0 on, and their groups by their places
pub data PeakVerdict : Type 0 where
  settings_differ : PeakVerdict
  shape_breaks : ℕ → PeakVerdict
  cost_differs : PeakVerdict
  rise_breaks : ℕ → ℕ → PeakVerdict
  fall_breaks : ℕ → ℕ → PeakVerdict
  not_least : ℕ → PeakVerdict
  passes : PeakVerdict

-- the value before the peak is at most the next one, and from the peak on at least the next one
abbrev pub KeepsShape : Peaked → ℕ → Type 0
KeepsShape x g = IfSome x.peak (λ peak. (g < peak → (whole_trial x.values).value g ≤ℤ (whole_trial x.values).value (suc g)) × (peak ≤ g → (whole_trial x.values).value (suc g) ≤ℤ (whole_trial x.values).value g))

-- the printed cost is that of the values
abbrev pub HasCost : Problem → Peaked → Type 0
HasCost s x = trial_cost median s (whole_trial x.values) ≡ x.cost

-- value and amount of a step of a side, by its index
abbrev pub value_at : List (ℤ × ℤ) → ℕ → ℤ
value_at side j = (slice_index_or side j (pos 0, pos 0)).0

abbrev pub amount_at : List (ℤ × ℤ) → ℕ → ℤ
amount_at side j = (slice_index_or side j (pos 0, pos 0)).1

-- the amount of the step before, 0 before the first
abbrev pub amount_before : List (ℤ × ℤ) → ℕ → ℤ
amount_before side zero = pos 0
amount_before side (suc j) = amount_at side j

-- the balance is in the median's span of the rows at the value
pub record IsInSpan (rows : List Row) (value balance : ℤ) : Type 0 where
  pub least : median.least rows value 1 ≤ℤ balance
  pub greatest : balance ≤ℤ median.greatest rows value 1

-- an amount above 0 joins equal values
abbrev pub JoinsEqual : List (ℤ × ℤ) → ℕ → Type 0
JoinsEqual side j = suc j < length side → pos 0 <ℤ amount_at side j → value_at side j ≡ value_at side (suc j)

-- In a rise each value is at most the next one, and an amount flows to the next group; in a fall each value is at least the next one, and an amount flows from the next group.
pub record IsRiseStep (rows : List Row) (side : List (ℤ × ℤ)) (j : ℕ) : Type 0 where
  pub order : suc j < length side → value_at side j ≤ℤ value_at side (suc j)
  pub tight : JoinsEqual side j
  pub balance : IsInSpan rows (value_at side j) (amount_at side j -ℤ amount_before side j)

pub record IsFallStep (rows : List Row) (side : List (ℤ × ℤ)) (j : ℕ) : Type 0 where
  pub order : suc j < length side → value_at side (suc j) ≤ℤ value_at side j
  pub tight : JoinsEqual side j
  pub balance : IsInSpan rows (value_at side j) (amount_before side j -ℤ amount_at side j)

-- step j of rise i is of the group at the place j, step j of fall i of that at the place i + j
abbrev pub KeepsRise : Problem → Peaked → ℕ → ℕ → Type 0
KeepsRise s x i j = IsRiseStep (s.rows j) (rise_at x i) j

abbrev pub KeepsFall : Problem → Peaked → ℕ → ℕ → Type 0
KeepsFall s x i j = IsFallStep (s.rows (i + j)) (fall_at x i) j

-- what the rise of the first i groups costs, and the fall of those from the place i on; 0 where there are none
abbrev pub rise_cost : Problem → Peaked → ℕ → ℕ
rise_cost s x i = sum_below (λ j. median.cost (s.rows j) (value_at (rise_at x i) j) 1) i

abbrev pub fall_cost : Problem → Peaked → ℕ → ℕ
fall_cost s x i = sum_below (λ j. median.cost (s.rows (i + j)) (value_at (fall_at x i) j) 1) (s.count - i)

-- the first i groups' rise and the others' fall cost together no less than is printed
abbrev pub IsReached : Problem → Peaked → ℕ → Type 0
IsReached s x i = x.cost ≤ rise_cost s x i + fall_cost s x i

-- the sheets that come past the first two, three, up to five of these, and those that come past all six; own are the decimal places of the study
pub record IsPeaked (s : Problem) (own : ℕ) (x : Peaked) : Type 0 where
  pub settings : x.places ≡ own
  pub shape : AllBelow (KeepsShape x) (s.count - 1)

pub record IsCosted (s : Problem) (own : ℕ) (x : Peaked) : Type 0 where
  pub peaked : IsPeaked s own x
  pub cost : HasCost s x

pub record HasRises (s : Problem) (own : ℕ) (x : Peaked) : Type 0 where
  pub costed : IsCosted s own x
  pub rises : (i : ℕ) → 1 ≤ i → i ≤ s.count → AllBelow (KeepsRise s x i) i

pub record HasFalls (s : Problem) (own : ℕ) (x : Peaked) : Type 0 where
  pub rises : HasRises s own x
  pub falls : (i : ℕ) → i < s.count → AllBelow (KeepsFall s x i) (s.count - i)

pub record PeakPasses (s : Problem) (own : ℕ) (x : Peaked) : Type 0 where
  pub sides : HasFalls s own x
  pub least : AllBelow (IsReached s x) (suc s.count)

-- the first rise that breaks a rule, and the place of its first group that does
pub record BreaksRise (s : Problem) (x : Peaked) (i place : ℕ) : Type 0 where
  pub from_one : 1 ≤ i
  pub most : i ≤ s.count
  pub before : (k : ℕ) → 1 ≤ k → k < i → AllBelow (KeepsRise s x k) k
  pub fails : FailsFirst (KeepsRise s x i) i place

pub record BreaksFall (s : Problem) (x : Peaked) (i place : ℕ) : Type 0 where
  pub most : i < s.count
  pub before : (k : ℕ) → k < i → AllBelow (KeepsFall s x k) (s.count - k)
  pub step : ℕ
  pub is_place : place ≡ i + step
  pub fails : FailsFirst (KeepsFall s x i) (s.count - i) step

abbrev pub IsPeakVerdict : Problem → ℕ → Peaked → PeakVerdict → Type 0
IsPeakVerdict s own x settings_differ = x.places ≡ own → ⊥
IsPeakVerdict s own x (shape_breaks place) = (x.places ≡ own) × FailsFirst (KeepsShape x) (s.count - 1) place
IsPeakVerdict s own x cost_differs = IsPeaked s own x × (HasCost s x → ⊥)
IsPeakVerdict s own x (rise_breaks i place) = IsCosted s own x × BreaksRise s x i place
IsPeakVerdict s own x (fall_breaks i place) = HasRises s own x × BreaksFall s x i place
IsPeakVerdict s own x (not_least i) = HasFalls s own x × FailsFirst (IsReached s x) (suc s.count) i
IsPeakVerdict s own x passes = PeakPasses s own x
