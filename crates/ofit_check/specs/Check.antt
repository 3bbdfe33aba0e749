-- What the parts of the check rest on, and what they find.
use Rattle.std.specs.Prelude.{◌≡◌, ℕ, zero, suc, ◌&&◌, cond, nat_eq, List, length, sum_by, slice_get, Some, Option, MatchOption, ℤ, pos, ◌-ℤ◌}
use Rattle.ofit_num.specs.Flow.{Flow}
use Rattle.ofit_num.specs.Sheet.{Sheet, FitsCount, Entry}
use Rattle.ofit_num.specs.Verdict.{AllBelow, FailsFirst, HasValue, IsOnPair, IsInOrder}
use Rattle.ofit_study.specs.Study.{Study, IsValid, names_of, problem_stated}
use Rattle.ofit_study.specs.declared.settings.Settings.{Settings}

-- the first number below n of which P fails, if there is one
abbrev pub IsFirstFailure : (ℕ → Type 0) → ℕ → Option ℕ → Type 0
IsFirstFailure P n found = MatchOption found (AllBelow P n) (λ i. FailsFirst P n i)

-- the flow of this number, which counts from 1, is the first of n of which P fails
abbrev pub FailsFirstAt : (ℕ → Type 0) → ℕ → ℕ → Type 0
FailsFirstAt P n zero = ⊥
FailsFirstAt P n (suc i) = FailsFirst P n i

abbrev pub IsFirstFlow : (ℕ → Type 0) → ℕ → Option ℕ → Type 0
IsFirstFlow P n found = MatchOption found (AllBelow P n) (FailsFirstAt P n)

-- the value at this index is that of the place of this number
abbrev pub IsAtPlace : {S : Type 0} → Sheet S → ℕ → Type 0
IsAtPlace x k = (e : Entry) × (slice_get x.values k ≡ Some e) × (e.place ≡ k)

-- each of the study's groups has a value
pub record HasValues (s : Study) (x : Sheet Settings) : Type 0 where
  pub valid : IsValid s
  pub fits : FitsCount (length (names_of s)) x
  pub complete : AllBelow (HasValue x) (length (names_of s))

-- the flows are on pairs of the study, in their order
pub record HasOrderedFlows (s : Study) (x : Sheet Settings) : Type 0 where
  pub valid : IsValid s
  pub on_pairs : AllBelow (IsOnPair (problem_stated s) x) (length x.flows)
  pub in_order : AllBelow (IsInOrder (problem_stated s) x) (length x.flows)

-- the amount of the flows along a pair
abbrev pub amount_along : List Flow → ℕ × ℕ → ℕ
amount_along flows e = sum_by (λ f. cond (nat_eq f.low e.0 && nat_eq f.high e.1) f.amount 0) flows

-- what an amount along a pair adds to the balance of a place
abbrev pub signed_amount : ℕ → ℕ × ℕ → ℕ → ℤ
signed_amount g e amount = pos (cond (nat_eq e.0 g) amount 0) -ℤ pos (cond (nat_eq e.1 g) amount 0)
