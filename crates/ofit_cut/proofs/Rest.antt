-- The capacity of the edges of a balance that belong to no pair.
use Rattle.std.proofs.Common.{◌≡◌, ℕ, zero, suc, ◌<◌, refl, ap, sym, ◌∙◌, arith, inl, inr, Bool, true, false, cond, not, ◌&&◌, List, [], ◌∷◌, ◌++◌, length, Option, Some, None}
use Rattle.std.proofs.lemmas.Int.{ints}
use Rattle.std.proofs.lemmas.Bool.{cases_order}
use Rattle.std.specs.Prelude.{ℤ, pos, ◌+ℤ◌, ◌-ℤ◌, ◌≤ℤ◌}
use Rattle.ofit_flow.specs.declared.edge.Edge.{Edge}
use Rattle.ofit_flow.specs.Cut.{capacity}
use Rattle.ofit_cut.specs.declared.edges.Ends.{Ends}
use Rattle.ofit_cut.specs.declared.span.Span.{Span}
use Rattle.ofit_cut.specs.Sets.{set_sum, weight_at}
use Rattle.ofit_cut.specs.Span.{span_at}
use Rattle.ofit_cut.specs.Edges.{gain, loss, weight_edges, sum_to}
use Rattle.ofit_cut.specs.Slack.{rise, fall, slack_edges, supply, demand, hub_edges, AreBases}
use Rattle.ofit_flow.proofs.Sums.{set_sum-add, set_sum-sub}
use Rattle.ofit_cut.proofs.Sums.{set_sum-both, sum_to-sub, sum_to-same, sum_to-low}
use Rattle.ofit_cut.proofs.Capacity.{capacity-append, weights-capacity, slack-falls, slack-rises, hub-demand, hub-supply, gain-loss, gain-low, loss-low, cond-low, fall_at, rise_at}

-- the edges of no pair
abbrev pub rest_edges : Ends → ℕ → List Span → List ℤ → List Edge
rest_edges ends hub spans bases =
    weight_edges ends (weight_at bases) (length spans) ++ (slack_edges hub spans bases (length spans) ++ hub_edges ends hub bases (length spans))

-- what the hub gives and takes in all
abbrev pub turnover : List ℤ → ℕ → ℤ
turnover bases n = supply bases n +ℤ demand bases n

-- the end to which a base falls, or rises, along its slack edge
abbrev pub floor_at : List Span → List ℤ → ℕ → ℤ
floor_at spans bases v = weight_at bases v -ℤ fall_at spans bases v

abbrev pub ceiling_at : List Span → List ℤ → ℕ → ℤ
ceiling_at spans bases v = weight_at bases v +ℤ rise_at spans bases v

parts : (set : ℕ → Bool) (ends : Ends) (hub : ℕ) (spans : List Span) (bases : List ℤ) → capacity set (rest_edges ends hub spans bases)
    ≡ capacity set (weight_edges ends (weight_at bases) (length spans)) +ℤ (capacity set (slack_edges hub spans bases (length spans)) +ℤ capacity set (hub_edges ends hub bases (length spans)))
parts set ends hub spans bases =
    capacity-append set (weight_edges ends (weight_at bases) (length spans)) (slack_edges hub spans bases (length spans) ++ hub_edges ends hub bases (length spans))
    ∙ ap (λ (z : ℤ). capacity set (weight_edges ends (weight_at bases) (length spans)) +ℤ z) (capacity-append set (slack_edges hub spans bases (length spans)) (hub_edges ends hub bases (length spans)))

-- the bases sum to what the hub gives less what it takes
pub bases-sum : (bases : List ℤ) (n : ℕ) → sum_to (weight_at bases) n ≡ supply bases n -ℤ demand bases n
bases-sum bases n =
    sum_to-same (weight_at bases) (λ v. gain (weight_at bases v) -ℤ loss (weight_at bases v)) n (λ v l. sym (gain-loss (weight_at bases v)))
    ∙ sum_to-sub (λ v. gain (weight_at bases v)) (λ v. loss (weight_at bases v)) n

-- a cut without the hub leaves out the least ends of its nodes
pub rest-floors : (set : ℕ → Bool) (ends : Ends) (hub : ℕ) (spans : List Span) (bases : List ℤ) → set ends.source ≡ true → set ends.sink ≡ false → set hub ≡ false
    → capacity set (rest_edges ends hub spans bases) ≡ turnover bases (length spans) -ℤ set_sum set (floor_at spans bases) (length spans)
rest-floors set ends hub spans bases s t h =
    let n = length spans in
    let floors : set_sum set (floor_at spans bases) n ≡ set_sum set (weight_at bases) n -ℤ set_sum set (fall_at spans bases) n = set_sum-sub set (weight_at bases) (fall_at spans bases) n in
    omega (arith, ints, parts set ends hub spans bases, weights-capacity set ends (weight_at bases) n s t, slack-falls set hub spans bases n h, hub-demand set ends hub bases n s t h, floors)

-- a cut with the hub adds the greatest ends of the other nodes
pub rest-ceilings : (set : ℕ → Bool) (ends : Ends) (hub : ℕ) (spans : List Span) (bases : List ℤ) → set ends.source ≡ true → set ends.sink ≡ false → set hub ≡ true
    → capacity set (rest_edges ends hub spans bases) ≡ turnover bases (length spans) +ℤ set_sum (λ v. not (set v)) (ceiling_at spans bases) (length spans)
rest-ceilings set ends hub spans bases s t h =
    let n = length spans in
    let ceilings : set_sum (λ v. not (set v)) (ceiling_at spans bases) n ≡ set_sum (λ v. not (set v)) (weight_at bases) n +ℤ set_sum (λ v. not (set v)) (rise_at spans bases) n = set_sum-add (λ v. not (set v)) (weight_at bases) (rise_at spans bases) n in
    omega (
      arith,
      ints,
      parts set ends hub spans bases,
      weights-capacity set ends (weight_at bases) n s t,
      slack-rises set hub spans bases n h,
      hub-supply set ends hub bases n s t h,
      ceilings,
      set_sum-both set (weight_at bases) n,
      bases-sum bases n,
    )

pub weights-low : (set : ℕ → Bool) (ends : Ends) (w : ℕ → ℤ) (n : ℕ) → pos 0 ≤ℤ capacity set (weight_edges ends w n)
weights-low set ends w zero = omega (arith, ints)
weights-low set ends w (suc n) =
    omega (
      arith,
      ints,
      capacity-append set (weight_edges ends w n) (record { from = ends.source; to = n; cap = gain (w n) } ∷ record { from = n; to = ends.sink; cap = loss (w n) } ∷ []),
      weights-low set ends w n,
      cond-low (set ends.source && not (set n)) (gain (w n)) (gain-low (w n)),
      cond-low (set n && not (set ends.sink)) (loss (w n)) (loss-low (w n)),
    )

-- terms of a set that are at least 0: each is at most their sum
pub set_sum-low : (set : ℕ → Bool) (f : ℕ → ℤ) (n : ℕ) → ((v : ℕ) → v < n → pos 0 ≤ℤ f v) → pos 0 ≤ℤ set_sum set f n
set_sum-low set f zero low = omega (arith, ints)
set_sum-low set f (suc n) low = omega (arith, ints, set_sum-low set f n (λ v l. low v (omega arith)), cond-low (set n) (f n) (low n (omega arith)))

pub set_sum-term : (set : ℕ → Bool) (f : ℕ → ℤ) (n v : ℕ) → ((v : ℕ) → v < n → pos 0 ≤ℤ f v) → v < n → set v ≡ true → f v ≤ℤ set_sum set f n
set_sum-term set f zero v low l has = absurd (omega arith)
set_sum-term set f (suc n) v low l has = elim (cases_order v n) [
  | inl same ↦ omega (arith, ints, set_sum-low set f n (λ v l. low v (omega arith)), ap f same, ap (λ (b : Bool). cond b (f n) (pos 0)) (sym (ap set same) ∙ has))
  | inr o ↦ elim o [
    | inl below ↦ omega (arith, ints, set_sum-term set f n v (λ v l. low v (omega arith)) below has, cond-low (set n) (f n) (low n (omega arith)))
    | inr above ↦ absurd (omega arith)
  ]
]

pub fall-low : (spans : List Span) (bases : List ℤ) (v : ℕ) → AreBases spans bases → v < length spans → pos 0 ≤ℤ fall_at spans bases v
fall-low spans bases v all l = go (span_at spans v).least (all.each v l).inside.least where
  go : (least : Option ℤ) → ((end : ℤ) → least ≡ Some end → end ≤ℤ weight_at bases v) → pos 0 ≤ℤ fall least (weight_at bases v)
  go None h = omega (arith, ints)
  go (Some end) h = omega (arith, ints, h end refl)

pub rise-low : (spans : List Span) (bases : List ℤ) (v : ℕ) → AreBases spans bases → v < length spans → pos 0 ≤ℤ rise_at spans bases v
rise-low spans bases v all l = go (span_at spans v).greatest (all.each v l).inside.greatest where
  go : (greatest : Option ℤ) → ((end : ℤ) → greatest ≡ Some end → weight_at bases v ≤ℤ end) → pos 0 ≤ℤ rise greatest (weight_at bases v)
  go None h = omega (arith, ints)
  go (Some end) h = omega (arith, ints, h end refl)

pub supply-low : (bases : List ℤ) (n : ℕ) → pos 0 ≤ℤ supply bases n
supply-low bases n = sum_to-low (λ v. gain (weight_at bases v)) n (λ v l. gain-low (weight_at bases v))

pub demand-low : (bases : List ℤ) (n : ℕ) → pos 0 ≤ℤ demand bases n
demand-low bases n = sum_to-low (λ v. loss (weight_at bases v)) n (λ v l. loss-low (weight_at bases v))

-- the slack alone is at most the whole
pub falls-le : (set : ℕ → Bool) (ends : Ends) (hub : ℕ) (spans : List Span) (bases : List ℤ) → set ends.source ≡ true → set ends.sink ≡ false → set hub ≡ false
    → set_sum set (fall_at spans bases) (length spans) ≤ℤ capacity set (rest_edges ends hub spans bases)
falls-le set ends hub spans bases s t h =
    let n = length spans in
    omega (arith, ints, parts set ends hub spans bases, weights-low set ends (weight_at bases) n, slack-falls set hub spans bases n h, hub-demand set ends hub bases n s t h, demand-low bases n)

pub rises-le : (set : ℕ → Bool) (ends : Ends) (hub : ℕ) (spans : List Span) (bases : List ℤ) → set ends.source ≡ true → set ends.sink ≡ false → set hub ≡ true
    → set_sum (λ v. not (set v)) (rise_at spans bases) (length spans) ≤ℤ capacity set (rest_edges ends hub spans bases)
rises-le set ends hub spans bases s t h =
    let n = length spans in
    omega (arith, ints, parts set ends hub spans bases, weights-low set ends (weight_at bases) n, slack-rises set hub spans bases n h, hub-supply set ends hub bases n s t h, supply-low bases n)
