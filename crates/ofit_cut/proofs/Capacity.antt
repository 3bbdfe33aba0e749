-- What of a cut's capacity each part of the net has.
use Rattle.std.proofs.Common.{◌≡◌, ℕ, zero, suc, refl, ap, sym, ◌∙◌, arith, Bool, true, false, cond, not, ◌&&◌, nat_eq, List, [], ◌∷◌, ◌++◌}
use Rattle.std.proofs.lemmas.Int.{ints}
use Rattle.std.proofs.lemmas.Bool.{eqb-true}
use Rattle.std.proofs.lemmas.List.Elements.{All-nil, All-cons}
use Rattle.std.specs.Prelude.{ℤ, pos, negsuc, ◌+ℤ◌, ◌-ℤ◌, ◌≤ℤ◌, ◌<ℤ◌}
use Rattle.ofit_flow.specs.declared.edge.Edge.{Edge}
use Rattle.ofit_flow.specs.declared.edge.TheConstants.{MAX_CAPACITY}
use Rattle.ofit_flow.specs.Cut.{capacity}
use Rattle.ofit_cut.specs.declared.edges.Ends.{Ends}
use Rattle.ofit_cut.specs.declared.span.Span.{Span}
use Rattle.ofit_cut.specs.Sets.{IsUpper, set_sum, weight_at}
use Rattle.ofit_cut.specs.Span.{span_at}
use Rattle.ofit_cut.specs.Edges.{gain, loss, pair_edges, weight_edges, sum_to}
use Rattle.ofit_cut.specs.Slack.{rise, fall, slack_edges, supply, demand, hub_edges}

pub capacity-append : (set : ℕ → Bool) (es ds : List Edge) → capacity set (es ++ ds) ≡ capacity set es +ℤ capacity set ds
capacity-append set [] ds = omega (arith, ints)
capacity-append set (e ∷ es) ds = omega (arith, ints, capacity-append set es ds)

pub cond-low : (b : Bool) (x : ℤ) → pos 0 ≤ℤ x → pos 0 ≤ℤ cond b x (pos 0)
cond-low true x h = h
cond-low false x h = omega (arith, ints)

-- the edge of a pair, by whether its ends are equal
abbrev pub edge_by : Ends → ℕ × ℕ → Bool → Edge
edge_by ends pair b = cond b (record { from = ends.source; to = ends.sink; cap = pos 0 }) (record { from = pair.0; to = pair.1; cap = MAX_CAPACITY })

-- the capacity of one edge
abbrev pub part : (ℕ → Bool) → Edge → ℤ
part set e = cond (set e.from && not (set e.to)) e.cap (pos 0)

pair-low : (set : ℕ → Bool) (ends : Ends) (pair : ℕ × ℕ) (b : Bool) → pos 0 ≤ℤ part set (edge_by ends pair b)
pair-low set ends pair true = cond-low (set ends.source && not (set ends.sink)) (pos 0) (omega (arith, ints))
pair-low set ends pair false = cond-low (set pair.0 && not (set pair.1)) MAX_CAPACITY (omega (arith, ints))

pub pairs-low : (set : ℕ → Bool) (ends : Ends) (ps : List (ℕ × ℕ)) → pos 0 ≤ℤ capacity set (pair_edges ends ps)
pairs-low set ends [] = omega (arith, ints)
pairs-low set ends (p ∷ ps) = omega (arith, ints, pair-low set ends p (nat_eq p.0 p.1), pairs-low set ends ps)

pair-upper : (set : ℕ → Bool) (ends : Ends) (pair : ℕ × ℕ) (b : Bool) → (b ≡ true → pair.0 ≡ pair.1) → part set (edge_by ends pair b) <ℤ MAX_CAPACITY → set pair.0 ≡ true → set pair.1 ≡ true
pair-upper set ends pair true same small h = ap set (sym (same refl)) ∙ h
pair-upper set ends pair false same small h = go (set pair.0) (set pair.1) h small where
  go : (x y : Bool) → x ≡ true → cond (x && not y) MAX_CAPACITY (pos 0) <ℤ MAX_CAPACITY → y ≡ true
  go x true k l = refl
  go true false k l = absurd (omega (arith, ints))
  go false false k l = k

-- a cut of less than a pair's capacity cuts no pair
pub pairs-upper : (set : ℕ → Bool) (ends : Ends) (ps : List (ℕ × ℕ)) → capacity set (pair_edges ends ps) <ℤ MAX_CAPACITY → IsUpper ps set
pairs-upper set ends [] small = All-nil (λ pair. set pair.0 ≡ true → set pair.1 ≡ true)
pairs-upper set ends (p ∷ ps) small =
    All-cons (λ pair. set pair.0 ≡ true → set pair.1 ≡ true) p ps
    (pair-upper set ends p (nat_eq p.0 p.1) (eqb-true p.0 p.1) (omega (arith, ints, pairs-low set ends ps)))
    (pairs-upper set ends ps (omega (arith, ints, pair-low set ends p (nat_eq p.0 p.1))))

pair-none : (set : ℕ → Bool) (ends : Ends) (pair : ℕ × ℕ) (b : Bool) → (set pair.0 ≡ true → set pair.1 ≡ true) → part set (edge_by ends pair b) ≡ pos 0
pair-none set ends pair true up = go (set ends.source && not (set ends.sink)) where
  go : (x : Bool) → cond x (pos 0) (pos 0) ≡ pos 0
  go true = refl
  go false = refl
pair-none set ends pair false up = go (set pair.0) (set pair.1) up where
  go : (x y : Bool) → (x ≡ true → y ≡ true) → cond (x && not y) MAX_CAPACITY (pos 0) ≡ pos 0
  go true true k = refl
  go true false k = absurd (cc (k refl))
  go false y k = refl

-- an upper set cuts no pair
pub pairs-none : (set : ℕ → Bool) (ends : Ends) (ps : List (ℕ × ℕ)) → IsUpper ps set → capacity set (pair_edges ends ps) ≡ pos 0
pairs-none set ends [] up = refl
pairs-none set ends (p ∷ ps) up =
    omega (arith, ints, pair-none set ends p (nat_eq p.0 p.1) (up 0 p (omega arith)), pairs-none set ends ps (λ k d l. up (suc k) d (omega arith)))

pub gain-loss : (w : ℤ) → gain w -ℤ loss w ≡ w
gain-loss (pos n) = omega (arith, ints)
gain-loss (negsuc n) = omega (arith, ints)

pub gain-low : (w : ℤ) → pos 0 ≤ℤ gain w
gain-low (pos n) = omega (arith, ints)
gain-low (negsuc n) = omega (arith, ints)

pub loss-low : (w : ℤ) → pos 0 ≤ℤ loss w
loss-low (pos n) = omega (arith, ints)
loss-low (negsuc n) = omega (arith, ints)

weight-part : (s t x : Bool) (w : ℤ) → s ≡ true → t ≡ false → cond (s && not x) (gain w) (pos 0) +ℤ (cond (x && not t) (loss w) (pos 0) +ℤ pos 0) ≡ gain w -ℤ cond x w (pos 0)
weight-part true true x w a b = absurd (cc b)
weight-part true false true w a b = omega (arith, ints, gain-loss w)
weight-part true false false w a b = omega (arith, ints)
weight-part false t x w a b = absurd (cc a)

-- a cut leaves out what the weights of its nodes sum to
pub weights-capacity : (set : ℕ → Bool) (ends : Ends) (w : ℕ → ℤ) (n : ℕ) → set ends.source ≡ true → set ends.sink ≡ false → capacity set (weight_edges ends w n) ≡ sum_to (λ v. gain (w v)) n -ℤ set_sum set w n
weights-capacity set ends w zero s t = refl
weights-capacity set ends w (suc n) s t =
    omega (
      arith,
      ints,
      capacity-append set (weight_edges ends w n) (record { from = ends.source; to = n; cap = gain (w n) } ∷ record { from = n; to = ends.sink; cap = loss (w n) } ∷ []),
      weights-capacity set ends w n s t,
      weight-part (set ends.source) (set ends.sink) (set n) (w n) s t,
    )

fall-part : (f x : Bool) (up down : ℤ) → f ≡ false → cond (f && not x) up (pos 0) +ℤ (cond (x && not f) down (pos 0) +ℤ pos 0) ≡ cond x down (pos 0)
fall-part true x up down e = absurd (cc e)
fall-part false true up down e = omega (arith, ints)
fall-part false false up down e = omega (arith, ints)

rise-part : (f x : Bool) (up down : ℤ) → f ≡ true → cond (f && not x) up (pos 0) +ℤ (cond (x && not f) down (pos 0) +ℤ pos 0) ≡ cond (not x) up (pos 0)
rise-part true true up down e = omega (arith, ints)
rise-part true false up down e = omega (arith, ints)
rise-part false x up down e = absurd (cc e)

-- how far the base of a node can fall, or rise
abbrev pub fall_at : List Span → List ℤ → ℕ → ℤ
fall_at spans bases v = fall (span_at spans v).least (weight_at bases v)

abbrev pub rise_at : List Span → List ℤ → ℕ → ℤ
rise_at spans bases v = rise (span_at spans v).greatest (weight_at bases v)

slack_pair : ℕ → List Span → List ℤ → ℕ → List Edge
slack_pair hub spans bases n = record { from = hub; to = n; cap = rise_at spans bases n } ∷ record { from = n; to = hub; cap = fall_at spans bases n } ∷ []

-- without the hub, the falls of the cut's nodes; with it, the rises of the others
pub slack-falls : (set : ℕ → Bool) (hub : ℕ) (spans : List Span) (bases : List ℤ) (n : ℕ) → set hub ≡ false → capacity set (slack_edges hub spans bases n) ≡ set_sum set (fall_at spans bases) n
unfolding slack_pair
slack-falls set hub spans bases zero h = refl
slack-falls set hub spans bases (suc n) h =
    omega (arith, ints, capacity-append set (slack_edges hub spans bases n) (slack_pair hub spans bases n), slack-falls set hub spans bases n h, fall-part (set hub) (set n) (rise_at spans bases n) (fall_at spans bases n) h)

pub slack-rises : (set : ℕ → Bool) (hub : ℕ) (spans : List Span) (bases : List ℤ) (n : ℕ) → set hub ≡ true → capacity set (slack_edges hub spans bases n) ≡ set_sum (λ v. not (set v)) (rise_at spans bases) n
unfolding slack_pair
slack-rises set hub spans bases zero h = refl
slack-rises set hub spans bases (suc n) h =
    omega (arith, ints, capacity-append set (slack_edges hub spans bases n) (slack_pair hub spans bases n), slack-rises set hub spans bases n h, rise-part (set hub) (set n) (rise_at spans bases n) (fall_at spans bases n) h)

pub hub-demand : (set : ℕ → Bool) (ends : Ends) (hub : ℕ) (bases : List ℤ) (n : ℕ) → set ends.source ≡ true → set ends.sink ≡ false → set hub ≡ false → capacity set (hub_edges ends hub bases n) ≡ demand bases n
hub-demand set ends hub bases n s t h = go (set ends.source) (set ends.sink) (set hub) (demand bases n) (supply bases n) s t h where
  go : (s t f : Bool) (d p : ℤ) → s ≡ true → t ≡ false → f ≡ false → cond (s && not f) d (pos 0) +ℤ (cond (f && not t) p (pos 0) +ℤ pos 0) ≡ d
  go true t false d p a b e = omega (arith, ints)
  go true t true d p a b e = absurd (cc e)
  go false t f d p a b e = absurd (cc a)

pub hub-supply : (set : ℕ → Bool) (ends : Ends) (hub : ℕ) (bases : List ℤ) (n : ℕ) → set ends.source ≡ true → set ends.sink ≡ false → set hub ≡ true → capacity set (hub_edges ends hub bases n) ≡ supply bases n
hub-supply set ends hub bases n s t h = go (set ends.source) (set ends.sink) (set hub) (demand bases n) (supply bases n) s t h where
  go : (s t f : Bool) (d p : ℤ) → s ≡ true → t ≡ false → f ≡ true → cond (s && not f) d (pos 0) +ℤ (cond (f && not t) p (pos 0) +ℤ pos 0) ≡ p
  go true false true d p a b e = omega (arith, ints)
  go true true f d p a b e = absurd (cc b)
  go true false false d p a b e = absurd (cc e)
  go false t f d p a b e = absurd (cc a)
