-- Each edge of the nets can be added, and there are few.
use Rattle.std.proofs.Common.{◌≡◌, ◌≢◌, ℕ, zero, suc, ◌<◌, ◌≤◌, ◌+◌, ◌*◌, ◌^◌, refl, sym, arith, Bool, true, false, nat_eq, List, [], ◌∷◌, ◌++◌, length, length-append, Option, Some, None}
use Rattle.std.proofs.lemmas.Int.{ints}
use Rattle.std.proofs.lemmas.Bool.{eqb-false}
use Rattle.std.proofs.lemmas.List.{length-map}
use Rattle.std.proofs.lemmas.List.Elements.{All-nil, All-cons, All-append}
use Rattle.std.specs.List.{All}
use Rattle.std.specs.Prelude.{ℤ, pos, negsuc, ◌-ℤ◌, ◌≤ℤ◌, unsigned_abs}
use Rattle.ofit_flow.specs.declared.edge.Edge.{Edge}
use Rattle.ofit_flow.specs.declared.edge.TheConstants.{MAX_CAPACITY}
use Rattle.ofit_flow.specs.Network.{CanAdd}
use Rattle.ofit_cut.specs.declared.edges.Ends.{Ends}
use Rattle.ofit_cut.specs.declared.span.Span.{Span}
use Rattle.ofit_cut.specs.Sets.{AreWithin, weight_at, total_size}
use Rattle.ofit_cut.specs.Span.{span_at, span_size, total_span}
use Rattle.ofit_cut.specs.Edges.{pair_edge, pair_edges, weight_edges, gain, loss}
use Rattle.ofit_cut.specs.Slack.{rise, fall, slack_edges, hub_edges, balance_edges, AreBases}
use Rattle.ofit_cut.proofs.Capacity.{edge_by, gain-low, loss-low, fall_at, rise_at}
use Rattle.ofit_cut.proofs.Rest.{fall-low, rise-low, supply-low, demand-low}
use Rattle.ofit_cut.proofs.Sizes.{bases-size, span-le, weight-le, supply-small, demand-small}
use Rattle.ofit_cut.proofs.Hoffman.{AreApart}
use Rattle.ofit_cut.proofs.Picard.{cut_edges}

-- the source and the sink are below `nodes`, and no nodes
pub record AreEnds (n nodes : ℕ) (ends : Ends) : Type 0 where
  pub source_in : ends.source < nodes
  pub sink_in : ends.sink < nodes
  pub source_out : n ≤ ends.source
  pub sink_out : n ≤ ends.sink
  pub apart : ends.source ≢ ends.sink

pair-can : (n nodes : ℕ) (ends : Ends) (pair : ℕ × ℕ) (b : Bool) → AreEnds n nodes ends → (pair.0 < n) × (pair.1 < n) → (b ≡ false → pair.0 ≢ pair.1) → CanAdd nodes (edge_by ends pair b)
pair-can n nodes ends pair true e i d = record { from_in = e.source_in; to_in = e.sink_in; apart = e.apart; cap_low = omega (arith, ints); cap_high = omega (arith, ints) }
pair-can n nodes ends pair false e i d = record {
  from_in = omega (arith, i.0, e.source_in, e.source_out);
  to_in = omega (arith, i.1, e.source_in, e.source_out);
  apart = d refl;
  cap_low = omega (arith, ints);
  cap_high = omega (arith, ints);
}

pairs-can : (n nodes : ℕ) (ends : Ends) (pairs : List (ℕ × ℕ)) → AreEnds n nodes ends → AreWithin pairs n → All (CanAdd nodes) (pair_edges ends pairs)
pairs-can n nodes ends [] e i = All-nil (CanAdd nodes)
pairs-can n nodes ends (p ∷ ps) e i =
    All-cons (CanAdd nodes) (pair_edge ends p) (pair_edges ends ps) (pair-can n nodes ends p (nat_eq p.0 p.1) e (i 0 p (omega arith)) (eqb-false p.0 p.1)) (pairs-can n nodes ends ps e (λ k d l. i (suc k) d (omega arith)))

two-can : (nodes : ℕ) (a b : Edge) → CanAdd nodes a → CanAdd nodes b → All (CanAdd nodes) (a ∷ b ∷ [])
two-can nodes a b h k = All-cons (CanAdd nodes) a (b ∷ []) h (All-cons (CanAdd nodes) b [] k (All-nil (CanAdd nodes)))

gain-high : (w : ℤ) → gain w ≤ℤ pos (unsigned_abs w)
gain-high (pos n) = omega (arith, ints)
gain-high (negsuc n) = omega (arith, ints)

loss-high : (w : ℤ) → loss w ≤ℤ pos (unsigned_abs w)
loss-high (pos n) = omega (arith, ints)
loss-high (negsuc n) = omega (arith, ints)

weights-can : (count nodes : ℕ) (ends : Ends) (w : ℕ → ℤ) (n : ℕ) → n ≤ count → AreEnds count nodes ends → ((v : ℕ) → v < n → unsigned_abs (w v) ≤ 2 * 10 ^ 33) → All (CanAdd nodes) (weight_edges ends w n)
weights-can count nodes ends w zero l e small = All-nil (CanAdd nodes)
weights-can count nodes ends w (suc n) l e small =
    All-append (CanAdd nodes) (weight_edges ends w n) (record { from = ends.source; to = n; cap = gain (w n) } ∷ record { from = n; to = ends.sink; cap = loss (w n) } ∷ [])
    (weights-can count nodes ends w n (omega arith) e (λ v b. small v (omega arith)))
    (two-can nodes _ _
    (record { from_in = e.source_in; to_in = omega (arith, e.source_in, e.source_out); apart = λ h. absurd (omega (arith, e.source_out)); cap_low = gain-low (w n); cap_high = omega (arith, ints, gain-high (w n), small n (omega arith)) })
    (record { from_in = omega (arith, e.source_in, e.source_out); to_in = e.sink_in; apart = λ h. absurd (omega (arith, e.sink_out)); cap_low = loss-low (w n); cap_high = omega (arith, ints, loss-high (w n), small n (omega arith)) }))

rise-high : (spans : List Span) (bases : List ℤ) (v : ℕ) → AreBases spans bases → v < length spans → total_span spans ≤ 2 * 10 ^ 33 → rise_at spans bases v ≤ℤ MAX_CAPACITY
rise-high spans bases v all l small = go (span_at spans v).greatest (all.each v l).rises where
  go : (greatest : Option ℤ) → ((end : ℤ) → greatest ≡ Some end → (end -ℤ weight_at bases v) ≤ℤ pos (span_size (span_at spans v))) → rise greatest (weight_at bases v) ≤ℤ MAX_CAPACITY
  go None h = omega (arith, ints)
  go (Some end) h = omega (arith, ints, h end refl, span-le spans v l)

fall-high : (spans : List Span) (bases : List ℤ) (v : ℕ) → AreBases spans bases → v < length spans → total_span spans ≤ 2 * 10 ^ 33 → fall_at spans bases v ≤ℤ MAX_CAPACITY
fall-high spans bases v all l small = go (span_at spans v).least (all.each v l).falls where
  go : (least : Option ℤ) → ((end : ℤ) → least ≡ Some end → (weight_at bases v -ℤ end) ≤ℤ pos (span_size (span_at spans v))) → fall least (weight_at bases v) ≤ℤ MAX_CAPACITY
  go None h = omega (arith, ints)
  go (Some end) h = omega (arith, ints, h end refl, span-le spans v l)

slack-can : (nodes hub : ℕ) (spans : List Span) (bases : List ℤ) (n : ℕ) → n ≤ length spans → hub < nodes → length spans ≤ hub → AreBases spans bases → total_span spans ≤ 2 * 10 ^ 33 → All (CanAdd nodes) (slack_edges hub spans bases n)
slack-can nodes hub spans bases zero l i o all small = All-nil (CanAdd nodes)
slack-can nodes hub spans bases (suc n) l i o all small =
    All-append (CanAdd nodes) (slack_edges hub spans bases n) (record { from = hub; to = n; cap = rise_at spans bases n } ∷ record { from = n; to = hub; cap = fall_at spans bases n } ∷ [])
    (slack-can nodes hub spans bases n (omega arith) i o all small)
    (two-can nodes _ _
    (record { from_in = i; to_in = omega arith; apart = λ h. absurd (omega arith); cap_low = rise-low spans bases n all (omega arith); cap_high = rise-high spans bases n all (omega arith) small })
    (record { from_in = omega arith; to_in = i; apart = λ h. absurd (omega arith); cap_low = fall-low spans bases n all (omega arith); cap_high = fall-high spans bases n all (omega arith) small }))

weights-long : (ends : Ends) (w : ℕ → ℤ) (n : ℕ) → length (weight_edges ends w n) ≡ 2 * n
weights-long ends w zero = refl
weights-long ends w (suc n) =
    omega (arith, weights-long ends w n, length-append (weight_edges ends w n) (record { from = ends.source; to = n; cap = gain (w n) } ∷ record { from = n; to = ends.sink; cap = loss (w n) } ∷ []))

slack-long : (hub : ℕ) (spans : List Span) (bases : List ℤ) (n : ℕ) → length (slack_edges hub spans bases n) ≡ 2 * n
slack-long hub spans bases zero = refl
slack-long hub spans bases (suc n) =
    omega (arith, slack-long hub spans bases n, length-append (slack_edges hub spans bases n) (record { from = hub; to = n; cap = rise_at spans bases n } ∷ record { from = n; to = hub; cap = fall_at spans bases n } ∷ []))

-- the net of a cut
pub cut-long : (ends : Ends) (pairs : List (ℕ × ℕ)) (ws : List ℤ) → length (cut_edges ends pairs ws) ≡ length pairs + 2 * length ws
cut-long ends pairs ws =
    omega (arith, length-append (pair_edges ends pairs) (weight_edges ends (weight_at ws) (length ws)), weights-long ends (weight_at ws) (length ws), length-map pairs (pair_edge ends))

pub cut-can : (nodes : ℕ) (ends : Ends) (pairs : List (ℕ × ℕ)) (ws : List ℤ) → AreEnds (length ws) nodes ends → AreWithin pairs (length ws) → total_size ws ≤ 2 * 10 ^ 33 → All (CanAdd nodes) (cut_edges ends pairs ws)
cut-can nodes ends pairs ws e i small =
    All-append (CanAdd nodes) (pair_edges ends pairs) (weight_edges ends (weight_at ws) (length ws)) (pairs-can (length ws) nodes ends pairs e i)
    (weights-can (length ws) nodes ends (weight_at ws) (length ws) (omega arith) e (λ v l. omega (arith, weight-le ws v l)))

-- the net of a balance
pub balance-long : (ends : Ends) (hub : ℕ) (pairs : List (ℕ × ℕ)) (spans : List Span) (bases : List ℤ) → length (balance_edges ends hub pairs spans bases) ≡ length pairs + 4 * length spans + 2
balance-long ends hub pairs spans bases =
    let n = length spans in
    omega (
      arith,
      length-append (pair_edges ends pairs) (weight_edges ends (weight_at bases) n ++ (slack_edges hub spans bases n ++ hub_edges ends hub bases n)),
      length-append (weight_edges ends (weight_at bases) n) (slack_edges hub spans bases n ++ hub_edges ends hub bases n),
      length-append (slack_edges hub spans bases n) (hub_edges ends hub bases n),
      weights-long ends (weight_at bases) n,
      slack-long hub spans bases n,
      length-map pairs (pair_edge ends),
    )

pub balance-can : (nodes : ℕ) (ends : Ends) (hub : ℕ) (pairs : List (ℕ × ℕ)) (spans : List Span) (bases : List ℤ) → AreEnds (length spans) nodes ends → hub < nodes → AreApart (length spans) ends hub
    → AreWithin pairs (length spans) → AreBases spans bases → total_span spans ≤ 2 * 10 ^ 33 → All (CanAdd nodes) (balance_edges ends hub pairs spans bases)
balance-can nodes ends hub pairs spans bases e hub_in apart i all small =
    let n = length spans in
    let size : total_size bases ≤ total_span spans = bases-size spans bases all in
    All-append (CanAdd nodes) (pair_edges ends pairs) (weight_edges ends (weight_at bases) n ++ (slack_edges hub spans bases n ++ hub_edges ends hub bases n)) (pairs-can n nodes ends pairs e i)
    (All-append (CanAdd nodes) (weight_edges ends (weight_at bases) n) (slack_edges hub spans bases n ++ hub_edges ends hub bases n)
    (weights-can n nodes ends (weight_at bases) n (omega arith) e (λ v l. omega (arith, weight-le bases v (omega (arith, all.counted)))))
    (All-append (CanAdd nodes) (slack_edges hub spans bases n) (hub_edges ends hub bases n) (slack-can nodes hub spans bases n (omega arith) hub_in apart.hub_out all small)
    (two-can nodes _ _
    (record { from_in = e.source_in; to_in = hub_in; apart = λ h. apart.hub_source (sym h); cap_low = demand-low bases n; cap_high = omega (arith, ints, demand-small bases n (omega (arith, all.counted)) (omega arith)) })
    (record { from_in = hub_in; to_in = e.sink_in; apart = apart.hub_sink; cap_low = supply-low bases n; cap_high = omega (arith, ints, supply-small bases n (omega (arith, all.counted)) (omega arith)) }))))
