-- What a maximum flow of a balance's net tells of its pairs and spans, after Hoffman (1960).
use Rattle.std.proofs.Common.{◌≡◌, ◌≢◌, ℕ, ◌<◌, ◌≤◌, ◌+◌, ◌*◌, ◌^◌, refl, ap, sym, ◌∙◌, subst, arith, Bool, true, false, not, ◌||◌, nat_eq, List, length, take, drop, Option, Some, None, length-append}
use Rattle.std.proofs.lemmas.Int.{ints}
use Rattle.std.proofs.lemmas.Bool.{eqb-true, eq-eqb, ne_eqb, or_left, or_right, or_from}
use Rattle.std.proofs.lemmas.List.{length-map, get_or-map}
use Rattle.std.proofs.lemmas.List.Elements.{All-from_get_or}
use Rattle.std.specs.Prelude.{ℤ, pos, ◌+ℤ◌, ◌-ℤ◌, ◌≤ℤ◌, ◌<ℤ◌, IsSome}
use Rattle.ofit_flow.specs.declared.edge.Edge.{Edge}
use Rattle.ofit_flow.specs.declared.edge.TheConstants.{MAX_CAPACITY}
use Rattle.ofit_flow.specs.Cut.{IsCut, IsMinimumCut, capacity}
use Rattle.ofit_flow.specs.Flow.{IsFlow, IsWithin, value_of, edge_at, amount_at, no_edge}
use Rattle.ofit_flow.proofs.Crossing.{crossing, crossing-flow, crossing-le}
use Rattle.ofit_cut.specs.declared.edges.Ends.{Ends}
use Rattle.ofit_cut.specs.declared.span.Span.{Span}
use Rattle.ofit_cut.specs.Sets.{AreWithin, IsUpper, set_sum, weight_at}
use Rattle.ofit_cut.specs.Span.{span_at, end_or_zero}
use Rattle.ofit_cut.specs.Balance.{balance, pair_at, AreFlows, AreBalanced}
use Rattle.ofit_cut.specs.Barrier.{IsAbove, IsBelow}
use Rattle.ofit_cut.specs.Edges.{pair_edge, pair_edges}
use Rattle.ofit_cut.specs.Slack.{rise, fall, balance_edges, AreBases}
use Rattle.ofit_cut.proofs.Sums.{set_sum-same, set_sum-agree, set_sum-single, set_sum-none}
use Rattle.ofit_cut.proofs.Capacity.{capacity-append, edge_by, pairs-low, pairs-upper, pairs-none, fall_at, rise_at}
use Rattle.ofit_cut.proofs.Crossings.{crossing-append, crossing-not, within-front, within-back, pairs-crossing}
use Rattle.ofit_cut.proofs.Rest.{rest_edges, turnover, floor_at, ceiling_at, rest-floors, rest-ceilings, falls-le, rises-le, fall-low, rise-low, set_sum-low, set_sum-term}

-- the hub, the source and the sink are no nodes, and differ
pub record AreApart (n : ℕ) (ends : Ends) (hub : ℕ) : Type 0 where
  pub hub_out : n ≤ hub
  pub source_out : n ≤ ends.source
  pub sink_out : n ≤ ends.sink
  pub hub_source : hub ≢ ends.source
  pub hub_sink : hub ≢ ends.sink
  pub source_sink : ends.source ≢ ends.sink

-- amounts within the pairs' edges are flows
edge-cap : (ends : Ends) (pair : ℕ × ℕ) (b : Bool) → (edge_by ends pair b).cap ≤ℤ pos (2 * 10 ^ 33)
edge-cap ends pair true = omega (arith, ints)
edge-cap ends pair false = omega (arith, ints)

edge-loop : (ends : Ends) (pair : ℕ × ℕ) (b : Bool) → b ≡ true → (edge_by ends pair b).cap ≡ pos 0
edge-loop ends pair true e = refl
edge-loop ends pair false e = absurd (cc e)

pair-edge-at : (ends : Ends) (pairs : List (ℕ × ℕ)) (k : ℕ) → k < length pairs → edge_at (pair_edges ends pairs) k ≡ pair_edge ends (pair_at pairs k)
pair-edge-at ends pairs k l = get_or-map (pair_edge ends) pairs k (0, 0) no_edge l

pub flows_from_within : (ends : Ends) (pairs : List (ℕ × ℕ)) (xs : List ℤ) → IsWithin (pair_edges ends pairs) xs → AreFlows pairs xs
flows_from_within ends pairs xs h =
    let long : length (pair_edges ends pairs) ≡ length pairs = length-map pairs (pair_edge ends) in
    let cap : (k : ℕ) → k < length pairs → (edge_at (pair_edges ends pairs) k).cap ≡ (edge_by ends (pair_at pairs k) (nat_eq (pair_at pairs k).0 (pair_at pairs k).1)).cap = λ k l. ap (λ (e : Edge). e.cap) (pair-edge-at ends pairs k l) in
    record {
      counted = h.counted ∙ long;
      low = All-from_get_or (λ (x : ℤ). pos 0 ≤ℤ x) xs (pos 0) (λ k l. h.low k (omega (arith, h.counted)));
      high = All-from_get_or (λ (x : ℤ). x ≤ℤ pos (2 * 10 ^ 33)) xs (pos 0) (λ k l. omega (arith, ints, h.high k (omega (arith, h.counted)), cap k (omega (arith, h.counted)), edge-cap ends (pair_at pairs k) (nat_eq (pair_at pairs k).0 (pair_at pairs k).1)));
      loops = λ k l same. omega (arith, ints, h.low k (omega arith), h.high k (omega arith), cap k l, edge-loop ends (pair_at pairs k) (nat_eq (pair_at pairs k).0 (pair_at pairs k).1) (eq-eqb (pair_at pairs k).0 (pair_at pairs k).1 same));
    }

pub within_from_flows : (ends : Ends) (pairs : List (ℕ × ℕ)) (xs : List ℤ) → AreFlows pairs xs → IsWithin (pair_edges ends pairs) xs
within_from_flows ends pairs xs h =
    let long : length (pair_edges ends pairs) ≡ length pairs = length-map pairs (pair_edge ends) in
    record {
      counted = h.counted ∙ sym long;
      low = λ k l. h.low k (pos 0) (omega (arith, h.counted));
      high = λ k l. subst (λ (e : Edge). amount_at xs k ≤ℤ e.cap) (sym (pair-edge-at ends pairs k (omega arith)))
          (go (nat_eq (pair_at pairs k).0 (pair_at pairs k).1) k (eqb-true (pair_at pairs k).0 (pair_at pairs k).1) (omega arith));
    } where
      go : (b : Bool) (k : ℕ) → (b ≡ true → (pair_at pairs k).0 ≡ (pair_at pairs k).1) → k < length pairs → amount_at xs k ≤ℤ (edge_by ends (pair_at pairs k) b).cap
      go true k same l = omega (arith, ints, h.loops k l (same refl))
      go false k same l = omega (arith, ints, h.high k (pos 0) (omega (arith, h.counted)))

-- ends of spans, by what stands
floor-end : (least : Option ℤ) (base end : ℤ) → least ≡ Some end → base -ℤ fall least base ≡ end
floor-end None base end e = absurd (cc e)
floor-end (Some x) base end e = let same : x ≡ end = cc e in omega (arith, ints)

ceiling-end : (greatest : Option ℤ) (base end : ℤ) → greatest ≡ Some end → base +ℤ rise greatest base ≡ end
ceiling-end None base end e = absurd (cc e)
ceiling-end (Some x) base end e = let same : x ≡ end = cc e in omega (arith, ints)

floor-standing : (least : Option ℤ) (base : ℤ) → IsSome least → base -ℤ fall least base ≡ end_or_zero least
floor-standing None base s = absurd (cc s)
floor-standing (Some x) base s = omega (arith, ints)

ceiling-standing : (greatest : Option ℤ) (base : ℤ) → IsSome greatest → base +ℤ rise greatest base ≡ end_or_zero greatest
ceiling-standing None base s = absurd (cc s)
ceiling-standing (Some x) base s = omega (arith, ints)

stands-below : (least : Option ℤ) (base : ℤ) → fall least base <ℤ MAX_CAPACITY → IsSome least
stands-below None base l = absurd (omega (arith, ints))
stands-below (Some x) base l = refl

stands-above : (greatest : Option ℤ) (base : ℤ) → rise greatest base <ℤ MAX_CAPACITY → IsSome greatest
stands-above None base l = absurd (omega (arith, ints))
stands-above (Some x) base l = refl

not-not : (b : Bool) → not (not b) ≡ b
not-not true = refl
not-not false = refl

module _ (ends : Ends) (hub : ℕ) (pairs : List (ℕ × ℕ)) (spans : List Span) (bases : List ℤ)
    (apart : AreApart (length spans) ends hub) (inside : AreWithin pairs (length spans)) (all : AreBases spans bases) where
  abbrev here : ℕ
  here = length spans

  abbrev es : List Edge
  es = balance_edges ends hub pairs spans bases

  abbrev front : List ℤ → List ℤ
  front xs = take (length (pair_edges ends pairs)) xs

  abbrev back : List ℤ → List ℤ
  back xs = drop (length (pair_edges ends pairs)) xs

  -- the flow's value crosses a cut, in part along pairs and in part along the other edges
  cut-crossed : (xs : List ℤ) (set : ℕ → Bool) → IsFlow es ends.source ends.sink xs → IsCut ends.source ends.sink set
      → crossing set (pair_edges ends pairs) (front xs) +ℤ crossing set (rest_edges ends hub spans bases) (back xs) ≡ value_of es ends.source xs
  cut-crossed xs set flow cut =
      let long : length es ≡ length (pair_edges ends pairs) + length (rest_edges ends hub spans bases) = length-append (pair_edges ends pairs) (rest_edges ends hub spans bases) in
      sym (crossing-append set (pair_edges ends pairs) (rest_edges ends hub spans bases) xs (omega (arith, flow.within.counted)))
      ∙ crossing-flow es ends.source ends.sink xs set flow cut

  -- a node with one of the ends
  both : ℕ → ℕ → ℕ → Bool
  both end v u = nat_eq u v || nat_eq u end

  both-node : (end v : ℕ) → both end v v ≡ true
  unfolding both
  both-node end v = or_left (nat_eq v v) (nat_eq v end) (eq-eqb v v refl)

  both-end : (end v : ℕ) → both end v end ≡ true
  unfolding both
  both-end end v = or_right (nat_eq end v) (nat_eq end end) (eq-eqb end end refl)

  both-else : (end v u : ℕ) → u ≢ v → u ≢ end → both end v u ≡ false
  unfolding both
  both-else end v u a b = or_from (nat_eq u v) (nat_eq u end) (ne_eqb u v a) (ne_eqb u end b)

  alone : (end v : ℕ) → here ≤ end → (u : ℕ) → u < here → both end v u ≡ true → u ≢ v → ⊥
  alone end v out u l has d = absurd (cc (sym has ∙ both-else end v u d (λ e. absurd (omega arith))))

  low-is-cut : (v : ℕ) → v < here → IsCut ends.source ends.sink (both ends.source v)
  low-is-cut v l = record {
    has_source = both-end ends.source v;
    lacks_sink = both-else ends.source v ends.sink (λ e. absurd (omega (arith, apart.sink_out))) (λ e. apart.source_sink (sym e));
  }

  high-is-cut : (v : ℕ) → v < here → IsCut ends.source ends.sink (λ u. not (both ends.sink v u))
  high-is-cut v l = record {
    has_source = ap not (both-else ends.sink v ends.source (λ e. absurd (omega (arith, apart.source_out))) apart.source_sink);
    lacks_sink = ap not (both-end ends.sink v);
  }

  pub least_met : (xs : List ℤ) → IsFlow es ends.source ends.sink xs → value_of es ends.source xs ≡ turnover bases here
      → (v : ℕ) → v < here → (end : ℤ) → (span_at spans v).least ≡ Some end → end ≤ℤ balance pairs (front xs) v
  least_met xs flow full v l end stands =
      let within : IsWithin (pair_edges ends pairs) (front xs) = within-front (pair_edges ends pairs) (rest_edges ends hub spans bases) xs flow.within in
      let flows : AreFlows pairs (front xs) = flows_from_within ends pairs (front xs) within in
      let along : crossing (both ends.source v) (pair_edges ends pairs) (front xs) ≡ balance pairs (front xs) v =
      pairs-crossing (both ends.source v) ends here pairs (front xs) inside flows.loops ∙ set_sum-single (both ends.source v) (balance pairs (front xs)) v here l (both-node ends.source v) (alone ends.source v apart.source_out) in
      let most : crossing (both ends.source v) (rest_edges ends hub spans bases) (back xs) ≤ℤ capacity (both ends.source v) (rest_edges ends hub spans bases) =
      crossing-le (both ends.source v) (rest_edges ends hub spans bases) (back xs) (within-back (pair_edges ends pairs) (rest_edges ends hub spans bases) xs flow.within) in
      let whole : capacity (both ends.source v) (rest_edges ends hub spans bases) ≡ turnover bases here -ℤ set_sum (both ends.source v) (floor_at spans bases) here =
      rest-floors (both ends.source v) ends hub spans bases (both-end ends.source v) (low-is-cut v l).lacks_sink (both-else ends.source v hub (λ e. absurd (omega (arith, apart.hub_out))) apart.hub_source) in
      let floor : set_sum (both ends.source v) (floor_at spans bases) here ≡ end =
      set_sum-single (both ends.source v) (floor_at spans bases) v here l (both-node ends.source v) (alone ends.source v apart.source_out) ∙ floor-end (span_at spans v).least (weight_at bases v) end stands in
      omega (arith, ints, cut-crossed xs (both ends.source v) flow (low-is-cut v l), full, along, most, whole, floor)

  pub greatest_met : (xs : List ℤ) → IsFlow es ends.source ends.sink xs → value_of es ends.source xs ≡ turnover bases here
      → (v : ℕ) → v < here → (end : ℤ) → (span_at spans v).greatest ≡ Some end → balance pairs (front xs) v ≤ℤ end
  greatest_met xs flow full v l end stands =
      let within : IsWithin (pair_edges ends pairs) (front xs) = within-front (pair_edges ends pairs) (rest_edges ends hub spans bases) xs flow.within in
      let flows : AreFlows pairs (front xs) = flows_from_within ends pairs (front xs) within in
      let along : crossing (both ends.sink v) (pair_edges ends pairs) (front xs) ≡ balance pairs (front xs) v =
      pairs-crossing (both ends.sink v) ends here pairs (front xs) inside flows.loops ∙ set_sum-single (both ends.sink v) (balance pairs (front xs)) v here l (both-node ends.sink v) (alone ends.sink v apart.sink_out) in
      let turned : crossing (λ u. not (both ends.sink v u)) (pair_edges ends pairs) (front xs) ≡ pos 0 -ℤ crossing (both ends.sink v) (pair_edges ends pairs) (front xs) = crossing-not (both ends.sink v) (pair_edges ends pairs) (front xs) in
      let most : crossing (λ u. not (both ends.sink v u)) (rest_edges ends hub spans bases) (back xs) ≤ℤ capacity (λ u. not (both ends.sink v u)) (rest_edges ends hub spans bases) =
      crossing-le (λ u. not (both ends.sink v u)) (rest_edges ends hub spans bases) (back xs) (within-back (pair_edges ends pairs) (rest_edges ends hub spans bases) xs flow.within) in
      let whole : capacity (λ u. not (both ends.sink v u)) (rest_edges ends hub spans bases) ≡ turnover bases here +ℤ set_sum (λ u. not (not (both ends.sink v u))) (ceiling_at spans bases) here =
      rest-ceilings (λ u. not (both ends.sink v u)) ends hub spans bases (high-is-cut v l).has_source (high-is-cut v l).lacks_sink (ap not (both-else ends.sink v hub (λ e. absurd (omega (arith, apart.hub_out))) apart.hub_sink)) in
      let ceiling : set_sum (λ u. not (not (both ends.sink v u))) (ceiling_at spans bases) here ≡ end =
      set_sum-agree (λ u. not (not (both ends.sink v u))) (both ends.sink v) (ceiling_at spans bases) here (λ u b. not-not (both ends.sink v u))
      ∙ set_sum-single (both ends.sink v) (ceiling_at spans bases) v here l (both-node ends.sink v) (alone ends.sink v apart.sink_out) ∙ ceiling-end (span_at spans v).greatest (weight_at bases v) end stands in
      omega (arith, ints, cut-crossed xs (λ u. not (both ends.sink v u)) flow (high-is-cut v l), full, along, turned, most, whole, ceiling)

  -- a flow of the whole turnover balances the spans
  pub balanced_from_full : (xs : List ℤ) → IsFlow es ends.source ends.sink xs → value_of es ends.source xs ≡ turnover bases here → AreBalanced pairs spans (front xs)
  balanced_from_full xs flow full = record {
    flows = flows_from_within ends pairs (front xs) (within-front (pair_edges ends pairs) (rest_edges ends hub spans bases) xs flow.within);
    within = λ v l. record { least = least_met xs flow full v l; greatest = greatest_met xs flow full v l };
  }

  split : (set : ℕ → Bool) → capacity set es ≡ capacity set (pair_edges ends pairs) +ℤ capacity set (rest_edges ends hub spans bases)
  split set = capacity-append set (pair_edges ends pairs) (rest_edges ends hub spans bases)

  -- no flow is worth more than the turnover: the source alone is a cut
  only_source : ℕ → Bool
  only_source u = nat_eq u ends.source

  source-in : only_source ends.source ≡ true
  unfolding only_source
  source-in = eq-eqb ends.source ends.source refl

  source-else : (u : ℕ) → u ≢ ends.source → only_source u ≡ false
  unfolding only_source
  source-else u d = ne_eqb u ends.source d

  source-none : (u : ℕ) → u < here → only_source u ≡ false
  source-none u l = source-else u (λ e. absurd (omega (arith, apart.source_out)))

  source-is-cut : IsCut ends.source ends.sink only_source
  source-is-cut = record { has_source = source-in; lacks_sink = source-else ends.sink (λ e. apart.source_sink (sym e)) }

  source-capacity : capacity only_source es ≡ turnover bases here
  source-capacity =
      let none : capacity only_source (pair_edges ends pairs) ≡ pos 0 = pairs-none only_source ends pairs (λ k d l h. absurd (cc (sym h ∙ source-none _ (inside k d l).0))) in
      let whole : capacity only_source (rest_edges ends hub spans bases) ≡ turnover bases here -ℤ set_sum only_source (floor_at spans bases) here =
      rest-floors only_source ends hub spans bases source-in (source-else ends.sink (λ e. apart.source_sink (sym e))) (source-else hub apart.hub_source) in
      omega (arith, ints, split only_source, none, whole, set_sum-none only_source (floor_at spans bases) here source-none)

  pub minimum-le : (set : ℕ → Bool) → IsMinimumCut es ends.source ends.sink set → capacity set es ≤ℤ turnover bases here
  minimum-le set minimum = omega (arith, ints, minimum.least only_source source-is-cut, source-capacity)

  -- a cut of less than the turnover shows a set against the spans
  pub above_from_cut : (set : ℕ → Bool) → IsCut ends.source ends.sink set → capacity set es <ℤ turnover bases here → turnover bases here ≤ℤ MAX_CAPACITY → set hub ≡ false → IsAbove pairs spans set
  above_from_cut set cut small fits out =
      let falls : set_sum set (fall_at spans bases) here ≤ℤ capacity set (rest_edges ends hub spans bases) = falls-le set ends hub spans bases cut.has_source cut.lacks_sink out in
      let low : pos 0 ≤ℤ set_sum set (fall_at spans bases) here = set_sum-low set (fall_at spans bases) here (λ v l. fall-low spans bases v all l) in
      let whole : capacity set (rest_edges ends hub spans bases) ≡ turnover bases here -ℤ set_sum set (floor_at spans bases) here = rest-floors set ends hub spans bases cut.has_source cut.lacks_sink out in
      let two : capacity set es ≡ capacity set (pair_edges ends pairs) +ℤ capacity set (rest_edges ends hub spans bases) = split set in
      let pairs_low : pos 0 ≤ℤ capacity set (pair_edges ends pairs) = pairs-low set ends pairs in
      let stands : (v : ℕ) → v < here → set v ≡ true → IsSome (span_at spans v).least =
      λ v l has. stands-below (span_at spans v).least (weight_at bases v) (omega (arith, ints, set_sum-term set (fall_at spans bases) here v (λ u b. fall-low spans bases u all b) l has)) in
      let same : set_sum set (floor_at spans bases) here ≡ set_sum set (λ v. end_or_zero (span_at spans v).least) here =
      set_sum-same set (floor_at spans bases) (λ v. end_or_zero (span_at spans v).least) here (λ v l has. floor-standing (span_at spans v).least (weight_at bases v) (stands v l has)) in
      record {
        upper = pairs-upper set ends pairs (omega (arith, ints));
        closed = stands;
        positive = omega (arith, ints);
      }

  pub below_from_cut : (set : ℕ → Bool) → IsCut ends.source ends.sink set → capacity set es <ℤ turnover bases here → turnover bases here ≤ℤ MAX_CAPACITY → set hub ≡ true → IsBelow pairs spans (λ v. not (set v))
  below_from_cut set cut small fits has_hub =
      let rises : set_sum (λ v. not (set v)) (rise_at spans bases) here ≤ℤ capacity set (rest_edges ends hub spans bases) = rises-le set ends hub spans bases cut.has_source cut.lacks_sink has_hub in
      let low : pos 0 ≤ℤ set_sum (λ v. not (set v)) (rise_at spans bases) here = set_sum-low (λ v. not (set v)) (rise_at spans bases) here (λ v l. rise-low spans bases v all l) in
      let whole : capacity set (rest_edges ends hub spans bases) ≡ turnover bases here +ℤ set_sum (λ v. not (set v)) (ceiling_at spans bases) here = rest-ceilings set ends hub spans bases cut.has_source cut.lacks_sink has_hub in
      let two : capacity set es ≡ capacity set (pair_edges ends pairs) +ℤ capacity set (rest_edges ends hub spans bases) = split set in
      let pairs_low : pos 0 ≤ℤ capacity set (pair_edges ends pairs) = pairs-low set ends pairs in
      let stands : (v : ℕ) → v < here → not (set v) ≡ true → IsSome (span_at spans v).greatest =
      λ v l out. stands-above (span_at spans v).greatest (weight_at bases v) (omega (arith, ints, set_sum-term (λ u. not (set u)) (rise_at spans bases) here v (λ u b. rise-low spans bases u all b) l out)) in
      let same : set_sum (λ v. not (set v)) (ceiling_at spans bases) here ≡ set_sum (λ v. not (set v)) (λ v. end_or_zero (span_at spans v).greatest) here =
      set_sum-same (λ v. not (set v)) (ceiling_at spans bases) (λ v. end_or_zero (span_at spans v).greatest) here (λ v l out. ceiling-standing (span_at spans v).greatest (weight_at bases v) (stands v l out)) in
      let up : IsUpper pairs set = pairs-upper set ends pairs (omega (arith, ints)) in
      record {
        lower = λ k d l out. turn (set _) (set _) (up k d l) out;
        closed = stands;
        negative = omega (arith, ints);
      } where
        turn : (low high : Bool) → (low ≡ true → high ≡ true) → not high ≡ true → not low ≡ true
        turn false high h out = refl
        turn true true h out = out
        turn true false h out = absurd (cc (h refl))
