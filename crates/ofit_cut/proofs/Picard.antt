-- A minimum cut of the net of pairs and weights is an upper set with the greatest sum, after Picard (1976).
use Rattle.std.proofs.Common.{◌≡◌, ◌≢◌, ℕ, ◌<◌, ◌≤◌, ◌*◌, ◌^◌, refl, ap, sym, ◌∙◌, arith, Bool, true, false, cond, nat_eq, List, ◌++◌, length}
use Rattle.std.proofs.lemmas.Int.{ints}
use Rattle.std.proofs.lemmas.Bool.{eq-eqb, ne_eqb}
use Rattle.std.specs.Prelude.{ℤ, pos, ◌+ℤ◌, ◌-ℤ◌, ◌<ℤ◌}
use Rattle.ofit_flow.specs.declared.edge.Edge.{Edge}
use Rattle.ofit_flow.specs.declared.edge.TheConstants.{MAX_CAPACITY}
use Rattle.ofit_flow.specs.Cut.{IsCut, IsMinimumCut, IsSmallestMinimumCut, IsLargestMinimumCut, capacity}
use Rattle.ofit_flow.specs.Network.{Routing, members, others}
use Rattle.ofit_flow.specs.Maximum.{IsMaximumFlow}
use Rattle.ofit_cut.specs.declared.edges.Ends.{Ends}
use Rattle.ofit_cut.specs.declared.tie.Tie.{Tie}
use Rattle.ofit_cut.specs.declared.tie.Tie.TheVariants.{Smallest, Largest}
use Rattle.ofit_cut.specs.Sets.{AreWithin, IsUpper, weight_at, sum_of, total_size}
use Rattle.ofit_cut.specs.Greatest.{IsGreatest, IsSmallestGreatest, IsLargestGreatest, IsTied, side_of}
use Rattle.ofit_cut.specs.Edges.{pair_edges, weight_edges, sum_to}
use Rattle.ofit_cut.specs.Slack.{supply}
use Rattle.ofit_cut.proofs.Agree.{upper-agree}
use Rattle.ofit_cut.proofs.Sums.{set_sum-agree, set_sum-none, set_sum-both}
use Rattle.ofit_cut.proofs.Capacity.{capacity-append, pairs-low, pairs-upper, pairs-none, weights-capacity}
use Rattle.ofit_cut.proofs.Rest.{bases-sum, weights-low}
use Rattle.ofit_cut.proofs.Sizes.{turnover-all}

-- the net of pairs and weighted nodes
abbrev pub cut_edges : Ends → List (ℕ × ℕ) → List ℤ → List Edge
cut_edges ends pairs weights = pair_edges ends pairs ++ weight_edges ends (weight_at weights) (length weights)

module _ (ends : Ends) (pairs : List (ℕ × ℕ)) (weights : List ℤ) (source_out : length weights ≤ ends.source) (sink_out : length weights ≤ ends.sink)
    (apart : ends.source ≢ ends.sink) (inside : AreWithin pairs (length weights)) (small : total_size weights ≤ 2 * 10 ^ 33) where
  abbrev n : ℕ
  n = length weights

  abbrev es : List Edge
  es = cut_edges ends pairs weights

  -- the cut of a set of nodes
  abbrev cut_of : (ℕ → Bool) → ℕ → Bool
  cut_of set u = cond (nat_eq u ends.source) true (cond (nat_eq u ends.sink) false (set u))

  source-in : (set : ℕ → Bool) → cut_of set ends.source ≡ true
  source-in set = ap (λ (b : Bool). cond b true (cond (nat_eq ends.source ends.sink) false (set ends.source))) (eq-eqb ends.source ends.source refl)

  sink-not : (set : ℕ → Bool) → cut_of set ends.sink ≡ false
  sink-not set =
      ap (λ (b : Bool). cond b true (cond (nat_eq ends.sink ends.sink) false (set ends.sink))) (ne_eqb ends.sink ends.source (λ e. apart (sym e)))
      ∙ ap (λ (b : Bool). cond b false (set ends.sink)) (eq-eqb ends.sink ends.sink refl)

  same : (set : ℕ → Bool) (u : ℕ) → u < n → cut_of set u ≡ set u
  same set u l =
      ap (λ (b : Bool). cond b true (cond (nat_eq u ends.sink) false (set u))) (ne_eqb u ends.source (λ e. absurd (omega (arith, source_out))))
      ∙ ap (λ (b : Bool). cond b false (set u)) (ne_eqb u ends.sink (λ e. absurd (omega (arith, sink_out))))

  is-cut : (set : ℕ → Bool) → IsCut ends.source ends.sink (cut_of set)
  is-cut set = record { has_source = source-in set; lacks_sink = sink-not set }

  split : (set : ℕ → Bool) → capacity set es ≡ capacity set (pair_edges ends pairs) +ℤ capacity set (weight_edges ends (weight_at weights) n)
  split set = capacity-append set (pair_edges ends pairs) (weight_edges ends (weight_at weights) n)

  -- the cut of an upper set leaves out its sum
  cut-capacity : (set : ℕ → Bool) → IsUpper pairs set → capacity (cut_of set) es ≡ supply weights n -ℤ sum_of weights set
  cut-capacity set up =
      omega (
        arith,
        ints,
        split (cut_of set),
        pairs-none (cut_of set) ends pairs (upper-agree pairs n set (cut_of set) inside (λ v l. sym (same set v l)) up),
        weights-capacity (cut_of set) ends (weight_at weights) n (source-in set) (sink-not set),
        set_sum-agree (cut_of set) set (weight_at weights) n (same set),
      )

  module _ (cut : ℕ → Bool) (minimum : IsMinimumCut es ends.source ends.sink cut) where
    -- its capacity is at most the gains and at most the losses, so below the capacity of one pair
    minimum-small : capacity cut (pair_edges ends pairs) <ℤ MAX_CAPACITY
    minimum-small =
        let none : ℕ → Bool = λ u. false in
        let every : ℕ → Bool = λ u. true in
        let empty : capacity (cut_of (λ u. false)) es ≡ supply weights n -ℤ sum_of weights (λ u. false) = cut-capacity (λ u. false) (λ k d l h. h) in
        let nothing : sum_of weights (λ u. false) ≡ pos 0 = set_sum-none (λ u. false) (weight_at weights) n (λ v l. refl) in
        let whole : capacity (cut_of (λ u. true)) es ≡ supply weights n -ℤ sum_of weights (λ u. true) = cut-capacity (λ u. true) (λ k d l h. refl) in
        let two : sum_of weights (λ u. true) +ℤ sum_of weights (λ u. false) ≡ sum_to (weight_at weights) n = set_sum-both (λ u. true) (weight_at weights) n in
        omega (
          arith,
          ints,
          minimum.least (cut_of (λ u. false)) (is-cut (λ u. false)),
          minimum.least (cut_of (λ u. true)) (is-cut (λ u. true)),
          empty,
          nothing,
          whole,
          two,
          bases-sum weights n,
          turnover-all weights,
          split cut,
          weights-low cut ends (weight_at weights) n,
          pairs-low cut ends pairs,
        )

    minimum-upper : IsUpper pairs cut
    minimum-upper = pairs-upper cut ends pairs minimum-small

    minimum-capacity : capacity cut es ≡ supply weights n -ℤ sum_of weights cut
    minimum-capacity =
        omega (arith, ints, split cut, pairs-none cut ends pairs minimum-upper, weights-capacity cut ends (weight_at weights) n minimum.cut.has_source minimum.cut.lacks_sink)

    module _ (chosen : ℕ → Bool) (agrees : (v : ℕ) → v < n → chosen v ≡ cut v) where
      chosen-sum : sum_of weights chosen ≡ sum_of weights cut
      chosen-sum = set_sum-agree chosen cut (weight_at weights) n agrees

      pub greatest_from_minimum : IsGreatest (IsUpper pairs) weights chosen
      greatest_from_minimum = record {
        of_kind = upper-agree pairs n cut chosen inside (λ v l. sym (agrees v l)) minimum-upper;
        greatest = λ other up. omega (arith, ints, minimum.least (cut_of other) (is-cut other), cut-capacity other up, minimum-capacity, chosen-sum);
      }

      -- the other greatest sets have minimum cuts too
      other-minimum : (other : ℕ → Bool) → IsGreatest (IsUpper pairs) weights other → IsMinimumCut es ends.source ends.sink (cut_of other)
      other-minimum other g = record {
        cut = is-cut other;
        least = λ set c. omega (arith, ints, minimum.least set c, cut-capacity other g.of_kind, minimum-capacity, chosen-sum, g.greatest chosen greatest_from_minimum.of_kind);
      }

  pub smallest_from_minimum : (cut chosen : ℕ → Bool) → IsSmallestMinimumCut es ends.source ends.sink cut → ((v : ℕ) → v < n → chosen v ≡ cut v) → IsSmallestGreatest (IsUpper pairs) weights chosen
  smallest_from_minimum cut chosen h agrees = record {
    is_greatest = greatest_from_minimum cut h.minimum chosen agrees;
    inside = λ other g v l has. sym (same other v l) ∙ h.inside (cut_of other) (other-minimum cut h.minimum chosen agrees other g) v (sym (agrees v l) ∙ has);
  }

  pub largest_from_minimum : (cut chosen : ℕ → Bool) → IsLargestMinimumCut es ends.source ends.sink cut → ((v : ℕ) → v < n → chosen v ≡ cut v) → IsLargestGreatest (IsUpper pairs) weights chosen
  largest_from_minimum cut chosen h agrees = record {
    is_greatest = greatest_from_minimum cut h.minimum chosen agrees;
    around = λ other g v l has. agrees v l ∙ h.around (cut_of other) (other-minimum cut h.minimum chosen agrees other g) v (same other v l ∙ has);
  }

  pub tied_from_maximum : (nodes : ℕ) (flowed : Routing) (tie : Tie) (chosen : ℕ → Bool) → IsMaximumFlow es nodes ends.source ends.sink flowed → ((v : ℕ) → v < n → chosen v ≡ side_of tie flowed v) → IsTied tie (IsUpper pairs) weights chosen
  tied_from_maximum nodes flowed Smallest chosen h agrees = smallest_from_minimum (members flowed.source_side) chosen h.smallest agrees
  tied_from_maximum nodes flowed Largest chosen h agrees = largest_from_minimum (others flowed.sink_side) chosen h.largest agrees
