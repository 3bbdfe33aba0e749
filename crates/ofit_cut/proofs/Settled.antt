-- What a maximum flow of a balance's net settles.
use Rattle.std.proofs.Common.{◌≡◌, ℕ, ◌≤◌, ◌+◌, ◌*◌, ◌^◌, ap, sym, ◌∙◌, subst, arith, true, false, not, List, length, take, FitsSigned, to_z, of_z}
use Rattle.std.proofs.lemmas.Int.{ints, by_lt_z, to_z-of_z}
use Rattle.std.specs.Int.{w128}
use Rattle.std.proofs.lemmas.List.{length-map}
use Rattle.std.specs.Prelude.{ℤ, pos, ◌+ℤ◌, ◌≤ℤ◌, ◌<ℤ◌}
use Rattle.ofit_flow.specs.declared.edge.TheConstants.{MAX_CAPACITY}
use Rattle.ofit_flow.specs.Cut.{capacity}
use Rattle.ofit_flow.specs.Maximum.{IsMaximumFlow}
use Rattle.ofit_flow.specs.Network.{Routing, members}
use Rattle.ofit_cut.specs.declared.edges.Ends.{Ends}
use Rattle.ofit_cut.specs.declared.span.Span.{Span}
use Rattle.ofit_cut.specs.Sets.{AreWithin}
use Rattle.ofit_cut.specs.Span.{total_span}
use Rattle.ofit_cut.specs.Balance.{AreBalanced}
use Rattle.ofit_cut.specs.Barrier.{IsAbove, IsBelow}
use Rattle.ofit_cut.specs.Members.{has_node, is_on_side}
use Rattle.ofit_cut.specs.Edges.{pair_edge}
use Rattle.ofit_cut.specs.Slack.{balance_edges, supply, demand, AreBases}
use Rattle.ofit_cut.proofs.Adding.{AreEnds}
use Rattle.ofit_cut.proofs.Agree.{above-agree, below-agree}
use Rattle.ofit_cut.proofs.Hoffman.{AreApart, balanced_from_full, minimum-le, above_from_cut, below_from_cut}
use Rattle.ofit_cut.proofs.Nodes.{AreSame}
use Rattle.ofit_cut.proofs.Rest.{turnover, supply-low, demand-low}
use Rattle.ofit_cut.proofs.Sizes.{turnover-all, bases-size, fits-amount}

-- the hub, the source and the sink come after n nodes
abbrev pub ends_after : ℕ → Ends
ends_after n = record { source = n + 1; sink = n + 2 }

pub apart_after : (n : ℕ) → AreApart n (ends_after n) n
apart_after n = record {
  hub_out = omega arith;
  source_out = omega arith;
  sink_out = omega arith;
  hub_source = λ e. absurd (omega arith);
  hub_sink = λ e. absurd (omega arith);
  source_sink = λ e. absurd (omega arith);
}

pub ends_in : (n : ℕ) → AreEnds n (n + 3) (ends_after n)
ends_in n = record {
  source_in = omega arith;
  sink_in = omega arith;
  source_out = omega arith;
  sink_out = omega arith;
  apart = λ e. absurd (omega arith);
}

-- the totals of the bases, as numbers of 128 bits
pub totals-turnover : (spans : List Span) (bases xs : List ℤ) (s d : ℤ) → xs ≡ bases → AreBases spans bases → s ≡ supply xs (length xs) → d ≡ demand xs (length xs) → s +ℤ d ≡ turnover bases (length spans)
totals-turnover spans bases xs s d same all given taken =
    ap (λ (z : ℤ). z +ℤ d) given ∙ ap (λ (z : ℤ). supply xs (length xs) +ℤ z) taken ∙ ap (λ (ws : List ℤ). turnover ws (length ws)) same ∙ ap (turnover bases) all.counted

turnover-high : (spans : List Span) (bases : List ℤ) → AreBases spans bases → total_span spans ≤ 2 * 10 ^ 33 → turnover bases (length spans) ≤ℤ pos (2 * 10 ^ 33)
turnover-high spans bases all small = omega (arith, ints, ap (λ (k : ℕ). turnover bases k) all.counted, turnover-all bases, bases-size spans bases all)

pub turnover-fits : (spans : List Span) (bases : List ℤ) → AreBases spans bases → total_span spans ≤ 2 * 10 ^ 33 → FitsSigned w128 (turnover bases (length spans))
turnover-fits spans bases all small = fits-amount (turnover bases (length spans)) (omega (arith, ints, supply-low bases (length spans), demand-low bases (length spans))) (turnover-high spans bases all small)

pub same_from_bits : (a b : ℤ) → FitsSigned w128 a → FitsSigned w128 b → of_z w128 a ≡ of_z w128 b → a ≡ b
same_from_bits a b f g h = sym (to_z-of_z w128 a f) ∙ ap (to_z w128) h ∙ to_z-of_z w128 b g

module _ (pairs : List (ℕ × ℕ)) (spans : List Span) (bases : List ℤ) (inside : AreWithin pairs (length spans)) (all : AreBases spans bases) (small : total_span spans ≤ 2 * 10 ^ 33)
    (f : Routing) (maximum : IsMaximumFlow (balance_edges (ends_after (length spans)) (length spans) pairs spans bases) (length spans + 3) (length spans + 1) (length spans + 2) f) where
  abbrev n : ℕ
  n = length spans

  abbrev ends : Ends
  ends = ends_after n

  pub settled_flows : f.value ≡ turnover bases n → AreBalanced pairs spans (take (length pairs) f.amounts)
  settled_flows full =
      subst (λ (k : ℕ). AreBalanced pairs spans (take k f.amounts)) (length-map pairs (pair_edge ends))
      (balanced_from_full ends n pairs spans bases (apart_after n) inside all f.amounts maximum.flow (sym maximum.value ∙ full))

  fits : turnover bases n ≤ℤ MAX_CAPACITY
  fits = omega (arith, ints, turnover-high spans bases all small)

  short : (f.value ≡ turnover bases n → ⊥) → capacity (members f.source_side) (balance_edges ends n pairs spans bases) <ℤ turnover bases n
  short less =
      let most : capacity (members f.source_side) (balance_edges ends n pairs spans bases) ≤ℤ turnover bases n = minimum-le ends n pairs spans bases (apart_after n) inside all (members f.source_side) maximum.smallest.minimum in
      by_lt_z (capacity (members f.source_side) (balance_edges ends n pairs spans bases)) (turnover bases n) (λ h. h) (λ h. absurd (less (omega (arith, ints, maximum.source_capacity))))

  pub settled_above : (f.value ≡ turnover bases n → ⊥) → members f.source_side n ≡ false → (nodes : List ℕ) → AreSame nodes (is_on_side (members f.source_side) true) n → IsAbove pairs spans (has_node nodes)
  settled_above less out nodes same =
      above-agree pairs spans (members f.source_side) (has_node nodes) inside (λ v l. sym (same v l))
      (above_from_cut ends n pairs spans bases (apart_after n) inside all (members f.source_side) maximum.smallest.minimum.cut (short less) fits out)

  pub settled_below : (f.value ≡ turnover bases n → ⊥) → members f.source_side n ≡ true → (nodes : List ℕ) → AreSame nodes (is_on_side (members f.source_side) false) n → IsBelow pairs spans (has_node nodes)
  settled_below less has nodes same =
      below-agree pairs spans (λ v. not (members f.source_side v)) (has_node nodes) inside (λ v l. sym (same v l))
      (below_from_cut ends n pairs spans bases (apart_after n) inside all (members f.source_side) maximum.smallest.minimum.cut (short less) fits has)
