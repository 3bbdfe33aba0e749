-- The two sides of a flow that no path augments.
use Rattle.std.proofs.Common.{◌≡◌, ℕ, refl, ap, sym, ◌∙◌, arith, List, length, Bool, true, false, not, inl, inr, map, Option, None, is_some}
use Rattle.std.proofs.lemmas.Bool.{cases_lt, true≢false, false≢true}
use Rattle.std.proofs.lemmas.List.{get_or-map, get_or_past, length-map}
use Rattle.std.specs.Prelude.{ℤ}
use Rattle.std.proofs.lemmas.Int.{ints}
use Rattle.ofit_flow.specs.declared.edge.Edge.{Edge}
use Rattle.ofit_flow.specs.Flow.{edge_at, value_of, IsFlow, IsWithin}
use Rattle.ofit_flow.specs.Cut.{IsCut, capacity, IsSmallestMinimumCut, IsLargestMinimumCut}
use Rattle.ofit_flow.specs.Maximum.{IsMaximumFlow}
use Rattle.ofit_flow.specs.Network.{members, others}
use Rattle.ofit_flow.specs.Reach.{IsReach, IsBlocked}
use Rattle.ofit_flow.specs.Residual.{IsClosed, left_over}
use Rattle.ofit_flow.specs.Levels.{level_at, has_level, IsLevelled, IsLevelling, IsSearched}
use Rattle.ofit_flow.proofs.Searching.{levelled_from, levels_reached, none_of}
use Rattle.ofit_flow.proofs.Optimal.{value-le-capacity, closed_outside, closed_inside, value_is_capacity, smallest_from_reached, largest_from_reaching}

members-map : (levels : List (Option ℕ)) (v : ℕ) → members (map is_some levels) v ≡ has_level levels v
members-map levels v = elim (cases_lt v (length levels)) [
  | inl b ↦ get_or-map is_some levels v None false b
  | inr b ↦ get_or_past (map is_some levels) v false (omega (arith, length-map levels is_some)) ∙ sym (ap is_some (get_or_past levels v None b))
]

IsClosed-same : (es : List Edge) (xs : List ℤ) (set other : ℕ → Bool) → ((v : ℕ) → other v ≡ set v) → IsClosed es xs set → IsClosed es xs other
IsClosed-same es xs set other same closed k b = record {
  forwards = λ h m. same (edge_at es k).to ∙ (closed k b).forwards (sym (same (edge_at es k).from) ∙ h) m;
  backwards = λ h m. same (edge_at es k).from ∙ (closed k b).backwards (sym (same (edge_at es k).to) ∙ h) m;
}

-- the nodes with a level are what the start reaches
pub reach_from_levels : (es : List Edge) (xs : List ℤ) (start : ℕ) (levels : List (Option ℕ)) → IsLevelling es xs start levels → IsClosed es xs (has_level levels) → IsReach es xs start (members (map is_some levels))
reach_from_levels es xs start levels levelling closed = record {
  started = members-map levels start ∙ levelled_from levels start 0 levelling.started;
  closed = IsClosed-same es xs (has_level levels) (members (map is_some levels)) (members-map levels) closed;
  least = λ other has_start c v h. levels_reached es xs start levels levelling other has_start c v (sym (members-map levels v) ∙ h);
}

false_from : (b : Bool) → (b ≡ true → ⊥) → b ≡ false
false_from true h = absurd (h refl)
false_from false h = refl

module _ (es : List Edge) (s t : ℕ) (xs : List ℤ) (flow : IsFlow es s t xs) (blocked : IsBlocked es s t xs) (near far : List Bool) (reach : IsReach es xs s (members near)) (back : IsReach es (left_over es xs) t (members far)) where
  near_cut : IsCut s t (members near)
  near_cut = record {
    has_source = reach.started;
    lacks_sink = false_from (members near t) (λ h. true≢false (sym (reach.least blocked.set blocked.cut.has_source blocked.closed t h) ∙ blocked.cut.lacks_sink));
  }

  far_outside : IsClosed es (left_over es xs) (λ v. not (blocked.set v))
  far_outside = closed_outside es xs blocked.set flow.within.counted blocked.closed

  far_cut : IsCut s t (others far)
  far_cut = record {
    has_source = ap not (false_from (members far s) (λ h. false≢true (sym (ap not blocked.cut.has_source) ∙ back.least (λ v. not (blocked.set v)) (ap not blocked.cut.lacks_sink) far_outside s h)));
    lacks_sink = ap not back.started;
  }

  far_closed : IsClosed es xs (others far)
  far_closed = closed_inside es xs (members far) flow.within.counted back.closed

  near_capacity : value_of es s xs ≡ capacity (members near) es
  near_capacity = value_is_capacity es s t xs (members near) flow near_cut reach.closed

  far_capacity : value_of es s xs ≡ capacity (others far) es
  far_capacity = value_is_capacity es s t xs (others far) flow far_cut far_closed

  near_smallest : IsSmallestMinimumCut es s t (members near)
  near_smallest = smallest_from_reached es s t xs (members near) flow near_cut reach.closed reach.least

  far_largest : IsLargestMinimumCut es s t (others far)
  far_largest = largest_from_reaching es s t xs (members far) flow far_cut far_closed back.least

  pub maximum_from_sides : (nodes : ℕ) (value : ℤ) → value ≡ value_of es s xs → length near ≡ nodes → length far ≡ nodes → IsMaximumFlow es nodes s t (record { value = value; amounts = xs; source_side = near; sink_side = far })
  maximum_from_sides nodes value valued near_told far_told = record {
    flow = flow;
    value = valued;
    greatest = λ ys h. omega (arith, ints, valued, near_capacity, value-le-capacity es s t ys (members near) h near_cut);
    source_capacity = valued ∙ near_capacity;
    sink_capacity = valued ∙ far_capacity;
    smallest = near_smallest;
    largest = far_largest;
    source_told = near_told;
    sink_told = far_told;
  }

-- where nothing more reaches the sink, a search back from it doesn't come to the source, and so runs to its end
pub far_reach : {es : List Edge} {s t : ℕ} {xs : List ℤ} {levels : List (Option ℕ)} → IsWithin es xs → IsBlocked es s t xs → IsSearched es (left_over es xs) t s levels → IsReach es (left_over es xs) t (members (map is_some levels))
far_reach {es} {s} {t} {xs} {levels} within blocked searched =
    let away : (v : ℕ) → IsLevelled levels v → not (blocked.set v) ≡ true = levels_reached es (left_over es xs) t levels searched.levelling (λ v. not (blocked.set v)) (ap not blocked.cut.lacks_sink) (closed_outside es xs blocked.set within.counted blocked.closed) in
    let none : level_at levels s ≡ None = none_of (level_at levels s) (false_from (is_some (level_at levels s)) (λ h. false≢true (sym (ap not blocked.cut.has_source) ∙ away s h))) in
    reach_from_levels es (left_over es xs) t levels searched.levelling (searched.closed none)

-- and where the levels don't come to the sink, they show that nothing more reaches it
pub blocked_from_levels : {es : List Edge} {s t : ℕ} {xs : List ℤ} {levels : List (Option ℕ)} → IsSearched es xs s t levels → level_at levels t ≡ None → IsBlocked es s t xs
blocked_from_levels {s = s} {t} {levels = levels} searched none = record {
  set = has_level levels;
  cut = record { has_source = levelled_from levels s 0 searched.levelling.started; lacks_sink = ap is_some none };
  closed = searched.closed none;
}
