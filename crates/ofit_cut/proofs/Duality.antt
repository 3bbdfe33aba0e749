-- Flows within the spans leave no set against them, and what opening all greatest ends does.
use Rattle.std.proofs.Common.{◌≡◌, ℕ, ◌<◌, ◌≤◌, refl, ap, sym, subst, arith, Bool, true, false, not, List, [], ◌∷◌, length, map, Option, Some, None}
use Rattle.std.proofs.lemmas.Int.{ints}
use Rattle.std.proofs.lemmas.Bool.{false_from_ne_true}
use Rattle.std.proofs.lemmas.List.{length-map, get_or-map}
use Rattle.std.proofs.lemmas.List.Sums.{sum_by-cons}
use Rattle.std.specs.Prelude.{ℤ, ◌≤ℤ◌, IsSome}
use Rattle.ofit_flow.proofs.Crossing.{crossing-le}
use Rattle.ofit_cut.specs.declared.edges.Ends.{Ends}
use Rattle.ofit_cut.specs.declared.span.Span.{Span}
use Rattle.ofit_cut.specs.Sets.{AreWithin, IsUpper, set_sum}
use Rattle.ofit_cut.specs.Span.{span_at, span_size, total_span, end_or_zero, no_limits}
use Rattle.ofit_cut.specs.Balance.{balance, AreBalanced}
use Rattle.ofit_cut.specs.Barrier.{IsAbove, IsBelow}
use Rattle.ofit_cut.specs.Edges.{pair_edges}
use Rattle.ofit_cut.specs.Open.{without_greatest}
use Rattle.ofit_cut.proofs.Sums.{set_sum-mono, set_sum-none, set_sum-same}
use Rattle.ofit_cut.proofs.Capacity.{pairs-none}
use Rattle.ofit_cut.proofs.Crossings.{pairs-crossing, crossing-not}
use Rattle.ofit_cut.proofs.Hoffman.{within_from_flows}

abbrev any_ends : Ends
any_ends = record { source = 0; sink = 0 }

standing-least : (least : Option ℤ) (b : ℤ) → IsSome least → ((end : ℤ) → least ≡ Some end → end ≤ℤ b) → end_or_zero least ≤ℤ b
standing-least None b s h = absurd (cc s)
standing-least (Some x) b s h = h x refl

standing-greatest : (greatest : Option ℤ) (b : ℤ) → IsSome greatest → ((end : ℤ) → greatest ≡ Some end → b ≤ℤ end) → b ≤ℤ end_or_zero greatest
standing-greatest None b s h = absurd (cc s)
standing-greatest (Some x) b s h = h x refl

module _ (pairs : List (ℕ × ℕ)) (spans : List Span) (amounts : List ℤ) (inside : AreWithin pairs (length spans)) (balanced : AreBalanced pairs spans amounts) where
  pub balanced_not_above : (set : ℕ → Bool) → IsAbove pairs spans set → ⊥
  balanced_not_above set h =
      let least : set_sum set (λ v. end_or_zero (span_at spans v).least) (length spans) ≤ℤ set_sum set (balance pairs amounts) (length spans) =
      set_sum-mono set (λ v. end_or_zero (span_at spans v).least) (balance pairs amounts) (length spans) (λ v l has. standing-least (span_at spans v).least (balance pairs amounts v) (h.closed v l has) (balanced.within v l).least) in
      absurd (omega (
        arith,
        ints,
        h.positive,
        least,
        pairs-crossing set any_ends (length spans) pairs amounts inside balanced.flows.loops,
        crossing-le set (pair_edges any_ends pairs) amounts (within_from_flows any_ends pairs amounts balanced.flows),
        pairs-none set any_ends pairs h.upper,
      ))

  pub balanced_not_below : (set : ℕ → Bool) → IsBelow pairs spans set → ⊥
  balanced_not_below set h =
      let most : set_sum set (balance pairs amounts) (length spans) ≤ℤ set_sum set (λ v. end_or_zero (span_at spans v).greatest) (length spans) =
      set_sum-mono set (balance pairs amounts) (λ v. end_or_zero (span_at spans v).greatest) (length spans) (λ v l has. standing-greatest (span_at spans v).greatest (balance pairs amounts v) (h.closed v l has) (balanced.within v l).greatest) in
      let up : IsUpper pairs (λ v. not (set v)) = λ k d l out. turn (set _) (set _) (h.lower k d l) out in
      absurd (omega (
        arith,
        ints,
        h.negative,
        most,
        pairs-crossing set any_ends (length spans) pairs amounts inside balanced.flows.loops,
        crossing-not set (pair_edges any_ends pairs) amounts,
        crossing-le (λ v. not (set v)) (pair_edges any_ends pairs) amounts (within_from_flows any_ends pairs amounts balanced.flows),
        pairs-none (λ v. not (set v)) any_ends pairs up,
      )) where
        turn : (low high : Bool) → (high ≡ true → low ≡ true) → not low ≡ true → not high ≡ true
        turn low false h out = refl
        turn false true h out = absurd (cc (h refl))
        turn true true h out = out

-- all greatest ends open
abbrev pub opened : List Span → List Span
opened spans = map without_greatest spans

opened-at : (spans : List Span) (v : ℕ) → v < length spans → span_at (opened spans) v ≡ without_greatest (span_at spans v)
opened-at spans v l = get_or-map without_greatest spans v no_limits no_limits l

pub opened-long : (spans : List Span) → length (opened spans) ≡ length spans
opened-long spans = length-map spans without_greatest

pub opened-small : (spans : List Span) → total_span (opened spans) ≤ total_span spans
opened-small [] = omega arith
opened-small (s ∷ spans) =
    let one : span_size (without_greatest s) ≤ span_size s = omega arith in
    omega (arith, one, opened-small spans, sum_by-cons span_size s spans, sum_by-cons span_size (without_greatest s) (opened spans))

least-same : (spans : List Span) (v : ℕ) → v < length spans → (span_at (opened spans) v).least ≡ (span_at spans v).least
least-same spans v l = ap (λ (s : Span). s.least) (opened-at spans v l)

least-sums : (spans : List Span) (set : ℕ → Bool) → set_sum set (λ v. end_or_zero (span_at (opened spans) v).least) (length spans) ≡ set_sum set (λ v. end_or_zero (span_at spans v).least) (length spans)
least-sums spans set = set_sum-same set _ _ (length spans) (λ v l has. ap end_or_zero (least-same spans v l))

pub above-opened : (pairs : List (ℕ × ℕ)) (spans : List Span) (set : ℕ → Bool) → IsAbove pairs spans set → IsAbove pairs (opened spans) set
above-opened pairs spans set h =
    let long : length (opened spans) ≡ length spans = opened-long spans in
    record {
      upper = h.upper;
      closed = λ v l has. subst IsSome (sym (least-same spans v (omega arith))) (h.closed v (omega arith) has);
      positive = omega (arith, ints, h.positive, least-sums spans set, ap (λ (n : ℕ). set_sum set (λ v. end_or_zero (span_at (opened spans) v).least) n) long);
    }

pub above-from-opened : (pairs : List (ℕ × ℕ)) (spans : List Span) (set : ℕ → Bool) → IsAbove pairs (opened spans) set → IsAbove pairs spans set
above-from-opened pairs spans set h =
    let long : length (opened spans) ≡ length spans = opened-long spans in
    record {
      upper = h.upper;
      closed = λ v l has. subst IsSome (least-same spans v l) (h.closed v (omega arith) has);
      positive = omega (arith, ints, h.positive, least-sums spans set, ap (λ (n : ℕ). set_sum set (λ v. end_or_zero (span_at (opened spans) v).least) n) long);
    }

pub opened-not-below : (pairs : List (ℕ × ℕ)) (spans : List Span) (set : ℕ → Bool) → IsBelow pairs (opened spans) set → ⊥
opened-not-below pairs spans set h =
    let long : length (opened spans) ≡ length spans = opened-long spans in
    let none : (v : ℕ) → v < length (opened spans) → set v ≡ false =
    λ v l. false_from_ne_true (set v) (λ has. open-end v (omega arith) (h.closed v l has)) in
    absurd (omega (arith, ints, h.negative, set_sum-none set (λ v. end_or_zero (span_at (opened spans) v).greatest) (length (opened spans)) none)) where
      open-end : (v : ℕ) → v < length spans → IsSome (span_at (opened spans) v).greatest → ⊥
      open-end v l s = absurd (cc (subst (λ (o : Option ℤ). IsSome o) (ap (λ (s : Span). s.greatest) (opened-at spans v l)) s))
