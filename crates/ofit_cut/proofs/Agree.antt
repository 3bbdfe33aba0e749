-- What is said of a set holds of each set that agrees with it on the nodes.
use Rattle.std.proofs.Common.{◌≡◌, ℕ, ◌<◌, sym, ◌∙◌, arith, Bool, List, length}
use Rattle.std.proofs.lemmas.Int.{ints}
use Rattle.ofit_cut.specs.declared.span.Span.{Span}
use Rattle.ofit_cut.specs.Sets.{AreWithin, IsUpper, IsLower}
use Rattle.ofit_cut.specs.Span.{span_at, end_or_zero}
use Rattle.ofit_cut.specs.Barrier.{IsAbove, IsBelow}
use Rattle.ofit_cut.proofs.Sums.{set_sum-agree}

pub upper-agree : (pairs : List (ℕ × ℕ)) (n : ℕ) (a b : ℕ → Bool) → AreWithin pairs n → ((v : ℕ) → v < n → a v ≡ b v) → IsUpper pairs a → IsUpper pairs b
upper-agree pairs n a b inside same up k d l h = sym (same _ (inside k d l).1) ∙ up k d l (same _ (inside k d l).0 ∙ h)

pub lower-agree : (pairs : List (ℕ × ℕ)) (n : ℕ) (a b : ℕ → Bool) → AreWithin pairs n → ((v : ℕ) → v < n → a v ≡ b v) → IsLower pairs a → IsLower pairs b
lower-agree pairs n a b inside same low k d l h = sym (same _ (inside k d l).0) ∙ low k d l (same _ (inside k d l).1 ∙ h)

pub above-agree : (pairs : List (ℕ × ℕ)) (spans : List Span) (a b : ℕ → Bool) → AreWithin pairs (length spans) → ((v : ℕ) → v < length spans → a v ≡ b v) → IsAbove pairs spans a → IsAbove pairs spans b
above-agree pairs spans a b inside same h = record {
  upper = upper-agree pairs (length spans) a b inside same h.upper;
  closed = λ v l has. h.closed v l (same v l ∙ has);
  positive = omega (arith, ints, h.positive, set_sum-agree a b (λ v. end_or_zero (span_at spans v).least) (length spans) same);
}

pub below-agree : (pairs : List (ℕ × ℕ)) (spans : List Span) (a b : ℕ → Bool) → AreWithin pairs (length spans) → ((v : ℕ) → v < length spans → a v ≡ b v) → IsBelow pairs spans a → IsBelow pairs spans b
below-agree pairs spans a b inside same h = record {
  lower = lower-agree pairs (length spans) a b inside same h.lower;
  closed = λ v l has. h.closed v l (same v l ∙ has);
  negative = omega (arith, ints, h.negative, set_sum-agree a b (λ v. end_or_zero (span_at spans v).greatest) (length spans) same);
}
