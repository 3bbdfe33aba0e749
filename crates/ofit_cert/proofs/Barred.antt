-- Of best values no set of groups bars a balance of flows along the tight pairs.
use Rattle.std.proofs.Common.{◌≡◌, ◌⊎◌, ℕ, zero, suc, ◌<◌, List, [], ◌∷◌, length, refl, sym, ap, ap₂, subst, ◌∙◌, arith, Bool, true, false, cond, int_eq, true≢false}
use Rattle.std.proofs.lemmas.Int.{ints}
use Rattle.std.proofs.lemmas.Bool.Decides.{Decides-int_eq}
use Rattle.std.proofs.lemmas.List.Elements.{All-nil, All-cons, All-head, All-tail}
use Rattle.std.specs.Prelude.{ℤ, pos, ◌*ℤ◌, All, IsSome, filter}
use Rattle.ofit_num.specs.Fraction.{Fraction, IsLowest}
use Rattle.ofit_num.specs.Fit.{BestValues}
use Rattle.ofit_num.specs.Meaning.{Meaning}
use Rattle.ofit_num.specs.Loss.{squares, median}
use Rattle.ofit_num.specs.Problem.{Problem}
use Rattle.ofit_num.specs.ProblemPairs.{HasPlaces}
use Rattle.ofit_num.specs.Sets as num
use Rattle.ofit_num.specs.Span.{is_at}
use Rattle.ofit_cut.specs.declared.span.Span.{Span}
use Rattle.ofit_cut.specs.Barrier.{IsAbove, IsBelow}
use Rattle.ofit_cut.specs.Sets as cut
use Rattle.ofit_cut.specs.Span.{span_at, end_or_zero}
use Rattle.ofit_cert.specs.Tight.{own, is_tight, tight_among}
use Rattle.ofit_cert.specs.OpenSpans.{open_end, AreOpenSpans}
use Rattle.ofit_cert.proofs.OwnTerms.{own_raised, own_lowered}

-- what holds of all that pass holds of each that passes
from_filter : {X : Type 0} (P : X → Type 0) (p : X → Bool) (xs : List X) → All P (filter p xs) → All (λ x. p x ≡ true → P x) xs
from_filter P p [] h = All-nil (λ x. p x ≡ true → P x)
from_filter {X} P p (x ∷ xs) h = go (p x) refl (λ k. from_filter P p xs k) where
  go : (t : Bool) → p x ≡ t → (All P (filter p xs) → All (λ y. p y ≡ true → P y) xs) → All (λ y. p y ≡ true → P y) (x ∷ xs)
  go true e rest =
      let all : All P (x ∷ filter p xs) = subst (λ (t : Bool). All P (cond t (x ∷ filter p xs) (filter p xs))) e h in
      All-cons (λ y. p y ≡ true → P y) x xs (λ t. All-head P x (filter p xs) all) (rest (All-tail P x (filter p xs) all))
  go false e rest =
      let all : All P (filter p xs) = subst (λ (t : Bool). All P (cond t (x ∷ filter p xs) (filter p xs))) e h in
      All-cons (λ y. p y ≡ true → P y) x xs (λ t. absurd (true≢false (sym t ∙ e))) (rest all)

equal_is : (x y : ℤ) → x ≡ y → int_eq x y ≡ true
equal_is x y e = grind (arith, Decides-int_eq)

-- equal fractions are tight
tight_is : (fs : List Fraction) (e : ℕ × ℕ) → own fs e.0 ≡ own fs e.1 → is_tight fs e ≡ true
tight_is fs e same = equal_is _ _ (ap₂ (λ (c b : Fraction). c.num *ℤ pos b.den) same (sym same))

-- an end that stands isn't at the bound
stands : (b : Bool) (z : ℤ) → IsSome (open_end b z) → b ≡ false
stands true z h = cc
stands false z h = refl

-- and is the end of the span
end_is : (b : Bool) (z : ℤ) → b ≡ false → end_or_zero (open_end b z) ≡ z
end_is true z h = cc
end_is false z h = refl

same_sums : (set : ℕ → Bool) (f g : ℕ → ℤ) (n : ℕ) → ((v : ℕ) → v < n → set v ≡ true → f v ≡ g v) → cut.set_sum set f n ≡ num.set_sum set g n
same_sums set f g zero same = refl
same_sums set f g (suc n) same = omega (arith, ints, same_sums set f g n (λ v l. same v (omega arith)), here (set n) (same n (omega arith))) where
  here : (b : Bool) → (b ≡ true → f n ≡ g n) → cond b (f n) (pos 0) ≡ cond b (g n) (pos 0)
  here true h = h refl
  here false h = refl

module _ (m : Meaning) (kind : (m ≡ squares) ⊎ (m ≡ median)) (s : Problem) (places : HasPlaces s) (fs : List Fraction) (lowest : All IsLowest fs) (best : BestValues m s fs) (spans : List Span) (are : AreOpenSpans m s fs spans) (set : ℕ → Bool) where
  inside : (g : ℕ) → g < s.count → g < length spans
  inside g l = omega (arith, l, are.counted)

  pub none_above : IsAbove (tight_among fs s.pairs) spans set → ⊥
  none_above h = omega (
    arith,
    ints,
    h.positive,
    ap (cut.set_sum set (λ node. end_or_zero (span_at spans node).least)) are.counted,
    same_sums set (λ node. end_or_zero (span_at spans node).least) (λ g. m.least (s.rows g) (own fs g).num (own fs g).den) s.count (λ v l has. ap (λ (x : Span). end_or_zero x.least) (are.each v l) ∙ end_is (is_at (s.bounds v).hi (own fs v).num (own fs v).den) _ (free v l has)),
    own_raised m kind s fs lowest best places set closed free,
  ) where
    free : (g : ℕ) → g < s.count → set g ≡ true → is_at (s.bounds g).hi (own fs g).num (own fs g).den ≡ false
    free g l has = stands _ (m.least (s.rows g) (own fs g).num (own fs g).den) (subst (λ (x : Span). IsSome x.least) (are.each g l) (h.closed g (inside g l) has))

    closed : All (λ e. own fs e.0 ≡ own fs e.1 → set e.0 ≡ true → set e.1 ≡ true) s.pairs
    closed k d l same = from_filter (λ e. set e.0 ≡ true → set e.1 ≡ true) (is_tight fs) s.pairs h.upper k d l (tight_is fs _ same)

  pub none_below : IsBelow (tight_among fs s.pairs) spans set → ⊥
  none_below h = omega (
    arith,
    ints,
    h.negative,
    ap (cut.set_sum set (λ node. end_or_zero (span_at spans node).greatest)) are.counted,
    same_sums set (λ node. end_or_zero (span_at spans node).greatest) (λ g. m.greatest (s.rows g) (own fs g).num (own fs g).den) s.count (λ v l has. ap (λ (x : Span). end_or_zero x.greatest) (are.each v l) ∙ end_is (is_at (s.bounds v).lo (own fs v).num (own fs v).den) _ (free v l has)),
    own_lowered m kind s fs lowest best places set closed free,
  ) where
    free : (g : ℕ) → g < s.count → set g ≡ true → is_at (s.bounds g).lo (own fs g).num (own fs g).den ≡ false
    free g l has = stands _ (m.greatest (s.rows g) (own fs g).num (own fs g).den) (subst (λ (x : Span). IsSome x.greatest) (are.each g l) (h.closed g (inside g l) has))

    closed : All (λ e. own fs e.0 ≡ own fs e.1 → set e.1 ≡ true → set e.0 ≡ true) s.pairs
    closed k d l same = from_filter (λ e. set e.1 ≡ true → set e.0 ≡ true) (is_tight fs) s.pairs h.lower k d l (tight_is fs _ same)
