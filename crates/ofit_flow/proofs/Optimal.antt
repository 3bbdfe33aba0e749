-- Weak duality, and the two extreme minimum cuts.
use Rattle.std.proofs.Common.{◌≡◌, ℕ, zero, suc, ◌<◌, refl, ap, sym, ◌∙◌, arith, List, [], ◌∷◌, length, Bool, true, false, not}
use Rattle.std.proofs.lemmas.Int.{ints}
use Rattle.std.proofs.lemmas.Bool.{false≢true}
use Rattle.std.specs.Prelude.{ℤ, ◌-ℤ◌, ◌≤ℤ◌}
use Rattle.ofit_flow.specs.declared.edge.Edge.{Edge}
use Rattle.ofit_flow.specs.Flow.{edge_at, amount_at, value_of, IsWithin, IsFlow}
use Rattle.ofit_flow.specs.Cut.{IsCut, capacity, IsMinimumCut, IsSmallestMinimumCut, IsLargestMinimumCut}
use Rattle.ofit_flow.specs.Residual.{IsClosed, left_over}
use Rattle.ofit_flow.proofs.Crossing.{crossing-flow, crossing-le, closed_from_tight, tight_from_closed}

-- no flow is worth more than a cut's capacity
pub value-le-capacity : (es : List Edge) (s t : ℕ) (xs : List ℤ) (set : ℕ → Bool) → IsFlow es s t xs → IsCut s t set → value_of es s xs ≤ℤ capacity set es
value-le-capacity es s t xs set flow cut = omega (arith, ints, crossing-flow es s t xs set flow cut, crossing-le set es xs flow.within)

-- a cut that nothing more can leave has the flow's value as its capacity
pub value_is_capacity : (es : List Edge) (s t : ℕ) (xs : List ℤ) (set : ℕ → Bool) → IsFlow es s t xs → IsCut s t set → IsClosed es xs set → value_of es s xs ≡ capacity set es
value_is_capacity es s t xs set flow cut closed = sym (crossing-flow es s t xs set flow cut) ∙ tight_from_closed set es xs flow.within closed

-- a cut whose capacity is the flow's value is a minimum cut
pub minimum_from_equal : (es : List Edge) (s t : ℕ) (xs : List ℤ) (set : ℕ → Bool) → IsFlow es s t xs → IsCut s t set → value_of es s xs ≡ capacity set es → IsMinimumCut es s t set
minimum_from_equal es s t xs set flow cut same = record {
  cut = cut;
  least = λ other c. omega (arith, ints, same, value-le-capacity es s t xs other flow c);
}

-- nothing more can leave a minimum cut, where a flow reaches the capacity of some cut
pub closed_from_minimum : (es : List Edge) (s t : ℕ) (xs : List ℤ) (set other : ℕ → Bool) → IsFlow es s t xs → IsCut s t set → IsClosed es xs set → IsMinimumCut es s t other → IsClosed es xs other
closed_from_minimum es s t xs set other flow cut closed m =
    closed_from_tight other es xs flow.within (omega (arith, ints, value_is_capacity es s t xs set flow cut closed, m.least set cut, crossing-flow es s t xs other flow m.cut, crossing-le other es xs flow.within))

pub smallest_from_reached : (es : List Edge) (s t : ℕ) (xs : List ℤ) (set : ℕ → Bool) → IsFlow es s t xs → IsCut s t set → IsClosed es xs set
    → ((other : ℕ → Bool) → other s ≡ true → IsClosed es xs other → (v : ℕ) → set v ≡ true → other v ≡ true) → IsSmallestMinimumCut es s t set
smallest_from_reached es s t xs set flow cut closed reached = record {
  minimum = minimum_from_equal es s t xs set flow cut (value_is_capacity es s t xs set flow cut closed);
  inside = λ other m. reached other m.cut.has_source (closed_from_minimum es s t xs set other flow cut closed m);
}

pub amount_at-left_over : (es : List Edge) (xs : List ℤ) → length xs ≡ length es → (k : ℕ) → k < length es → amount_at (left_over es xs) k ≡ (edge_at es k).cap -ℤ amount_at xs k
amount_at-left_over [] xs h k l = absurd (omega arith)
amount_at-left_over (d ∷ es) [] h k l = absurd (omega (arith, h))
amount_at-left_over (d ∷ es) (x ∷ xs) h zero l = refl
amount_at-left_over (d ∷ es) (x ∷ xs) h (suc k) l = amount_at-left_over es xs (omega (arith, h)) k (omega arith)

pub length-left_over : (es : List Edge) (xs : List ℤ) → length xs ≡ length es → length (left_over es xs) ≡ length es
length-left_over [] xs h = refl
length-left_over (e ∷ es) [] h = absurd (omega (arith, h))
length-left_over (e ∷ es) (x ∷ xs) h = omega (arith, length-left_over es xs (omega (arith, h)))

-- the other way round the same net: what is left over is within the capacities too
pub within-left_over : (es : List Edge) (xs : List ℤ) → IsWithin es xs → IsWithin es (left_over es xs)
within-left_over es xs h = record {
  counted = length-left_over es xs h.counted;
  low = λ k l. omega (arith, ints, amount_at-left_over es xs h.counted k l, h.high k l);
  high = λ k l. omega (arith, ints, amount_at-left_over es xs h.counted k l, h.low k l);
}

-- what is closed against the amounts has a complement that is closed against what is left over, and the other way round
pub closed_outside : (es : List Edge) (xs : List ℤ) (set : ℕ → Bool) → length xs ≡ length es → IsClosed es xs set → IsClosed es (left_over es xs) (λ v. not (set v))
closed_outside es xs set h closed k l =
    let e = edge_at es k in
    let c = closed k l in
    let left : amount_at (left_over es xs) k ≡ e.cap -ℤ amount_at xs k = amount_at-left_over es xs h k l in
    record {
      forwards = λ p m. out (set e.from) (set e.to) p (λ q. c.backwards q (omega (arith, ints, left, m)));
      backwards = λ p m. out (set e.to) (set e.from) p (λ q. c.forwards q (omega (arith, ints, left, m)));
    } where
      out : (p q : Bool) → not p ≡ true → (q ≡ true → p ≡ true) → not q ≡ true
      out p false n h = refl
      out true true n h = n
      out false true n h = absurd (false≢true (h refl))

pub closed_inside : (es : List Edge) (xs : List ℤ) (set : ℕ → Bool) → length xs ≡ length es → IsClosed es (left_over es xs) set → IsClosed es xs (λ v. not (set v))
closed_inside es xs set h closed k l =
    let e = edge_at es k in
    let c = closed k l in
    let left : amount_at (left_over es xs) k ≡ e.cap -ℤ amount_at xs k = amount_at-left_over es xs h k l in
    record {
      forwards = λ p m. out (set e.from) (set e.to) p (λ q. c.backwards q (omega (arith, ints, left, m)));
      backwards = λ p m. out (set e.to) (set e.from) p (λ q. c.forwards q (omega (arith, ints, left, m)));
    } where
      out : (p q : Bool) → not p ≡ true → (q ≡ true → p ≡ true) → not q ≡ true
      out p false n h = refl
      out true true n h = n
      out false true n h = absurd (false≢true (h refl))

-- `set` holds what reaches the sink, and only that
pub largest_from_reaching : (es : List Edge) (s t : ℕ) (xs : List ℤ) (set : ℕ → Bool) → IsFlow es s t xs → IsCut s t (λ v. not (set v)) → IsClosed es xs (λ v. not (set v))
    → ((other : ℕ → Bool) → other t ≡ true → IsClosed es (left_over es xs) other → (v : ℕ) → set v ≡ true → other v ≡ true) → IsLargestMinimumCut es s t (λ v. not (set v))
largest_from_reaching es s t xs set flow cut closed reaching = record {
  minimum = minimum_from_equal es s t xs (λ v. not (set v)) flow cut (value_is_capacity es s t xs (λ v. not (set v)) flow cut closed);
  around = λ other m v k.
      let outside : IsClosed es (left_over es xs) (λ v. not (other v)) =
      closed_outside es xs other flow.within.counted (closed_from_minimum es s t xs (λ v. not (set v)) other flow cut closed m) in
      kept (set v) (other v) (reaching (λ v. not (other v)) (ap not m.cut.lacks_sink) outside v) k;
} where
  kept : (b c : Bool) → (b ≡ true → not c ≡ true) → c ≡ true → not b ≡ true
  kept false c h k = refl
  kept true true h k = h refl
  kept true false h k = absurd (false≢true k)
