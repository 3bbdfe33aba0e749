-- Where each of n members counts at most 1 and all of them n - 1, one member counts 0 and the others 1.
use Rattle.std.proofs.Common.{◌≡◌, ◌≢◌, ℕ, ◌+◌, ◌≤◌, inl, inr, List, [], ◌∷◌, length, sym, ap, ◌∙◌, arith}
use Rattle.std.specs.List.{Contains, sum_by}
use Rattle.std.proofs.lemmas.Bool.{cases_eq}
use Rattle.std.proofs.lemmas.List.Sums.{sum_by-cons}
use Rattle.ofit_order.proofs.Seeing.{not_in_nil}
use Rattle.ofit_order.proofs.Increasing.{Contains-cons, Contains-head, Contains-cons_cases}

sum_by-le-length : (f : ℕ → ℕ) (ms : List ℕ) → ((p : ℕ) → Contains ms p → f p ≤ 1) → sum_by f ms ≤ length ms
sum_by-le-length f [] few = omega arith
sum_by-le-length f (m ∷ ms) few =
    let a = sum_by-cons f m ms in
    let b = few m (Contains-head m ms) in
    let c = sum_by-le-length f ms (λ p h. few p (Contains-cons m ms p h)) in
    omega (arith, a, b, c)

all_ones : (f : ℕ → ℕ) (ms : List ℕ) → ((p : ℕ) → Contains ms p → f p ≤ 1) → sum_by f ms ≡ length ms → (p : ℕ) → Contains ms p → f p ≡ 1
all_ones f [] few all p h = absurd (not_in_nil p h)
all_ones f (m ∷ ms) few all p h =
    let a = sum_by-cons f m ms in
    let b = few m (Contains-head m ms) in
    let rest = λ (q : ℕ) (k : Contains ms q). few q (Contains-cons m ms q k) in
    let c = sum_by-le-length f ms rest in
    let total : sum_by f (m ∷ ms) ≡ length ms + 1 = omega (arith, all) in
    elim (Contains-cons_cases m ms p h) [
      | inl e ↦ let one : f m ≡ 1 = omega (arith, a, b, c, total) in sym (ap f e) ∙ one
      | inr k ↦ all_ones f ms rest (omega (arith, a, b, c, total)) p k
    ]

pub record OneLeft (f : ℕ → ℕ) (ms : List ℕ) : Type 0 where
  pub left : ℕ
  pub member : Contains ms left
  pub zero_there : f left ≡ 0
  pub ones : (p : ℕ) → Contains ms p → p ≢ left → f p ≡ 1

pub one_left : (f : ℕ → ℕ) (ms : List ℕ) → ((p : ℕ) → Contains ms p → f p ≤ 1) → sum_by f ms + 1 ≡ length ms → OneLeft f ms
one_left f [] few e = absurd (omega (arith, e))
one_left f (m ∷ ms) few e =
    let a = sum_by-cons f m ms in
    let b = few m (Contains-head m ms) in
    let total : sum_by f (m ∷ ms) + 1 ≡ length ms + 1 = omega (arith, e) in
    let rest = λ (q : ℕ) (k : Contains ms q). few q (Contains-cons m ms q k) in
    elim (cases_eq (f m) 0) [
      | inl zero_here ↦ record {
        left = m;
        member = Contains-head m ms;
        zero_there = zero_here;
        ones = λ p h n. elim (Contains-cons_cases m ms p h) [
          | inl e2 ↦ absurd (n (sym e2))
          | inr k ↦ all_ones f ms rest (omega (arith, a, total, zero_here)) p k
        ];
      }
      | inr some_here ↦
          let one : f m ≡ 1 = omega arith in
          let r = one_left f ms rest (omega (arith, a, total, one)) in
          record {
            left = r.left;
            member = Contains-cons m ms r.left r.member;
            zero_there = r.zero_there;
            ones = λ p h n. elim (Contains-cons_cases m ms p h) [ inl e2 ↦ sym (ap f e2) ∙ one | inr k ↦ r.ones p k n ];
          }
    ]
