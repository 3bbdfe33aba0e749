-- Pairs counted by their ends.
use Rattle.std.proofs.Common.{◌≡◌, ℕ, ◌+◌, ◌==◌, Bool, true, false, cond, eqb, inl, inr, List, [], ◌∷◌, length, get_or, refl, sym, subst, ◌∙◌, arith, eq-eqb}
use Rattle.std.specs.List.{Contains, sum_by, count_by, list_any}
use Rattle.std.specs.List.Sorted.{IsStrictlyIncreasing}
use Rattle.std.proofs.lemmas.Bool.{cases_Bool, eqb-true}
use Rattle.std.proofs.lemmas.Bool.Decides.{eqb_tells}
use Rattle.std.proofs.lemmas.List.Folds.{Any-from_list_any, list_any-from_Any}
use Rattle.std.proofs.lemmas.List.Sums.{sum_by-cons, length-filter}
use Rattle.ofit_order.specs.Form.{pairs_among, higher_count}
use Rattle.ofit_order.proofs.Increasing.{Contains-cons, Contains-head, increasing_head, increasing_tail}

pub sum_by-add : (f g : ℕ → ℕ) (xs : List ℕ) → sum_by (λ x. f x + g x) xs ≡ sum_by f xs + sum_by g xs
sum_by-add f g [] = omega arith
sum_by-add f g (x ∷ xs) =
    let a = sum_by-cons (λ (t : ℕ). f t + g t) x xs in
    let b = sum_by-cons f x xs in
    let c = sum_by-cons g x xs in
    omega (arith, a, b, c, sum_by-add f g xs)

pub sum_by-agree : (f g : ℕ → ℕ) (xs : List ℕ) → ((x : ℕ) → Contains xs x → f x ≡ g x) → sum_by f xs ≡ sum_by g xs
sum_by-agree f g [] same = refl
sum_by-agree f g (x ∷ xs) same =
    let a = sum_by-cons f x xs in
    let b = sum_by-cons g x xs in
    omega (arith, a, b, same x (Contains-head x xs), sum_by-agree f g xs (λ y h. same y (Contains-cons x xs y h)))

pub sum_by-zero : (xs : List ℕ) → sum_by (λ _. 0) xs ≡ 0
sum_by-zero [] = refl
sum_by-zero (x ∷ xs) = sum_by-cons (λ (_ : ℕ). 0) x xs ∙ omega (arith, sum_by-zero xs)

-- whether x is one of the members
abbrev pub has : List ℕ → ℕ → Bool
has ms x = list_any (λ m. m == x) ms

pub Contains-from_has : (ms : List ℕ) (x : ℕ) → has ms x ≡ true → Contains ms x
Contains-from_has ms x h =
    let a = Any-from_list_any (λ (m : ℕ). m == x) ms h in
    let e : a.1 ≡ x = eqb-true _ _ a.4 in
    (a.0, a.2, subst (λ (t : ℕ). get_or ms a.0 t ≡ t) e a.3)

pub has-from_Contains : (ms : List ℕ) (x : ℕ) → Contains ms x → has ms x ≡ true
has-from_Contains ms x h = list_any-from_Any (λ (m : ℕ). m == x) ms (h.0, x, h.1, h.2, eq-eqb x x refl)

pub has-not : (ms : List ℕ) (x : ℕ) → (Contains ms x → ⊥) → has ms x ≡ false
has-not ms x n = elim (cases_Bool (has ms x)) [ inl h ↦ absurd (n (Contains-from_has ms x h)) | inr h ↦ h ]

-- an increasing list has a number once at most
count_of_one : (ms : List ℕ) (x : ℕ) → IsStrictlyIncreasing ms → count_by (λ m. x == m) ms ≡ cond (has ms x) 1 0
count_of_one [] x up = refl
count_of_one (m ∷ ms) x up =
    let more = sum_by-cons (λ (t : ℕ). cond (x == t) 1 0) m ms in
    let rest = count_of_one ms x (increasing_tail m ms up) in
    elim (eqb_tells x m) [
      | inl same ↦
          let absent : has ms x ≡ false = has-not ms x (λ c. let l = increasing_head m ms x up c in omega (arith, l, same.1)) in
          let here : eqb m x ≡ true = eq-eqb m x (sym same.1) in
          let one : ◌≡◌ {A = ℕ} (cond (x == m) 1 0) 1 = rw same.0 in
          let none : ◌≡◌ {A = ℕ} (cond (has ms x) 1 0) 0 = rw absent in
          let found : ◌≡◌ {A = ℕ} (cond (has (m ∷ ms) x) 1 0) 1 = rw here in
          omega (arith, more, rest, one, none, found)
      | inr apart ↦
          let elsewhere : eqb m x ≡ false = elim (cases_Bool (eqb m x)) [ inl h ↦ absurd (apart.1 (sym (eqb-true m x h))) | inr h ↦ h ] in
          let zero : ◌≡◌ {A = ℕ} (cond (x == m) 1 0) 0 = rw apart.0 in
          let found : ◌≡◌ {A = ℕ} (cond (has (m ∷ ms) x) 1 0) (cond (has ms x) 1 0) = rw elsewhere in
          omega (arith, more, rest, zero, found)
    ]

-- the pairs whose end is a member, counted member by member
pub count_by_ends : (key : ℕ × ℕ → ℕ) (ps : List (ℕ × ℕ)) (ms : List ℕ) → IsStrictlyIncreasing ms → sum_by (λ m. count_by (λ p. key p == m) ps) ms ≡ count_by (λ p. has ms (key p)) ps
count_by_ends key [] ms up = sum_by-zero ms
count_by_ends key (p ∷ ps) ms up =
    let first = λ (m : ℕ). cond (key p == m) 1 0 in
    let others = λ (m : ℕ). count_by (λ (q : ℕ × ℕ). key q == m) ps in
    let split : sum_by (λ m. count_by (λ q. key q == m) (p ∷ ps)) ms ≡ sum_by (λ m. first m + others m) ms =
    sum_by-agree _ _ ms (λ m _. sum_by-cons (λ (q : ℕ × ℕ). cond (key q == m) 1 0) p ps) in
    let added = sum_by-add first others ms in
    let once = count_of_one ms (key p) up in
    let more = sum_by-cons (λ (q : ℕ × ℕ). cond (has ms (key q)) 1 0) p ps in
    omega (arith, split, added, once, more, count_by_ends key ps ms up)

-- the higher neighbours of all members are as many as the pairs among them
pub sum_by-higher_count : (ps : List (ℕ × ℕ)) (ms : List ℕ) → IsStrictlyIncreasing ms → sum_by (higher_count ps) ms ≡ length (pairs_among ps ms)
sum_by-higher_count ps ms up =
    count_by_ends (λ p. p.0) ps ms up ∙ sym (length-filter (λ (p : ℕ × ℕ). has ms p.0) ps)
