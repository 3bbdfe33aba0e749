-- Sums over the nodes of a set.
use Rattle.std.proofs.Common.{◌≡◌, ℕ, zero, suc, ◌<◌, refl, ap, ◌∙◌, arith, Bool, true, false, cond, not, nat_eq, ◌≢◌}
use Rattle.std.proofs.lemmas.Int.{ints}
use Rattle.std.proofs.lemmas.Bool.{eq-eqb, ne_eqb}
use Rattle.std.specs.Prelude.{ℤ, pos, ◌+ℤ◌, ◌-ℤ◌, ◌≤ℤ◌}
use Rattle.ofit_flow.proofs.Sums.{set_sum-at}
use Rattle.ofit_cut.specs.Sets.{set_sum}
use Rattle.ofit_cut.specs.Edges.{sum_to}

-- terms that agree in the set
pub set_sum-same : (set : ℕ → Bool) (f g : ℕ → ℤ) (n : ℕ) → ((v : ℕ) → v < n → set v ≡ true → f v ≡ g v) → set_sum set f n ≡ set_sum set g n
set_sum-same set f g zero same = refl
set_sum-same set f g (suc n) same = omega (arith, ints, set_sum-same set f g n (λ v l. same v (omega arith)), here (set n) (same n (omega arith))) where
  here : (b : Bool) → (b ≡ true → f n ≡ g n) → cond b (f n) (pos 0) ≡ cond b (g n) (pos 0)
  here true h = h refl
  here false h = refl

-- sets that agree below n
pub set_sum-agree : (a b : ℕ → Bool) (f : ℕ → ℤ) (n : ℕ) → ((v : ℕ) → v < n → a v ≡ b v) → set_sum a f n ≡ set_sum b f n
set_sum-agree a b f zero same = refl
set_sum-agree a b f (suc n) same = omega (arith, ints, set_sum-agree a b f n (λ v l. same v (omega arith)), ap (λ (x : Bool). cond x (f n) (pos 0)) (same n (omega arith)))

-- a set and its complement
pub set_sum-both : (a : ℕ → Bool) (f : ℕ → ℤ) (n : ℕ) → set_sum a f n +ℤ set_sum (λ v. not (a v)) f n ≡ sum_to f n
set_sum-both a f zero = refl
set_sum-both a f (suc n) = omega (arith, ints, set_sum-both a f n, here (a n) (f n)) where
  here : (b : Bool) (x : ℤ) → cond b x (pos 0) +ℤ cond (not b) x (pos 0) ≡ x
  here true x = omega (arith, ints)
  here false x = omega (arith, ints)

pub set_sum-mono : (set : ℕ → Bool) (f g : ℕ → ℤ) (n : ℕ) → ((v : ℕ) → v < n → set v ≡ true → f v ≤ℤ g v) → set_sum set f n ≤ℤ set_sum set g n
set_sum-mono set f g zero le = omega (arith, ints)
set_sum-mono set f g (suc n) le = omega (arith, ints, set_sum-mono set f g n (λ v l. le v (omega arith)), here (set n) (le n (omega arith))) where
  here : (b : Bool) → (b ≡ true → f n ≤ℤ g n) → cond b (f n) (pos 0) ≤ℤ cond b (g n) (pos 0)
  here true h = h refl
  here false h = omega (arith, ints)

-- a term that stands at one node alone
pub set_sum-node : (set : ℕ → Bool) (u n : ℕ) (x : ℤ) → u < n → set_sum set (λ v. cond (nat_eq v u) x (pos 0)) n ≡ cond (set u) x (pos 0)
set_sum-node set u n x l =
    set_sum-at set (λ v. cond (nat_eq v u) x (pos 0)) n u l (λ v b k d. ap (λ (t : Bool). cond t x (pos 0)) (ne_eqb v u d))
    ∙ ap (λ (t : Bool). cond (set u) (cond t x (pos 0)) (pos 0)) (eq-eqb u u refl)

-- a set of one node below n
pub set_sum-single : (set : ℕ → Bool) (f : ℕ → ℤ) (u n : ℕ) → u < n → set u ≡ true → ((v : ℕ) → v < n → set v ≡ true → v ≢ u → ⊥) → set_sum set f n ≡ f u
set_sum-single set f u n l has alone =
    set_sum-at set f n u l (λ v b k d. absurd (alone v b k d)) ∙ ap (λ (t : Bool). cond t (f u) (pos 0)) has

-- a set of no node below n
pub set_sum-none : (set : ℕ → Bool) (f : ℕ → ℤ) (n : ℕ) → ((v : ℕ) → v < n → set v ≡ false) → set_sum set f n ≡ pos 0
set_sum-none set f zero none = refl
set_sum-none set f (suc n) none = omega (arith, ints, set_sum-none set f n (λ v l. none v (omega arith)), ap (λ (t : Bool). cond t (f n) (pos 0)) (none n (omega arith)))

pub sum_to-sub : (f g : ℕ → ℤ) (n : ℕ) → sum_to (λ v. f v -ℤ g v) n ≡ sum_to f n -ℤ sum_to g n
sum_to-sub f g zero = refl
sum_to-sub f g (suc n) = omega (arith, ints, sum_to-sub f g n)

pub sum_to-same : (f g : ℕ → ℤ) (n : ℕ) → ((v : ℕ) → v < n → f v ≡ g v) → sum_to f n ≡ sum_to g n
sum_to-same f g zero same = refl
sum_to-same f g (suc n) same = omega (arith, ints, sum_to-same f g n (λ v l. same v (omega arith)), same n (omega arith))

pub sum_to-low : (f : ℕ → ℤ) (n : ℕ) → ((v : ℕ) → v < n → pos 0 ≤ℤ f v) → pos 0 ≤ℤ sum_to f n
sum_to-low f zero low = omega (arith, ints)
sum_to-low f (suc n) low = omega (arith, ints, sum_to-low f n (λ v l. low v (omega arith)), low n (omega arith))
