-- The recurrence of the levels, and their bounds.
use Rattle.std.proofs.Common.{◌≡◌, ℕ, zero, suc, ◌+◌, ◌*◌, ◌^◌, ◌<◌, ◌≤◌, inl, inr, Bool, true, false, cond, eqb, [], length, refl, ap, sym, subst, ◌∙◌, arith, lit<}
use Rattle.std.proofs.lemmas.Bool.Decides.{leb_tells, eqb_tells}
use Rattle.std.proofs.Math.Nat.{suc-mul, mul-zero}
use Rattle.std.proofs.lemmas.Nat.{mul-le}
use Rattle.std.specs.List.{range_with_len}
use Rattle.std.proofs.lemmas.List.FromFn.{length-range_with_len}
use Rattle.ofit_levels.specs.Factorial.{factorial}
use Rattle.ofit_levels.specs.Orderings.{orderings}
use Rattle.ofit_levels.specs.Level.{level}
use Rattle.ofit_levels.proofs.Ways.{ways, ways-zero, ways-none, ways-recurs}
use Rattle.ofit_levels.proofs.Rising.{Rises-range, at_least-all, leb-yes}
use Rattle.ofit_levels.proofs.Counted.{counted}

level-ways : (k l : ℕ) → level k l ≡ ways k k l
unfolding level orderings
level-ways k l =
    let items = range_with_len 1 k in
    let size : length items ≡ k = length-range_with_len 1 k in
    counted (length items) items [] 0 1 l refl (Rises-range 1 k) (λ item. sym (leb-yes 0 item (omega arith)))
    ∙ ap (λ (t : ℕ). ways (length items) t l) (at_least-all 1 0 items (omega arith) (Rises-range 1 k))
    ∙ ap (λ (t : ℕ). ways t t l) size

pub level-recurs : (n l : ℕ) → level (suc n) (suc l) ≡ level n l + n * level n (suc l)
level-recurs n l =
    let times : n * level n (suc l) ≡ n * ways n n (suc l) = ap (λ (t : ℕ). n * t) (level-ways n (suc l)) in
    omega (arith, level-ways (suc n) (suc l), ways-recurs n l, level-ways n l, times)

pub level-none : (n : ℕ) → level (suc n) 0 ≡ 0
level-none n = level-ways (suc n) 0 ∙ ways-none n

level-zero : (l : ℕ) → level 0 l ≡ cond (eqb 0 l) 1 0
level-zero l = level-ways 0 l ∙ ways-zero 0 l

eqb-zero-suc : (l : ℕ) → eqb 0 (suc l) ≡ false
eqb-zero-suc l = elim (eqb_tells 0 (suc l)) [ inl same ↦ absurd (omega (arith, same.1)) | inr apart ↦ apart.0 ]

zero_above : (l : ℕ) → level 0 (suc l) ≡ 0
zero_above l = level-zero (suc l) ∙ ap (λ (t : Bool). cond {A = ℕ} t 1 0) (eqb-zero-suc l)

pub level-above : (n l : ℕ) → n < l → level n l ≡ 0
level-above n zero h = absurd (omega arith)
level-above zero (suc l) h = zero_above l
level-above (suc n) (suc l) h =
    let gone : n * level n (suc l) ≡ 0 = ap (λ (t : ℕ). n * t) (level-above n (suc l) (omega arith)) ∙ mul-zero n in
    omega (arith, level-recurs n l, level-above n l (omega arith), gone)

pub level-one : level 1 1 ≡ 1
level-one =
    let gone : 0 * level 0 1 ≡ 0 = omega arith in
    let first : level 0 0 ≡ 1 = level-zero 0 in
    omega (arith, level-recurs 0 0, first, gone)

pub factorial-suc : (n : ℕ) → factorial (suc n) ≡ suc n * factorial n
unfolding factorial
factorial-suc n = refl

pub factorial-zero : factorial 0 ≡ 1
unfolding factorial
factorial-zero = refl

cond_small : (b : Bool) → cond {A = ℕ} b 1 0 ≤ 1
cond_small b = elim b as (λ (t : Bool). cond {A = ℕ} t 1 0 ≤ 1) [ true ↦ omega arith | false ↦ omega arith ]

pub level-le-factorial : (n l : ℕ) → level n l ≤ factorial n
level-le-factorial zero l = omega (arith, level-zero l, factorial-zero, cond_small (eqb 0 l))
level-le-factorial (suc n) zero = omega (arith, level-none n)
level-le-factorial (suc n) (suc l) =
    let rest = mul-le n (level n (suc l)) n (factorial n) (omega arith) (level-le-factorial n (suc l)) in
    omega (arith, level-recurs n l, level-le-factorial n l, rest, factorial-suc n, suc-mul n (factorial n))

factorial-rises : (n m : ℕ) → n ≤ m → factorial n ≤ factorial m
factorial-rises n zero h =
    let none : n ≡ 0 = omega arith in
    subst (λ (t : ℕ). factorial t ≤ factorial 0) (sym none) (omega arith)
factorial-rises n (suc m) h =
    elim (leb_tells n m) [
      | inl low ↦ omega (arith, factorial-rises n m low.1, factorial-suc m, suc-mul m (factorial m))
      | inr high ↦
          let same : n ≡ suc m = omega (arith, h, high.1) in
          subst (λ (t : ℕ). factorial t ≤ factorial (suc m)) (sym same) (omega arith)
    ]

factorial-of_34 : factorial 34 < 2 ^ 128
unfolding factorial
factorial-of_34 = lit< tt

pub factorial-fits : (k : ℕ) → k ≤ 34 → factorial k < 2 ^ 128
factorial-fits k h = omega (arith, factorial-rises k 34 h, factorial-of_34)

pub level-fits : (n l : ℕ) → n ≤ 34 → level n l < 2 ^ 128
level-fits n l h = omega (arith, level-le-factorial n l, factorial-fits n h)
