-- The row of levels of one size, and the step to the next size.
use Rattle.std.proofs.Common.{◌≡◌, ℕ, zero, suc, ◌+◌, ◌-◌, ◌*◌, ◌<◌, ◌≤◌, inl, inr, List, ◌∷◌, length, replicate, slice_index, slice_set, ap, sym, subst, ◌∙◌, arith}
use Rattle.std.proofs.lemmas.Bool.Decides.{leb_tells}
use Rattle.std.proofs.lemmas.List.{get_or-replicate, get_or-set_same, get_or-set_other}
use Rattle.ofit_levels.specs.Level.{level}
use Rattle.ofit_levels.proofs.Recurrence.{level-recurs, level-none, level-one, level-above}

-- each place below `count` has its level
abbrev pub HasLevels : ℕ → List ℕ → ℕ → Type 0
HasLevels n row count = (place : ℕ) → place < count → slice_index row place ≡ level n (place + 1)

pub one_item : (count : ℕ) → count ≤ 34 → HasLevels 1 (1 ∷ replicate 33 0) count
one_item count c zero h = sym level-one
one_item count c (suc place) h = get_or-replicate 33 place 0 0 (omega (arith, c, h)) ∙ sym (level-above 1 (suc place + 1) (omega arith))

pub first_level : (n size value : ℕ) → 1 ≤ n → size ≡ n → value ≡ level n 1 → size * value ≡ level (n + 1) 1
first_level zero size value h s v = absurd (omega arith)
first_level (suc n) size value h s v =
    let next : suc n + 1 ≡ suc (suc n) = omega arith in
    let times : size * value ≡ suc n * level (suc n) 1 = ap (λ (t : ℕ). t * value) s ∙ ap (λ (t : ℕ). suc n * t) v in
    let recurs = level-recurs (suc n) 0 in
    let same : level (suc n + 1) 1 ≡ level (suc (suc n)) 1 = ap (λ (t : ℕ). level t 1) next in
    omega (arith, times, recurs, same, level-none n)

pub later_level : (n place size before value : ℕ) → 1 ≤ place → size ≡ n → before ≡ level n (place - 1 + 1) → value ≡ level n (place + 1) → before + size * value ≡ level (n + 1) (place + 1)
later_level n place size before value p s b v =
    let at_n : n + 1 ≡ suc n = omega arith in
    let at_place : place + 1 ≡ suc place = omega arith in
    let behind : place - 1 + 1 ≡ place = omega (arith, p) in
    let b2 : before ≡ level n place = b ∙ ap (λ (t : ℕ). level n t) behind in
    let times : size * value ≡ n * level n (suc place) = ap (λ (t : ℕ). t * value) s ∙ ap (λ (t : ℕ). n * t) (v ∙ ap (λ (t : ℕ). level n t) at_place) in
    let same : level (n + 1) (place + 1) ≡ level (suc n) (suc place) = ap (λ (t : ℕ). level t (place + 1)) at_n ∙ ap (λ (t : ℕ). level (suc n) t) at_place in
    omega (arith, b2, times, level-recurs n place, same)

pub row_begun : (n : ℕ) (row : List ℕ) → slice_index row 0 ≡ level n 1 → HasLevels n row 1
row_begun n row first zero h = first
row_begun n row first (suc place) h = absurd (omega (arith, h))

pub row_more : (n count value : ℕ) (row : List ℕ) → count < length row → HasLevels n row count → value ≡ level n (count + 1) → HasLevels n (slice_set row count value) (count + 1)
row_more n count value row room each v place h =
    elim (leb_tells count place) [
      | inl reached ↦
          let same : place ≡ count = omega (arith, h, reached.1) in
          subst (λ (t : ℕ). slice_index (slice_set row count value) t ≡ level n (t + 1)) (sym same) (get_or-set_same row count value 0 room ∙ v)
      | inr missed ↦ get_or-set_other row count place value 0 (omega (arith, missed.1)) ∙ each place missed.1
    ]

pub none_above : (n size place value : ℕ) → size ≡ n → n ≤ place → value ≡ level size (place + 1) → value ≡ 0
none_above n size place value s h v = v ∙ level-above size (place + 1) (omega (arith, s, h))
