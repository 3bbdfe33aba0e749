-- Decimals of at most eighteen bytes without a power of ten.
use Rattle.std.proofs.Common.{◌≡◌, ℕ, ◌+◌, ◌*◌, ◌-◌, ◌^◌, ◌≤◌, ◌<◌, List, [], ◌∷◌, ◌++◌, length, length-append, refl, inl, ap, sym, ◌∙◌, subst, arith}
use Rattle.std.proofs.Math.Nat.{one-le-pow, pow-succ', pow-le-pow_right, mul-le-mul_left}
use Rattle.std.specs.List.{AllByRecursion}
use Rattle.std.specs.Prelude.{pos}
use Rattle.ofit_num.specs.NumberText.{IsDigit, spelled_after}
use Rattle.ofit_num.specs.DecimalText.{IsSpaces, IsUnsigned}
use Rattle.ofit_num.proofs.Scaled.{ten_positive, zeros_step, zeros_grow}
use Rattle.ofit_num.proofs.Spelled.{spelled_after-append}

-- there is room behind the number for as many digits as there are bytes
abbrev pub HasRoom : ℕ → List ℕ → Type 0
HasRoom n text = (n + 1) * 10 ^ length text ≤ 10 ^ 12

pub room_at_first : (text : List ℕ) → length text ≤ 12 → HasRoom 0 text
room_at_first text l = omega (arith, pow-le-pow_right {n = 10} (omega arith) {i = length text} {j = 12} l)

pub room_fits : (n : ℕ) (text : List ℕ) → HasRoom n text → n < 10 ^ 12
room_fits n text h = below (10 ^ length text) (one-le-pow (length text) 10 (omega arith)) h
  where
    below : (p : ℕ) → 1 ≤ p → (n + 1) * p ≤ 10 ^ 12 → n < 10 ^ 12
    below p l h = omega (arith, mul-le-mul_left (n + 1) l)

pub room_after_digit : (n b : ℕ) (text rest : List ℕ) → IsDigit b → text ≡ b ∷ rest → HasRoom n text → HasRoom (n * 10 + (b - 48)) rest
room_after_digit n b text rest d e h = tenth (b - 48) (10 ^ length rest) (10 ^ length (b ∷ rest)) (omega (arith, d.1)) (pow-succ' 10 (length rest)) (subst (HasRoom n) e h)
  where
    tenth : (d p q : ℕ) → d ≤ 9 → q ≡ 10 * p → (n + 1) * q ≤ 10 ^ 12 → (n * 10 + d + 1) * p ≤ 10 ^ 12
    tenth d p q l e h = omega (arith, mul-le-mul_left p l, ap (λ (t : ℕ). (n + 1) * t) e)

-- and behind it for so many zeros
pub zeros_fit : (n places : ℕ) → n < 10 ^ 12 → places ≤ 6 → n * 10 ^ places < 10 ^ 18
zeros_fit n places l h = below (10 ^ places) (pow-le-pow_right {n = 10} (omega arith) {i = places} {j = 6} h)
  where
    below : (p : ℕ) → p ≤ 10 ^ 6 → n * p < 10 ^ 18
    below p h = omega (arith, mul-le-mul_left n h)

-- the size of a number to which zeros are added, one by one
pub zeros_so_far : (size n behind counter places : ℕ) → size * 10 ^ behind ≡ n * 10 ^ counter → counter < places → n * 10 ^ places < 10 ^ 18 → size * 10 < 10 ^ 18
zeros_so_far size n behind counter places e l h = below (10 ^ behind) (n * 10 ^ counter) (n * 10 ^ places) (ten_positive behind) e (zeros_grow n counter places l) h
  where
    below : (p v w : ℕ) → 0 < p → size * p ≡ v → v * 10 ≤ w → w < 10 ^ 18 → size * 10 < 10 ^ 18
    below p v w s e l h = omega (arith, mul-le-mul_left size s)

pub one_more_zero : (size n behind counter : ℕ) → size * 10 ^ behind ≡ n * 10 ^ counter → size * 10 * 10 ^ behind ≡ n * 10 ^ (counter + 1)
one_more_zero size n behind counter e = swap size (10 ^ behind) ∙ ap (λ (t : ℕ). t * 10) e ∙ sym (zeros_step n counter)
  where
    swap : (a b : ℕ) → a * 10 * b ≡ a * b * 10
    swap a b = omega arith

no_spaces : (rest : List ℕ) → length rest ≡ 0 → IsSpaces rest
no_spaces [] e = tt
no_spaces (b ∷ bs) e = absurd (omega arith)

-- digits, a point and digits
pub digits_and_point : (text digits rest fraction more after : List ℕ) (m n f : ℕ) → AllByRecursion IsDigit digits → text ≡ digits ++ rest → m ≡ spelled_after 0 digits → 0 < length digits → rest ≡ 46 ∷ fraction
    → AllByRecursion IsDigit more → fraction ≡ more ++ after → n ≡ spelled_after m more → length after ≡ 0 → f ≡ length fraction → IsUnsigned text n f (pos 0)
digits_and_point text digits rest fraction more after m n f d e v some p k g w none same = record {
  whole = digits;
  point = 46 ∷ [];
  fraction = more;
  rest = after;
  spells = e ∙ ap (λ (t : List ℕ). digits ++ t) p ∙ ap (λ (t : List ℕ). digits ++ 46 ∷ t) g;
  are_whole = d;
  is_point = inl refl;
  are_fraction = k;
  some = omega (arith, length-append digits more);
  is_end = inl (no_spaces after none, refl);
  digits = w ∙ ap (λ (t : ℕ). spelled_after t more) v ∙ sym (spelled_after-append 0 digits more);
  behind = omega (arith, ap length g, length-append more after);
}
