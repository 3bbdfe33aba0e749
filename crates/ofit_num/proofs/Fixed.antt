-- The text of a number of units is a decimal of it, and the only one that is written.
use Rattle.std.proofs.Common.{◌≡◌, ℕ, zero, suc, ◌+◌, ◌*◌, ◌-◌, ◌^◌, ◌/◌, ◌%◌, ◌≤◌, ◌<◌, inl, inr, List, [], ◌∷◌, ◌++◌, length, refl, ap, ap₂, sym, ◌∙◌, subst, arith, append_assoc, length-append, mul-le-mul_left}
use Rattle.std.proofs.lemmas.Bool.{cases_order}
use Rattle.std.proofs.lemmas.List.{append-nil}
use Rattle.std.proofs.Math.Nat.{pow-succ', div-le_self}
use Rattle.std.specs.Prelude.{Result, Ok, Err, OnOk, Bool, true, false, ℤ, pos, negsuc, unsigned_abs, decimal}
use Rattle.std.specs.List.{AllByRecursion}
use Rattle.ofit_num.specs.NumberText.{IsDigit, IsWhole, spelled_after}
use Rattle.ofit_num.specs.DecimalText.{IsSign, IsPoint, IsUnits, IsFixed, with_sign, minus_of, pointed}
use Rattle.ofit_num.specs.Digits.{ArePadded}
use Rattle.ofit_num.proofs.Runs.{all_same, all_more, tail_of}
use Rattle.ofit_num.proofs.Scaled.{spelled_shift, spelled_below, ten_positive}
use Rattle.ofit_num.proofs.Spelled.{spelled_after-append}
use Rattle.ofit_num.proofs.Numerals.{IsWhole-text, IsWhole-decimal}

is_negative : ℤ → Bool
is_negative (pos n) = false
is_negative (negsuc n) = true

sign_of : (z : ℤ) → IsSign (minus_of z) (is_negative z)
unfolding is_negative
sign_of (pos n) = inl refl
sign_of (negsuc n) = refl

signed_size : (z : ℤ) → z ≡ with_sign (is_negative z) (unsigned_abs z)
unfolding is_negative
signed_size (pos n) = refl
signed_size (negsuc n) = refl

-- a whole number's text has digits only, and at least one
pub whole_digits : (text : List ℕ) (n : ℕ) → IsWhole text n → AllByRecursion IsDigit text
whole_digits text n (inl z) = all_same IsDigit (48 ∷ []) text (sym z.is_zero) ((omega arith, omega arith), tt)
whole_digits text n (inr p) = all_same IsDigit (p.first ∷ p.rest) text (sym p.spells) ((omega (arith, p.above_zero), p.is_digit), p.digits)

whole_some : (text : List ℕ) (n : ℕ) → IsWhole text n → 0 < length text
whole_some text n (inl z) = omega (arith, ap length z.is_zero)
whole_some text n (inr p) = omega (arith, ap length p.spells)

whole_number : (text : List ℕ) (n : ℕ) → IsWhole text n → n ≡ spelled_after 0 text
whole_number text n (inl z) = z.number ∙ sym (ap (spelled_after 0) z.is_zero)
whole_number text n (inr p) = p.number

point_of : (fraction : List ℕ) → (point : List ℕ) × IsPoint point fraction × (pointed fraction ≡ point ++ (fraction ++ []))
point_of [] = ([], inr (refl, refl), refl)
point_of (d ∷ ds) = (46 ∷ [], inl refl, ap (λ (t : List ℕ). 46 ∷ (d ∷ t)) (sym (append-nil ds)))

-- what was appended is read back
pub fixed_units : (text : List ℕ) (places : ℕ) (z : ℤ) → IsFixed text z places → IsUnits text places z
fixed_units text places z t =
    let at : (point : List ℕ) × IsPoint point t.fraction × (pointed t.fraction ≡ point ++ (t.fraction ++ [])) = point_of t.fraction in
    record {
      negative = is_negative z;
      m = unsigned_abs z;
      f = places;
      x = pos 0;
      decimal = record {
        spaces = [];
        sign = minus_of z;
        number = t.whole ++ pointed t.fraction;
        spells = t.spells;
        are_spaces = tt;
        is_sign = sign_of z;
        is_number = record {
          whole = t.whole;
          point = at.0;
          fraction = t.fraction;
          rest = [];
          spells = ap (λ (r : List ℕ). t.whole ++ r) at.2;
          are_whole = whole_digits t.whole t.n t.is_whole;
          is_point = at.1;
          are_fraction = t.are_digits;
          some = omega (arith, length-append t.whole t.fraction, whole_some t.whole t.n t.is_whole);
          is_end = inl (tt, refl);
          digits = t.units;
          behind = sym t.as_many;
        };
      };
      scaled = record { up = 0; down = 0; shift = ap pos (zeros places); equal = refl };
      sign = signed_size z;
    }
  where
    zeros : (p : ℕ) → 0 + (p + 0) ≡ p + 0
    zeros p = omega arith

same_quotient : (n k r s p : ℕ) → r < p → s < p → n * p + r ≡ k * p + s → n ≡ k
same_quotient n k r s p l h e = elim (cases_order n k) [
  | inl g ↦ g
  | inr o ↦ elim o [ inl g ↦ absurd (less n k r s p l (next n k g) e) | inr g ↦ absurd (less k n s r p h (next k n g) (sym e)) ]
]
  where
    next : (a b : ℕ) → a < b → a + 1 ≤ b
    next a b g = omega arith

    less : (n k r s p : ℕ) → r < p → n + 1 ≤ k → n * p + r ≡ k * p + s → ⊥
    less n k r s p l g e = omega (arith, mul-le-mul_left p g)

-- equally many digits that spell one number are the same
pub same_padded : (xs ys : List ℕ) → AllByRecursion IsDigit xs → AllByRecursion IsDigit ys → length xs ≡ length ys → spelled_after 0 xs ≡ spelled_after 0 ys → xs ≡ ys
same_padded xs ys d e l h = tail_of 49 49 xs ys (IsWhole-text (49 ∷ xs) (49 ∷ ys) (spelled_after 0 (49 ∷ xs)) (one xs d (spelled_after 0 (49 ∷ xs)) refl) (one ys e (spelled_after 0 (49 ∷ xs)) same))
  where
    one : (ds : List ℕ) → AllByRecursion IsDigit ds → (n : ℕ) → n ≡ spelled_after 0 (49 ∷ ds) → IsWhole (49 ∷ ds) n
    one ds a n q = inr (record { first = 49; rest = ds; spells = refl; above_zero = omega arith; is_digit = omega arith; digits = a; number = q })

    same : spelled_after 0 (49 ∷ xs) ≡ spelled_after 0 (49 ∷ ys)
    same = spelled_shift (0 * 10 + (49 - 48)) xs ∙ ap₂ (λ (k v : ℕ). (0 * 10 + (49 - 48)) * 10 ^ k + v) l h ∙ sym (spelled_shift (0 * 10 + (49 - 48)) ys)

-- One number of units is written as one text.
pub one_fixed : (xs ys : List ℕ) (places : ℕ) (z : ℤ) → IsFixed xs z places → IsFixed ys z places → xs ≡ ys
one_fixed xs ys places z s t =
    let first : unsigned_abs z ≡ s.n * 10 ^ places + spelled_after 0 s.fraction = parts xs s in
    let second : unsigned_abs z ≡ t.n * 10 ^ places + spelled_after 0 t.fraction = parts ys t in
    let number : s.n ≡ t.n = same_quotient s.n t.n (spelled_after 0 s.fraction) (spelled_after 0 t.fraction) (10 ^ places) (below xs s) (below ys t) (sym first ∙ second) in
    let whole : s.whole ≡ t.whole = IsWhole-text s.whole t.whole t.n (let P : ℕ → Type 0 = IsWhole s.whole in subst P number s.is_whole) t.is_whole in
    let after : spelled_after 0 s.fraction ≡ spelled_after 0 t.fraction = left (s.n * 10 ^ places) (t.n * 10 ^ places) (spelled_after 0 s.fraction) (spelled_after 0 t.fraction) (ap (λ (k : ℕ). k * 10 ^ places) number) (sym first ∙ second) in
    let fraction : s.fraction ≡ t.fraction = same_padded s.fraction t.fraction s.are_digits t.are_digits (s.as_many ∙ sym t.as_many) after in
    s.spells ∙ ap₂ (λ (a b : List ℕ). minus_of z ++ (a ++ pointed b)) whole fraction ∙ sym t.spells
  where
    parts : (text : List ℕ) (s : IsFixed text z places) → unsigned_abs z ≡ s.n * 10 ^ places + spelled_after 0 s.fraction
    parts text s = s.units ∙ spelled_after-append 0 s.whole s.fraction ∙ ap (λ (k : ℕ). spelled_after k s.fraction) (sym (whole_number s.whole s.n s.is_whole)) ∙ spelled_shift s.n s.fraction ∙ ap (λ (k : ℕ). s.n * 10 ^ k + spelled_after 0 s.fraction) s.as_many

    below : (text : List ℕ) (s : IsFixed text z places) → spelled_after 0 s.fraction < 10 ^ places
    below text s = subst (λ (k : ℕ). spelled_after 0 s.fraction < 10 ^ k) s.as_many (spelled_below s.fraction s.are_digits)

    left : (a b v w : ℕ) → a ≡ b → a + v ≡ b + w → v ≡ w
    left a b v w e h = omega arith

-- the last digit behind the others
pub padded_more : (digits : List ℕ) (count number : ℕ) → 0 < count → ArePadded digits (count - 1) (number / 10) → ArePadded (digits ++ ((48 + number % 10) ∷ [])) count number
padded_more digits count number l p = record {
  are_digits = all_more IsDigit digits (48 + number % 10) p.are_digits (omega arith, omega arith);
  as_many = omega (arith, length-append digits ((48 + number % 10) ∷ []), p.as_many);
  spells = omega (arith, spelled_after-append 0 digits ((48 + number % 10) ∷ []), p.spells);
}

pub below_tenth : (n k : ℕ) → 0 < k → n < 10 ^ k → n / 10 < 10 ^ (k - 1)
below_tenth n zero l h = absurd (omega arith)
below_tenth n (suc k) l h = subst (λ (j : ℕ). n / 10 < 10 ^ j) (last k) (tenth n (10 ^ k) (10 ^ suc k) (pow-succ' 10 k) h)
  where
    last : (k : ℕ) → k ≡ suc k - 1
    last k = omega arith

    tenth : (n p q : ℕ) → q ≡ 10 * p → n < q → n / 10 < p
    tenth n p q e h = omega arith

-- the pieces make the text
pub fixed_from : (z : ℤ) (places size one : ℕ) (digits : List ℕ) → size ≡ unsigned_abs z → one ≡ 10 ^ places → size < 10 ^ 64 → ArePadded digits places (size % one)
    → IsFixed (minus_of z ++ (decimal (size / one) ++ pointed digits)) z places
fixed_from z places size one digits e o l p = record {
  whole = decimal (size / one);
  fraction = digits;
  n = size / one;
  spells = refl;
  is_whole = is_whole;
  are_digits = p.are_digits;
  as_many = p.as_many;
  units = sym e ∙ parts size one (ten_one one places o) ∙ ap (λ (v : ℕ). (size / one) * v + size % one) (o ∙ ap (λ (k : ℕ). 10 ^ k) (sym p.as_many)) ∙ ap (λ (v : ℕ). (size / one) * 10 ^ length digits + v) (sym p.spells)
      ∙ sym (spelled_after-append 0 (decimal (size / one)) digits ∙ ap (λ (k : ℕ). spelled_after k digits) (sym (whole_number (decimal (size / one)) (size / one) is_whole)) ∙ spelled_shift (size / one) digits);
}
  where
    ten_one : (one k : ℕ) → one ≡ 10 ^ k → 0 < one
    ten_one one k e = omega (arith, ten_positive k)

    parts : (size one : ℕ) → 0 < one → size ≡ (size / one) * one + size % one
    parts size one l = omega arith

    is_whole : IsWhole (decimal (size / one)) (size / one)
    is_whole = IsWhole-decimal (size / one) (omega (arith, div-le_self size one))

-- three pieces at the end of a list
pub joined : (old a b c one two new : List ℕ) → one ≡ old ++ a → two ≡ one ++ b → new ≡ two ++ c → new ≡ old ++ (a ++ (b ++ c))
joined old a b c one two new e f g =
    g ∙ ap (λ (r : List ℕ). r ++ c) (f ∙ ap (λ (r : List ℕ). r ++ b) e) ∙ append_assoc (old ++ a) b c ∙ append_assoc old a (b ++ c)

pub ok_weaker : {A E : Type 0} (r : Result A E) (P Q : Type 0) → (P → Q) → OnOk r P → OnOk r Q
ok_weaker (Ok x) P Q f h = f h
ok_weaker (Err e) P Q f h = h
