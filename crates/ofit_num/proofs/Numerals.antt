-- Canonical number texts: one text spells at most one number, one number has one text, and std's decimal digits are it.
use Rattle.std.proofs.Common.{◌≡◌, ℕ, zero, suc, ◌+◌, ◌*◌, ◌-◌, ◌/◌, ◌%◌, ◌^◌, ◌<◌, ◌≤◌, inl, inr, refl, sym, ap, ap₂, ◌∙◌, arith, subst, mul-le-mul_left, List, [], ◌∷◌, ◌++◌, length}
use Rattle.std.proofs.lemmas.Bool.{cases_order}
use Rattle.std.proofs.Math.Nat.{one-le-pow, pow-succ', pow-le-pow_right}
use Rattle.std.proofs.lemmas.Fmt.{decimal_by_steps_wide}
use Rattle.std.specs.Prelude.{ℤ, pos, negsuc, decimal, unsigned_abs}
use Rattle.std.specs.Fmt.{signed_decimal}
use Rattle.std.specs.List.{AllByRecursion}
use Rattle.ofit_num.specs.NumberText.{IsDigit, spelled_after, IsZeroText, IsPositiveText, IsWhole, IsSigned}

-- digits of equal number give equal texts, where the texts are equally long
same_digits : (n k : ℕ) (xs ys : List ℕ) → AllByRecursion IsDigit xs → AllByRecursion IsDigit ys → length xs ≡ length ys → spelled_after n xs ≡ spelled_after k ys → (n ≡ k) × (xs ≡ ys)
same_digits n k [] [] d e l h = (h, refl)
same_digits n k [] (y ∷ ys) d e l h = absurd (omega arith)
same_digits n k (x ∷ xs) [] d e l h = absurd (omega arith)
same_digits n k (x ∷ xs) (y ∷ ys) d e l h =
    let both : (n * 10 + (x - 48) ≡ k * 10 + (y - 48)) × (xs ≡ ys) = same_digits (n * 10 + (x - 48)) (k * 10 + (y - 48)) xs ys d.1 e.1 (omega arith) h in
    let front : n * 10 + (x - 48) ≡ k * 10 + (y - 48) = both.0 in
    let low : (48 ≤ x) × (x ≤ 57) = d.0 in
    let high : (48 ≤ y) × (y ≤ 57) = e.0 in
    let first : x ≡ y = omega arith in
    (omega arith, ap₂ (λ (a : ℕ) (bs : List ℕ). a ∷ bs) first both.1)

-- digits after n spell from n to n + 1 times as many tens as there are digits
between : (n : ℕ) (xs : List ℕ) → AllByRecursion IsDigit xs → (n * 10 ^ length xs ≤ spelled_after n xs) × (spelled_after n xs < (n + 1) * 10 ^ length xs)
between n [] d = (omega arith, omega arith)
between n (x ∷ xs) d =
    let rest : ((n * 10 + (x - 48)) * 10 ^ length xs ≤ spelled_after (n * 10 + (x - 48)) xs) × (spelled_after (n * 10 + (x - 48)) xs < (n * 10 + (x - 48) + 1) * 10 ^ length xs) = between (n * 10 + (x - 48)) xs d.1 in
    let at : (48 ≤ x) × (x ≤ 57) = d.0 in
    let up : x - 48 ≤ 9 = omega arith in
    let more : 10 ^ length (x ∷ xs) ≡ 10 * 10 ^ length xs = pow-succ' 10 (length xs) in (
      subst (λ (q : ℕ). n * q ≤ spelled_after n (x ∷ xs)) (sym more) (tens n (x - 48) (10 ^ length xs) (spelled_after (n * 10 + (x - 48)) xs) rest.0),
      subst (λ (q : ℕ). spelled_after n (x ∷ xs) < (n + 1) * q) (sym more) (fits n (x - 48) (10 ^ length xs) (spelled_after (n * 10 + (x - 48)) xs) up rest.1),
    )
  where
    tens : (n c p v : ℕ) → (n * 10 + c) * p ≤ v → n * (10 * p) ≤ v
    tens n c p v h = omega arith

    fits : (n c p v : ℕ) → c ≤ 9 → v < (n * 10 + c + 1) * p → v < (n + 1) * (10 * p)
    fits n c p v l h = omega (arith, mul-le-mul_left p l)

ten_next : (k : ℕ) → 10 ^ (k + 1) ≡ 10 * 10 ^ k
ten_next k = ap (λ (j : ℕ). 10 ^ j) (omega arith) ∙ pow-succ' 10 k

positive_bounds : (text : List ℕ) (n : ℕ) (p : IsPositiveText text n) → (10 ^ length p.rest ≤ n) × (n < 10 ^ (length p.rest + 1))
positive_bounds text n p =
    let value : n ≡ spelled_after (0 * 10 + (p.first - 48)) p.rest = p.number ∙ ap (spelled_after 0) p.spells in
    let rest : ((0 * 10 + (p.first - 48)) * 10 ^ length p.rest ≤ spelled_after (0 * 10 + (p.first - 48)) p.rest) × (spelled_after (0 * 10 + (p.first - 48)) p.rest < (0 * 10 + (p.first - 48) + 1) * 10 ^ length p.rest) = between (0 * 10 + (p.first - 48)) p.rest p.digits in
    let one : 1 ≤ p.first - 48 = omega (arith, p.above_zero) in
    let nine : p.first - 48 ≤ 9 = omega (arith, p.is_digit) in (
      subst (λ (k : ℕ). 10 ^ length p.rest ≤ k) (sym value) (tens (p.first - 48) (10 ^ length p.rest) _ one rest.0),
      subst (λ (k : ℕ). k < 10 ^ (length p.rest + 1)) (sym value) (fits (p.first - 48) (10 ^ length p.rest) (10 ^ (length p.rest + 1)) _ nine (ten_next (length p.rest)) rest.1),
    )
  where
    tens : (c p v : ℕ) → 1 ≤ c → (0 * 10 + c) * p ≤ v → p ≤ v
    tens c p v l h = omega (arith, mul-le-mul_left p l)

    fits : (c p q v : ℕ) → c ≤ 9 → q ≡ 10 * p → v < (0 * 10 + c + 1) * p → v < q
    fits c p q v l e h = omega (arith, mul-le-mul_left p l)

first_equal : (b c : ℕ) (bs cs : List ℕ) → b ∷ bs ≡ c ∷ cs → b ≡ c
first_equal b c bs cs e = cc

not_both : (text : List ℕ) (m n : ℕ) → IsZeroText text m → IsPositiveText text n → ⊥
not_both text m n z p = omega (arith, first_equal 48 p.first [] p.rest (sym z.is_zero ∙ p.spells), p.above_zero)

-- One text spells at most one whole number.
pub IsWhole-number : (text : List ℕ) (m n : ℕ) → IsWhole text m → IsWhole text n → m ≡ n
IsWhole-number text m n (inl z) (inl y) = z.number ∙ sym y.number
IsWhole-number text m n (inl z) (inr p) = absurd (not_both text m n z p)
IsWhole-number text m n (inr p) (inl z) = absurd (not_both text n m z p)
IsWhole-number text m n (inr p) (inr q) = p.number ∙ sym q.number

not_zero : (text : List ℕ) (n : ℕ) → IsPositiveText text n → n ≡ 0 → ⊥
not_zero text n p e = omega (arith, (positive_bounds text n p).0, one-le-pow (length p.rest) 10 (omega arith))

same_length : (j k n : ℕ) → 10 ^ j ≤ n → n < 10 ^ (k + 1) → j ≤ k
same_length j k n low high = elim (cases_order j k) [
  | inl e ↦ omega arith
  | inr o ↦ elim o [ inl l ↦ omega arith | inr l ↦ absurd (omega (arith, pow-le-pow_right {n = 10} (omega arith) {i = k + 1} {j = j} (omega arith))) ]
]

-- One whole number has one text.
pub IsWhole-text : (xs ys : List ℕ) (n : ℕ) → IsWhole xs n → IsWhole ys n → xs ≡ ys
IsWhole-text xs ys n (inl z) (inl y) = z.is_zero ∙ sym y.is_zero
IsWhole-text xs ys n (inl z) (inr p) = absurd (not_zero ys n p z.number)
IsWhole-text xs ys n (inr p) (inl z) = absurd (not_zero xs n p z.number)
IsWhole-text xs ys n (inr p) (inr q) =
    let long : length p.rest ≤ length q.rest = same_length _ _ n (positive_bounds xs n p).0 (positive_bounds ys n q).1 in
    let short : length q.rest ≤ length p.rest = same_length _ _ n (positive_bounds ys n q).0 (positive_bounds xs n p).1 in
    let equal : spelled_after 0 (p.first ∷ p.rest) ≡ spelled_after 0 (q.first ∷ q.rest) = sym (p.number ∙ ap (spelled_after 0) p.spells) ∙ (q.number ∙ ap (spelled_after 0) q.spells) in
    p.spells ∙ (same_digits 0 0 (p.first ∷ p.rest) (q.first ∷ q.rest) (first_digit p.first p.above_zero p.is_digit, p.digits) (first_digit q.first q.above_zero q.is_digit, q.digits) (omega arith) equal).1 ∙ sym q.spells
  where
    first_digit : (b : ℕ) → 49 ≤ b → b ≤ 57 → IsDigit b
    first_digit b l h = (omega arith, h)

spelled_push : (n : ℕ) (ds : List ℕ) (d : ℕ) → spelled_after n (ds ++ d ∷ []) ≡ spelled_after n ds * 10 + (d - 48)
spelled_push n [] d = refl
spelled_push n (b ∷ bs) d = spelled_push (n * 10 + (b - 48)) bs d

digits_push : (ds : List ℕ) (d : ℕ) → AllByRecursion IsDigit ds → IsDigit d → AllByRecursion IsDigit (ds ++ d ∷ [])
digits_push [] d h k = (k, tt)
digits_push (b ∷ bs) d h k = (h.0, digits_push bs d h.1 k)

one_digit : (n : ℕ) → n < 10 → IsWhole ((48 + n) ∷ []) n
one_digit zero h = inl (record { is_zero = refl; number = refl })
one_digit (suc n) h = inr (record { first = 48 + suc n; rest = []; spells = refl; above_zero = omega arith; is_digit = omega arith; digits = tt; number = omega arith })

one_digit_more : (n : ℕ) (ds : List ℕ) → 10 ≤ n → IsWhole ds (n / 10) → IsWhole (ds ++ ((48 + n % 10) ∷ [])) n
one_digit_more n ds h (inl z) = absurd (omega (arith, z.number))
one_digit_more n ds h (inr p) = inr (record {
  first = p.first;
  rest = p.rest ++ ((48 + n % 10) ∷ []);
  spells = ap (λ (t : List ℕ). t ++ ((48 + n % 10) ∷ [])) p.spells;
  above_zero = p.above_zero;
  is_digit = p.is_digit;
  digits = digits_push p.rest (48 + n % 10) p.digits (omega arith, omega arith);
  number = omega (arith, spelled_push 0 ds (48 + n % 10), p.number);
})

-- The decimal digits of a number are its text, and each text of it is these digits.
pub IsWhole-decimal : (n : ℕ) → n < 10 ^ 64 → IsWhole (decimal n) n
IsWhole-decimal n l = decimal_by_steps_wide (λ k ds. IsWhole ds k) one_digit one_digit_more n l

pub decimal-from_IsWhole : (text : List ℕ) (n : ℕ) → n < 10 ^ 64 → IsWhole text n → text ≡ decimal n
decimal-from_IsWhole text n l h = IsWhole-text text (decimal n) n h (IsWhole-decimal n l)

-- a whole number's text doesn't begin with a sign
no_sign : (text digits : List ℕ) (n : ℕ) → IsWhole text n → text ≡ 45 ∷ digits → ⊥
no_sign text digits n (inl z) e = omega (arith, first_equal 48 45 [] digits (sym z.is_zero ∙ e))
no_sign text digits n (inr p) e = omega (arith, first_equal p.first 45 p.rest digits (sym p.spells ∙ e), p.above_zero)

-- The same of signed numbers.
pub IsSigned-number : (text : List ℕ) (y z : ℤ) → IsSigned text y → IsSigned text z → y ≡ z
IsSigned-number text (pos m) (pos n) h k = ap pos (IsWhole-number text m n h k)
IsSigned-number text (pos m) (negsuc n) h k = absurd (no_sign text k.0 m h k.1)
IsSigned-number text (negsuc m) (pos n) h k = absurd (no_sign text h.0 n k h.1)
IsSigned-number text (negsuc m) (negsuc n) h k =
    let same : h.0 ≡ k.0 = cc (h.1, k.1) in
    let next : suc m ≡ suc n = IsWhole-number k.0 (suc m) (suc n) (subst (λ (t : List ℕ). IsWhole t (suc m)) same h.2) k.2 in
    ap negsuc (omega arith)

pub IsSigned-text : (xs ys : List ℕ) (z : ℤ) → IsSigned xs z → IsSigned ys z → xs ≡ ys
IsSigned-text xs ys (pos n) h k = IsWhole-text xs ys n h k
IsSigned-text xs ys (negsuc n) h k = h.1 ∙ ap (λ (t : List ℕ). 45 ∷ t) (IsWhole-text h.0 k.0 (suc n) h.2 k.2) ∙ sym k.1

pub IsSigned-decimal : (z : ℤ) → unsigned_abs z < 10 ^ 64 → IsSigned (signed_decimal z) z
IsSigned-decimal (pos n) l = IsWhole-decimal n l
IsSigned-decimal (negsuc n) l = (decimal (suc n), refl, IsWhole-decimal (suc n) l)

pub signed_decimal-from_IsSigned : (text : List ℕ) (z : ℤ) → unsigned_abs z < 10 ^ 64 → IsSigned text z → text ≡ signed_decimal z
signed_decimal-from_IsSigned text z l h = IsSigned-text text (signed_decimal z) z h (IsSigned-decimal z l)
