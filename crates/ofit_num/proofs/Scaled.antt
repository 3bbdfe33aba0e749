-- numbers that are scaled by powers of ten
use Rattle.std.proofs.Common.{◌≡◌, ℕ, zero, suc, ◌+◌, ◌*◌, ◌-◌, ◌^◌, ◌≤◌, ◌<◌, ◌⊎◌, inl, inr, List, [], ◌∷◌, ◌++◌, length, refl, ap, sym, ◌∙◌, subst, arith, mul-le-mul_left, take, drop, get_or, add-one, drop-cons, take-suc}
use Rattle.std.proofs.lemmas.Bool.{cases_order}
use Rattle.std.proofs.lemmas.Int.{ints}
use Rattle.std.proofs.lemmas.List.{take-append-drop}
use Rattle.std.proofs.lemmas.Nat.{pow-add}
use Rattle.std.proofs.Math.Nat.{one-le-pow, pow-succ', pow-le-pow_right}
use Rattle.std.specs.Prelude.{ℤ, pos, ◌+ℤ◌, Bool, true, false}
use Rattle.std.specs.List.{AllByRecursion}
use Rattle.ofit_num.specs.NumberText.{IsDigit, spelled_after}
use Rattle.ofit_num.specs.DecimalText.{IsScaled, with_sign}
use Rattle.ofit_num.proofs.Spelled.{spelled_after-append, spelled_after-grows}

pub ten_positive : (k : ℕ) → 0 < 10 ^ k
ten_positive k = omega (arith, one-le-pow k 10 (omega arith))

cancel : (a b k : ℕ) → 0 < k → a * k ≡ b * k → a ≡ b
cancel a b k l e = elim (cases_order a b) [
  | inl h ↦ h
  | inr h ↦ elim h [ inl s ↦ absurd (below a b k l s e) | inr s ↦ absurd (below b a k l s (sym e)) ]
]
  where
    below : (a b k : ℕ) → 0 < k → a < b → a * k ≡ b * k → ⊥
    below a b k l s e = omega (arith, mul-le-mul_left k (next a b s))
      where
        next : (a b : ℕ) → a < b → a + 1 ≤ b
        next a b s = omega arith

-- the digits of m, then so many more
pub spelled_shift : (n : ℕ) (xs : List ℕ) → spelled_after n xs ≡ n * 10 ^ length xs + spelled_after 0 xs
spelled_shift n [] = omega arith
spelled_shift n (x ∷ xs) =
    let first : spelled_after (n * 10 + (x - 48)) xs ≡ (n * 10 + (x - 48)) * 10 ^ length xs + spelled_after 0 xs = spelled_shift (n * 10 + (x - 48)) xs in
    let second : spelled_after (0 * 10 + (x - 48)) xs ≡ (0 * 10 + (x - 48)) * 10 ^ length xs + spelled_after 0 xs = spelled_shift (0 * 10 + (x - 48)) xs in
    let more : 10 ^ length (x ∷ xs) ≡ 10 * 10 ^ length xs = pow-succ' 10 (length xs) in
    first ∙ regroup n (x - 48) (10 ^ length xs) (spelled_after 0 xs) ∙ ap (λ (t : ℕ). n * t + ((0 * 10 + (x - 48)) * 10 ^ length xs + spelled_after 0 xs)) (sym more) ∙ ap (λ (t : ℕ). n * 10 ^ length (x ∷ xs) + t) (sym second)
  where
    regroup : (n c p v : ℕ) → (n * 10 + c) * p + v ≡ n * (10 * p) + ((0 * 10 + c) * p + v)
    regroup n c p v = omega arith

pub spelled_below : (xs : List ℕ) → AllByRecursion IsDigit xs → spelled_after 0 xs < 10 ^ length xs
spelled_below [] d = omega arith
spelled_below (x ∷ xs) d =
    let rest : spelled_after 0 xs < 10 ^ length xs = spelled_below xs d.1 in
    let at : (48 ≤ x) × (x ≤ 57) = d.0 in
    let nine : x - 48 ≤ 9 = omega arith in
    let whole : spelled_after (0 * 10 + (x - 48)) xs ≡ (0 * 10 + (x - 48)) * 10 ^ length xs + spelled_after 0 xs = spelled_shift (0 * 10 + (x - 48)) xs in
    let more : 10 ^ length (x ∷ xs) ≡ 10 * 10 ^ length xs = pow-succ' 10 (length xs) in
    fits (x - 48) (10 ^ length xs) (10 ^ length (x ∷ xs)) (spelled_after 0 xs) (spelled_after 0 (x ∷ xs)) nine rest whole more
  where
    fits : (c p q v w : ℕ) → c ≤ 9 → v < p → w ≡ (0 * 10 + c) * p + v → q ≡ 10 * p → w < q
    fits c p q v w l h e f = omega (arith, mul-le-mul_left p l)

abbrev pub AreZeros : List ℕ → Type 0
AreZeros xs = AllByRecursion (λ b. b ≡ 48) xs

pub spelled_zeros : (n : ℕ) (xs : List ℕ) → AreZeros xs → spelled_after n xs ≡ n * 10 ^ length xs
spelled_zeros n [] h = omega arith
spelled_zeros n (x ∷ xs) h =
    let at : x ≡ 48 = h.0 in
    let rest : spelled_after (n * 10 + (x - 48)) xs ≡ (n * 10 + (x - 48)) * 10 ^ length xs = spelled_zeros (n * 10 + (x - 48)) xs h.1 in
    let more : 10 ^ length (x ∷ xs) ≡ 10 * 10 ^ length xs = pow-succ' 10 (length xs) in
    rest ∙ regroup n (x - 48) (10 ^ length xs) (omega arith) ∙ ap (λ (t : ℕ). n * t) (sym more)
  where
    regroup : (n c p : ℕ) → c ≡ 0 → (n * 10 + c) * p ≡ n * (10 * p)
    regroup n c p e = ap (λ (t : ℕ). (n * 10 + t) * p) e ∙ omega arith

pub zeros_from : (xs : List ℕ) → AllByRecursion IsDigit xs → spelled_after 0 xs ≡ 0 → AreZeros xs
zeros_from [] d e = tt
zeros_from (x ∷ xs) d e =
    let whole : spelled_after (0 * 10 + (x - 48)) xs ≡ (0 * 10 + (x - 48)) * 10 ^ length xs + spelled_after 0 xs = spelled_shift (0 * 10 + (x - 48)) xs in
    let at : (48 ≤ x) × (x ≤ 57) = d.0 in
    let first : x - 48 ≡ 0 = none (x - 48) (10 ^ length xs) (spelled_after 0 xs) (ten_positive (length xs)) (sym whole ∙ e) in
    let after : spelled_after 0 xs ≡ 0 = last (x - 48) (10 ^ length xs) (spelled_after 0 xs) (sym whole ∙ e) in
    (omega arith, zeros_from xs d.1 after)
  where
    last : (c p v : ℕ) → (0 * 10 + c) * p + v ≡ 0 → v ≡ 0
    last c p v e = omega arith

    none : (c p v : ℕ) → 0 < p → (0 * 10 + c) * p + v ≡ 0 → c ≡ 0
    none zero p v l e = refl
    none (suc c) p v l e = absurd (omega (arith, mul-le-mul_left p (one c)))
      where
        one : (c : ℕ) → 1 ≤ suc c
        one c = omega arith

-- the size at one pair of powers is the size at each other pair of their difference
pub rescaled : (m f p n up down : ℕ) (x : ℤ) → IsScaled m f x p n → x +ℤ pos (p + down) ≡ pos (f + up) → n * 10 ^ down ≡ m * 10 ^ up
rescaled m f p n up down x s e =
    let here : x +ℤ pos (p + s.down) ≡ pos (f + s.up) = s.shift in
    let same : s.up + down ≡ up + s.down = omega (arith, ints) in
    cancel (n * 10 ^ down) (m * 10 ^ up) (10 ^ s.down) (ten_positive s.down)
    (swap n (10 ^ down) (10 ^ s.down) ∙ ap (λ (t : ℕ). t * 10 ^ down) s.equal ∙ group m (10 ^ s.up) (10 ^ down) ∙ ap (λ (t : ℕ). m * t) (sym (pow-add 10 s.up down))
    ∙ ap (λ (t : ℕ). m * 10 ^ t) same ∙ ap (λ (t : ℕ). m * t) (pow-add 10 up s.down) ∙ sym (group m (10 ^ up) (10 ^ s.down)))
  where
    swap : (a b c : ℕ) → (a * b) * c ≡ (a * c) * b
    swap a b c = omega arith

    group : (a b c : ℕ) → (a * b) * c ≡ a * (b * c)
    group a b c = omega arith

pub one_size : (m f p a b : ℕ) (x : ℤ) → IsScaled m f x p a → IsScaled m f x p b → a ≡ b
one_size m f p a b x s t = cancel a b (10 ^ s.down) (ten_positive s.down) (s.equal ∙ sym (rescaled m f p b s.up s.down x t s.shift))

-- digits of which so many last ones are cut, all of them zeros
pub cut_value : (kept left : List ℕ) (down : ℕ) → (length left ≡ down) ⊎ ((length left ≤ down) × (kept ≡ [])) → AreZeros left
    → spelled_after 0 kept * 10 ^ down ≡ spelled_after 0 (kept ++ left)
cut_value kept left down (inl e) z = sym (spelled_after-append 0 kept left ∙ spelled_zeros (spelled_after 0 kept) left z ∙ ap (λ (t : ℕ). spelled_after 0 kept * 10 ^ t) e)
cut_value kept left down (inr e) z =
    let none : spelled_after 0 kept ≡ 0 = ap (spelled_after 0) e.1 in
    ap (λ (t : ℕ). t * 10 ^ down) none ∙ zeros (10 ^ down) (10 ^ length left) ∙ ap (λ (t : ℕ). t * 10 ^ length left) (sym none) ∙ sym (spelled_after-append 0 kept left ∙ spelled_zeros (spelled_after 0 kept) left z)
  where
    zeros : (a b : ℕ) → 0 * a ≡ 0 * b
    zeros a b = omega arith

pub no_quotient : (n q r p : ℕ) → 0 < r → r < p → n * p ≡ q * p + r → ⊥
no_quotient n q r p l h e = elim (cases_order n q) [
  | inl s ↦ absurd (equal n q r p l s e)
  | inr o ↦ elim o [ inl s ↦ absurd (less n q r p l (weaker n q s) e) | inr s ↦ absurd (more n q r p h (next q n s) e) ]
]
  where
    equal : (n q r p : ℕ) → 0 < r → n ≡ q → n * p ≡ q * p + r → ⊥
    equal n q r p l s e = omega (arith, ap (λ (t : ℕ). t * p) s)

    weaker : (a b : ℕ) → a < b → a ≤ b
    weaker a b s = omega arith

    next : (a b : ℕ) → a < b → a + 1 ≤ b
    next a b s = omega arith

    less : (n q r p : ℕ) → 0 < r → n ≤ q → n * p ≡ q * p + r → ⊥
    less n q r p l s e = omega (arith, mul-le-mul_left p s)

    more : (n q r p : ℕ) → r < p → q + 1 ≤ n → n * p ≡ q * p + r → ⊥
    more n q r p h s e = omega (arith, mul-le-mul_left p s)

-- digits of which so many last ones are cut, not all of them zeros
pub cut_uneven : (kept left : List ℕ) (n down : ℕ) → AllByRecursion IsDigit left → (length left ≡ down) ⊎ ((length left ≤ down) × (kept ≡ [])) → (AreZeros left → ⊥)
    → n * 10 ^ down ≡ spelled_after 0 (kept ++ left) → ⊥
cut_uneven kept left n down d (inl e) z h =
    no_quotient n (spelled_after 0 kept) (spelled_after 0 left) (10 ^ down) (some left d z) (subst (λ (t : ℕ). spelled_after 0 left < 10 ^ t) e (spelled_below left d))
    (h ∙ spelled_after-append 0 kept left ∙ spelled_shift (spelled_after 0 kept) left ∙ ap (λ (t : ℕ). spelled_after 0 kept * 10 ^ t + spelled_after 0 left) e)
  where
    some : (xs : List ℕ) → AllByRecursion IsDigit xs → (AreZeros xs → ⊥) → 0 < spelled_after 0 xs
    some xs d z = elim (cases_order (spelled_after 0 xs) 0) [ inl e ↦ absurd (z (zeros_from xs d e)) | inr o ↦ elim o [ inl s ↦ absurd (omega arith) | inr s ↦ s ] ]
cut_uneven kept left n down d (inr e) z h =
    let none : spelled_after 0 kept ≡ 0 = ap (spelled_after 0) e.1 in
    no_quotient n 0 (spelled_after 0 left) (10 ^ down) (some left d z) (omega (arith, spelled_below left d, pow-le-pow_right {n = 10} (omega arith) {i = length left} {j = down} e.0))
    (h ∙ spelled_after-append 0 kept left ∙ ap (λ (t : ℕ). spelled_after t left) none ∙ zeros (10 ^ down) (spelled_after 0 left))
  where
    zeros : (a v : ℕ) → v ≡ 0 * a + v
    zeros a v = omega arith

    some : (xs : List ℕ) → AllByRecursion IsDigit xs → (AreZeros xs → ⊥) → 0 < spelled_after 0 xs
    some xs d z = elim (cases_order (spelled_after 0 xs) 0) [ inl e ↦ absurd (z (zeros_from xs d e)) | inr o ↦ elim o [ inl s ↦ absurd (omega arith) | inr s ↦ s ] ]

-- the number spelled by the digits up to and with the one at i, and the whole's that is no smaller
pub spelled_up_to : (n : ℕ) (xs : List ℕ) (i : ℕ) → i < length xs → spelled_after n (take (i + 1) xs) ≡ spelled_after n (take i xs) * 10 + (get_or xs i 0 - 48)
spelled_up_to n xs i l = rw add-one (ap (spelled_after n) (take-suc xs i 0 l) ∙ spelled_after-append n (take i xs) (get_or xs i 0 ∷ []))

pub spelled_front : (n : ℕ) (xs : List ℕ) (i : ℕ) → i < length xs → spelled_after n (take i xs) * 10 + (get_or xs i 0 - 48) ≤ spelled_after n xs
spelled_front n xs i l = subst (λ (t : ℕ). spelled_after n (take i xs) * 10 + (get_or xs i 0 - 48) ≤ t) (sym whole) (spelled_after-grows _ (drop (suc i) xs))
  where
    whole : spelled_after n xs ≡ spelled_after (spelled_after n (take i xs) * 10 + (get_or xs i 0 - 48)) (drop (suc i) xs)
    whole = ap (spelled_after n) (sym (take-append-drop i xs)) ∙ spelled_after-append n (take i xs) (drop i xs) ∙ ap (spelled_after (spelled_after n (take i xs))) (drop-cons xs i 0 l)

-- past a limit with more digits and zeros too
pub past_more : (limit v w up : ℕ) → limit < v → v ≤ w → limit < w * 10 ^ up
past_more limit v w up l h = omega (arith, mul-le-mul_left w (one up))
  where
    one : (k : ℕ) → 1 ≤ 10 ^ k
    one k = ten_positive k

pub zeros_step : (n k : ℕ) → n * 10 ^ (k + 1) ≡ n * 10 ^ k * 10
zeros_step n k = ap (λ (t : ℕ). n * t) (rw add-one (pow-succ' 10 k)) ∙ group n (10 ^ k)
  where
    group : (n p : ℕ) → n * (10 * p) ≡ n * p * 10
    group n p = omega arith

pub zeros_grow : (n k j : ℕ) → k < j → n * 10 ^ k * 10 ≤ n * 10 ^ j
zeros_grow n k j l = subst (λ (t : ℕ). t ≤ n * 10 ^ j) (zeros_step n k) (mul-le-mul_left n (pow-le-pow_right {n = 10} (omega arith) {i = k + 1} {j = j} (omega arith)))

-- the powers of ten that are left when what is common to both is taken away
pub power_shift : (negative : Bool) (size raise p f up down common : ℕ) → ((negative ≡ true) × (raise ≡ 0)) ⊎ ((negative ≡ false) × (raise ≡ size))
    → up + common ≡ p + raise → down + common ≡ f + (size - raise) → with_sign negative size +ℤ pos (p + down) ≡ pos (f + up)
power_shift true zero raise p f up down common h u d = ap pos (none p f up down common raise h u d)
  where
    none : (p f up down common raise : ℕ) → ((true ≡ true) × (raise ≡ 0)) ⊎ ((true ≡ false) × (raise ≡ 0)) → up + common ≡ p + raise → down + common ≡ f + (0 - raise) → 0 + (p + down) ≡ f + up
    none p f up down common raise (inl h) u d = omega (arith, h.1)
    none p f up down common raise (inr h) u d = omega (arith, h.1)
power_shift true (suc size) raise p f up down common (inl h) u d = omega (arith, ints, h.1)
power_shift true (suc size) raise p f up down common (inr h) u d = absurd (cc h.0)
power_shift false size raise p f up down common (inl h) u d = absurd (cc h.0)
power_shift false size raise p f up down common (inr h) u d = ap pos (all size p f up down common raise h.1 u d)
  where
    all : (size p f up down common raise : ℕ) → raise ≡ size → up + common ≡ p + raise → down + common ≡ f + (size - raise) → size + (p + down) ≡ f + up
    all size p f up down common raise e u d = omega arith

pub three_digits : (xs : List ℕ) → AllByRecursion IsDigit xs → length xs ≤ 3 → spelled_after 0 xs ≤ 999
three_digits xs d l = below (10 ^ length xs) (spelled_after 0 xs) (spelled_below xs d) (pow-le-pow_right {n = 10} (omega arith) {i = length xs} {j = 3} l)
  where
    below : (p v : ℕ) → v < p → p ≤ 10 ^ 3 → v ≤ 999
    below p v h k = omega arith

-- where not all of the digits that are cut are zeros, some are cut
pub cut_none : (kept left : List ℕ) (up down : ℕ) → (up ≡ 0) ⊎ (down ≡ 0) → (length left ≡ down) ⊎ ((length left ≤ down) × (kept ≡ [])) → (AreZeros left → ⊥) → up ≡ 0
cut_none kept left up down (inl u) l z = u
cut_none kept [] up down (inr d) l z = absurd (z tt)
cut_none kept (b ∷ bs) up down (inr d) (inl l) z = absurd (omega arith)
cut_none kept (b ∷ bs) up down (inr d) (inr l) z = absurd (omega (arith, l.0))

pub scaled_up : (kept left : List ℕ) (n up down : ℕ) (all : List ℕ) → all ≡ kept ++ left → (length left ≡ down) ⊎ ((length left ≤ down) × (kept ≡ [])) → AreZeros left → n ≡ spelled_after 0 kept * 10 ^ up
    → n * 10 ^ down ≡ spelled_after 0 all * 10 ^ up
scaled_up kept left n up down all e l z h =
    ap (λ (t : ℕ). t * 10 ^ down) h ∙ swap (spelled_after 0 kept) (10 ^ up) (10 ^ down) ∙ ap (λ (t : ℕ). t * 10 ^ up) (cut_value kept left down l z ∙ ap (spelled_after 0) (sym e))
  where
    swap : (a b c : ℕ) → (a * b) * c ≡ (a * c) * b
    swap a b c = omega arith

pub once : (m : ℕ) → m * 10 ^ 0 ≡ m
once m = omega arith
