-- Decimals: one text has one reading at most.
use Rattle.std.proofs.Common.{◌≡◌, ℕ, zero, suc, ◌+◌, ◌*◌, ◌^◌, ◌<◌, ◌⊎◌, inl, inr, List, [], ◌∷◌, ◌++◌, length, refl, ap, ap₂, sym, ◌∙◌, subst, arith}
use Rattle.std.specs.Prelude.{Option, Some, None, IfNone, Bool, true, false, ℤ, pos, ◌+ℤ◌, unsigned_abs}
use Rattle.std.specs.List.{AllByRecursion}
use Rattle.ofit_num.specs.NumberText.{IsDigit, spelled_after}
use Rattle.ofit_num.specs.DecimalText.{IsSpaces, IsSign, IsPoint, IsPower, IsEnd, IsUnsigned, IsDecimal, IsScaled, IsUnits, IsNumber, with_sign}
use Rattle.ofit_num.specs.Digits.{Stops}
use Rattle.ofit_num.proofs.Runs.{one_cut, one_sign, one_point, stops_less, stops_front, head_of, tail_of, IsPlusOrMinus, IsDigitOrPoint}
use Rattle.ofit_num.proofs.Scaled.{one_size}

abbrev pub IsSpace : ℕ → Type 0
IsSpace b = b ≡ 32

no_digit_space : (b : ℕ) → IsSpace b → IsDigit b → ⊥
no_digit_space b e d = omega (arith, d.0)

no_digit_sign : (b : ℕ) → IsDigit b → IsPlusOrMinus b → ⊥
no_digit_sign b d (inl e) = omega (arith, d.0)
no_digit_sign b d (inr e) = omega (arith, d.0)

no_digit_or_point : (b : ℕ) → IsSpace b → IsDigitOrPoint b → ⊥
no_digit_or_point b e (inl d) = omega (arith, d.0)
no_digit_or_point b e (inr d) = omega arith

-- spaces don't begin with another byte
pub spaces_stop : (Q : ℕ → Type 0) (xs : List ℕ) → IsSpaces xs → ((b : ℕ) → IsSpace b → Q b → ⊥) → Stops Q xs
spaces_stop Q [] h f = tt
spaces_stop Q (x ∷ xs) h f = f x h.0

pub power_stops : (text : List ℕ) (x : ℤ) (p : IsPower text x) → Stops IsPlusOrMinus (p.digits ++ p.spaces)
power_stops text x p = stops_front IsDigit IsPlusOrMinus p.digits p.spaces p.some p.are_digits no_digit_sign

pub one_power : (text : List ℕ) (x y : ℤ) → IsPower text x → IsPower text y → x ≡ y
one_power text x y p q =
    let signs : (p.negative ≡ q.negative) × (p.digits ++ p.spaces ≡ q.digits ++ q.spaces) =
    one_sign p.sign q.sign p.negative q.negative (p.digits ++ p.spaces) (q.digits ++ q.spaces) p.is_sign q.is_sign (power_stops text x p) (power_stops text y q) (sym p.spells ∙ q.spells) in
    let runs : (p.digits ≡ q.digits) × (p.spaces ≡ q.spaces) =
    one_cut IsDigit p.digits p.spaces q.digits q.spaces p.are_digits (spaces_stop IsDigit p.spaces p.are_spaces no_digit_space) q.are_digits (spaces_stop IsDigit q.spaces q.are_spaces no_digit_space) signs.1 in
    p.power ∙ ap₂ (λ (b : Bool) (n : ℕ). with_sign b n) signs.0 (ap (spelled_after 0) runs.0) ∙ sym q.power

letter_no_space : (text rest : List ℕ) → (text ≡ 101 ∷ rest) ⊎ (text ≡ 69 ∷ rest) → IsSpaces text → ⊥
letter_no_space text rest (inl e) s = let P : List ℕ → Type 0 = IsSpaces in let h : IsSpaces (101 ∷ rest) = subst P e s in omega (arith, h.0)
letter_no_space text rest (inr e) s = let P : List ℕ → Type 0 = IsSpaces in let h : IsSpaces (69 ∷ rest) = subst P e s in omega (arith, h.0)

same_rest : (text r s : List ℕ) → (text ≡ 101 ∷ r) ⊎ (text ≡ 69 ∷ r) → (text ≡ 101 ∷ s) ⊎ (text ≡ 69 ∷ s) → r ≡ s
same_rest text r s (inl e) (inl f) = tail_of 101 101 r s (sym e ∙ f)
same_rest text r s (inl e) (inr f) = absurd (omega (arith, head_of 101 69 r s (sym e ∙ f)))
same_rest text r s (inr e) (inl f) = absurd (omega (arith, head_of 69 101 r s (sym e ∙ f)))
same_rest text r s (inr e) (inr f) = tail_of 69 69 r s (sym e ∙ f)

pub one_end : (text : List ℕ) (x y : ℤ) → IsEnd text x → IsEnd text y → x ≡ y
one_end text x y (inl p) (inl q) = p.1 ∙ sym q.1
one_end text x y (inl p) (inr q) = absurd (letter_no_space text q.0 q.1 p.0)
one_end text x y (inr p) (inl q) = absurd (letter_no_space text p.0 p.1 q.0)
one_end text x y (inr p) (inr q) =
    let same : p.0 ≡ q.0 = same_rest text p.0 q.0 p.1 q.1 in
    let P : List ℕ → Type 0 = λ r. IsPower r x in
    one_power q.0 x y (subst P same p.2) q.2

letter_stops : (text rest : List ℕ) → (text ≡ 101 ∷ rest) ⊎ (text ≡ 69 ∷ rest) → Stops IsDigitOrPoint text
letter_stops text rest (inl e) = let P : List ℕ → Type 0 = Stops IsDigitOrPoint in subst P (sym e) (letter 101 (inl refl))
  where
    letter : (b : ℕ) → (b ≡ 101) ⊎ (b ≡ 69) → IsDigitOrPoint b → ⊥
    letter b (inl e) (inl d) = omega (arith, d.1)
    letter b (inl e) (inr d) = omega arith
    letter b (inr e) (inl d) = omega (arith, d.1)
    letter b (inr e) (inr d) = omega arith
letter_stops text rest (inr e) = let P : List ℕ → Type 0 = Stops IsDigitOrPoint in subst P (sym e) (letter 69 (inr refl))
  where
    letter : (b : ℕ) → (b ≡ 101) ⊎ (b ≡ 69) → IsDigitOrPoint b → ⊥
    letter b (inl e) (inl d) = omega (arith, d.1)
    letter b (inl e) (inr d) = omega arith
    letter b (inr e) (inl d) = omega (arith, d.1)
    letter b (inr e) (inr d) = omega arith

-- what follows the digits begins neither with a digit nor with a point
pub end_stops : (text : List ℕ) (x : ℤ) → IsEnd text x → Stops IsDigitOrPoint text
end_stops text x (inl p) = spaces_stop IsDigitOrPoint text p.0 no_digit_or_point
end_stops text x (inr p) = letter_stops text p.0 p.1

-- behind the digits before the point no digit stands
pub point_stops : (point fraction rest : List ℕ) → IsPoint point fraction → Stops IsDigitOrPoint rest → Stops IsDigit (point ++ (fraction ++ rest))
point_stops point fraction rest (inl e) s = let P : List ℕ → Type 0 = λ p. Stops IsDigit (p ++ (fraction ++ rest)) in subst P (sym e) (λ d. omega (arith, d.0))
point_stops point fraction rest (inr e) s =
    let P : List ℕ → Type 0 = λ p. Stops IsDigit (p ++ (fraction ++ rest)) in
    let Q : List ℕ → Type 0 = λ p. Stops IsDigit (p ++ rest) in
    subst P (sym e.0) (subst Q (sym e.1) (stops_less IsDigitOrPoint IsDigit rest (λ b d. inl d) s))

-- such a number begins with a digit or a point
pub unsigned_stops : (Q : ℕ → Type 0) (text : List ℕ) (m f : ℕ) (x : ℤ) → IsUnsigned text m f x → ((b : ℕ) → IsDigitOrPoint b → Q b → ⊥) → Stops Q text
unsigned_stops Q text m f x u h =
    let P : List ℕ → Type 0 = Stops Q in
    subst P (sym u.spells) (go u.whole u.point u.fraction u.rest u.are_whole u.is_point u.some)
  where
    pointed : (point fraction rest : List ℕ) → IsPoint point fraction → 0 < length fraction → Stops Q (point ++ (fraction ++ rest))
    pointed point fraction rest (inl e) l = let R : List ℕ → Type 0 = λ p. Stops Q (p ++ (fraction ++ rest)) in subst R (sym e) (h 46 (inr refl))
    pointed point fraction rest (inr e) l = absurd (omega (arith, ap length e.1))

    go : (whole point fraction rest : List ℕ) → AllByRecursion IsDigit whole → IsPoint point fraction → 0 < length (whole ++ fraction) → Stops Q (whole ++ (point ++ (fraction ++ rest)))
    go [] point fraction rest d p l = pointed point fraction rest p l
    go (b ∷ bs) point fraction rest d p l = h b (inl d.0)

-- the digits and the rest of a number, cut at two places alike
pub unsigned_cut : (text : List ℕ) (m f : ℕ) (x : ℤ) (u : IsUnsigned text m f x) (whole rest : List ℕ) → text ≡ whole ++ rest → AllByRecursion IsDigit whole → Stops IsDigit rest
    → (u.whole ≡ whole) × (u.point ++ (u.fraction ++ u.rest) ≡ rest)
unsigned_cut text m f x u whole rest e d s =
    one_cut IsDigit u.whole (u.point ++ (u.fraction ++ u.rest)) whole rest u.are_whole (point_stops u.point u.fraction u.rest u.is_point (end_stops u.rest x u.is_end)) d s (sym u.spells ∙ e)

pub one_unsigned : (text : List ℕ) (m n f g : ℕ) (x y : ℤ) → IsUnsigned text m f x → IsUnsigned text n g y → (m ≡ n) × (f ≡ g) × (x ≡ y)
one_unsigned text m n f g x y p q =
    let first : (p.whole ≡ q.whole) × (p.point ++ (p.fraction ++ p.rest) ≡ q.point ++ (q.fraction ++ q.rest)) =
    unsigned_cut text m f x p q.whole (q.point ++ (q.fraction ++ q.rest)) q.spells q.are_whole (point_stops q.point q.fraction q.rest q.is_point (end_stops q.rest y q.is_end)) in
    let second : (p.fraction ≡ q.fraction) × (p.rest ≡ q.rest) =
    one_point p.point q.point p.fraction p.rest q.fraction q.rest p.is_point p.are_fraction (end_stops p.rest x p.is_end) q.is_point q.are_fraction (end_stops q.rest y q.is_end) first.1 in
    let P : List ℕ → Type 0 = λ r. IsEnd r x in (
      p.digits ∙ ap₂ (λ (a b : List ℕ). spelled_after 0 (a ++ b)) first.0 second.0 ∙ sym q.digits,
      p.behind ∙ ap length second.0 ∙ sym q.behind,
      one_end q.rest x y (subst P second.1 p.is_end) q.is_end,
    )

not_sign : (b : ℕ) → IsDigitOrPoint b → IsPlusOrMinus b → ⊥
not_sign b (inl d) (inl e) = omega (arith, d.0)
not_sign b (inl d) (inr e) = omega (arith, d.0)
not_sign b (inr d) (inl e) = omega arith
not_sign b (inr d) (inr e) = omega arith

not_space : (b : ℕ) → IsDigitOrPoint b → IsSpace b → ⊥
not_space b (inl d) e = omega (arith, d.0)
not_space b (inr d) e = omega arith

pub number_stops : (text : List ℕ) (m f : ℕ) (x : ℤ) → IsUnsigned text m f x → Stops IsPlusOrMinus text
number_stops text m f x u = unsigned_stops IsPlusOrMinus text m f x u not_sign

-- behind the spaces stand a sign or the number
pub signed_stops : (sign text : List ℕ) (negative : Bool) (m f : ℕ) (x : ℤ) → IsSign sign negative → IsUnsigned text m f x → Stops IsSpace (sign ++ text)
signed_stops sign text true m f x e u = let P : List ℕ → Type 0 = λ s. Stops IsSpace (s ++ text) in subst P (sym e) (λ h. omega arith)
signed_stops sign text false m f x (inl e) u = let P : List ℕ → Type 0 = λ s. Stops IsSpace (s ++ text) in subst P (sym e) (unsigned_stops IsSpace text m f x u not_space)
signed_stops sign text false m f x (inr e) u = let P : List ℕ → Type 0 = λ s. Stops IsSpace (s ++ text) in subst P (sym e) (λ h. omega arith)

-- a decimal cut at the end of its spaces and its sign in another way
pub decimal_cut : (text : List ℕ) (negative : Bool) (m f : ℕ) (x : ℤ) (p : IsDecimal text negative m f x) (spaces rest : List ℕ) → text ≡ spaces ++ rest → IsSpaces spaces → Stops IsSpace rest
    → p.sign ++ p.number ≡ rest
decimal_cut text negative m f x p spaces rest e h s =
    (one_cut IsSpace p.spaces (p.sign ++ p.number) spaces rest p.are_spaces (signed_stops p.sign p.number negative m f x p.is_sign p.is_number) h s (sym p.spells ∙ e)).1

pub one_decimal : (text : List ℕ) (s t : Bool) (m n f g : ℕ) (x y : ℤ) → IsDecimal text s m f x → IsDecimal text t n g y → (s ≡ t) × (m ≡ n) × (f ≡ g) × (x ≡ y)
one_decimal text s t m n f g x y p q =
    let front : p.sign ++ p.number ≡ q.sign ++ q.number = decimal_cut text s m f x p q.spaces (q.sign ++ q.number) q.spells q.are_spaces (signed_stops q.sign q.number t n g y q.is_sign q.is_number) in
    let signs : (s ≡ t) × (p.number ≡ q.number) = one_sign p.sign q.sign s t p.number q.number p.is_sign q.is_sign (number_stops p.number m f x p.is_number) (number_stops q.number n g y q.is_number) front in
    let P : List ℕ → Type 0 = λ r. IsUnsigned r m f x in
    let parts : (m ≡ n) × (f ≡ g) × (x ≡ y) = one_unsigned q.number m n f g x y (subst P signs.1 p.is_number) q.is_number in
    (signs.0, parts.0, parts.1, parts.2)

moved : (m n f g : ℕ) (x y : ℤ) (p a : ℕ) → m ≡ n → f ≡ g → x ≡ y → IsScaled m f x p a → IsScaled n g y p a
moved m n f g x y p a d e h s = record {
  up = s.up;
  down = s.down;
  shift = ap (λ (z : ℤ). z +ℤ pos (p + s.down)) (sym h) ∙ s.shift ∙ ap (λ (t : ℕ). pos (t + s.up)) e;
  equal = s.equal ∙ ap (λ (t : ℕ). t * 10 ^ s.up) d;
}

pub one_number : (text : List ℕ) (places : ℕ) (y z : ℤ) → IsUnits text places y → IsUnits text places z → y ≡ z
one_number text places y z p q =
    let same : (p.negative ≡ q.negative) × (p.m ≡ q.m) × (p.f ≡ q.f) × (p.x ≡ q.x) = one_decimal text p.negative q.negative p.m q.m p.f q.f p.x q.x p.decimal q.decimal in
    let size : unsigned_abs y ≡ unsigned_abs z = one_size q.m q.f places (unsigned_abs y) (unsigned_abs z) q.x (moved p.m q.m p.f q.f p.x q.x places (unsigned_abs y) same.1 same.2 same.3 p.scaled) q.scaled in
    p.sign ∙ ap₂ (λ (b : Bool) (n : ℕ). with_sign b n) same.0 size ∙ sym q.sign

-- what makes the reader answer that the number is too fine or too large
pub fine_from : (text : List ℕ) (negative : Bool) (m f places : ℕ) (x : ℤ) → IsDecimal text negative m f x → ((n : ℕ) → IsScaled m f x places n → ⊥)
    → IsNumber text × ((z : ℤ) → IsUnits text places z → ⊥)
fine_from text negative m f places x d h = (
  record { negative = negative; m = m; f = f; x = x; decimal = d },
  λ z u. let same : (u.negative ≡ negative) × (u.m ≡ m) × (u.f ≡ f) × (u.x ≡ x) = one_decimal text u.negative negative u.m m u.f f u.x x u.decimal d in
      h (unsigned_abs z) (moved u.m m u.f f u.x x places (unsigned_abs z) same.1 same.2 same.3 u.scaled),
)

size_with_sign : (negative : Bool) (n : ℕ) → n ≡ unsigned_abs (with_sign negative n)
size_with_sign true zero = refl
size_with_sign true (suc n) = refl
size_with_sign false n = refl

pub units_from : (text : List ℕ) (negative : Bool) (m f places n : ℕ) (x : ℤ) → IsDecimal text negative m f x → IsScaled m f x places n → IsUnits text places (with_sign negative n)
units_from text negative m f places n x d s = record {
  negative = negative;
  m = m;
  f = f;
  x = x;
  decimal = d;
  scaled = let P : ℕ → Type 0 = IsScaled m f x places in subst P (size_with_sign negative n) s;
  sign = ap (with_sign negative) (size_with_sign negative n);
}

pub large_from : (text : List ℕ) (negative : Bool) (m f places limit : ℕ) (x : ℤ) → IsDecimal text negative m f x → ((n : ℕ) × IsScaled m f x places n × (limit < n))
    → (z : ℤ) × IsUnits text places z × (limit < unsigned_abs z)
large_from text negative m f places limit x d (n, s, l) = (with_sign negative n, units_from text negative m f places n x d s, subst (λ (t : ℕ). limit < t) (size_with_sign negative n) l)

-- Behind the letter: the parts of each reading are those that the reader found.
pub power_parts : (text rest digits after : List ℕ) (negative : Bool) → ((sign rest' : List ℕ) (negative' : Bool) → IsSign sign negative' → Stops IsPlusOrMinus rest' → text ≡ sign ++ rest' → (negative' ≡ negative) × (rest' ≡ rest))
    → rest ≡ digits ++ after → AllByRecursion IsDigit digits → Stops IsDigit after → (x : ℤ) (p : IsPower text x) → (p.digits ≡ digits) × (p.spaces ≡ after)
power_parts text rest digits after negative only e d s x p =
    one_cut IsDigit p.digits p.spaces digits after p.are_digits (spaces_stop IsDigit p.spaces p.are_spaces no_digit_space) d s
    ((only p.sign (p.digits ++ p.spaces) p.negative p.is_sign (power_stops text x p) p.spells).1 ∙ e)

pub no_end : (text rest : List ℕ) (letter : ℕ) → text ≡ letter ∷ rest → (letter ≡ 101) ⊎ (letter ≡ 69) → ((x : ℤ) → IsPower rest x → ⊥) → (x : ℤ) → IsEnd text x → ⊥
no_end text rest letter e l h x (inl p) = letter_no_space text rest (lettered l) p.0
  where
    lettered : (letter ≡ 101) ⊎ (letter ≡ 69) → (text ≡ 101 ∷ rest) ⊎ (text ≡ 69 ∷ rest)
    lettered (inl q) = inl (e ∙ ap (λ (b : ℕ). b ∷ rest) q)
    lettered (inr q) = inr (e ∙ ap (λ (b : ℕ). b ∷ rest) q)
no_end text rest letter e l h x (inr p) = let P : List ℕ → Type 0 = λ r. IsPower r x in h x (subst P (same_rest text p.0 rest p.1 (lettered l)) p.2)
  where
    lettered : (letter ≡ 101) ⊎ (letter ≡ 69) → (text ≡ 101 ∷ rest) ⊎ (text ≡ 69 ∷ rest)
    lettered (inl q) = inl (e ∙ ap (λ (b : ℕ). b ∷ rest) q)
    lettered (inr q) = inr (e ∙ ap (λ (b : ℕ). b ∷ rest) q)

-- with another letter, or none, only spaces may follow
pub no_letter : (text rest : List ℕ) (letter : ℕ) → text ≡ letter ∷ rest → ((letter ≡ 101) ⊎ (letter ≡ 69) → ⊥) → (IsSpaces text → ⊥) → (x : ℤ) → IsEnd text x → ⊥
no_letter text rest letter e n h x (inl p) = h p.0
no_letter text rest letter e n h x (inr p) = n (letter_is p.1)
  where
    letter_is : (text ≡ 101 ∷ p.0) ⊎ (text ≡ 69 ∷ p.0) → (letter ≡ 101) ⊎ (letter ≡ 69)
    letter_is (inl q) = inl (head_of letter 101 rest p.0 (sym e ∙ q))
    letter_is (inr q) = inr (head_of letter 69 rest p.0 (sym e ∙ q))

pub no_letter_in_nil : (text : List ℕ) → length text ≡ 0 → (IsSpaces text → ⊥) → (x : ℤ) → IsEnd text x → ⊥
no_letter_in_nil text e h x (inl p) = h p.0
no_letter_in_nil text e h x (inr (r, inl q, p)) = omega (arith, ap length q)
no_letter_in_nil text e h x (inr (r, inr q, p)) = omega (arith, ap length q)

-- The parts of each reading of a number are those that the reader found.
pub unsigned_parts : (text whole rest fraction after : List ℕ) → text ≡ whole ++ rest → AllByRecursion IsDigit whole → Stops IsDigit rest
    → ((point fraction' rest' : List ℕ) → IsPoint point fraction' → AllByRecursion IsDigit fraction' → Stops IsDigitOrPoint rest' → rest ≡ point ++ (fraction' ++ rest') → (fraction' ≡ fraction) × (rest' ≡ after))
    → (m f : ℕ) (x : ℤ) (u : IsUnsigned text m f x) → (u.whole ≡ whole) × (u.fraction ≡ fraction) × (u.rest ≡ after)
unsigned_parts text whole rest fraction after e d s only m f x u =
    let first : (u.whole ≡ whole) × (u.point ++ (u.fraction ++ u.rest) ≡ rest) = unsigned_cut text m f x u whole rest e d s in
    let second : (u.fraction ≡ fraction) × (u.rest ≡ after) = only u.point u.fraction u.rest u.is_point u.are_fraction (end_stops u.rest x u.is_end) (sym first.1) in
    (first.0, second.0, second.1)

-- The number of each reading of a decimal is what the reader found.
pub decimal_number : (text spaces signed rest : List ℕ) (negative : Bool) → text ≡ spaces ++ signed → IsSpaces spaces → Stops IsSpace signed
    → ((sign rest' : List ℕ) (negative' : Bool) → IsSign sign negative' → Stops IsPlusOrMinus rest' → signed ≡ sign ++ rest' → (negative' ≡ negative) × (rest' ≡ rest))
    → (s : Bool) (m f : ℕ) (x : ℤ) (p : IsDecimal text s m f x) → p.number ≡ rest
decimal_number text spaces signed rest negative e h s only t m f x p =
    (only p.sign p.number t p.is_sign (number_stops p.number m f x p.is_number) (sym (decimal_cut text t m f x p spaces signed e h s))).1

pub none_weaker : {A : Type 0} (r : Option A) (P Q : Type 0) → (P → Q) → IfNone r P → IfNone r Q
none_weaker (Some x) P Q f h = h
none_weaker None P Q f h = f h
