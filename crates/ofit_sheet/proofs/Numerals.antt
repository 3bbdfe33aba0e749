-- Canonical whole numbers are compared by their lengths, and those of one length by their first digits that differ.
use Rattle.std.proofs.Common.{◌≡◌, ℕ, zero, suc, ◌+◌, ◌-◌, ◌*◌, ◌≤◌, ◌<◌, Bool, true, false, List, [], ◌∷◌, take, drop, length, inl, inr, refl, sym, ap, subst, ◌∙◌, arith, length-drop}
use Rattle.std.specs.Prelude.{ℤ, pos, negsuc, ◌≤ℤ◌, IsTrue, nat_lt}
use Rattle.std.specs.List.{AllByRecursion}
use Rattle.std.specs.Ordering.{MatchOrdering, nat_cmp, ordering_then}
use Rattle.std.specs.declared.cmp.Ordering.{Ordering}
use Rattle.std.specs.declared.cmp.Ordering.TheVariants.{Less, Equal, Greater}
use Rattle.std.specs.Cmp.{ranks}
use Rattle.std.specs.Cmp.Lexicographic.{slice_cmp}
use Rattle.std.proofs.lemmas.List.{take-append-drop}
use borrow.Author.Tests.{ltb-true, ltb-false}
use Rattle.std.proofs.lemmas.Int.{ints}
use Rattle.ofit_num.specs.NumberText.{IsDigit, IsWhole, IsSigned, spelled_after}
use Rattle.ofit_num.proofs.Spelled.{spelled_after-append, spelled_after-grows}

-- a greater number before, and as many digits behind
below : (n m : ℕ) (xs ys : List ℕ) → length xs ≡ length ys → AllByRecursion IsDigit xs → n < m → spelled_after n xs < spelled_after m ys
below n m [] [] e d l = l
below n m [] (y ∷ ys) e d l = absurd (omega (arith, e))
below n m (x ∷ xs) [] e d l = absurd (omega (arith, e))
below n m (x ∷ xs) (y ∷ ys) e d l = below (n * 10 + (x - 48)) (m * 10 + (y - 48)) xs ys (omega (arith, e)) d.1 (omega (arith, l, d.0.0, d.0.1))

Ranked : Ordering → ℕ → ℕ → Type 0
Ranked o a b = MatchOrdering o (a < b) (a ≡ b) (b < a)

then_ranked : (o r : Ordering) (n x y : ℕ) (xs ys : List ℕ) → length xs ≡ length ys → AllByRecursion IsDigit xs → AllByRecursion IsDigit ys → IsDigit x → IsDigit y
    → MatchOrdering o (x < y) (x ≡ y) (y < x)
    → (x ≡ y → MatchOrdering r (spelled_after (n * 10 + (x - 48)) xs < spelled_after (n * 10 + (y - 48)) ys) (spelled_after (n * 10 + (x - 48)) xs ≡ spelled_after (n * 10 + (y - 48)) ys) (spelled_after (n * 10 + (y - 48)) ys < spelled_after (n * 10 + (x - 48)) xs))
    → MatchOrdering (ordering_then o r) (spelled_after (n * 10 + (x - 48)) xs < spelled_after (n * 10 + (y - 48)) ys) (spelled_after (n * 10 + (x - 48)) xs ≡ spelled_after (n * 10 + (y - 48)) ys) (spelled_after (n * 10 + (y - 48)) ys < spelled_after (n * 10 + (x - 48)) xs)
then_ranked Less r n x y xs ys e dx dy a b h rest = below (n * 10 + (x - 48)) (n * 10 + (y - 48)) xs ys e dx (omega (arith, h, a.0, b.0))
then_ranked Equal r n x y xs ys e dx dy a b h rest = rest h
then_ranked Greater r n x y xs ys e dx dy a b h rest = below (n * 10 + (y - 48)) (n * 10 + (x - 48)) ys xs (sym e) dy (omega (arith, h, a.0, b.0))

pub compared : (n : ℕ) (xs ys : List ℕ) → length xs ≡ length ys → AllByRecursion IsDigit xs → AllByRecursion IsDigit ys
    → MatchOrdering (slice_cmp nat_cmp xs ys) (spelled_after n xs < spelled_after n ys) (spelled_after n xs ≡ spelled_after n ys) (spelled_after n ys < spelled_after n xs)
compared n [] [] e dx dy = refl
compared n [] (y ∷ ys) e dx dy = absurd (omega (arith, e))
compared n (x ∷ xs) [] e dx dy = absurd (omega (arith, e))
compared n (x ∷ xs) (y ∷ ys) e dx dy =
    let shorter : length xs ≡ length ys = omega (arith, e) in
    then_ranked (nat_cmp x y) (slice_cmp nat_cmp xs ys) n x y xs ys shorter dx.1 dy.1 dx.0 dy.0 (ranks x y)
    (λ same. subst (λ (t : ℕ). MatchOrdering (slice_cmp nat_cmp xs ys) (spelled_after (n * 10 + (x - 48)) xs < spelled_after (n * 10 + (t - 48)) ys) (spelled_after (n * 10 + (x - 48)) xs ≡ spelled_after (n * 10 + (t - 48)) ys) (spelled_after (n * 10 + (t - 48)) ys < spelled_after (n * 10 + (x - 48)) xs))
    same (compared (n * 10 + (x - 48)) xs ys shorter dx.1 dy.1))

-- the digits of a whole number, and the number that they spell
pub record Digits (text : List ℕ) (n : ℕ) : Type 0 where
  pub digits : AllByRecursion IsDigit text
  pub spelled : n ≡ spelled_after 0 text
  pub some : 0 < length text

pub digits_of : (text : List ℕ) (n : ℕ) → IsWhole text n → Digits text n
digits_of text n (inl z) = record {
  digits = subst (AllByRecursion IsDigit) (sym z.is_zero) ((omega arith, omega arith), tt);
  spelled = z.number ∙ ap (spelled_after 0) (sym z.is_zero);
  some = omega (arith, ap length z.is_zero);
}
digits_of text n (inr p) = record {
  digits = subst (AllByRecursion IsDigit) (sym p.spells) ((omega (arith, p.above_zero), p.is_digit), p.digits);
  spelled = p.number;
  some = omega (arith, ap length p.spells);
}

-- a number with more digits is greater
pub fewer_digits : (xs ys : List ℕ) (m n : ℕ) → IsWhole xs m → IsWhole ys n → length xs < length ys → m < n
fewer_digits xs ys m n a (inl z) l = absurd (omega (arith, (digits_of xs m a).some, ap length z.is_zero, l))
fewer_digits xs ys m n a (inr p) l =
    let k = length ys - length xs in
    let front = take k ys in
    let behind = drop k ys in
    let long : length (p.first ∷ p.rest) ≡ length ys = ap length (sym p.spells) in
    let start : take k ys ≡ p.first ∷ take (k - 1) p.rest = ap (take k) p.spells ∙ taken k p.first p.rest (omega (arith, l)) in
    let large : 1 ≤ spelled_after 0 front = omega (arith, ap (spelled_after 0) start, spelled_after-grows (0 * 10 + (p.first - 48)) (take (k - 1) p.rest), p.above_zero) in
    let whole : spelled_after 0 ys ≡ spelled_after (spelled_after 0 front) behind = ap (spelled_after 0) (sym (take-append-drop k ys)) ∙ spelled_after-append 0 front behind in
    let same : length xs ≡ length behind = omega (arith, length-drop k ys, l) in
    let less : spelled_after 0 xs < spelled_after (spelled_after 0 front) behind = below 0 (spelled_after 0 front) xs behind same (digits_of xs m a).digits (omega (arith, large)) in
    omega (arith, (digits_of xs m a).spelled, p.number, whole, less)
  where
    taken : (k x : ℕ) (rest : List ℕ) → 0 < k → take k (x ∷ rest) ≡ x ∷ take (k - 1) rest
    taken zero x rest h = absurd (omega (arith, h))
    taken (suc k) x rest h = let e : suc k - 1 ≡ k = omega arith in ap (λ (t : ℕ). x ∷ take t rest) (sym e)

-- numbers with as many digits
pub same_length : (xs ys : List ℕ) (m n : ℕ) (o : Ordering) → IsWhole xs m → IsWhole ys n → length xs ≡ length ys → o ≡ slice_cmp nat_cmp xs ys → MatchOrdering o (m < n) (m ≡ n) (n < m)
same_length xs ys m n o a b e is =
    let x = digits_of xs m a in
    let y = digits_of ys n b in
    let c = compared 0 xs ys e x.digits y.digits in
    subst (λ (t : Ordering). MatchOrdering t (m < n) (m ≡ n) (n < m)) (sym is)
    (subst (λ (t : ℕ). MatchOrdering (slice_cmp nat_cmp xs ys) (t < n) (t ≡ n) (n < t)) (sym x.spelled)
    (subst (λ (t : ℕ). MatchOrdering (slice_cmp nat_cmp xs ys) (spelled_after 0 xs < t) (spelled_after 0 xs ≡ t) (t < spelled_after 0 xs)) (sym y.spelled) c))

-- of two numbers below 0 the one with the lesser size is greater
no_minus : (rest : List ℕ) (n : ℕ) → IsWhole (45 ∷ rest) n → ⊥
no_minus rest n w = let d = digits_of (45 ∷ rest) n w in absurd (omega (arith, d.digits.0.0))

pub minus_size : (text digits : List ℕ) (z : ℤ) → text ≡ 45 ∷ digits → IsSigned text z → (k : ℕ) × IsWhole digits (suc k) × (z ≡ negsuc k)
minus_size text digits (pos n) e s = absurd (no_minus digits n (subst (λ (t : List ℕ). IsWhole t n) e s))
minus_size text digits (negsuc k) e s =
    let same : s.0 ≡ digits = let both : 45 ∷ s.0 ≡ 45 ∷ digits = sym s.1 ∙ e in cc in
    (k, subst (λ (t : List ℕ). IsWhole t (suc k)) same s.2, refl)

pub by_length : (a b m n : ℕ) → (a ≡ b → ⊥) → (a < b → m < n) → (b < a → n < m) → (IsTrue (nat_lt a b) → m ≤ n) × (m ≤ n → IsTrue (nat_lt a b))
by_length a b m n apart up down = go (nat_lt a b) refl where
  go : (t : Bool) → nat_lt a b ≡ t → (IsTrue t → m ≤ n) × (m ≤ n → IsTrue t)
  go true e = ((λ yes. omega (arith, up (ltb-true a b e))), λ le. refl)
  go false e =
      let over : b < a = omega (arith, apart, ltb-false a b e) in
      ((λ yes. absurd (cc)), λ le. absurd (omega (arith, down over, le)))

pub upto : (o : Ordering) (m n : ℕ) → MatchOrdering o (m < n) (m ≡ n) (n < m) → (o ≡ Greater → ⊥) → m ≤ n
upto Less m n h other = omega (arith, h)
upto Equal m n h other = omega (arith, h)
upto Greater m n h other = absurd (other refl)

neg_order : (r : Bool) (j k : ℕ) → (IsTrue r → suc j ≤ suc k) × (suc j ≤ suc k → IsTrue r) → (IsTrue r → negsuc k ≤ℤ negsuc j) × (negsuc k ≤ℤ negsuc j → IsTrue r)
neg_order r j k h = ((λ yes. let le : suc j ≤ suc k = h.0 yes in omega (arith, ints)), λ le. h.1 (omega (arith, ints)))

pub both_minus : (r : Bool) (low high low_size high_size : List ℕ) (y z : ℤ) → low ≡ 45 ∷ low_size → high ≡ 45 ∷ high_size
    → ((m n : ℕ) → IsWhole high_size m → IsWhole low_size n → (IsTrue r → m ≤ n) × (m ≤ n → IsTrue r)) → IsSigned low y → IsSigned high z → (IsTrue r → y ≤ℤ z) × (y ≤ℤ z → IsTrue r)
both_minus r low high low_size high_size y z l h compared a b =
    let s = minus_size low low_size y l a in
    let t = minus_size high high_size z h b in
    let both : (IsTrue r → negsuc s.0 ≤ℤ negsuc t.0) × (negsuc s.0 ≤ℤ negsuc t.0 → IsTrue r) = neg_order r t.0 s.0 (compared (suc t.0) (suc s.0) t.1 s.1) in
    subst (λ (u : ℤ). (IsTrue r → u ≤ℤ z) × (u ≤ℤ z → IsTrue r)) (sym s.2) (subst (λ (u : ℤ). (IsTrue r → negsuc s.0 ≤ℤ u) × (negsuc s.0 ≤ℤ u → IsTrue r)) (sym t.2) both)
