-- the numbers that digits spell
use Rattle.std.proofs.Common.{◌≡◌, ◌≢◌, ℕ, zero, suc, ◌+◌, ◌*◌, ◌-◌, ◌≤◌, ◌<◌, List, [], ◌∷◌, ◌++◌, refl, ap, sym, ◌∙◌, subst, arith, take, drop, length, get_or, inl, inr, add-one, drop-cons, take-suc}
use Rattle.std.proofs.lemmas.List.{take-append-drop}
use Rattle.std.proofs.lemmas.List.Elements.{All-head, All-tail, recursion_from_All}
use Rattle.std.specs.Prelude.{All, ℤ, pos, negsuc, unsigned_abs, Result, Err, IsErrOf}
use Rattle.ofit_num.specs.NumberText.{IsDigit, IsWhole, IsSigned, spelled_after}

head_is : (b c : ℕ) (bs cs : List ℕ) → b ∷ bs ≡ c ∷ cs → b ≡ c
head_is b c bs cs e = cc

tail_is : (b c : ℕ) (bs cs : List ℕ) → b ∷ bs ≡ c ∷ cs → bs ≡ cs
tail_is b c bs cs e = cc

pub spelled_after-append : (n : ℕ) (xs ys : List ℕ) → spelled_after n (xs ++ ys) ≡ spelled_after (spelled_after n xs) ys
spelled_after-append n [] ys = refl
spelled_after-append n (x ∷ xs) ys = spelled_after-append (n * 10 + (x - 48)) xs ys

-- further digits never make it smaller
pub spelled_after-grows : (n : ℕ) (xs : List ℕ) → n ≤ spelled_after n xs
spelled_after-grows n [] = omega arith
spelled_after-grows n (x ∷ xs) = omega (arith, spelled_after-grows (n * 10 + (x - 48)) xs)

-- the digits up to and with the one at i
pub spelled_at_least : (xs : List ℕ) (i : ℕ) → i < length xs → spelled_after 0 (take i xs) * 10 + (get_or xs i 0 - 48) ≤ spelled_after 0 xs
spelled_at_least xs i l = subst (λ (t : ℕ). spelled_after 0 (take i xs) * 10 + (get_or xs i 0 - 48) ≤ t) (sym whole) (spelled_after-grows _ (drop (suc i) xs))
  where
    whole : spelled_after 0 xs ≡ spelled_after (spelled_after 0 (take i xs) * 10 + (get_or xs i 0 - 48)) (drop (suc i) xs)
    whole = ap (spelled_after 0) (sym (take-append-drop i xs)) ∙ spelled_after-append 0 (take i xs) (drop i xs) ∙ ap (spelled_after (spelled_after 0 (take i xs))) (drop-cons xs i 0 l)

pub positive_whole : (text : List ℕ) (first : ℕ) (rest : List ℕ) → text ≡ first ∷ rest → first ≢ 48 → All IsDigit text → IsWhole text (spelled_after 0 text)
positive_whole text first rest e d h =
    let all : All IsDigit (first ∷ rest) = subst (All IsDigit) e h in
    let at : IsDigit first = All-head IsDigit first rest all in
    inr (record { first = first; rest = rest; spells = e; above_zero = omega (arith, at.0); is_digit = at.1; digits = recursion_from_All IsDigit rest (All-tail IsDigit first rest all); number = refl })

pub spelled_more : (xs : List ℕ) (i : ℕ) → i < length xs → spelled_after 0 (take (i + 1) xs) ≡ spelled_after 0 (take i xs) * 10 + (get_or xs i 0 - 48)
spelled_more xs i l = rw add-one (ap (spelled_after 0) (take-suc xs i 0 l) ∙ spelled_after-append 0 (take i xs) (get_or xs i 0 ∷ []))

no_minus : (rest : List ℕ) (n : ℕ) → IsWhole (45 ∷ rest) n → ⊥
no_minus rest n (inl z) = absurd (omega (arith, head_is 45 48 rest [] z.is_zero))
no_minus rest n (inr p) = absurd (omega (arith, head_is 45 p.first rest p.rest p.spells, p.above_zero))

-- behind a minus sign there is no signed number where there is no whole one
pub IsSigned-minus : (text rest : List ℕ) → text ≡ 45 ∷ rest → ((n : ℕ) → IsWhole rest n → ⊥) → (z : ℤ) → IsSigned text z → ⊥
IsSigned-minus text rest e h (pos n) s = no_minus rest n (subst (λ (t : List ℕ). IsWhole t n) e s)
IsSigned-minus text rest e h (negsuc n) s = h (suc n) (subst (λ (t : List ℕ). IsWhole t (suc n)) (tail_is 45 45 s.0 rest (sym s.1 ∙ e)) s.2)

pub IsSigned-minus_large : (text rest : List ℕ) (limit : ℕ) → text ≡ 45 ∷ rest → ((n : ℕ) × IsWhole rest n × (limit < n)) → (z : ℤ) × IsSigned text z × (limit < unsigned_abs z)
IsSigned-minus_large text rest limit e (zero, w, l) = absurd (omega arith)
IsSigned-minus_large text rest limit e (suc n, w, l) = (negsuc n, (rest, e, w), l)

pub IsSigned-plain_large : (text : List ℕ) (limit : ℕ) → ((n : ℕ) × IsWhole text n × (limit < n)) → (z : ℤ) × IsSigned text z × (limit < unsigned_abs z)
IsSigned-plain_large text limit (n, w, l) = (pos n, w, l)

same_err : {A F : Type 0} (x y : F) → (let r : Result A F = Err x in r) ≡ Err y → x ≡ y
same_err x y e = cc

-- the same fault of another type of result
pub same_fault : {A B F : Type 0} (x y : F) → IsErrOf {T = A} (Err x) y → IsErrOf {T = B} (Err x) y
same_fault x y h = ap Err (same_err x y h)
