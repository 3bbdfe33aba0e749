-- A text is cut in one way only into bytes of a kind and a rest that doesn't begin with one.
use Rattle.std.proofs.Common.{◌≡◌, ℕ, ◌+◌, ◌≤◌, ◌<◌, List, [], ◌∷◌, ◌++◌, refl, ap, sym, ◌∙◌, arith, length, take, drop, get_or, subst, inl, inr, ◌⊎◌}
use Rattle.std.proofs.lemmas.List.{drop_more, take_more, drop_all}
use Rattle.std.specs.Prelude.{Bool, true, false}
use Rattle.std.specs.List.{AllByRecursion}
use Rattle.ofit_num.specs.NumberText.{IsDigit}
use Rattle.ofit_num.specs.DecimalText.{IsSign, IsPoint}
use Rattle.ofit_num.specs.Digits.{Stops}

pub head_of : (b c : ℕ) (bs cs : List ℕ) → b ∷ bs ≡ c ∷ cs → b ≡ c
head_of b c bs cs e = cc

pub tail_of : (b c : ℕ) (bs cs : List ℕ) → b ∷ bs ≡ c ∷ cs → bs ≡ cs
tail_of b c bs cs e = cc

pub stops_cons : (P : ℕ → Type 0) (b : ℕ) (bs text : List ℕ) → text ≡ b ∷ bs → Stops P text → P b → ⊥
stops_cons P b bs text e s = let Q : List ℕ → Type 0 = Stops P in let h : P b → ⊥ = subst Q e s in h

pub one_cut : (P : ℕ → Type 0) (xs ys cs bs : List ℕ) → AllByRecursion P xs → Stops P ys → AllByRecursion P cs → Stops P bs
    → xs ++ ys ≡ cs ++ bs → (xs ≡ cs) × (ys ≡ bs)
one_cut P [] ys [] bs d s h t e = (refl, e)
one_cut P [] ys (c ∷ cs) bs d s h t e = absurd (stops_cons P c (cs ++ bs) ys e s h.0)
one_cut P (x ∷ xs) ys [] bs d s h t e = absurd (stops_cons P x (xs ++ ys) bs (sym e) t d.0)
one_cut P (x ∷ xs) ys (c ∷ cs) bs d s h t e =
    let rest : (xs ≡ cs) × (ys ≡ bs) = one_cut P xs ys cs bs d.1 s h.1 t (tail_of x c (xs ++ ys) (cs ++ bs) e) in
    let first : x ≡ c = head_of x c (xs ++ ys) (cs ++ bs) e in
    (cc, rest.1)

pub all_more : (P : ℕ → Type 0) (xs : List ℕ) (b : ℕ) → AllByRecursion P xs → P b → AllByRecursion P (xs ++ b ∷ [])
all_more P [] b h k = (k, tt)
all_more P (x ∷ xs) b h k = (h.0, all_more P xs b h.1 k)

pub all_append : (P : ℕ → Type 0) (xs ys : List ℕ) → AllByRecursion P xs → AllByRecursion P ys → AllByRecursion P (xs ++ ys)
all_append P [] ys h k = k
all_append P (x ∷ xs) ys h k = (h.0, all_append P xs ys h.1 k)

pub all_front : (P : ℕ → Type 0) (xs ys : List ℕ) → AllByRecursion P (xs ++ ys) → AllByRecursion P xs
all_front P [] ys h = tt
all_front P (x ∷ xs) ys h = (h.0, all_front P xs ys h.1)

pub all_back : (P : ℕ → Type 0) (xs ys : List ℕ) → AllByRecursion P (xs ++ ys) → AllByRecursion P ys
all_back P [] ys h = h
all_back P (x ∷ xs) ys h = all_back P xs ys h.1

pub all_same : (P : ℕ → Type 0) (xs ys : List ℕ) → xs ≡ ys → AllByRecursion P xs → AllByRecursion P ys
all_same P xs ys e h = let Q : List ℕ → Type 0 = AllByRecursion P in subst Q e h

-- what doesn't begin with the one kind doesn't begin with less
pub stops_less : (P Q : ℕ → Type 0) (text : List ℕ) → ((b : ℕ) → Q b → P b) → Stops P text → Stops Q text
stops_less P Q [] f s = tt
stops_less P Q (b ∷ bs) f s = λ q. s (f b q)

-- where the front isn't empty it tells how the whole begins
pub stops_front : (P Q : ℕ → Type 0) (xs ys : List ℕ) → 0 < length xs → AllByRecursion P xs → ((b : ℕ) → P b → Q b → ⊥) → Stops Q (xs ++ ys)
stops_front P Q [] ys l h f = absurd (omega arith)
stops_front P Q (x ∷ xs) ys l h f = f x h.0

-- one that stands in front of a rest that can't begin with one
pub stops_either : (P Q : ℕ → Type 0) (xs ys : List ℕ) → AllByRecursion P xs → ((b : ℕ) → P b → Q b → ⊥) → Stops Q ys → Stops Q (xs ++ ys)
stops_either P Q [] ys h f s = s
stops_either P Q (x ∷ xs) ys h f s = f x h.0

-- a plus or a minus
abbrev pub IsPlusOrMinus : ℕ → Type 0
IsPlusOrMinus b = (b ≡ 43) ⊎ (b ≡ 45)

-- a sign is told from what follows it
pub one_sign : (s t : List ℕ) (m n : Bool) (xs ys : List ℕ) → IsSign s m → IsSign t n → Stops IsPlusOrMinus xs → Stops IsPlusOrMinus ys
    → s ++ xs ≡ t ++ ys → (m ≡ n) × (xs ≡ ys)
one_sign s t true true xs ys h k a b e = (refl, tail_of 45 45 xs ys (ap (λ (r : List ℕ). r ++ xs) (sym h) ∙ e ∙ ap (λ (r : List ℕ). r ++ ys) k))
one_sign s t true false xs ys h (inl k) a b e = absurd (stops_cons IsPlusOrMinus 45 xs ys (sym (ap (λ (r : List ℕ). r ++ xs) (sym h) ∙ e ∙ ap (λ (r : List ℕ). r ++ ys) k)) b (inr refl))
one_sign s t true false xs ys h (inr k) a b e = absurd (omega (arith, head_of 45 43 xs ys (ap (λ (r : List ℕ). r ++ xs) (sym h) ∙ e ∙ ap (λ (r : List ℕ). r ++ ys) k)))
one_sign s t false true xs ys (inl h) k a b e = absurd (stops_cons IsPlusOrMinus 45 ys xs (ap (λ (r : List ℕ). r ++ xs) (sym h) ∙ e ∙ ap (λ (r : List ℕ). r ++ ys) k) a (inr refl))
one_sign s t false true xs ys (inr h) k a b e = absurd (omega (arith, head_of 43 45 xs ys (ap (λ (r : List ℕ). r ++ xs) (sym h) ∙ e ∙ ap (λ (r : List ℕ). r ++ ys) k)))
one_sign s t false false xs ys (inl h) (inl k) a b e = (refl, ap (λ (r : List ℕ). r ++ xs) (sym h) ∙ e ∙ ap (λ (r : List ℕ). r ++ ys) k)
one_sign s t false false xs ys (inl h) (inr k) a b e = absurd (stops_cons IsPlusOrMinus 43 ys xs (ap (λ (r : List ℕ). r ++ xs) (sym h) ∙ e ∙ ap (λ (r : List ℕ). r ++ ys) k) a (inl refl))
one_sign s t false false xs ys (inr h) (inl k) a b e = absurd (stops_cons IsPlusOrMinus 43 xs ys (sym (ap (λ (r : List ℕ). r ++ xs) (sym h) ∙ e ∙ ap (λ (r : List ℕ). r ++ ys) k)) b (inl refl))
one_sign s t false false xs ys (inr h) (inr k) a b e = (refl, tail_of 43 43 xs ys (ap (λ (r : List ℕ). r ++ xs) (sym h) ∙ e ∙ ap (λ (r : List ℕ). r ++ ys) k))

-- a digit or a point
abbrev pub IsDigitOrPoint : ℕ → Type 0
IsDigitOrPoint b = IsDigit b ⊎ (b ≡ 46)

-- a point is told from what follows it, and digits behind it end where they end
pub one_point : (p q xs ys cs bs : List ℕ) → IsPoint p xs → AllByRecursion IsDigit xs → Stops IsDigitOrPoint ys
    → IsPoint q cs → AllByRecursion IsDigit cs → Stops IsDigitOrPoint bs → p ++ (xs ++ ys) ≡ q ++ (cs ++ bs) → (xs ≡ cs) × (ys ≡ bs)
one_point p q xs ys cs bs (inl h) d s (inl k) c t e =
    one_cut IsDigit xs ys cs bs d (stops_less IsDigitOrPoint IsDigit ys (λ b i. inl i) s) c (stops_less IsDigitOrPoint IsDigit bs (λ b i. inl i) t)
    (tail_of 46 46 (xs ++ ys) (cs ++ bs) (ap (λ (r : List ℕ). r ++ (xs ++ ys)) (sym h) ∙ e ∙ ap (λ (r : List ℕ). r ++ (cs ++ bs)) k))
one_point p q xs ys cs bs (inl h) d s (inr k) c t e =
    absurd (stops_cons IsDigitOrPoint 46 (xs ++ ys) bs (sym (ap (λ (r : List ℕ). r ++ (xs ++ ys)) (sym h) ∙ e ∙ ap (λ (r : List ℕ). r ++ (cs ++ bs)) k.0 ∙ ap (λ (r : List ℕ). r ++ bs) k.1)) t (inr refl))
one_point p q xs ys cs bs (inr h) d s (inl k) c t e =
    absurd (stops_cons IsDigitOrPoint 46 (cs ++ bs) ys (ap (λ (r : List ℕ). r ++ ys) (sym h.1) ∙ ap (λ (r : List ℕ). r ++ (xs ++ ys)) (sym h.0) ∙ e ∙ ap (λ (r : List ℕ). r ++ (cs ++ bs)) k) s (inr refl))
one_point p q xs ys cs bs (inr h) d s (inr k) c t e =
    (h.1 ∙ sym k.1, ap (λ (r : List ℕ). r ++ ys) (sym h.1) ∙ ap (λ (r : List ℕ). r ++ (xs ++ ys)) (sym h.0) ∙ e ∙ ap (λ (r : List ℕ). r ++ (cs ++ bs)) k.0 ∙ ap (λ (r : List ℕ). r ++ bs) k.1)

-- the digits behind a point that was read
pub read_point : (text behind xs ys p cs bs : List ℕ) → text ≡ 46 ∷ behind → behind ≡ xs ++ ys → AllByRecursion IsDigit xs → Stops IsDigit ys
    → IsPoint p cs → AllByRecursion IsDigit cs → Stops IsDigitOrPoint bs → text ≡ p ++ (cs ++ bs) → (cs ≡ xs) × (bs ≡ ys)
read_point text behind xs ys p cs bs e f d s (inl h) c t g =
    one_cut IsDigit cs bs xs ys c (stops_less IsDigitOrPoint IsDigit bs (λ b i. inl i) t) d s
    (sym (tail_of 46 46 behind (cs ++ bs) (sym e ∙ g ∙ ap (λ (r : List ℕ). r ++ (cs ++ bs)) h)) ∙ f)
read_point text behind xs ys p cs bs e f d s (inr h) c t g =
    absurd (stops_cons IsDigitOrPoint 46 behind bs (sym (sym e ∙ g ∙ ap (λ (r : List ℕ). r ++ (cs ++ bs)) h.0 ∙ ap (λ (r : List ℕ). r ++ bs) h.1)) t (inr refl))

-- no point was read where none stands
pub no_point : (text p cs bs : List ℕ) → Stops (λ b. b ≡ 46) text → IsPoint p cs → text ≡ p ++ (cs ++ bs) → (cs ≡ []) × (bs ≡ text)
no_point text p cs bs s (inl h) g = absurd (stops_cons (λ b. b ≡ 46) 46 (cs ++ bs) text (g ∙ ap (λ (r : List ℕ). r ++ (cs ++ bs)) h) s refl)
no_point text p cs bs s (inr h) g = (h.1, sym (g ∙ ap (λ (r : List ℕ). r ++ (cs ++ bs)) h.0 ∙ ap (λ (r : List ℕ). r ++ bs) h.1))

pub all_so_far : (P : ℕ → Type 0) (xs : List ℕ) (i : ℕ) → i < length xs → AllByRecursion P (take i xs) → P (get_or xs i 0) → AllByRecursion P (take (i + 1) xs)
all_so_far P xs i l h k = all_same P _ _ (sym (take_more xs i 0 l)) (all_more P (take i xs) (get_or xs i 0) h k)

pub stops_at : (P : ℕ → Type 0) (xs : List ℕ) (i : ℕ) → i < length xs → (P (get_or xs i 0) → ⊥) → Stops P (drop i xs)
stops_at P xs i l h = let Q : List ℕ → Type 0 = Stops P in subst Q (sym (drop_more xs i 0 l)) h

pub stops_past : (P : ℕ → Type 0) (xs : List ℕ) (i : ℕ) → length xs ≤ i → Stops P (drop i xs)
stops_past P xs i l = let Q : List ℕ → Type 0 = Stops P in subst Q (sym (drop_all i xs l)) tt

pub not_true : false ≡ true → ⊥
not_true e = cc
