-- The number of ways to go on an ordering, by how many of the items left are above all items so far.
use Rattle.std.proofs.Common.{◌≡◌, ℕ, zero, suc, ◌+◌, ◌-◌, ◌*◌, ◌<◌, ◌≤◌, ◌⊎◌, inl, inr, cond, eqb, refl, ap, sym, ◌∙◌, arith}
use Rattle.std.proofs.lemmas.Bool.Decides.{leb_tells}
use Rattle.std.proofs.Math.Nat.{mul-add, suc-mul, mul_left_comm, zero-mul, mul-zero}

-- g at the number before l, and 0 at 0
abbrev pub shifted : (ℕ → ℕ) → ℕ → ℕ
shifted g zero = 0
shifted g (suc l) = g l

-- the sum of g below a
abbrev pub sum_below : (ℕ → ℕ) → ℕ → ℕ
sum_below g zero = 0
sum_below g (suc a) = sum_below g a + g a

-- how many orderings of n items, of which a are above all items so far, have l maxima. The next item
-- is one of the n - a others, or one of the a, which leaves above it any number below a
unfoldable pub ways : ℕ → ℕ → ℕ → ℕ
ways zero a l = cond (eqb 0 l) 1 0
ways (suc n) a l = (suc n - a) * ways n a l + sum_below (λ j. shifted (ways n j) l) a

pub ways-zero : (a l : ℕ) → ways 0 a l ≡ cond (eqb 0 l) 1 0
unfolding ways
ways-zero a l = refl

pub ways-suc : (n a l : ℕ) → ways (suc n) a l ≡ (suc n - a) * ways n a l + sum_below (λ j. shifted (ways n j) l) a
unfolding ways
ways-suc n a l = refl

sum_below-times : (m : ℕ) (f g : ℕ → ℕ) (a : ℕ) → ((j : ℕ) → j < a → f j ≡ m * g j) → sum_below f a ≡ m * sum_below g a
sum_below-times m f g zero each = sym (mul-zero m)
sum_below-times m f g (suc a) each =
    let rest = sum_below-times m f g a (λ j h. each j (omega arith)) in
    let last = each a (omega arith) in
    omega (arith, rest, last, mul-add m (sum_below g a) (g a))

shifted-times : (l m : ℕ) (f g : ℕ → ℕ) → ((i : ℕ) → f i ≡ m * g i) → shifted f l ≡ m * shifted g l
shifted-times zero m f g each = sym (mul-zero m)
shifted-times (suc l) m f g each = each l

sum_below-none : (f : ℕ → ℕ) (a : ℕ) → ((j : ℕ) → f j ≡ 0) → sum_below f a ≡ 0
sum_below-none f zero each = refl
sum_below-none f (suc a) each = omega (arith, sum_below-none f a each, each a)

-- d = m - a of the m items are not above, and e = d + 1 of one item more
closes : (m d e f g t u f2 : ℕ) → f ≡ d * g + t → f2 ≡ e * f + u → u ≡ m * t → d * f ≡ m * (d * g) → e ≡ suc d → f2 ≡ suc m * f
closes m d e f g t u f2 here next top others more =
    let a : e * f ≡ d * f + f = ap (λ (x : ℕ). x * f) more ∙ suc-mul d f in
    let b : m * f ≡ m * (d * g) + m * t = ap (λ (x : ℕ). m * x) here ∙ mul-add m (d * g) t in
    omega (arith, next, a, b, top, others, suc-mul m f)

others_scaled : (m d f g : ℕ) → (f ≡ m * g) ⊎ (d ≡ 0) → d * f ≡ m * (d * g)
others_scaled m d f g (inl e) = ap (λ (x : ℕ). d * x) e ∙ mul_left_comm d m g
others_scaled m d f g (inr e) =
    let a : d * f ≡ 0 = ap (λ (x : ℕ). x * f) e ∙ zero-mul f in
    let b : d * g ≡ 0 = ap (λ (x : ℕ). x * g) e ∙ zero-mul g in
    let c : m * (d * g) ≡ 0 = ap (λ (x : ℕ). m * x) b ∙ mul-zero m in
    omega (arith, a, c)

under : (a m : ℕ) → a ≤ suc m → (a ≤ m) ⊎ (suc m - a ≡ 0)
under a m h = elim (leb_tells a m) [ inl reached ↦ inl reached.1 | inr missed ↦ inr (omega (arith, h, missed.1)) ]

-- an item that is not above those so far can stand in any place
pub ways-scaled : (n a l : ℕ) → a ≤ n → ways (suc n) a l ≡ suc n * ways n a l
ways-scaled zero zero l h = omega (arith, ways-suc 0 0 l)
ways-scaled zero (suc a) l h = absurd (omega arith)
ways-scaled (suc m) a l h =
    let shifts : (j : ℕ) → j < a → shifted (ways (suc m) j) l ≡ suc m * shifted (ways m j) l =
    λ j low. shifted-times l (suc m) (ways (suc m) j) (ways m j) (λ i. ways-scaled m j i (omega arith)) in
    let top = sum_below-times (suc m) (λ j. shifted (ways (suc m) j) l) (λ j. shifted (ways m j) l) a shifts in
    let case : (ways (suc m) a l ≡ suc m * ways m a l) ⊎ (suc m - a ≡ 0) =
    elim (under a m h) [ inl low ↦ inl (ways-scaled m a l low) | inr same ↦ inr same ] in
    let others = others_scaled (suc m) (suc m - a) (ways (suc m) a l) (ways m a l) case in
    closes (suc m) (suc m - a) (suc (suc m) - a) (ways (suc m) a l) (ways m a l) (sum_below (λ j. shifted (ways m j) l) a) (sum_below (λ j. shifted (ways (suc m) j) l) a) (ways (suc (suc m)) a l) (ways-suc m a l) (ways-suc (suc m) a l) top others (omega arith)

-- where all items are above those so far
pub ways-all : (n l : ℕ) → ways (suc n) (suc n) l ≡ sum_below (λ j. shifted (ways n j) l) (suc n)
ways-all n l =
    let none : suc n - suc n ≡ 0 = omega arith in
    let gone : (suc n - suc n) * ways n (suc n) l ≡ 0 = ap (λ (x : ℕ). x * ways n (suc n) l) none ∙ zero-mul (ways n (suc n) l) in
    omega (arith, ways-suc n (suc n) l, gone)

pub ways-none : (n : ℕ) → ways (suc n) (suc n) 0 ≡ 0
ways-none n = ways-all n 0 ∙ sum_below-none (λ j. shifted (ways n j) 0) (suc n) (λ j. refl)

lower_sum : (n l : ℕ) → sum_below (λ j. ways n j l) n ≡ n * ways n n (suc l)
lower_sum zero l = sym (zero-mul (ways 0 0 (suc l)))
lower_sum (suc m) l =
    sum_below-times (suc m) (λ j. ways (suc m) j l) (λ j. ways m j l) (suc m) (λ j low. ways-scaled m j l (omega arith))
    ∙ ap (λ (x : ℕ). suc m * x) (sym (ways-all m (suc l)))

pub ways-recurs : (n l : ℕ) → ways (suc n) (suc n) (suc l) ≡ ways n n l + n * ways n n (suc l)
ways-recurs n l = omega (arith, ways-all n (suc l), lower_sum n l)
