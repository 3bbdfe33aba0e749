-- order and products of ℤ
use Rattle.std.proofs.Common.{inl, inr, ◌≡◌, ap, ℕ, ◌+◌, ◌*◌, ◌≤◌, ◌<◌, ◌-◌, refl, subst, arith, mul-le-mul_left, ◌^◌, suc}
use Rattle.std.proofs.Math.Nat.{one-le-pow}
use Rattle.std.proofs.lemmas.Bool.{cases_order}
use Rattle.std.proofs.lemmas.Int.{ints, by_lt_z}
use Rattle.std.specs.Prelude.{ℤ, pos, negsuc, ◌+ℤ◌, ◌*ℤ◌, ◌≤ℤ◌, ◌<ℤ◌, ◌-ℤ◌, unsigned_abs}
use borrow.Author.Differences.{up, down}
use Rattle.ofit_num.proofs.Gap.{is_gap, gap-same, gap-le, gap-lt, gap-add, gap-mul, pos-gap}

pub le_trans_ℤ : (a b c : ℤ) → a ≤ℤ b → b ≤ℤ c → a ≤ℤ c
le_trans_ℤ a b c h k = omega (arith, ints)

pub add_mono : (a b c d : ℤ) → a ≤ℤ b → c ≤ℤ d → (a +ℤ c) ≤ℤ (b +ℤ d)
add_mono a b c d h k = omega (arith, ints)

pub mul_pos : (a b : ℤ) (k : ℕ) → a ≤ℤ b → (a *ℤ pos k) ≤ℤ (b *ℤ pos k)
mul_pos a b k h =
    let e : up a + down b ≤ up b + down a = omega (arith, ints) in
    rw (is_gap a, is_gap b) (simp (pos-gap, gap-mul) (gap-le _ _ _ _ (omega (arith, mul-le-mul_left k e))))

rearrange_more : (a k n j : ℕ) → a * (n + j) + (a + k) * n ≤ a * n + (a + k) * (n + j)
rearrange_more a k n j = omega arith

-- the products of two rising pairs
pub rearrange : (a b n m : ℕ) → a ≤ b → n ≤ m → a * m + b * n ≤ a * n + b * m
rearrange a b n m h k =
    let e : a + (b - a) ≡ b = omega arith in
    let f : n + (m - n) ≡ m = omega arith in
    subst (λ (y : ℕ). a * y + b * n ≤ a * n + b * y) f (subst (λ (x : ℕ). a * (n + (m - n)) + x * n ≤ a * n + x * (n + (m - n))) e (rearrange_more a (b - a) n (m - n)))

-- a number at least 0 is a natural
pub natural : (x : ℤ) → pos 0 ≤ℤ x → x ≡ pos (up x)
natural (pos n) h = refl
natural (negsuc n) h = absurd (omega (arith, ints))

pub mul_nonneg : (a b x : ℤ) → a ≤ℤ b → pos 0 ≤ℤ x → (a *ℤ x) ≤ℤ (b *ℤ x)
mul_nonneg a b x h k = rw (natural x k) (mul_pos a b (up x) h)

pub mul_nonpos : (a b x : ℤ) → a ≤ℤ b → x ≤ℤ pos 0 → (b *ℤ x) ≤ℤ (a *ℤ x)
mul_nonpos a b x h k =
    let e : up a + down b ≤ up b + down a = omega (arith, ints) in
    let n : up x ≤ down x = omega (arith, ints) in
    rw (is_gap a, is_gap b, is_gap x) (simp gap-mul (gap-le _ _ _ _ (omega (arith, rearrange (up a + down b) (up b + down a) (up x) (down x) e n))))

pub distr_left : (k a b : ℤ) → k *ℤ (a +ℤ b) ≡ k *ℤ a +ℤ k *ℤ b
distr_left k a b = rw (is_gap k, is_gap a, is_gap b) (simp (gap-mul, gap-add) (gap-same _ _ _ _ (omega arith)))

pub mul_zero_ℤ : (k : ℤ) → k *ℤ pos 0 ≡ pos 0
mul_zero_ℤ k = rw (is_gap k) (simp (pos-gap, gap-mul) (gap-same _ _ _ _ (omega arith)))

pub zero_mul_ℤ : (k : ℤ) → pos 0 *ℤ k ≡ pos 0
zero_mul_ℤ k = rw (is_gap k) (simp (pos-gap, gap-mul) (gap-same _ _ _ _ (omega arith)))

pub mul_strict : (a b : ℤ) (k : ℕ) → a <ℤ b → 0 < k → (a *ℤ pos k) <ℤ (b *ℤ pos k)
mul_strict a b k h l =
    let e : suc (up a + down b) ≤ up b + down a = omega (arith, ints) in
    rw (is_gap a, is_gap b) (simp (pos-gap, gap-mul) (gap-lt _ _ _ _ (omega (arith, mul-le-mul_left k e))))

pub pow_above : (q n : ℕ) → 0 < q → 0 < q ^ n
pow_above q n h = one-le-pow n q h

pub swap_ℤ : (a b : ℤ) → a *ℤ b ≡ b *ℤ a
swap_ℤ a b = rw (is_gap a, is_gap b) (simp gap-mul (gap-same _ _ _ _ (omega arith)))

pub assoc_swap : (v a b : ℤ) → (v *ℤ a) *ℤ b ≡ (v *ℤ b) *ℤ a
assoc_swap v a b = rw (is_gap v, is_gap a, is_gap b) (simp gap-mul (gap-same _ _ _ _ (omega arith)))

-- a factor of naturals, taken apart
pub mul_pos_mul : (v : ℤ) (j k : ℕ) → (v *ℤ pos j) *ℤ pos k ≡ v *ℤ pos (k * j)
mul_pos_mul v j k = rw (is_gap v) (simp (pos-gap, gap-mul) (gap-same _ _ _ _ (omega arith)))

-- a common factor above 0 is taken away
pub cancel_le_ℤ : (x y : ℤ) (k : ℕ) → 0 < k → (x *ℤ pos k) ≤ℤ (y *ℤ pos k) → x ≤ℤ y
cancel_le_ℤ x y k l h = by_lt_z y x (λ g. absurd (omega (arith, ints, mul_strict y x k g l))) (λ g. g)

pub cancel_ℤ : (x y : ℤ) (k : ℕ) → 0 < k → x *ℤ pos k ≡ y *ℤ pos k → x ≡ y
cancel_ℤ x y k l e = omega (arith, ints, cancel_le_ℤ x y k l (omega (arith, ints)), cancel_le_ℤ y x k l (omega (arith, ints)))

pub cancel_le : (x y k : ℕ) → 0 < k → x * k ≤ y * k → x ≤ y
cancel_le x y k l h = elim (cases_order x y) [
  | inl e ↦ omega arith
  | inr o ↦ elim o [ inl g ↦ omega arith | inr g ↦ absurd (omega (arith, mul-le-mul_left k g)) ]
]

-- with a/p and b/q equal, what is at most c/r is so for both, and so is what is at least c/r
pub equal_at_most : (a b c : ℤ) (p q r : ℕ) → 0 < p → a *ℤ pos q ≡ b *ℤ pos p → (a *ℤ pos r) ≤ℤ (c *ℤ pos p) → (b *ℤ pos r) ≤ℤ (c *ℤ pos q)
equal_at_most a b c p q r l e h = cancel_le_ℤ _ _ p l (omega (
  arith,
  ints,
  mul_pos _ _ q h,
  assoc_swap a (pos q) (pos r),
  ap (λ (z : ℤ). z *ℤ pos r) e,
  assoc_swap b (pos p) (pos r),
  assoc_swap c (pos p) (pos q),
))

pub equal_at_least : (a b c : ℤ) (p q r : ℕ) → 0 < p → a *ℤ pos q ≡ b *ℤ pos p → (c *ℤ pos p) ≤ℤ (a *ℤ pos r) → (c *ℤ pos q) ≤ℤ (b *ℤ pos r)
equal_at_least a b c p q r l e h = cancel_le_ℤ _ _ p l (omega (
  arith,
  ints,
  mul_pos _ _ q h,
  assoc_swap a (pos q) (pos r),
  ap (λ (z : ℤ). z *ℤ pos r) e,
  assoc_swap b (pos p) (pos r),
  assoc_swap c (pos p) (pos q),
))

-- sizes of a sum and of a difference
pub size_add : (a b : ℤ) → unsigned_abs (a +ℤ b) ≤ unsigned_abs a + unsigned_abs b
size_add a b = omega (arith, ints)

pub size_sub : (a b : ℤ) → unsigned_abs (a -ℤ b) ≤ unsigned_abs a + unsigned_abs b
size_sub a b = omega (arith, ints)
