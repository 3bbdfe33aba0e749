-- where a loss is strict, every other value costs more than the support law says
use Rattle.std.proofs.Common.{◌≡◌, ℕ, ◌+◌, ◌*◌, ◌<◌, ◌≤◌, ap, ◌∙◌, arith, mul-pos, mul-le-mul_left}
use borrow.Author.Differences.{up, down}
use Rattle.std.proofs.lemmas.Int.{ints, by_lt_z}
use Rattle.std.specs.Prelude.{ℤ, pos, ◌+ℤ◌, ◌*ℤ◌, ◌≤ℤ◌, ◌<ℤ◌}
use Rattle.ofit_num.proofs.Gap.{gap, is_gap, gap-same, gap-add, gap-mul, pos-gap}

-- the same over naturals, e as e1 - e2 and f as f1 - f2
over_naturals : (cc cz cb z za q qa r ra d e1 e2 f1 f2 : ℕ)
    → cc * (z * za) + d * za * q * e2 ≤ cz * (q * qa) + d * za * q * e1
    → cz * (r * ra) + d * ra * r * f2 ≤ cb * (z * za) + d * ra * r * f1
    → f1 * qa + e2 * za < e1 * za + f2 * qa
    → z ≡ 2 * (q * r) → 0 < q → 0 < r → 0 < ra → 0 < d
    → cb * (q * qa) + d * ra * e1 ≤ cc * (r * ra) + d * ra * e2 → ⊥
over_naturals cc cz cb z za q qa r ra d e1 e2 f1 f2 one two fall is_z lq lr lra ld h =
    let k : 0 < d * ra * (r * q) = mul-pos (mul-pos ld lra) (mul-pos lr lq) in
    let p : (r * ra) * (cc * (z * za) + d * za * q * e2) ≤ (r * ra) * (cz * (q * qa) + d * za * q * e1) = mul-le-mul_left (r * ra) one in
    let t : (q * qa) * (cz * (r * ra) + d * ra * r * f2) ≤ (q * qa) * (cb * (z * za) + d * ra * r * f1) = mul-le-mul_left (q * qa) two in
    let w : d * ra * (r * q) * (f1 * qa + e2 * za) + d * ra * (r * q) ≤ d * ra * (r * q) * (e1 * za + f2 * qa) = grown (d * ra * (r * q)) _ _ fall in
    let y : (z * za) * (cb * (q * qa) + d * ra * e1) ≤ (z * za) * (cc * (r * ra) + d * ra * e2) = mul-le-mul_left (z * za) h in
    omega (arith, ap (λ (n : ℕ). d * ra * e1 * za * n) is_z, ap (λ (n : ℕ). d * ra * e2 * za * n) is_z) where
      grown : (n a b : ℕ) → a < b → n * a + n ≤ n * b
      grown n a b l = omega (arith, mul-le-mul_left n l)

times_gap : (n u v : ℕ) → pos n *ℤ gap u v +ℤ pos (n * v) ≡ pos (n * u)
times_gap n u v = simp (pos-gap, gap-mul, gap-add) (gap-same _ _ _ _ (omega arith))

pub times : (n : ℕ) (x : ℤ) → pos n *ℤ x +ℤ pos (n * down x) ≡ pos (n * up x)
times n x = ap (λ (z : ℤ). pos n *ℤ z +ℤ pos (n * down x)) (is_gap x) ∙ times_gap n (up x) (down x)

turn : (x : ℤ) (n : ℕ) → x *ℤ pos n ≡ pos n *ℤ x
turn x n = rw (is_gap x) (simp (pos-gap, gap-mul) (gap-same _ _ _ _ (omega arith)))

from_le : (a b j k n : ℕ) (x : ℤ) → pos (a * j) ≤ℤ (pos (b * k) +ℤ pos n *ℤ x) → a * j + n * down x ≤ b * k + n * up x
from_le a b j k n x h = omega (arith, ints, times n x)

to_le : (a b j k n : ℕ) (x : ℤ) → (pos (a * j) +ℤ pos n *ℤ x) ≤ℤ pos (b * k) → a * j + n * up x ≤ b * k + n * down x
to_le a b j k n x h = omega (arith, ints, times n x)

-- The two supports, from c to the middle and from the middle to b, and the strict fall between them.
-- z is the middle's denominator, za its power below the degree; likewise q, qa of c and r, ra of b; e and f are the ends at c and at the middle, times the rise; v, m, u are the costs at c, the middle and b.
pub middle : (v m u z za q qa r ra d : ℕ) (e f : ℤ)
    → pos (v * (z * za)) ≤ℤ (pos (m * (q * qa)) +ℤ pos (d * za * q) *ℤ e)
    → pos (m * (r * ra)) ≤ℤ (pos (u * (z * za)) +ℤ pos (d * ra * r) *ℤ f)
    → (f *ℤ pos qa) <ℤ (e *ℤ pos za)
    → z ≡ 2 * (q * r) → 0 < q → 0 < r → 0 < ra → 0 < d
    → pos (v * (r * ra)) <ℤ (pos (u * (q * qa)) +ℤ pos (d * ra) *ℤ e)
middle v m u z za q qa r ra d e f one two fall is_z lq lr lra ld =
    let falls : up f * qa + down e * za < up e * za + down f * qa = omega (arith, ints, times qa f, times za e, turn f qa, turn e za) in
    by_lt_z (pos (v * (r * ra))) (pos (u * (q * qa)) +ℤ pos (d * ra) *ℤ e) (λ h. h) (λ h. absurd (over_naturals v m u z za q qa r ra d (up e) (down e) (up f) (down f)
    (from_le v m (z * za) (q * qa) (d * za * q) e one) (from_le m u (r * ra) (z * za) (d * ra * r) f two) falls is_z lq lr lra ld (to_le u v (q * qa) (r * ra) (d * ra) e h)))
