-- The losses of the table at k·p, k·q: costs grow with k to the degree, spans with one power less.
use Rattle.std.proofs.Common.{◌≡◌, ℕ, zero, suc, ◌*◌, ◌^◌, ◌<◌, refl, sym, ap, ◌∙◌, arith, List}
use Rattle.std.proofs.lemmas.Int.{ints, unsigned_abs-mul}
use Rattle.std.proofs.lemmas.Nat.{mul-pow}
use Rattle.std.proofs.Math.Nat.{pow-zero, pow-succ'}
use Rattle.std.specs.Prelude.{ℤ, pos, negsuc, ◌-ℤ◌, ◌*ℤ◌, ◌<ℤ◌, unsigned_abs}
use Rattle.ofit_num.specs.declared.row.Row.{Row}
use Rattle.ofit_num.specs.Problem.{Problem}
use Rattle.ofit_num.specs.Law.{HasScaling}
use Rattle.ofit_num.specs.Loss.{Factors, residual, factor_of, int_row_sum, absolute_least, absolute_greatest, squared_end, table_loss}
use Rattle.ofit_num.proofs.Gap.{is_gap, gap-same, gap-sub, gap-mul, pos-gap, assoc}
use Rattle.ofit_num.proofs.Order.{mul_strict, zero_mul_ℤ}
use Rattle.ofit_num.proofs.RowSums.{row_sum-scale, row_sum-same, int_row_sum-scale, int_row_sum-same}

grown : (q k : ℕ) (y p : ℤ) → pos (q * k) *ℤ y -ℤ p *ℤ pos k ≡ (pos q *ℤ y -ℤ p) *ℤ pos k
grown q k y p = rw (is_gap y, is_gap p) (simp (pos-gap, gap-mul, gap-sub) (gap-same _ _ _ _ (omega arith)))

-- residuals are k times as large
pub residual-scale : (r : Row) (k q : ℕ) (p : ℤ) → residual r (p *ℤ pos k) (q * k) ≡ residual r p q *ℤ pos k
residual-scale r k q p = grown q k r.value p

-- P depends on the sign alone
by_sign : {A : Type 0} (at above below : A) (P : ℤ → A) → ((n : ℕ) → P (pos (suc n)) ≡ above) → ((n : ℕ) → P (negsuc n) ≡ below) → (x : ℤ) (k : ℕ) → 0 < k → P (x *ℤ pos k) ≡ P x
by_sign at above below P ha hb (pos zero) k l = ap P (zero_mul_ℤ (pos k))
by_sign at above below P ha hb (pos (suc n)) k l = up_side (pos (suc n) *ℤ pos k) (omega (arith, ints, mul_strict (pos 0) (pos (suc n)) k (omega (arith, ints)) l, zero_mul_ℤ (pos k))) ∙ sym (ha n) where
  up_side : (z : ℤ) → pos 0 <ℤ z → P z ≡ above
  up_side (pos zero) h = absurd (omega (arith, ints))
  up_side (pos (suc j)) h = ha j
  up_side (negsuc j) h = absurd (omega (arith, ints))
by_sign at above below P ha hb (negsuc n) k l = down_side (negsuc n *ℤ pos k) (omega (arith, ints, mul_strict (negsuc n) (pos 0) k (omega (arith, ints)) l, zero_mul_ℤ (pos k))) ∙ sym (hb n) where
  down_side : (z : ℤ) → z <ℤ pos 0 → P z ≡ below
  down_side (pos j) h = absurd (omega (arith, ints))
  down_side (negsuc j) h = hb j

pub factor_of-scale : (f : Factors) (x : ℤ) (k : ℕ) → 0 < k → factor_of f (x *ℤ pos k) ≡ factor_of f x
factor_of-scale f x k l = by_sign f.below f.above f.below (factor_of f) (λ n. refl) (λ n. refl) x k l

pub absolute_least-scale : (f : Factors) (w : ℕ) (x : ℤ) (k : ℕ) → 0 < k → absolute_least f w (x *ℤ pos k) ≡ absolute_least f w x
absolute_least-scale f w x k l = by_sign (pos 0 -ℤ pos (w * f.below)) (pos (w * f.above)) (pos 0 -ℤ pos (w * f.below)) (absolute_least f w) (λ n. refl) (λ n. refl) x k l

pub absolute_greatest-scale : (f : Factors) (w : ℕ) (x : ℤ) (k : ℕ) → 0 < k → absolute_greatest f w (x *ℤ pos k) ≡ absolute_greatest f w x
absolute_greatest-scale f w x k l = by_sign (pos (w * f.above)) (pos (w * f.above)) (pos 0 -ℤ pos (w * f.below)) (absolute_greatest f w) (λ n. refl) (λ n. refl) x k l

pub squared_end-scale : (f : Factors) (w : ℕ) (x : ℤ) (k : ℕ) → 0 < k → squared_end f w (x *ℤ pos k) ≡ squared_end f w x *ℤ pos k
squared_end-scale f w x k l = ap (λ (c : ℕ). pos (w * c) *ℤ (x *ℤ pos k)) (factor_of-scale f x k l) ∙ sym (assoc (pos (w * factor_of f x)) x (pos k))

pub row_cost : (d w c a b k : ℕ) → b ≡ a * k → w * (c * b ^ d) ≡ w * (c * a ^ d) * k ^ d
row_cost d w c a b k e = ap (λ (n : ℕ). w * (c * n ^ d)) e ∙ ap (λ (n : ℕ). w * (c * n)) (mul-pow a k d) ∙ times w c (a ^ d) (k ^ d) where
  times : (w c x y : ℕ) → w * (c * (x * y)) ≡ w * (c * x) * y
  times w c x y = omega arith

pub table_cost-scale : (d : ℕ) (f : Factors) (rows : List Row) (k q : ℕ) (p : ℤ) → 0 < k → (table_loss d f).cost rows (p *ℤ pos k) (q * k) ≡ (table_loss d f).cost rows p q * k ^ d
table_cost-scale d f rows k q p l =
    row_sum-same _ _ rows (λ r. ap (λ (z : ℤ). r.weight * (factor_of f z * unsigned_abs z ^ d)) (residual-scale r k q p)
    ∙ ap (λ (c : ℕ). r.weight * (c * unsigned_abs (residual r p q *ℤ pos k) ^ d)) (factor_of-scale f (residual r p q) k l)
    ∙ row_cost d r.weight (factor_of f (residual r p q)) (unsigned_abs (residual r p q)) (unsigned_abs (residual r p q *ℤ pos k)) k (unsigned_abs-mul (residual r p q) (pos k)))
    ∙ row_sum-scale (λ r. r.weight * (factor_of f (residual r p q) * unsigned_abs (residual r p q) ^ d)) (k ^ d) rows

pub times_one : (z : ℤ) → z ≡ z *ℤ pos 1
times_one z = rw (is_gap z) (simp (pos-gap, gap-mul) (gap-same _ _ _ _ (omega arith)))

pub no_power : (z : ℤ) (k : ℕ) → z ≡ z *ℤ pos (k ^ 0)
no_power z k = times_one z ∙ ap (λ (n : ℕ). z *ℤ pos n) (sym (pow-zero k))

pub first_power : (k : ℕ) → k ≡ k ^ 1
first_power k = omega (arith, pow-succ' k 0, ap (λ (n : ℕ). k * n) (pow-zero k))

-- Each loss of degree 1 or 2 has the scaling law, over all rows.
pub absolute-scaling : (f : Factors) (s : Problem) → HasScaling (table_loss 1 f) s
absolute-scaling f s = record {
  cost = λ g b k q p l lq. table_cost-scale 1 f (s.rows g) k q p l;
  least = λ g b k q p l lq.
      int_row_sum-same _ _ (s.rows g) (λ r. ap (absolute_least f r.weight) (residual-scale r k q p) ∙ absolute_least-scale f r.weight (residual r p q) k l) ∙ no_power _ k;
  greatest = λ g b k q p l lq.
      int_row_sum-same _ _ (s.rows g) (λ r. ap (absolute_greatest f r.weight) (residual-scale r k q p) ∙ absolute_greatest-scale f r.weight (residual r p q) k l) ∙ no_power _ k;
}

squared_ends : (f : Factors) (rows : List Row) (k q : ℕ) (p : ℤ) → 0 < k
    → int_row_sum (λ r. squared_end f r.weight (residual r (p *ℤ pos k) (q * k))) rows ≡ int_row_sum (λ r. squared_end f r.weight (residual r p q)) rows *ℤ pos (k ^ 1)
squared_ends f rows k q p l =
    int_row_sum-same _ _ rows (λ r. ap (squared_end f r.weight) (residual-scale r k q p) ∙ squared_end-scale f r.weight (residual r p q) k l)
    ∙ int_row_sum-scale (λ r. squared_end f r.weight (residual r p q)) (pos k) rows
    ∙ ap (λ (n : ℕ). int_row_sum (λ r. squared_end f r.weight (residual r p q)) rows *ℤ pos n) (first_power k)

pub squared-scaling : (f : Factors) (s : Problem) → HasScaling (table_loss 2 f) s
squared-scaling f s = record {
  cost = λ g b k q p l lq. table_cost-scale 2 f (s.rows g) k q p l;
  least = λ g b k q p l lq. squared_ends f (s.rows g) k q p l;
  greatest = λ g b k q p l lq. squared_ends f (s.rows g) k q p l;
}
