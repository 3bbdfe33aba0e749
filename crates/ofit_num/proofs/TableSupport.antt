-- The losses of the table are supported by their spans, over any rows.
use Rattle.std.proofs.Common.{◌≡◌, ℕ, zero, suc, ◌+◌, ◌*◌, ◌^◌, ◌<◌, sym, ap, ap₂, ◌∙◌, arith, List, [], ◌∷◌}
use Rattle.std.proofs.lemmas.Int.{ints, by_lt_z, unsigned_abs-mul}
use Rattle.std.proofs.Math.Nat.{pow-zero, pow-succ'}
use Rattle.std.specs.Prelude.{ℤ, pos, negsuc, ◌+ℤ◌, ◌-ℤ◌, ◌*ℤ◌, ◌≤ℤ◌, unsigned_abs}
use borrow.Author.Differences.{up, down}
use Rattle.ofit_num.specs.declared.row.Row.{Row}
use Rattle.ofit_num.specs.Problem.{Problem}
use Rattle.ofit_num.specs.Law.{HasSupport}
use Rattle.ofit_num.specs.Loss.{Factors, residual, factor_of, row_sum, int_row_sum, absolute_least, absolute_greatest, squared_end, table_loss}
use Rattle.ofit_num.proofs.Gap.{is_gap, gap-same, gap-add, gap-sub, gap-mul, pos-gap}
use Rattle.ofit_num.proofs.Order.{zero_mul_ℤ, mul_zero_ℤ, mul_nonneg, mul_nonpos}
use Rattle.ofit_num.proofs.RowSums.{int_row_sum-mono}
use Rattle.ofit_num.proofs.TableScaling.{factor_of-scale, absolute_least-scale, absolute_greatest-scale, row_cost, first_power}
use Rattle.ofit_num.proofs.Absolute.{sides, ends_ordered, cost, least_support, greatest_support}
use Rattle.ofit_num.proofs.Certified.{weaken}
use Rattle.ofit_num.proofs.Squared.{square_cost, slope, square_support}

spread : (n a b x : ℤ) → n *ℤ ((a +ℤ b) *ℤ x) ≡ n *ℤ (a *ℤ x) +ℤ n *ℤ (b *ℤ x)
spread n a b x = rw (is_gap n, is_gap a, is_gap b, is_gap x) (simp (gap-mul, gap-add) (gap-same _ _ _ _ (omega arith)))

nothing : (n x : ℤ) → n *ℤ (pos 0 *ℤ x) ≡ pos 0
nothing n x = ap (λ (z : ℤ). n *ℤ z) (zero_mul_ℤ x) ∙ mul_zero_ℤ n

joined : (a b c d j k : ℕ) (x y z : ℤ) → pos (a * j) ≤ℤ (pos (c * k) +ℤ x) → pos (b * j) ≤ℤ (pos (d * k) +ℤ y) → z ≡ x +ℤ y → pos ((a + b) * j) ≤ℤ (pos ((c + d) * k) +ℤ z)
joined a b c d j k x y z h l e = omega (arith, ints)

-- the support of each row gives that of the rows together
pub rows_support : (c d : Row → ℕ) (end : Row → ℤ) (j k : ℕ) (n x : ℤ) (rs : List Row) → ((r : Row) → pos (c r * j) ≤ℤ (pos (d r * k) +ℤ n *ℤ (end r *ℤ x)))
    → pos (row_sum c rs * j) ≤ℤ (pos (row_sum d rs * k) +ℤ n *ℤ (int_row_sum end rs *ℤ x))
rows_support c d end j k n x [] h = omega (arith, ints, nothing n x)
rows_support c d end j k n x (r ∷ rs) h = joined (c r) (row_sum c rs) (d r) (row_sum d rs) j k _ _ _ (h r) (rows_support c d end j k n x rs h) (spread n (end r) (int_row_sum end rs) x)

-- two residuals of one row, over both denominators, are apart by the rise
pub apart : (y p p' : ℤ) (q q' : ℕ) → (pos q *ℤ y -ℤ p) *ℤ pos q' -ℤ (pos q' *ℤ y -ℤ p') *ℤ pos q ≡ p' *ℤ pos q -ℤ p *ℤ pos q'
apart y p p' q q' = rw (is_gap y, is_gap p, is_gap p') (simp (pos-gap, gap-mul, gap-sub) (gap-same _ _ _ _ (omega arith)))

pub square : (n : ℕ) → n ^ 2 ≡ n * n
square n = pow-succ' n 1 ∙ ap (λ (k : ℕ). n * k) (sym (first_power n))

square_sides : (k : Factors) (x : ℤ) → factor_of k x * (unsigned_abs x * unsigned_abs x) ≡ k.above * (up x * up x) + k.below * (down x * down x)
square_sides k (pos zero) = omega arith
square_sides k (pos (suc n)) = omega arith
square_sides k (negsuc n) = omega arith

-- a row's cost over both denominators is that of its residual times the other one
absolute_cost : (k : Factors) (w q : ℕ) (x : ℤ) → 0 < q → cost k w (up (x *ℤ pos q)) (down (x *ℤ pos q)) ≡ w * (factor_of k x * unsigned_abs x ^ 1) * q ^ 1
absolute_cost k w q x l =
    ap (λ (n : ℕ). w * n) (sym (sides k (x *ℤ pos q)))
    ∙ ap (λ (n : ℕ). w * (factor_of k (x *ℤ pos q) * n)) (first_power (unsigned_abs (x *ℤ pos q)))
    ∙ ap (λ (c : ℕ). w * (c * unsigned_abs (x *ℤ pos q) ^ 1)) (factor_of-scale k x q l)
    ∙ row_cost 1 w (factor_of k x) (unsigned_abs x) (unsigned_abs (x *ℤ pos q)) q (unsigned_abs-mul x (pos q))

squared_cost : (k : Factors) (w q : ℕ) (x : ℤ) → 0 < q → square_cost k w (up (x *ℤ pos q)) (down (x *ℤ pos q)) ≡ w * (factor_of k x * unsigned_abs x ^ 2) * q ^ 2
squared_cost k w q x l =
    ap (λ (n : ℕ). w * n) (sym (square_sides k (x *ℤ pos q)))
    ∙ ap (λ (n : ℕ). w * (factor_of k (x *ℤ pos q) * n)) (sym (square (unsigned_abs (x *ℤ pos q))))
    ∙ ap (λ (c : ℕ). w * (c * unsigned_abs (x *ℤ pos q) ^ 2)) (factor_of-scale k x q l)
    ∙ row_cost 2 w (factor_of k x) (unsigned_abs x) (unsigned_abs (x *ℤ pos q)) q (unsigned_abs-mul x (pos q))

no_factor : (q : ℕ) (z : ℤ) → z ≡ pos (1 * q ^ 0) *ℤ z
no_factor q z = once z ∙ ap (λ (n : ℕ). pos (1 * n) *ℤ z) (sym (pow-zero q)) where
  once : (z : ℤ) → z ≡ pos 1 *ℤ z
  once z = rw (is_gap z) (simp (pos-gap, gap-mul) (gap-same _ _ _ _ (omega arith)))

replaced : (a b c d : ℕ) (x y : ℤ) → a ≡ c → b ≡ d → x ≡ y → pos a ≤ℤ (pos b +ℤ x) → pos c ≤ℤ (pos d +ℤ y)
replaced a b c d x y e f g h = omega (arith, ints)

module _ (k : Factors) (p p' : ℤ) (q q' : ℕ) (l : 0 < q) (l' : 0 < q') where
  abbrev rise : ℤ
  rise = p' *ℤ pos q -ℤ p *ℤ pos q'

  least_row : (r : Row) → pos (r.weight * (factor_of k (residual r p q) * unsigned_abs (residual r p q) ^ 1) * q' ^ 1)
      ≤ℤ (pos (r.weight * (factor_of k (residual r p' q') * unsigned_abs (residual r p' q') ^ 1) * q ^ 1) +ℤ pos (1 * q' ^ 0) *ℤ (absolute_least k r.weight (residual r p q) *ℤ rise))
  least_row r = replaced _ _ _ _ _ _
      (absolute_cost k r.weight q' (residual r p q) l')
      (absolute_cost k r.weight q (residual r p' q') l)
      (ap₂ (λ (a b : ℤ). a *ℤ b) (absolute_least-scale k r.weight (residual r p q) q' l') (apart r.value p p' q q') ∙ no_factor q' _)
      (least_support k r.weight (residual r p q *ℤ pos q') (residual r p' q' *ℤ pos q))

  greatest_row : (r : Row) → pos (r.weight * (factor_of k (residual r p q) * unsigned_abs (residual r p q) ^ 1) * q' ^ 1)
      ≤ℤ (pos (r.weight * (factor_of k (residual r p' q') * unsigned_abs (residual r p' q') ^ 1) * q ^ 1) +ℤ pos (1 * q' ^ 0) *ℤ (absolute_greatest k r.weight (residual r p q) *ℤ rise))
  greatest_row r = replaced _ _ _ _ _ _
      (absolute_cost k r.weight q' (residual r p q) l')
      (absolute_cost k r.weight q (residual r p' q') l)
      (ap₂ (λ (a b : ℤ). a *ℤ b) (absolute_greatest-scale k r.weight (residual r p q) q' l') (apart r.value p p' q q') ∙ no_factor q' _)
      (greatest_support k r.weight (residual r p q *ℤ pos q') (residual r p' q' *ℤ pos q))

  slope_over : (w : ℕ) (v x : ℤ) → slope k w (v *ℤ pos q') *ℤ x ≡ pos (2 * q' ^ 1) *ℤ (squared_end k w v *ℤ x)
  slope_over w v x =
      ap (λ (c : ℕ). (pos 2 *ℤ (pos (w * c) *ℤ (v *ℤ pos q'))) *ℤ x) (factor_of-scale k v q' l')
      ∙ turned (pos 2) (pos (w * factor_of k v)) v (pos q') x
      ∙ ap (λ (n : ℕ). pos (2 * n) *ℤ (squared_end k w v *ℤ x)) (first_power q')
    where
      turned : (t c v n x : ℤ) → (t *ℤ (c *ℤ (v *ℤ n))) *ℤ x ≡ (t *ℤ n) *ℤ ((c *ℤ v) *ℤ x)
      turned t c v n x = rw (is_gap t, is_gap c, is_gap v, is_gap n, is_gap x) (simp gap-mul (gap-same _ _ _ _ (omega arith)))

  square_row : (r : Row) → pos (r.weight * (factor_of k (residual r p q) * unsigned_abs (residual r p q) ^ 2) * q' ^ 2)
      ≤ℤ (pos (r.weight * (factor_of k (residual r p' q') * unsigned_abs (residual r p' q') ^ 2) * q ^ 2) +ℤ pos (2 * q' ^ 1) *ℤ (squared_end k r.weight (residual r p q) *ℤ rise))
  square_row r = replaced _ _ _ _ _ _
      (squared_cost k r.weight q' (residual r p q) l')
      (squared_cost k r.weight q (residual r p' q') l)
      (ap (λ (z : ℤ). slope k r.weight (residual r p q *ℤ pos q') *ℤ z) (apart r.value p p' q q') ∙ slope_over r.weight (residual r p q) (p' *ℤ pos q -ℤ p *ℤ pos q'))
      (square_support k r.weight (residual r p q *ℤ pos q') (residual r p' q' *ℤ pos q))

-- between two supports lies each number between them
pub between_supports : (c d k : ℕ) (low high b x : ℤ) → pos c ≤ℤ (pos d +ℤ pos k *ℤ (low *ℤ x)) → pos c ≤ℤ (pos d +ℤ pos k *ℤ (high *ℤ x)) → low ≤ℤ b → b ≤ℤ high → pos c ≤ℤ (pos d +ℤ pos k *ℤ (b *ℤ x))
between_supports c d k low high b x h j above within = by_lt_z x (pos 0)
    (λ down. weaken c d k (high *ℤ x) (b *ℤ x) j (mul_nonpos b high x within (omega (arith, ints))))
    (λ up. weaken c d k (low *ℤ x) (b *ℤ x) h (mul_nonneg low b x above up))

-- what one row costs
abbrev row_part : ℕ → Factors → ℤ → ℕ → Row → ℕ
row_part d f p q r = r.weight * (factor_of f (residual r p q) * unsigned_abs (residual r p q) ^ d)

-- Each loss of degree 1 or 2 has the support law, over all rows.
pub absolute-support : (f : Factors) (s : Problem) → HasSupport (table_loss 1 f) s
absolute-support f s = record {
  ordered = λ g l p q lq. int_row_sum-mono _ _ (s.rows g) (λ r. ends_ordered f r.weight (residual r p q));
  support = λ g l p p' q q' lq lq' b above within. between_supports _ _ _ _ _ b (p' *ℤ pos q -ℤ p *ℤ pos q')
      (rows_support (row_part 1 f p q) (row_part 1 f p' q') (λ r. absolute_least f r.weight (residual r p q)) (q' ^ 1) (q ^ 1) (pos (1 * q' ^ 0)) (p' *ℤ pos q -ℤ p *ℤ pos q') (s.rows g) (least_row f p p' q q' lq lq'))
      (rows_support (row_part 1 f p q) (row_part 1 f p' q') (λ r. absolute_greatest f r.weight (residual r p q)) (q' ^ 1) (q ^ 1) (pos (1 * q' ^ 0)) (p' *ℤ pos q -ℤ p *ℤ pos q') (s.rows g) (greatest_row f p p' q q' lq lq')) above within;
}

pub squared-support : (f : Factors) (s : Problem) → HasSupport (table_loss 2 f) s
squared-support f s = record {
  ordered = λ g l p q lq. omega (arith, ints);
  support = λ g l p p' q q' lq lq' b above within. between_supports _ _ _ _ _ b (p' *ℤ pos q -ℤ p *ℤ pos q')
      (rows_support (row_part 2 f p q) (row_part 2 f p' q') (λ r. squared_end f r.weight (residual r p q)) (q' ^ 2) (q ^ 2) (pos (2 * q' ^ 1)) (p' *ℤ pos q -ℤ p *ℤ pos q') (s.rows g) (square_row f p p' q q' lq lq'))
      (rows_support (row_part 2 f p q) (row_part 2 f p' q') (λ r. squared_end f r.weight (residual r p q)) (q' ^ 2) (q ^ 2) (pos (2 * q' ^ 1)) (p' *ℤ pos q -ℤ p *ℤ pos q') (s.rows g) (square_row f p p' q q' lq lq')) above within;
}
