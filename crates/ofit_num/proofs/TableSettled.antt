-- The spans of the table's losses fall slowly: one step lowers a residual by 1. So what is best under them is settled.
use Rattle.std.proofs.Common.{◌≡◌, ◌⊎◌, inl, inr, ℕ, zero, suc, ◌+◌, ◌*◌, refl, sym, subst, ap, arith, List, [], ◌∷◌}
use Rattle.std.proofs.lemmas.Int.{ints}
use Rattle.std.proofs.Math.IntN.{*ℤ-negsuc}
use Rattle.std.specs.Prelude.{ℤ, pos, negsuc, ◌+ℤ◌, ◌≤ℤ◌}
use Rattle.ofit_num.specs.declared.row.Row.{Row}
use Rattle.ofit_num.specs.Meaning.{Meaning}
use Rattle.ofit_num.specs.Problem.{Problem}
use Rattle.ofit_num.specs.Trial.{Trial}
use Rattle.ofit_num.specs.Fit.{Best, LeastBest}
use Rattle.ofit_num.specs.Settled.{IsSettled, IsLeastSettled}
use Rattle.ofit_num.specs.Loss.{Factors, squares, median, residual, row_sum, int_row_sum, absolute_least, absolute_greatest, squared_end, table_loss}
use Rattle.ofit_num.proofs.RowSums.{int_row_sum-mono}
use Rattle.ofit_num.proofs.TableScaling.{absolute-scaling, squared-scaling}
use Rattle.ofit_num.proofs.TableSupport.{absolute-support, squared-support}
use Rattle.ofit_num.proofs.BestSettled.{FallSlowly, best_settled, least_best_settled}

one_lower : (r : Row) (p : ℤ) (q : ℕ) → residual r (p +ℤ pos 1) q ≡ residual r p q +ℤ negsuc 0
one_lower r p q = omega (arith, ints)

rows_step : (c b : Row → ℤ) (w : Row → ℕ) (rs : List Row) → ((r : Row) → c r ≤ℤ (b r +ℤ pos (w r))) → int_row_sum c rs ≤ℤ (int_row_sum b rs +ℤ pos (row_sum w rs))
rows_step c b w [] h = omega (arith, ints)
rows_step c b w (r ∷ rs) h = omega (arith, ints, h r, rows_step c b w rs h)

lower : (n : ℕ) → pos (suc (suc n)) +ℤ negsuc 0 ≡ pos (suc n)
lower n = omega (arith, ints)

-- the ends of a whole residual are in order with those of the next one below it
absolute_step : (f : Factors) (w : ℕ) (x : ℤ) → absolute_least f w x ≤ℤ absolute_greatest f w (x +ℤ negsuc 0)
absolute_step f w (pos zero) = omega (arith, ints)
absolute_step f w (pos (suc zero)) = omega (arith, ints)
absolute_step f w (pos (suc (suc n))) = omega (arith, ints, ap (absolute_greatest f w) (lower n))
absolute_step f w (negsuc n) = omega (arith, ints)

-- and those of its square are apart by no more than the weight times both counts
squared_step : (f : Factors) (w : ℕ) (x : ℤ) → squared_end f w x ≤ℤ (squared_end f w (x +ℤ negsuc 0) +ℤ pos (w * (f.above + f.below)))
squared_step f w (pos zero) = omega (arith, ints, *ℤ-negsuc (pos (w * f.below)) 0)
squared_step f w (pos (suc zero)) = omega (arith, ints)
squared_step f w (pos (suc (suc n))) = omega (arith, ints, ap (squared_end f w) (lower n))
squared_step f w (negsuc n) = omega (arith, ints, *ℤ-negsuc (pos (w * f.below)) n, *ℤ-negsuc (pos (w * f.below)) (suc n))

absolute-slow : (f : Factors) (s : Problem) → FallSlowly (table_loss 1 f) s
absolute-slow f s = record {
  slack = λ g. 0;
  step = λ g l p q lq.
      at_most _ (int_row_sum (λ r. absolute_greatest f r.weight (residual r (p +ℤ pos 1) q)) (s.rows g)) (int_row_sum-mono (λ r. absolute_least f r.weight (residual r p q)) (λ r. absolute_greatest f r.weight (residual r (p +ℤ pos 1) q)) (s.rows g)
      (λ r. omega (arith, ints, absolute_step f r.weight (residual r p q), ap (absolute_greatest f r.weight) (one_lower r p q))));
} where
  at_most : (x y : ℤ) → x ≤ℤ y → x ≤ℤ (y +ℤ pos 0)
  at_most x y h = omega (arith, ints)

squared-slow : (f : Factors) (s : Problem) → FallSlowly (table_loss 2 f) s
squared-slow f s = record {
  slack = λ g. row_sum (λ r. r.weight * (f.above + f.below)) (s.rows g);
  step = λ g l p q lq.
      whole _ (int_row_sum (λ r. squared_end f r.weight (residual r (p +ℤ pos 1) q)) (s.rows g)) (row_sum (λ r. r.weight * (f.above + f.below)) (s.rows g)) (rows_step (λ r. squared_end f r.weight (residual r p q)) (λ r. squared_end f r.weight (residual r (p +ℤ pos 1) q)) (λ r. r.weight * (f.above + f.below)) (s.rows g)
      (λ r. omega (arith, ints, squared_step f r.weight (residual r p q), ap (squared_end f r.weight) (one_lower r p q))));
} where
  whole : (x y : ℤ) (n : ℕ) → x ≤ℤ (y +ℤ pos n) → x ≤ℤ (y +ℤ pos (1 * n))
  whole x y n h = omega (arith, ints)

-- Under absolute residuals what is best is settled.
pub absolute_best_settled : (f : Factors) (s : Problem) (t : Trial) → Best (table_loss 1 f) s t → IsSettled (table_loss 1 f) s t
absolute_best_settled f s t best = best_settled (table_loss 1 f) s t (omega arith) (absolute-support f s) (absolute-scaling f s) (absolute-slow f s) best

-- And the least of the best is least settled.
pub absolute_least_settled : (f : Factors) (s : Problem) (t : Trial) → LeastBest (table_loss 1 f) s t → IsLeastSettled (table_loss 1 f) s t
absolute_least_settled f s t least = least_best_settled (table_loss 1 f) s t refl (absolute-support f s) (absolute-scaling f s) (absolute-slow f s) least

-- Under squared residuals what is best is settled.
pub squared_best_settled : (f : Factors) (s : Problem) (t : Trial) → Best (table_loss 2 f) s t → IsSettled (table_loss 2 f) s t
squared_best_settled f s t best = best_settled (table_loss 2 f) s t (omega arith) (squared-support f s) (squared-scaling f s) (squared-slow f s) best

-- for squares, for the median, and for a loss that is one of the two
pub squares_best_settled : (s : Problem) (t : Trial) → Best squares s t → IsSettled squares s t
squares_best_settled s t best = squared_best_settled (record { above = 1; below = 1 }) s t best

pub median_best_settled : (s : Problem) (t : Trial) → Best median s t → IsSettled median s t
median_best_settled s t best = absolute_best_settled (record { above = 1; below = 1 }) s t best

pub either_best_settled : (m : Meaning) → (m ≡ squares) ⊎ (m ≡ median) → (s : Problem) (t : Trial) → Best m s t → IsSettled m s t
either_best_settled m kind s t = elim kind [
  | inl e ↦ subst (λ (k : Meaning). Best k s t → IsSettled k s t) (sym e) (squares_best_settled s t)
  | inr e ↦ subst (λ (k : Meaning). Best k s t → IsSettled k s t) (sym e) (median_best_settled s t)
]
