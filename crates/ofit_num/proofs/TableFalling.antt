-- The spans of the table's losses fall as the value rises, and are proportional at equal values.
use Rattle.std.proofs.Common.{◌≡◌, ℕ, zero, suc, ◌*◌, ◌^◌, ◌<◌, ◌≤◌, refl, sym, ap, ap₂, ◌∙◌, arith, mul-le-mul_left, List, [], ◌∷◌}
use Rattle.std.proofs.lemmas.Int.{ints}
use Rattle.std.proofs.Math.IntN.{*ℤ-negsuc}
use Rattle.std.specs.Prelude.{ℤ, pos, negsuc, ◌-ℤ◌, ◌*ℤ◌, ◌≤ℤ◌, ◌<ℤ◌}
use Rattle.ofit_num.specs.declared.row.Row.{Row}
use Rattle.ofit_num.specs.Problem.{Problem}
use Rattle.ofit_num.specs.Fraction.{Fraction, SameValue}
use Rattle.ofit_num.specs.Below.{Below}
use Rattle.ofit_num.specs.Law.{HasFallingSpans}
use Rattle.ofit_num.specs.Loss.{Factors, residual, int_row_sum, absolute_least, absolute_greatest, squared_end, table_loss}
use Rattle.ofit_num.proofs.Gap.{distr}
use Rattle.ofit_num.proofs.Order.{zero_mul_ℤ}
use Rattle.ofit_num.proofs.TableScaling.{absolute_least-scale, absolute_greatest-scale, squared_end-scale, absolute-scaling, squared-scaling, first_power, no_power}
use Rattle.ofit_num.proofs.TableSupport.{apart, absolute-support, squared-support}

-- with scaling, equal values have proportional ends
pub proportional : (e : ℤ → ℕ → ℤ) (n : ℕ) → ((k q : ℕ) (p : ℤ) → 0 < k → 0 < q → e (p *ℤ pos k) (q * k) ≡ e p q *ℤ pos (k ^ n))
    → (c b : Fraction) → 0 < c.den → 0 < b.den → SameValue c b → e c.num c.den *ℤ pos (b.den ^ n) ≡ e b.num b.den *ℤ pos (c.den ^ n)
proportional e n scaling c b lc lb same =
    sym (scaling b.den c.den c.num lb lc) ∙ ap₂ e same (omega arith) ∙ scaling c.den b.den b.num lc lb

-- the greatest end of a smaller residual is at most the least end of a greater one
absolute_falls : (f : Factors) (w : ℕ) (x y : ℤ) → x <ℤ y → absolute_greatest f w x ≤ℤ absolute_least f w y
absolute_falls f w (pos zero) (pos zero) h = absurd (omega (arith, ints))
absolute_falls f w (pos zero) (pos (suc n)) h = omega (arith, ints)
absolute_falls f w (pos zero) (negsuc n) h = absurd (omega (arith, ints))
absolute_falls f w (pos (suc m)) (pos zero) h = absurd (omega (arith, ints))
absolute_falls f w (pos (suc m)) (pos (suc n)) h = omega (arith, ints)
absolute_falls f w (pos (suc m)) (negsuc n) h = absurd (omega (arith, ints))
absolute_falls f w (negsuc m) (pos zero) h = omega (arith, ints)
absolute_falls f w (negsuc m) (pos (suc n)) h = omega (arith, ints)
absolute_falls f w (negsuc m) (negsuc n) h = omega (arith, ints)

-- the side of 0 that each is on
end_up : (f : Factors) (w n : ℕ) → squared_end f w (pos n) ≡ pos (w * f.above * n)
end_up f w zero = zero_end (w * f.below) where
  zero_end : (c : ℕ) → pos c *ℤ pos zero ≡ pos (w * f.above * zero)
  zero_end c = ap pos (omega arith)
end_up f w (suc n) = refl

end_down : (f : Factors) (w n : ℕ) → squared_end f w (negsuc n) ≡ pos 0 -ℤ pos (w * f.below * suc n)
end_down f w n = turned (w * f.below) n where
  turned : (c n : ℕ) → pos c *ℤ negsuc n ≡ pos 0 -ℤ pos (c * suc n)
  turned c n = *ℤ-negsuc (pos c) n ∙ omega (arith, ints)

times_more : (k m n : ℕ) → m ≤ n → k * m ≤ k * n
times_more k m n h = mul-le-mul_left k h

squared_rises : (f : Factors) (w : ℕ) (x y : ℤ) → x ≤ℤ y → squared_end f w x ≤ℤ squared_end f w y
squared_rises f w (pos m) (pos n) h = omega (arith, ints, end_up f w m, end_up f w n, times_more (w * f.above) m n (omega (arith, ints)))
squared_rises f w (pos m) (negsuc n) h = absurd (omega (arith, ints))
squared_rises f w (negsuc m) (pos n) h = omega (arith, ints, end_down f w m, end_up f w n)
squared_rises f w (negsuc m) (negsuc n) h = omega (arith, ints, end_down f w m, end_down f w n, times_more (w * f.below) (suc n) (suc m) (omega (arith, ints)))

-- residuals fall as the value rises, over both denominators
residual_falls : (r : Row) (c b : Fraction) → Below c b → (residual r b.num b.den *ℤ pos c.den) <ℤ (residual r c.num c.den *ℤ pos b.den)
residual_falls r c b h = omega (arith, ints, apart r.value c.num b.num c.den b.den)

sums_fall : (low high : Row → ℤ) (j k : ℕ) (rs : List Row) → ((r : Row) → (high r *ℤ pos j) ≤ℤ (low r *ℤ pos k)) → (int_row_sum high rs *ℤ pos j) ≤ℤ (int_row_sum low rs *ℤ pos k)
sums_fall low high j k [] h = omega (arith, ints, zero_mul_ℤ (pos j), zero_mul_ℤ (pos k))
sums_fall low high j k (r ∷ rs) h = omega (arith, ints, distr (high r) (int_row_sum high rs) (pos j), distr (low r) (int_row_sum low rs) (pos k), h r, sums_fall low high j k rs h)

absolute_row : (f : Factors) (c b : Fraction) → 0 < c.den → 0 < b.den → Below c b → (r : Row)
    → (absolute_greatest f r.weight (residual r b.num b.den) *ℤ pos (c.den ^ 0)) ≤ℤ (absolute_least f r.weight (residual r c.num c.den) *ℤ pos (b.den ^ 0))
absolute_row f c b lc lb h r = omega (
  arith,
  ints,
  no_power (absolute_greatest f r.weight (residual r b.num b.den)) c.den,
  no_power (absolute_least f r.weight (residual r c.num c.den)) b.den,
  absolute_falls f r.weight _ _ (residual_falls r c b h),
  absolute_greatest-scale f r.weight (residual r b.num b.den) c.den lc,
  absolute_least-scale f r.weight (residual r c.num c.den) b.den lb,
)

ordered_ends : (a b c d : ℤ) → a ≡ c → b ≡ d → a ≤ℤ b → c ≤ℤ d
ordered_ends a b c d e f h = omega (arith, ints)

squared_row : (f : Factors) (c b : Fraction) → 0 < c.den → 0 < b.den → Below c b → (r : Row)
    → (squared_end f r.weight (residual r b.num b.den) *ℤ pos (c.den ^ 1)) ≤ℤ (squared_end f r.weight (residual r c.num c.den) *ℤ pos (b.den ^ 1))
squared_row f c b lc lb h r = ordered_ends _ _ _ _
    (squared_end-scale f r.weight (residual r b.num b.den) c.den lc ∙ ap (λ (n : ℕ). squared_end f r.weight (residual r b.num b.den) *ℤ pos n) (first_power c.den))
    (squared_end-scale f r.weight (residual r c.num c.den) b.den lb ∙ ap (λ (n : ℕ). squared_end f r.weight (residual r c.num c.den) *ℤ pos n) (first_power b.den))
    (squared_rises f r.weight _ _ (omega (arith, ints, residual_falls r c b h)))

-- Each loss of degree 1 or 2 has falling spans, over all rows.
pub absolute-falling : (f : Factors) (s : Problem) → HasFallingSpans (table_loss 1 f) s
absolute-falling f s = record {
  ordered = λ g l c lc. (absolute-support f s).ordered g l c.num c.den lc;
  least = λ g l c b lc lb same. proportional ((table_loss 1 f).least (s.rows g)) 0 ((absolute-scaling f s).least g l) c b lc lb same;
  greatest = λ g l c b lc lb same. proportional ((table_loss 1 f).greatest (s.rows g)) 0 ((absolute-scaling f s).greatest g l) c b lc lb same;
  falls = λ g l c b lc lb h. sums_fall _ _ (c.den ^ 0) (b.den ^ 0) (s.rows g) (absolute_row f c b lc lb h);
}

pub squared-falling : (f : Factors) (s : Problem) → HasFallingSpans (table_loss 2 f) s
squared-falling f s = record {
  ordered = λ g l c lc. (squared-support f s).ordered g l c.num c.den lc;
  least = λ g l c b lc lb same. proportional ((table_loss 2 f).least (s.rows g)) 1 ((squared-scaling f s).least g l) c b lc lb same;
  greatest = λ g l c b lc lb same. proportional ((table_loss 2 f).greatest (s.rows g)) 1 ((squared-scaling f s).greatest g l) c b lc lb same;
  falls = λ g l c b lc lb h. sums_fall _ _ (c.den ^ 1) (b.den ^ 1) (s.rows g) (squared_row f c b lc lb h);
}
