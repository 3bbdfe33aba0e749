-- The weighted mean is the least minimiser under squares, and the balances there are small.
use Rattle.std.proofs.Common.{◌≡◌, ℕ, ◌*◌, ◌≤◌, ◌<◌, ◌^◌, List, [], ◌∷◌, length, sym, ap, ap₂, ◌∙◌, subst, arith, mul-le-mul_left}
use Rattle.std.proofs.lemmas.Nat.{mul-le}
use Rattle.std.proofs.lemmas.Int.{ints, by_lt_z, unsigned_abs-mul}
use Rattle.std.specs.Prelude.{ℤ, pos, true, max, ◌+ℤ◌, ◌-ℤ◌, ◌*ℤ◌, ◌<ℤ◌, unsigned_abs}
use Rattle.ofit_num.specs.declared.row.Row.{Row}
use Rattle.ofit_num.specs.Fraction.{Fraction}
use Rattle.ofit_num.specs.Below.{Below}
use Rattle.ofit_num.specs.RowTotals.{total_weight}
use Rattle.ofit_num.specs.RowLimits.{IsRowWithinLimits, AreWithinLimits}
use Rattle.ofit_num.specs.Loss.{residual, squared_end, squares}
use Rattle.ofit_num.proofs.Order.{mul_pos, zero_mul_ℤ, swap_ℤ, size_sub}
use Rattle.ofit_num.proofs.RowSums.{row_sum-sum_by}
use Rattle.ofit_loss.specs.Squares.{weighted_sum}
use Rattle.ofit_loss.specs.Least.{IsLeastMinimiser, balance_sizes}
use Rattle.ofit_loss.specs.TableLaws.{row_balance, squares-balance, balance_falls, some_weight}
use Rattle.ofit_loss.proofs.Sizes.{sizes_within}

-- the same with the weight as std sums it
pub balance : (rows : List Row) (p : ℤ) (q : ℕ) → squares.least rows p q ≡ pos q *ℤ weighted_sum rows -ℤ p *ℤ pos (total_weight rows)
balance rows p q = squares-balance rows p q ∙ ap (λ (n : ℕ). pos q *ℤ weighted_sum rows -ℤ p *ℤ pos n) (row_sum-sum_by (λ (r : Row). r.weight) rows)

pub weighs : (rows : List Row) → AreWithinLimits rows → 0 < length rows → 0 < total_weight rows
weighs rows fit some = subst (λ (n : ℕ). 0 < n) (row_sum-sum_by (λ (r : Row). r.weight) rows) (some_weight rows fit some)

positive_factor : (x : ℤ) (k : ℕ) → pos 0 <ℤ (x *ℤ pos k) → pos 0 <ℤ x
positive_factor x k h = by_lt_z (pos 0) x (λ g. g) (λ g. absurd (omega (arith, ints, mul_pos x (pos 0) k g, zero_mul_ℤ (pos k))))

vanishes : (s p : ℤ) (w q : ℕ) → p *ℤ pos w ≡ s *ℤ pos q → pos q *ℤ s -ℤ p *ℤ pos w ≡ pos 0
vanishes s p w q e = omega (arith, ints, swap_ℤ (pos q) s)

pub least_minimiser : (rows : List Row) (c : Fraction) → AreWithinLimits rows → 0 < length rows → 0 < c.den → c.num *ℤ pos (total_weight rows) ≡ weighted_sum rows *ℤ pos c.den → IsLeastMinimiser squares true rows c
least_minimiser rows c fit some l same =
    let zero_there : squares.least rows c.num c.den ≡ pos 0 = balance rows c.num c.den ∙ vanishes (weighted_sum rows) c.num (total_weight rows) c.den same in
    record {
      den = l;
      least = omega (arith, ints, zero_there);
      greatest = omega (arith, ints, zero_there);
      smaller = λ b lb below. subst (λ (z : ℤ). pos 0 <ℤ z) (sym (balance rows b.num b.den))
          (positive_factor _ c.den (above b below));
    } where
      above : (b : Fraction) → Below b c → pos 0 <ℤ ((pos b.den *ℤ weighted_sum rows -ℤ b.num *ℤ pos (total_weight rows)) *ℤ pos c.den)
      above b below = omega (
        arith,
        ints,
        balance_falls (weighted_sum rows) b.num c.num (total_weight rows) b.den c.den (weighs rows fit some) below,
        ap (λ (z : ℤ). z *ℤ pos b.den) (vanishes (weighted_sum rows) c.num (total_weight rows) c.den same),
        zero_mul_ℤ (pos b.den),
      )

row_size : (r : Row) (p : ℤ) (q : ℕ) → unsigned_abs r.value ≤ 10 ^ 9 → unsigned_abs p ≤ 10 ^ 21 → q ≤ 10 ^ 12 → unsigned_abs (pos q *ℤ (r.value *ℤ pos r.weight) -ℤ p *ℤ pos r.weight) ≤ 2 * 10 ^ 21 * r.weight
row_size r p q v n d = omega (
  arith,
  size_sub (pos q *ℤ (r.value *ℤ pos r.weight)) (p *ℤ pos r.weight),
  unsigned_abs-mul (pos q) (r.value *ℤ pos r.weight),
  ap (λ (k : ℕ). q * k) (unsigned_abs-mul r.value (pos r.weight)),
  unsigned_abs-mul p (pos r.weight),
  mul-le-mul_left r.weight n,
  mul-le-mul_left r.weight (mul-le q (unsigned_abs r.value) (10 ^ 12) (10 ^ 9) d v),
)

pub balances_within : (rows : List Row) (c : Fraction) → AreWithinLimits rows → unsigned_abs c.num ≤ 10 ^ 21 → c.den ≤ 10 ^ 12 → balance_sizes squares rows c ≤ 2 * 10 ^ 33
balances_within rows c fit n d = omega (arith, sizes_within _ (2 * 10 ^ 21) rows fit.each each, mul-le-mul_left (2 * 10 ^ 21) fit.together) where
  alone : (z : ℤ) → z +ℤ pos 0 ≡ z
  alone z = omega (arith, ints)

  each : (r : Row) → IsRowWithinLimits r → max (unsigned_abs (squares.least (r ∷ []) c.num c.den)) (unsigned_abs (squares.greatest (r ∷ []) c.num c.den)) ≤ 2 * 10 ^ 21 * r.weight
  each r h = omega (arith, ap unsigned_abs (alone (squared_end (record { above = 1; below = 1 }) r.weight (residual r c.num c.den)) ∙ row_balance r c.num c.den), row_size r c.num c.den h.value n d)

-- the cross products with both parts replaced by what they are
pub replaced : (p s s' w : ℤ) (q n : ℕ) → p *ℤ w ≡ s' *ℤ pos q → w ≡ pos n → s' ≡ s → p *ℤ pos n ≡ s *ℤ pos q
replaced p s s' w q n e f g = ap (λ (z : ℤ). p *ℤ z) (sym f) ∙ e ∙ ap (λ (z : ℤ). z *ℤ pos q) g

-- the balance by the sum and the weight that the code has
pub balance_of : (rows : List Row) (p : ℤ) (q : ℕ) (s : ℤ) (w : ℕ) → s ≡ weighted_sum rows → w ≡ total_weight rows → s *ℤ pos q -ℤ p *ℤ pos w ≡ squares.least rows p q
balance_of rows p q s w e f =
    ap₂ (λ (a b : ℤ). a -ℤ b) (swap_ℤ s (pos q) ∙ ap (λ (z : ℤ). pos q *ℤ z) e) (ap (λ (n : ℕ). p *ℤ pos n) f) ∙ sym (balance rows p q)

-- where the balance is 0, the value is the weighted mean
pub mean_of : (rows : List Row) (c : Fraction) → IsLeastMinimiser squares true rows c → c.num *ℤ pos (total_weight rows) ≡ weighted_sum rows *ℤ pos c.den
mean_of rows c h = omega (arith, ints, balance rows c.num c.den, h.least, h.greatest, swap_ℤ (pos c.den) (weighted_sum rows))
