-- Under squares a best fit is the only one: half way between two best trials costs less than either where they differ.
use Rattle.std.proofs.Common.{◌≡◌, ℕ, zero, suc, ◌+◌, ◌*◌, ◌^◌, ◌<◌, ◌≤◌, refl, sym, ap, ap₂, subst, ◌∙◌, arith, mul-pos, List, [], ◌∷◌}
use Rattle.std.proofs.lemmas.Int.{ints, unsigned_abs-mul}
use Rattle.std.proofs.lemmas.Nat.{mul-pow}
use Rattle.std.specs.Prelude.{ℤ, pos, negsuc, ◌+ℤ◌, ◌-ℤ◌, ◌*ℤ◌, ◌≤ℤ◌, unsigned_abs, Option, Some, None, IfSome}
use Rattle.ofit_num.specs.declared.row.Row.{Row}
use Rattle.ofit_num.specs.Problem.{Problem}
use Rattle.ofit_num.specs.Fraction.{Fraction}
use Rattle.ofit_num.specs.Trial.{Trial, trial_of}
use Rattle.ofit_num.specs.Fit.{Obeys, sum_below, trial_cost, Best, LeastBest, BestValues, LeastBestValues}
use Rattle.ofit_num.specs.Loss.{residual, factor_of, row_sum, squares}
use Rattle.ofit_num.proofs.Gap.{is_gap, gap-same, gap-add, gap-sub, gap-mul, pos-gap}
use Rattle.ofit_num.proofs.Order.{add_mono, mul_pos, cancel_le}
use Rattle.ofit_num.proofs.Sums.{sum_below-term}
use Rattle.ofit_num.proofs.TableSupport.{apart, square}

-- the trial half way between two
abbrev pub midway : Trial → Trial → Trial
midway t u = record {
  value = λ g. t.value g *ℤ pos u.scale +ℤ u.value g *ℤ pos t.scale;
  scale = 2 * (t.scale * u.scale);
}

low_mid : (o : Option ℤ) (a b : ℤ) (p q : ℕ) → IfSome o (λ lo. (lo *ℤ pos p) ≤ℤ a) → IfSome o (λ lo. (lo *ℤ pos q) ≤ℤ b) → IfSome o (λ lo. (lo *ℤ pos (2 * (p * q))) ≤ℤ (a *ℤ pos q +ℤ b *ℤ pos p))
low_mid None a b p q h k = tt
low_mid (Some lo) a b p q h k = omega (arith, ints, twice lo p q, mul_pos _ _ q h, mul_pos _ _ p k) where
  twice : (v : ℤ) (p q : ℕ) → v *ℤ pos (2 * (p * q)) ≡ (v *ℤ pos p) *ℤ pos q +ℤ (v *ℤ pos q) *ℤ pos p
  twice v p q = rw (is_gap v) (simp (pos-gap, gap-mul, gap-add) (gap-same _ _ _ _ (omega arith)))

high_mid : (o : Option ℤ) (a b : ℤ) (p q : ℕ) → IfSome o (λ hi. a ≤ℤ (hi *ℤ pos p)) → IfSome o (λ hi. b ≤ℤ (hi *ℤ pos q)) → IfSome o (λ hi. (a *ℤ pos q +ℤ b *ℤ pos p) ≤ℤ (hi *ℤ pos (2 * (p * q))))
high_mid None a b p q h k = tt
high_mid (Some hi) a b p q h k = omega (arith, ints, twice hi p q, mul_pos _ _ q h, mul_pos _ _ p k) where
  twice : (v : ℤ) (p q : ℕ) → v *ℤ pos (2 * (p * q)) ≡ (v *ℤ pos p) *ℤ pos q +ℤ (v *ℤ pos q) *ℤ pos p
  twice v p q = rw (is_gap v) (simp (pos-gap, gap-mul, gap-add) (gap-same _ _ _ _ (omega arith)))

pub Obeys-midway : (s : Problem) (t u : Trial) → Obeys s t → Obeys s u → Obeys s (midway t u)
Obeys-midway s t u ot ou = record {
  scale = mul-pos (omega arith) (mul-pos ot.scale ou.scale);
  pairs = λ k d l. add_mono _ _ _ _ (mul_pos _ _ u.scale (ot.pairs k d l)) (mul_pos _ _ t.scale (ou.pairs k d l));
  low = λ g l. low_mid (s.bounds g).lo (t.value g) (u.value g) t.scale u.scale (ot.low g l) (ou.low g l);
  high = λ g l. high_mid (s.bounds g).hi (t.value g) (u.value g) t.scale u.scale (ot.high g l) (ou.high g l);
}

size_square : (z : ℤ) → pos (unsigned_abs z ^ 2) ≡ z *ℤ z
size_square (pos n) = ap pos (square n)
size_square (negsuc n) = ap pos (square (suc n))

parallelogram : (a b : ℤ) → (a +ℤ b) *ℤ (a +ℤ b) +ℤ (a -ℤ b) *ℤ (a -ℤ b) ≡ (a *ℤ a +ℤ a *ℤ a) +ℤ (b *ℤ b +ℤ b *ℤ b)
parallelogram a b = rw (is_gap a, is_gap b) (simp (gap-mul, gap-add, gap-sub) (gap-same _ _ _ _ (omega arith)))

sizes : (a b : ℤ) → unsigned_abs (a +ℤ b) ^ 2 + unsigned_abs (a -ℤ b) ^ 2 ≡ 2 * unsigned_abs a ^ 2 + 2 * unsigned_abs b ^ 2
sizes a b = omega (arith, ints, size_square (a +ℤ b), size_square (a -ℤ b), size_square a, size_square b, parallelogram a b)

pub factor_one : (z : ℤ) → factor_of (record { above = 1; below = 1 }) z ≡ 1
factor_one (pos zero) = refl
factor_one (pos (suc n)) = refl
factor_one (negsuc n) = refl

-- the residual half way is the sum of the two over both scales
between : (y t u : ℤ) (p q : ℕ) → pos (2 * (p * q)) *ℤ y -ℤ (t *ℤ pos q +ℤ u *ℤ pos p) ≡ (pos p *ℤ y -ℤ t) *ℤ pos q +ℤ (pos q *ℤ y -ℤ u) *ℤ pos p
between y t u p q = rw (is_gap y, is_gap t, is_gap u) (simp (pos-gap, gap-mul, gap-sub, gap-add) (gap-same _ _ _ _ (omega arith)))

-- what a row costs under squares
abbrev row_square : ℤ → ℕ → Row → ℕ
row_square p q r = r.weight * (factor_of (record { above = 1; below = 1 }) (residual r p q) * unsigned_abs (residual r p q) ^ 2)

times_size : (z : ℤ) (k : ℕ) → unsigned_abs (z *ℤ pos k) ^ 2 ≡ unsigned_abs z ^ 2 * k ^ 2
times_size z k = ap (λ (n : ℕ). n ^ 2) (unsigned_abs-mul z (pos k)) ∙ mul-pow (unsigned_abs z) k 2

weighed : (w m x a b i j k : ℕ) → m + x ≡ 2 * a + 2 * b → i ≡ 1 → j ≡ 1 → k ≡ 1 → w * (i * m) + w * x ≡ 2 * (w * (j * a)) + 2 * (w * (k * b))
weighed w m x a b i j k e f g h = omega (
  arith,
  ap (λ (n : ℕ). w * n) e,
  ap (λ (n : ℕ). w * (n * m)) f,
  ap (λ (n : ℕ). w * (n * a)) g,
  ap (λ (n : ℕ). w * (n * b)) h,
)

row_midway : (r : Row) (t u : ℤ) (p q : ℕ) → row_square (t *ℤ pos q +ℤ u *ℤ pos p) (2 * (p * q)) r + r.weight * unsigned_abs (u *ℤ pos p -ℤ t *ℤ pos q) ^ 2
    ≡ 2 * (row_square t p r * q ^ 2) + 2 * (row_square u q r * p ^ 2)
row_midway r t u p q =
    weighed r.weight _ _ (unsigned_abs (residual r t p) ^ 2 * q ^ 2) (unsigned_abs (residual r u q) ^ 2 * p ^ 2) _ _ _ parts (factor_one _) (factor_one (residual r t p)) (factor_one (residual r u q))
    ∙ regroup r.weight (factor_of (record { above = 1; below = 1 }) (residual r t p)) (unsigned_abs (residual r t p) ^ 2) (q ^ 2) (factor_of (record { above = 1; below = 1 }) (residual r u q)) (unsigned_abs (residual r u q) ^ 2) (p ^ 2)
  where
    parts : unsigned_abs (residual r (t *ℤ pos q +ℤ u *ℤ pos p) (2 * (p * q))) ^ 2 + unsigned_abs (u *ℤ pos p -ℤ t *ℤ pos q) ^ 2 ≡ 2 * (unsigned_abs (residual r t p) ^ 2 * q ^ 2) + 2 * (unsigned_abs (residual r u q) ^ 2 * p ^ 2)
    parts =
        ap₂ (λ (a b : ℤ). unsigned_abs a ^ 2 + unsigned_abs b ^ 2) (between r.value t u p q) (sym (apart r.value t u p q))
        ∙ sizes (residual r t p *ℤ pos q) (residual r u q *ℤ pos p)
        ∙ ap₂ (λ (a b : ℕ). 2 * a + 2 * b) (times_size (residual r t p) q) (times_size (residual r u q) p)

    regroup : (w i a k j b l : ℕ) → 2 * (w * (i * (a * k))) + 2 * (w * (j * (b * l))) ≡ 2 * (w * (i * a) * k) + 2 * (w * (j * b) * l)
    regroup w i a k j b l = omega arith

rows_midway : (rs : List Row) (t u : ℤ) (p q : ℕ) → row_sum (row_square (t *ℤ pos q +ℤ u *ℤ pos p) (2 * (p * q))) rs + row_sum (λ r. r.weight) rs * unsigned_abs (u *ℤ pos p -ℤ t *ℤ pos q) ^ 2
    ≡ 2 * (row_sum (row_square t p) rs * q ^ 2) + 2 * (row_sum (row_square u q) rs * p ^ 2)
rows_midway [] t u p q = omega arith
rows_midway (r ∷ rs) t u p q = omega (arith, row_midway r t u p q, rows_midway rs t u p q)

module _ (s : Problem) (t u : Trial) where
  distance : ℕ → ℕ
  distance g = row_sum (λ r. r.weight) (s.rows g) * unsigned_abs (u.value g *ℤ pos t.scale -ℤ t.value g *ℤ pos u.scale) ^ 2

  costs_midway : (n : ℕ) → sum_below (λ g. row_sum (row_square (t.value g *ℤ pos u.scale +ℤ u.value g *ℤ pos t.scale) (2 * (t.scale * u.scale))) (s.rows g)) n + sum_below distance n
      ≡ 2 * (sum_below (λ g. row_sum (row_square (t.value g) t.scale) (s.rows g)) n * u.scale ^ 2) + 2 * (sum_below (λ g. row_sum (row_square (u.value g) u.scale) (s.rows g)) n * t.scale ^ 2)
  unfolding distance
  costs_midway zero = omega arith
  costs_midway (suc n) = omega (arith, costs_midway n, rows_midway (s.rows n) (t.value n) (u.value n) t.scale u.scale)

  -- a cost at most that half way, with the common power taken away
  quarter : (c m p q : ℕ) → 0 < p → c * (2 * (p * q)) ^ 2 ≤ m * p ^ 2 → 4 * (c * q ^ 2) ≤ m
  quarter c m p q l h = cancel_le _ _ (p ^ 2) (subst (λ (n : ℕ). 0 < n) (sym (square p)) (mul-pos l l)) (omega (arith, h, ap (λ (n : ℕ). c * n) (square (2 * (p * q))), ap (λ (n : ℕ). c * (q * q) * n) (square p), ap (λ (n : ℕ). c * n * p ^ 2) (square q)))

  no_distance : Best squares s t → Best squares s u → (g : ℕ) → g < s.count → distance g ≡ 0
  no_distance bt bu g l =
      let om : Obeys s (midway t u) = Obeys-midway s t u bt.obeys bu.obeys in
      let first : 4 * (trial_cost squares s t * u.scale ^ 2) ≤ trial_cost squares s (midway t u) = quarter _ _ t.scale u.scale bt.obeys.scale (bt.cheapest (midway t u) om).costs in
      let swapped : 2 * (t.scale * u.scale) ≡ 2 * (u.scale * t.scale) = omega arith in
      let second : 4 * (trial_cost squares s u * t.scale ^ 2) ≤ trial_cost squares s (midway t u) = quarter _ _ u.scale t.scale bu.obeys.scale (subst (λ (n : ℕ). trial_cost squares s u * n ^ 2 ≤ trial_cost squares s (midway t u) * u.scale ^ 2) swapped (bu.cheapest (midway t u) om).costs) in
      omega (arith, costs_midway s.count, sum_below-term distance s.count g l)

  -- Best trials have equal values at each place with a weight.
  pub best_squares-equal : Best squares s t → Best squares s u → (g : ℕ) → g < s.count → 0 < row_sum (λ r. r.weight) (s.rows g) → t.value g *ℤ pos u.scale ≡ u.value g *ℤ pos t.scale
  unfolding distance
  best_squares-equal bt bu g l w = same (u.value g *ℤ pos t.scale) (t.value g *ℤ pos u.scale) (zero_factor _ _ w (no_distance bt bu g l)) where
    zero_factor : (a n : ℕ) → 0 < a → a * n ^ 2 ≡ 0 → n ≡ 0
    zero_factor a zero l e = refl
    zero_factor a (suc n) l e = absurd (omega (arith, mul-pos l (subst (λ (k : ℕ). 0 < k) (sym (square (suc n))) (positive n)))) where
      positive : (n : ℕ) → 0 < suc n * suc n
      positive n = mul-pos (omega arith) (omega arith)

    same : (x y : ℤ) → unsigned_abs (x -ℤ y) ≡ 0 → y ≡ x
    same x y e = omega (arith, ints, none (x -ℤ y) e) where
      none : (z : ℤ) → unsigned_abs z ≡ 0 → z ≡ pos 0
      none (pos n) e = ap pos e
      none (negsuc n) e = absurd (omega arith)

-- Under squares, what is best is least best, where each place has a weight.
pub squares_least_best : (s : Problem) (t : Trial) → ((g : ℕ) → g < s.count → 0 < row_sum (λ r. r.weight) (s.rows g)) → Best squares s t → LeastBest squares s t
squares_least_best s t weights best = record {
  best = best;
  least = λ u bu g l. omega (arith, ints, best_squares-equal s t u best bu g l (weights g l));
}

-- the same of lists of values
pub squares_least_best_values : (s : Problem) (fs : List Fraction) → ((g : ℕ) → g < s.count → 0 < row_sum (λ r. r.weight) (s.rows g)) → BestValues squares s fs → LeastBestValues squares s fs
squares_least_best_values s fs weights best = record { count = best.count; least_best = squares_least_best s (trial_of fs) weights best.best }
