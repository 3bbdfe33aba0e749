-- Squares and the median have the laws of a loss. The proofs stand here since an impl cites no proof of its own crate.
use Rattle.std.specs.Prelude.{◌≡◌, ℕ, ◌+◌, ◌*◌, ◌<◌, refl, true, false, List, [], ◌∷◌, length, ℤ, pos, ◌+ℤ◌, ◌-ℤ◌, ◌*ℤ◌, ◌<ℤ◌, Bool, Any, ◌⊎◌}
use Rattle.std.proofs.Common.{inl, inr, sym, ap, ap₂, ◌∙◌, subst, arith}
use Rattle.std.proofs.lemmas.Int.{ints}
use Rattle.std.proofs.lemmas.List.Elements.{All-head}
use Rattle.ofit_num.specs.declared.row.Row.{Row}
use Rattle.ofit_num.specs.Problem.{Problem}
use Rattle.ofit_num.specs.Unbounded.{no_bounds}
use Rattle.ofit_num.specs.RowLimits.{IsRowWithinLimits, AreWithinLimits}
use Rattle.ofit_num.specs.Loss.{residual, row_sum, squared_end, squares, median, Factors, table_loss}
use Rattle.ofit_num.proofs.Gap.{is_gap, gap-same, gap-add, gap-sub, gap-mul, pos-gap}
use Rattle.ofit_num.proofs.Order.{mul_strict, mul_zero_ℤ}
use Rattle.ofit_num.proofs.RowSums.{row_sum-append, int_row_sum-append}
use Rattle.ofit_num.proofs.TableScaling.{absolute-scaling, squared-scaling, first_power}
use Rattle.ofit_num.proofs.TableSupport.{absolute-support, squared-support}
use Rattle.ofit_num.proofs.TableFalling.{absolute-falling, squared-falling}
use Rattle.ofit_loss.specs.Squares.{weighted_sum}
use Rattle.ofit_loss.specs.Laws.{FallsStrictly, HasLossLaws}
use Rattle.ofit_num.proofs.StrictSquares.{factor_one}
use Rattle.ofit_num.specs.Law.{HasSupport, HasFallingSpans, HasScaling}
use Rattle.ofit_loss.specs.Rows.{IsPlain, AreFittable}

-- the problem of one group
abbrev one_group : List Row → Problem
one_group rows = record { count = 1; rows = λ g. rows; pairs = []; bounds = no_bounds }

first : 0 < 1
first = omega arith

-- The laws of a loss of the table, from its laws over each problem.
module _ (d : ℕ) (k : Factors) (scaling : (s : Problem) → HasScaling (table_loss d k) s) (support : (s : Problem) → HasSupport (table_loss d k) s) (falling : (s : Problem) → HasFallingSpans (table_loss d k) s) (strict : Bool)
    (strictness : strict ≡ true → (rows : List Row) → AreFittable rows → Any IsPlain rows → FallsStrictly (table_loss d k) rows) where
  pub table-laws : (d ≡ 1) ⊎ (d ≡ 2) → HasLossLaws (table_loss d k) strict
  table-laws degree = record {
    degree = degree;
    none = record { cost = λ p q l. refl; least = λ p q l. refl; greatest = λ p q l. refl };
    sums = λ xs ys fit. record {
      cost = λ p q l. row_sum-append _ xs ys;
      least = λ p q l. int_row_sum-append _ xs ys;
      greatest = λ p q l. int_row_sum-append _ xs ys;
    };
    scaling = λ rows fit. record {
      cost = λ k q p l lq. (scaling (one_group rows)).cost 0 first k q p l lq;
      least = λ k q p l lq. (scaling (one_group rows)).least 0 first k q p l lq;
      greatest = λ k q p l lq. (scaling (one_group rows)).greatest 0 first k q p l lq;
    };
    support = λ rows fit. record {
      ordered = λ p q l. (support (one_group rows)).ordered 0 first p q l;
      support = λ p p' q q' l l' b. (support (one_group rows)).support 0 first p p' q q' l l' b;
    };
    falling = λ rows fit. record { falls = λ c b l l' h. (falling (one_group rows)).falls 0 first c b l l' h };
    strictness = strictness;
  }

-- residuals that count the same above and below
abbrev even : Factors
even = record { above = 1; below = 1 }

pub median-laws : HasLossLaws median false
median-laws = table-laws 1 even (absolute-scaling even) (absolute-support even) (absolute-falling even) false (λ strict. absurd (no_strict strict)) (inl refl) where
  no_strict : false ≡ true → ⊥
  no_strict e = cc

pub row_balance : (r : Row) (p : ℤ) (q : ℕ) → squared_end (record { above = 1; below = 1 }) r.weight (residual r p q) ≡ pos q *ℤ (r.value *ℤ pos r.weight) -ℤ p *ℤ pos r.weight
row_balance r p q = ap (λ (c : ℕ). pos (r.weight * c) *ℤ residual r p q) (factor_one (residual r p q)) ∙ turned r.weight r.value p q where
  turned : (w : ℕ) (y p : ℤ) (q : ℕ) → pos (w * 1) *ℤ (pos q *ℤ y -ℤ p) ≡ pos q *ℤ (y *ℤ pos w) -ℤ p *ℤ pos w
  turned w y p q = rw (is_gap y, is_gap p) (simp (pos-gap, gap-mul, gap-sub) (gap-same _ _ _ _ (omega arith)))

joined : (s t p : ℤ) (q a b : ℕ) → (pos q *ℤ s -ℤ p *ℤ pos a) +ℤ (pos q *ℤ t -ℤ p *ℤ pos b) ≡ pos q *ℤ (s +ℤ t) -ℤ p *ℤ pos (a + b)
joined s t p q a b = rw (is_gap s, is_gap t, is_gap p) (simp (pos-gap, gap-mul, gap-sub, gap-add) (gap-same _ _ _ _ (omega arith)))

-- The span of squares is q times the weighted sum less p times the weight.
pub squares-balance : (rows : List Row) (p : ℤ) (q : ℕ) → squares.least rows p q ≡ pos q *ℤ weighted_sum rows -ℤ p *ℤ pos (row_sum (λ r. r.weight) rows)
squares-balance [] p q = sym (none p q) where
  none : (p : ℤ) (q : ℕ) → pos q *ℤ pos 0 -ℤ p *ℤ pos 0 ≡ pos 0
  none p q = omega (arith, ints, mul_zero_ℤ (pos q), mul_zero_ℤ p)
squares-balance (r ∷ rows) p q = ap₂ (λ (a b : ℤ). a +ℤ b) (row_balance r p q) (squares-balance rows p q) ∙ joined _ _ p q r.weight _

opened : (s p : ℤ) (w q r : ℕ) → (pos r *ℤ s -ℤ p *ℤ pos w) *ℤ pos q ≡ pos (r * q) *ℤ s -ℤ (p *ℤ pos q) *ℤ pos w
opened s p w q r = rw (is_gap s, is_gap p) (simp (pos-gap, gap-mul, gap-sub) (gap-same _ _ _ _ (omega arith)))

-- of two values the smaller one has the greater balance, over both denominators
pub balance_falls : (s p p' : ℤ) (w q q' : ℕ) → 0 < w → (p *ℤ pos q') <ℤ (p' *ℤ pos q) → ((pos q' *ℤ s -ℤ p' *ℤ pos w) *ℤ pos q) <ℤ ((pos q *ℤ s -ℤ p *ℤ pos w) *ℤ pos q')
balance_falls s p p' w q q' l h = omega (
  arith,
  ints,
  opened s p' w q q',
  opened s p w q' q,
  mul_strict _ _ w h l,
  ap (λ (n : ℕ). pos n *ℤ s) (turn q q'),
) where
  turn : (q q' : ℕ) → q' * q ≡ q * q'
  turn q q' = omega arith

-- rows within the limits weigh something
pub some_weight : (rows : List Row) → AreWithinLimits rows → 0 < length rows → 0 < row_sum (λ r. r.weight) rows
some_weight [] fit some = absurd (omega arith)
some_weight (r ∷ rows) fit some = omega (arith, (All-head IsRowWithinLimits r rows fit.each).weight)

strict : (rows : List Row) → 0 < row_sum (λ r. r.weight) rows → FallsStrictly squares rows
strict rows l = record { falls = λ c b lc lb h. powers _ _ _ _ _ _ _ _ (first_power c.den) (first_power b.den) (squares-balance rows c.num c.den) (squares-balance rows b.num b.den) (balance_falls (weighted_sum rows) c.num b.num (row_sum (λ r. r.weight) rows) c.den b.den l h) } where
  powers : (x y x' y' : ℤ) (i j i' j' : ℕ) → i ≡ i' → j ≡ j' → x ≡ x' → y ≡ y' → (y' *ℤ pos i) <ℤ (x' *ℤ pos j) → (y *ℤ pos i') <ℤ (x *ℤ pos j')
  powers x y x' y' i j i' j' ei ej ex ey h =
      subst (λ (n : ℕ). (y *ℤ pos n) <ℤ (x *ℤ pos j')) ei (subst (λ (n : ℕ). (y *ℤ pos i) <ℤ (x *ℤ pos n)) ej
      (subst (λ (z : ℤ). (z *ℤ pos i) <ℤ (x *ℤ pos j)) (sym ey) (subst (λ (z : ℤ). (y' *ℤ pos i) <ℤ (z *ℤ pos j)) (sym ex) h)))

pub squares-laws : HasLossLaws squares true
squares-laws = table-laws 2 even (squared-scaling even) (squared-support even) (squared-falling even) true (λ same rows fit plain. strict rows (some_weight rows fit.limits (omega arith))) (inr refl)
