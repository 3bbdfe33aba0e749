-- A loss's laws over the groups of a problem, as fits and certificates take them.
use Rattle.std.proofs.Common.{◌≡◌, ℕ, zero, suc, ◌-◌, ◌<◌, ◌^◌, List, [], ◌∷◌, ◌++◌, length, take, drop, subst, arith, inl, inr}
use Rattle.std.specs.Prelude.{Bool, true, Any, ℤ, pos, ◌*ℤ◌, ◌≤ℤ◌, ◌<ℤ◌, slice_get, Some, unwrap_or}
use Rattle.ofit_num.specs.declared.row.Row.{Row}
use Rattle.ofit_num.specs.Problem.{Problem, Bounds, problem_of}
use Rattle.ofit_num.specs.Meaning.{Meaning}
use Rattle.ofit_num.specs.Fraction.{Fraction}
use Rattle.ofit_num.specs.Below.{Below}
use Rattle.ofit_num.specs.RowTotals.{all_rows}
use Rattle.ofit_num.specs.Law.{HasSupport, HasFallingSpans, HasScaling, least_at, greatest_at}
use Rattle.ofit_num.specs.Sets.{set_sum}
use Rattle.ofit_num.specs.Block.{IsPooled, IsCost}
use Rattle.ofit_num.proofs.RowLists.{all_rows-split, within-front, within-back}
use Rattle.ofit_num.proofs.TableFalling.{proportional}
use Rattle.ofit_loss.specs.Rows.{IsPlain, AreFittable}
use Rattle.ofit_loss.proofs.Plain.{special_count-append}
use Rattle.ofit_loss.specs.Laws.{HasLossLaws, HasFittableGroups}
use Rattle.ofit_loss.specs.Least.{IsLeastMinimiser}

-- parts of rows that a loss takes
pub fittable-front : (xs ys : List Row) → AreFittable (xs ++ ys) → AreFittable xs
fittable-front xs ys h = record { limits = within-front xs ys h.limits; special = omega (arith, h.special, special_count-append xs ys) }

pub fittable-back : (xs ys : List Row) → AreFittable (xs ++ ys) → AreFittable ys
fittable-back xs ys h = record { limits = within-back xs ys h.limits; special = omega (arith, h.special, special_count-append xs ys) }

pub group_fittable : (groups : List (List Row)) (k : ℕ) (rows : List Row) → slice_get groups k ≡ Some rows → AreFittable (all_rows groups) → AreFittable rows
group_fittable groups k rows e h =
    fittable-front rows (all_rows (drop (suc k) groups)) (fittable-back (all_rows (take k groups)) _ (subst AreFittable (all_rows-split groups k rows e) h))

-- so each group of a list of groups is of rows that a loss takes, where all rows together are
pub groups_fittable : (groups : List (List Row)) (pairs : List (ℕ × ℕ)) (bounds : ℕ → Bounds) → AreFittable (all_rows groups) → HasFittableGroups (problem_of groups pairs bounds)
groups_fittable groups pairs bounds h = record { groups = λ g l. at groups g l h } where
  at : (groups : List (List Row)) (g : ℕ) → g < length groups → AreFittable (all_rows groups) → AreFittable (unwrap_or (slice_get groups g) [])
  at [] g l h = absurd (omega arith)
  at (rows ∷ groups) zero l h = fittable-front rows (all_rows groups) h
  at (rows ∷ groups) (suc g) l h = at groups g (omega arith) (fittable-back rows (all_rows groups) h)

pub some_degree : (m : Meaning) (strict : Bool) → HasLossLaws m strict → 0 < m.degree
some_degree m strict laws = elim laws.degree [ inl e ↦ omega (arith, e) | inr e ↦ omega (arith, e) ]

module _ (m : Meaning) (strict : Bool) (laws : HasLossLaws m strict) (s : Problem) (fit : HasFittableGroups s) where
  pub problem_support : HasSupport m s
  problem_support = record {
    ordered = λ g l p q lq. (laws.support (s.rows g) (fit.groups g l)).ordered p q lq;
    support = λ g l p p' q q' lq lq' b above within. (laws.support (s.rows g) (fit.groups g l)).support p p' q q' lq lq' b above within;
  }

  pub problem_scaling : HasScaling m s
  problem_scaling = record {
    cost = λ g l k q p lk lq. (laws.scaling (s.rows g) (fit.groups g l)).cost k q p lk lq;
    least = λ g l k q p lk lq. (laws.scaling (s.rows g) (fit.groups g l)).least k q p lk lq;
    greatest = λ g l k q p lk lq. (laws.scaling (s.rows g) (fit.groups g l)).greatest k q p lk lq;
  }

  pub problem_falling : HasFallingSpans m s
  problem_falling = record {
    ordered = λ g l c lc. (laws.support (s.rows g) (fit.groups g l)).ordered c.num c.den lc;
    least = λ g l c b lc lb same. proportional (m.least (s.rows g)) (m.degree - 1) (laws.scaling (s.rows g) (fit.groups g l)).least c b lc lb same;
    greatest = λ g l c b lc lb same. proportional (m.greatest (s.rows g)) (m.degree - 1) (laws.scaling (s.rows g) (fit.groups g l)).greatest c b lc lb same;
    falls = λ g l c b lc lb h. (laws.falling (s.rows g) (fit.groups g l)).falls c b lc lb h;
  }

  -- where the loss is strict, the spans of a group with a plain row fall strictly
  pub problem_strictness : strict ≡ true → (g : ℕ) → g < s.count → Any IsPlain (s.rows g) → (c b : Fraction) → 0 < c.den → 0 < b.den → Below c b
      → (greatest_at m s b g *ℤ pos (c.den ^ (m.degree - 1))) <ℤ (least_at m s c g *ℤ pos (b.den ^ (m.degree - 1)))
  problem_strictness is g l plain c b lc lb h = (laws.strictness is (s.rows g) (fit.groups g l) plain).falls c b lc lb h

-- Rows whose balances are those of a piece have the piece's pooled value as their least minimiser.
module _ (m : Meaning) (strict : Bool) (s : Problem) (piece : ℕ → Bool) (rows : List Row) (c : Fraction) where
  pub pooled_minimiser : ((b : Fraction) → 0 < b.den → m.least rows b.num b.den ≡ set_sum piece (least_at m s b) s.count) → IsLeastMinimiser m strict rows c → IsPooled m s piece c
  pooled_minimiser sums h = record {
    den = h.den;
    least = subst (λ (z : ℤ). z ≤ℤ pos 0) (sums c h.den) h.least;
    smaller = λ b lb below. subst (λ (z : ℤ). pos 0 <ℤ z) (sums b lb) (h.smaller b lb below);
  }

  pub pooled_costs : ((b : Fraction) → 0 < b.den → m.greatest rows b.num b.den ≡ set_sum piece (greatest_at m s b) s.count) → IsLeastMinimiser m strict rows c → IsCost strict (set_sum piece (greatest_at m s c) s.count)
  pooled_costs sums h = subst (IsCost strict) (sums c h.den) h.greatest
