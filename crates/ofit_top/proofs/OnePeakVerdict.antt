-- A peaked sheet has at most one verdict.
use Rattle.std.proofs.Common.{◌≡◌, ℕ, zero, suc, ◌+◌, ◌-◌, ◌<◌, ◌≤◌, inl, inr, refl, sym, ap, ap₂, subst, ◌∙◌, arith, below_more}
use Rattle.std.proofs.lemmas.Bool.{cases_order}
use Rattle.std.specs.Prelude.{⊤}
use Rattle.ofit_num.specs.Problem.{Problem}
use Rattle.ofit_num.specs.Verdict.{AllBelow, FailsFirst}
use Rattle.ofit_num.proofs.Verdicts.{FailsFirst-same, not_all, one_depth}
use Rattle.ofit_sheet.specs.Peaked.{Peaked}
use Rattle.ofit_sheet.specs.PeakVerdict.{
  PeakVerdict,
  settings_differ,
  shape_breaks,
  cost_differs,
  rise_breaks,
  fall_breaks,
  not_least,
  passes,
  KeepsShape,
  HasCost,
  KeepsRise,
  KeepsFall,
  IsReached,
  IsPeaked,
  IsCosted,
  HasRises,
  HasFalls,
  BreaksRise,
  BreaksFall,
  IsPeakVerdict,
}

-- how many things are in order before the verdict is found
abbrev depth : PeakVerdict → ℕ
depth settings_differ = 0
depth (shape_breaks g) = 1
depth cost_differs = 2
depth (rise_breaks i g) = 3
depth (fall_breaks i g) = 4
depth (not_least i) = 5
depth passes = 6

module _ (s : Problem) (own : ℕ) (x : Peaked) where
  -- the things that are looked at, numbered
  abbrev Item : ℕ → Type 0
  Item zero = x.places ≡ own
  Item (suc zero) = AllBelow (KeepsShape x) (s.count - 1)
  Item (suc (suc zero)) = HasCost s x
  Item (suc (suc (suc zero))) = (i : ℕ) → 1 ≤ i → i ≤ s.count → AllBelow (KeepsRise s x i) i
  Item (suc (suc (suc (suc zero)))) = (i : ℕ) → i < s.count → AllBelow (KeepsFall s x i) (s.count - i)
  Item (suc (suc (suc (suc (suc zero))))) = AllBelow (IsReached s x) (suc s.count)
  Item (suc (suc (suc (suc (suc (suc n)))))) = ⊤

  none : (k : ℕ) → k < 0 → Item k
  none k l = absurd (omega arith)

  peaked : IsPeaked s own x → (k : ℕ) → k < 2 → Item k
  peaked r = below_more Item 1 (below_more Item 0 none r.settings) r.shape

  costed : IsCosted s own x → (k : ℕ) → k < 3 → Item k
  costed r = below_more Item 2 (peaked r.peaked) r.cost

  rises : HasRises s own x → (k : ℕ) → k < 4 → Item k
  rises r = below_more Item 3 (costed r.costed) r.rises

  falls : HasFalls s own x → (k : ℕ) → k < 5 → Item k
  falls r = below_more Item 4 (rises r.rises) r.falls

  past : (v : PeakVerdict) → IsPeakVerdict s own x v → (k : ℕ) → k < depth v → Item k
  past settings_differ h = none
  past (shape_breaks g) h = below_more Item 0 none h.0
  past cost_differs h = peaked h.0
  past (rise_breaks i g) h = costed h.0
  past (fall_breaks i g) h = rises h.0
  past (not_least i) h = falls h.0
  past passes h = below_more Item 5 (falls h.sides) h.least

  -- what the verdict says isn't in order
  at_fault : (v : PeakVerdict) → IsPeakVerdict s own x v → depth v < 6 → Item (depth v) → ⊥
  at_fault settings_differ h l i = h i
  at_fault (shape_breaks g) h l i = not_all (KeepsShape x) (s.count - 1) g h.1 i
  at_fault cost_differs h l i = h.1 i
  at_fault (rise_breaks k g) h l i = not_all (KeepsRise s x k) k g h.1.fails (i k h.1.from_one h.1.most)
  at_fault (fall_breaks k g) h l i = not_all (KeepsFall s x k) (s.count - k) h.1.step h.1.fails (i k h.1.most)
  at_fault (not_least k) h l i = not_all (IsReached s x) (suc s.count) k h.1 i
  at_fault passes h l i = absurd (omega arith)

  depth_le : (v : PeakVerdict) → depth v ≤ 6
  depth_le settings_differ = omega arith
  depth_le (shape_breaks g) = omega arith
  depth_le cost_differs = omega arith
  depth_le (rise_breaks i g) = omega arith
  depth_le (fall_breaks i g) = omega arith
  depth_le (not_least i) = omega arith
  depth_le passes = omega arith

  -- the first side that breaks a rule is one, and so is its first group that does
  one_rise : (i j g k : ℕ) → BreaksRise s x i g → BreaksRise s x j k → rise_breaks i g ≡ rise_breaks j k
  one_rise i j g k f h = elim (cases_order i j) [
    | inl e ↦ at e
    | inr o ↦ elim o [
      | inl l ↦ absurd (not_all (KeepsRise s x i) i g f.fails (h.before i f.from_one l))
      | inr l ↦ absurd (not_all (KeepsRise s x j) j k h.fails (f.before j h.from_one l))
    ]
  ]
    where
      at : i ≡ j → rise_breaks i g ≡ rise_breaks j k
      at e = ap₂ rise_breaks e (FailsFirst-same (KeepsRise s x j) j g k (subst (λ (n : ℕ). FailsFirst (KeepsRise s x n) n g) e f.fails) h.fails)

  one_fall : (i j g k : ℕ) → BreaksFall s x i g → BreaksFall s x j k → fall_breaks i g ≡ fall_breaks j k
  one_fall i j g k f h = elim (cases_order i j) [
    | inl e ↦ at e
    | inr o ↦ elim o [
      | inl l ↦ absurd (not_all (KeepsFall s x i) (s.count - i) f.step f.fails (h.before i l))
      | inr l ↦ absurd (not_all (KeepsFall s x j) (s.count - j) h.step h.fails (f.before j l))
    ]
  ]
    where
      at : i ≡ j → fall_breaks i g ≡ fall_breaks j k
      at e =
          ap₂ fall_breaks e (f.is_place
          ∙ ap₂ (λ (a b : ℕ). a + b) e (FailsFirst-same (KeepsFall s x j) (s.count - j) f.step h.step (subst (λ (n : ℕ). FailsFirst (KeepsFall s x n) (s.count - n) f.step) e f.fails) h.fails)
          ∙ sym h.is_place)

  at_one_depth : (v w : PeakVerdict) → IsPeakVerdict s own x v → IsPeakVerdict s own x w → depth v ≡ depth w → v ≡ w
  at_one_depth settings_differ settings_differ h k e = refl
  at_one_depth (shape_breaks g) (shape_breaks j) h k e = ap shape_breaks (FailsFirst-same (KeepsShape x) (s.count - 1) g j h.1 k.1)
  at_one_depth cost_differs cost_differs h k e = refl
  at_one_depth (rise_breaks i g) (rise_breaks j l) h k e = one_rise i j g l h.1 k.1
  at_one_depth (fall_breaks i g) (fall_breaks j l) h k e = one_fall i j g l h.1 k.1
  at_one_depth (not_least i) (not_least j) h k e = ap not_least (FailsFirst-same (IsReached s x) (suc s.count) i j h.1 k.1)
  at_one_depth passes passes h k e = refl
  at_one_depth v w h k e = absurd (omega arith)

  pub one_peak_verdict : (v w : PeakVerdict) → IsPeakVerdict s own x v → IsPeakVerdict s own x w → v ≡ w
  one_peak_verdict v w h k = at_one_depth v w h k (one_depth Item (IsPeakVerdict s own x) depth 6 past at_fault depth_le v w h k)
