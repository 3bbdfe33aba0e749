-- A unimodal trial costs no less than the splits on both sides of its peak.
use Rattle.std.proofs.Common.{ℕ, suc, ◌-◌, ◌<◌, ◌≤◌, arith}
use Rattle.ofit_num.specs.Loss.{median}
use Rattle.ofit_num.specs.Problem.{Problem}
use Rattle.ofit_num.specs.Trial.{Trial}
use Rattle.ofit_sheet.specs.Unimodal.{IsUnimodal}
use Rattle.ofit_sheet.proofs.Splits.{sum_parts}
use Rattle.ofit_unimodal.specs.Splits.{BoundsRises, BoundsFalls, CostsSplit}

module _ (s : Problem) (rises falls : ℕ → ℕ) (low : BoundsRises s rises) (high : BoundsFalls s falls) (t : Trial) (peak : ℕ) (h : IsUnimodal s.count peak t) where
  split : (i : ℕ) → i ≤ s.count → i ≤ suc peak → peak ≤ i → CostsSplit s rises falls t i
  split i l up down =
      let parts = sum_parts (λ g. median.cost (s.rows g) (t.value g) t.scale) i (s.count - i) s.count (omega (arith, l)) in
      let first = low.bounds t h.scale i l (λ g m. h.rises g (omega (arith, m, l)) (omega (arith, m, up))) in
      let last = high.bounds t h.scale i l (λ g m n. h.falls g n (omega (arith, m, down))) in
      omega (arith, parts, first, last)

  pub both_splits : peak < s.count → CostsSplit s rises falls t peak × CostsSplit s rises falls t (suc peak)
  both_splits l = (split peak (omega (arith, l)) (omega arith) (omega arith), split (suc peak) (omega (arith, l)) (omega arith) (omega arith))
