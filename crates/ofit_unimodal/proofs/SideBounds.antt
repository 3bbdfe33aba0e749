-- Sides bound from below what any trial costs that goes their way.
use Rattle.std.proofs.Common.{◌≡◌, ℕ, zero, suc, ◌+◌, ◌-◌, ◌*◌, ◌<◌, ◌≤◌, refl, sym, subst, arith, List, []}
use Rattle.std.specs.Prelude.{ℤ, ◌≤ℤ◌, slice_index_or}
use Rattle.ofit_num.specs.Fit.{sum_below}
use Rattle.ofit_num.specs.Loss.{median}
use Rattle.ofit_num.specs.Problem.{Problem}
use Rattle.ofit_num.specs.Trial.{Trial}
use Rattle.ofit_sheet.specs.Peaked.{IsSide}
use Rattle.ofit_sheet.specs.PeakVerdict.{value_at}
use Rattle.ofit_check.proofs.PeakPassed.{rise_bounded, fall_bounded}
use Rattle.ofit_sides.specs.Sides.{AreRises, AreFalls}
use Rattle.ofit_unimodal.specs.Splits.{BoundsRises, BoundsFalls, first_cost}
use Rattle.ofit_unimodal.specs.Costs.{rise_cost, fall_cost}

module _ (s : Problem) (rises : List (List (ℤ × ℤ))) (are : AreRises s rises) (t : Trial) (scale : 0 < t.scale) where
  rise_least : (i : ℕ) → i ≤ s.count → ((g : ℕ) → suc g < i → t.value g ≤ℤ t.value (suc g)) → rise_cost s rises i * t.scale ≤ first_cost s t i
  rise_least zero l up = omega arith
  rise_least (suc n) l up =
      let rise = are.each (suc n) (omega arith) l in
      rise_bounded s.rows t.value t.scale scale n (slice_index_or rises (suc n - 1) []) rise.shape rise.steps up

pub rises_bound : (s : Problem) (rises : List (List (ℤ × ℤ))) → AreRises s rises → BoundsRises s (rise_cost s rises)
rises_bound s rises are = record { bounds = λ t scale i l up. rise_least s rises are t scale i l up }

module _ (s : Problem) (falls : List (List (ℤ × ℤ))) (are : AreFalls s falls) (t : Trial) (scale : 0 < t.scale) where
  fall_least : (i m : ℕ) → m ≡ s.count - i → ((g : ℕ) → i ≤ g → suc g < s.count → t.value (suc g) ≤ℤ t.value g)
      → sum_below (λ j. median.cost (s.rows (i + j)) (value_at (slice_index_or falls i []) j) 1) m * t.scale ≤ sum_below (λ j. median.cost (s.rows (i + j)) (t.value (i + j)) t.scale) m
  fall_least i zero e down = omega arith
  fall_least i (suc n) e down =
      let fall = are.each i (omega (arith, e)) in
      let side = subst (λ (m : ℕ). IsSide m (slice_index_or falls i [])) (sym e) fall.shape in
      fall_bounded (λ j. s.rows (i + j)) (λ j. t.value (i + j)) t.scale scale n (slice_index_or falls i []) side (λ j p. fall.steps j (omega (arith, p, e)))
      (λ j p.
      let more : i + suc j ≡ suc (i + j) = omega arith in
      subst (λ (g : ℕ). t.value g ≤ℤ t.value (i + j)) (sym more) (down (i + j) (omega arith) (omega (arith, p, e))))

pub falls_bound : (s : Problem) (falls : List (List (ℤ × ℤ))) → AreFalls s falls → BoundsFalls s (fall_cost s falls)
falls_bound s falls are = record { bounds = λ t scale i l down. fall_least s falls are t scale i (s.count - i) refl down }
