use Rattle.std.proofs.Common.{◌≡◌, ℕ, suc, ◌+◌, ◌*◌, ap, sym, ◌∙◌, refl, arith}
use Rattle.std.proofs.Math.Nat.{mul_comm}
use Rattle.ofit_levels.specs.Factorial.{factorial}
use Rattle.ofit_levels.proofs.Recurrence.{factorial-zero, factorial-suc, factorial-fits}
use Rattle.ofit_levels.proofs.factorial.ordering_count.Goals as goal

step : (product before item factor : ℕ) → before ≡ factorial item → factor ≡ item + 1 → product ≡ before * factor → product ≡ factorial (item + 1)
step product before item factor b f p =
    let next : item + 1 ≡ suc item = omega arith in
    p ∙ ap (λ (t : ℕ). before * t) (f ∙ next) ∙ mul_comm before (suc item) ∙ ap (λ (t : ℕ). suc item * t) b ∙ sym (factorial-suc item) ∙ ap factorial (sym next)

pub loop-item-init : goal.loop-item-init
loop-item-init c = sym factorial-zero

pub overflow_mul-product : goal.overflow_mul-product
overflow_mul-product c =
    let e : c.loop-item.product * c.from-product.result ≡ factorial (c.loop-item.item + 1) =
    step _ c.loop-item.product c.loop-item.item c.from-product.result c.loop-item.invariant (omega arith) refl in
    omega (arith, e, factorial-fits (c.loop-item.item + 1) (omega arith))

pub loop-item-preserved : goal.loop-item-preserved
loop-item-preserved c = step _ c.loop-item.product c.loop-item.item c.from-product.result c.loop-item.invariant (omega arith) refl
