-- A text names one loss.
use Rattle.std.proofs.Common.{◌≡◌, ℕ, List, length, refl, sym, ap, ◌∙◌, arith}
use Rattle.ofit_study.specs.declared.loss.LossKind.{LossKind}
use Rattle.ofit_study.specs.declared.loss.LossKind.TheVariants.{Squares, Median}
use Rattle.ofit_study.specs.Loss.{IsLoss}

pub one_name : (text : List ℕ) (x y : LossKind) → IsLoss text x → IsLoss text y → x ≡ y
one_name text Squares Squares h k = refl
one_name text Squares Median h k = absurd (omega (arith, ap length (sym h ∙ k)))
one_name text Median Squares h k = absurd (omega (arith, ap length (sym h ∙ k)))
one_name text Median Median h k = refl
