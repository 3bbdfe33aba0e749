-- A loss of the table by its degree and its factors, which are at most 100.
use Rattle.std.proofs.Common.{◌≡◌, ◌≤◌, ℕ, refl, arith}
use Rattle.ofit_num.specs.Loss.{Factors, table_loss}
use Rattle.ofit_num.specs.Meaning.{Meaning}
use Rattle.ofit_study.specs.declared.loss.LossKind.{LossKind}
use Rattle.ofit_study.specs.declared.loss.LossKind.TheVariants.{Squares, Median}
use Rattle.ofit_study.specs.Loss.{IsListed, meaning_of}

pub record IsOfTable (m : Meaning) : Type 0 where
  pub degree : ℕ
  pub factors : Factors
  pub same : m ≡ table_loss degree factors
  pub above : factors.above ≤ 100
  pub below : factors.below ≤ 100

pub of_table : (k : LossKind) → IsListed k → IsOfTable (meaning_of k)
of_table Squares listed = record { degree = 2; factors = record { above = 1; below = 1 }; same = refl; above = omega arith; below = omega arith }
of_table Median listed = record { degree = 1; factors = record { above = 1; below = 1 }; same = refl; above = omega arith; below = omega arith }
