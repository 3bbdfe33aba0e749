-- What comes of pools that are put together.
use Rattle.std.proofs.Common.{◌≡◌, ℕ, ◌+◌, List, ◌++◌, ◌∙◌, sym, ap₂}
use Rattle.std.proofs.lemmas.Result.{IfOk-weaker}
use Rattle.std.proofs.Math.Nat.{add_comm}
use Rattle.std.proofs.lemmas.List.Sums.{sum_by-append}
use Rattle.std.specs.Prelude.{Result, Ok, Err, IfOk}
use Rattle.ofit_num.specs.declared.row.Row.{Row}
use Rattle.ofit_loss.specs.declared.entry.Entry.{Entry}
use Rattle.ofit_loss.specs.declared.quantile.QuantilePool.{QuantilePool}
use Rattle.ofit_loss.specs.Entry.{entry_of}
use Rattle.ofit_loss.specs.Quantile.{IsBalanced, IsQuantilePool, pool_sum}

-- a balanced pool of the rows of both is the pool of both lists
pub joined : {E : Type 0} (above below : ℕ) (left right : QuantilePool) (r : Result QuantilePool E) (xs ys : List Row) → IsQuantilePool above below left xs → IsQuantilePool above below right ys
    → IfOk r (IsBalanced above below) → IfOk r (λ pool. (f : Entry → ℕ) → pool_sum f pool ≡ pool_sum f left + pool_sum f right) → IfOk r (λ pool. IsQuantilePool above below pool (xs ++ ys))
joined above below left right (Ok pool) xs ys p q balanced rows = record {
  balanced = balanced;
  same = λ f. rows f ∙ ap₂ (λ (a b : ℕ). a + b) (p.same f) (q.same f) ∙ sym (sum_by-append (λ (r : Row). f (entry_of r)) xs ys);
}
joined above below left right (Err e) xs ys p q balanced rows = tt

-- whichever is put into the other
pub joined_back : {E : Type 0} (above below : ℕ) (left right : QuantilePool) (r : Result QuantilePool E) (xs ys : List Row) → IsQuantilePool above below left xs → IsQuantilePool above below right ys
    → IfOk r (IsBalanced above below) → IfOk r (λ pool. (f : Entry → ℕ) → pool_sum f pool ≡ pool_sum f right + pool_sum f left) → IfOk r (λ pool. IsQuantilePool above below pool (xs ++ ys))
joined_back above below left right r xs ys p q balanced rows = joined above below left right r xs ys p q balanced
    (IfOk-weaker r (λ pool. (f : Entry → ℕ) → pool_sum f pool ≡ pool_sum f right + pool_sum f left) (λ pool. (f : Entry → ℕ) → pool_sum f pool ≡ pool_sum f left + pool_sum f right) (λ pool h f. h f ∙ add_comm (pool_sum f right) (pool_sum f left)) rows)
