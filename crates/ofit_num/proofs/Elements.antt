-- What stands in a list with one element set, and in one with an element more.
use Rattle.std.proofs.Common.{◌≡◌, ℕ, zero, suc, ◌<◌, refl, ap, arith, List, [], ◌∷◌, ◌++◌, length, set}
use Rattle.std.specs.Prelude.{slice_get, Some}

pub at_set : {X : Type 0} (xs : List X) (k : ℕ) (y : X) → k < length xs → slice_get (set xs k y) k ≡ Some y
at_set [] k y l = absurd (omega arith)
at_set (x ∷ xs) zero y l = refl
at_set (x ∷ xs) (suc k) y l = at_set xs k y (omega arith)

pub other_set : {X : Type 0} (xs : List X) (k i : ℕ) (y : X) → (i ≡ k → ⊥) → slice_get (set xs k y) i ≡ slice_get xs i
other_set [] k i y away = refl
other_set (x ∷ xs) zero zero y away = absurd (away refl)
other_set (x ∷ xs) zero (suc i) y away = refl
other_set (x ∷ xs) (suc k) zero y away = refl
other_set (x ∷ xs) (suc k) (suc i) y away = other_set xs k i y (λ e. away (ap (λ (n : ℕ). suc n) e))

pub slice_get-push : {X : Type 0} (xs : List X) (x : X) → slice_get (xs ++ x ∷ []) (length xs) ≡ Some x
slice_get-push [] x = refl
slice_get-push (y ∷ xs) x = slice_get-push xs x

pub slice_get-before : {X : Type 0} (xs : List X) (x : X) (k : ℕ) → k < length xs → slice_get (xs ++ x ∷ []) k ≡ slice_get xs k
slice_get-before [] x k l = absurd (omega arith)
slice_get-before (y ∷ xs) x zero l = refl
slice_get-before (y ∷ xs) x (suc k) l = slice_get-before xs x k (omega arith)
