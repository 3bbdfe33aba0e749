-- What stands at a place of a list.
use Rattle.std.proofs.Common.{◌≡◌, ◌≢◌, ◌<◌, ℕ, zero, suc, List, [], ◌∷◌, Some, length, slice_get, refl, arith}
use Rattle.std.specs.Prelude.{All}
use Rattle.std.proofs.lemmas.List.Elements.{All-contains}
use Rattle.ofit_study.proofs.Pushing.{slice_get-Contains}

pub within : {X : Type 0} (xs : List X) (place : ℕ) (x : X) → slice_get xs place ≡ Some x → place < length xs
within [] place x e = cc
within (y ∷ ys) zero x e = omega arith
within (y ∷ ys) (suc place) x e = omega (arith, within ys place x e)

pub nowhere : (names : List (List ℕ)) (name : List ℕ) (place : ℕ) → All (λ known. known ≢ name) names → slice_get names place ≡ Some name → ⊥
nowhere names name place h e = All-contains (λ known. known ≢ name) names name h (slice_get-Contains names place name e) refl
