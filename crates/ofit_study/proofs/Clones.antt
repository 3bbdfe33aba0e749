-- Lists of vectors whose items are clones.
use Rattle.std.proofs.Common.{◌≡◌, List, [], ◌∷◌, refl, ap₂, Vec, Global}
use Rattle.std.proofs.lemmas.List.Elements.{same_from_all_zip}
use Rattle.std.specs.Prelude.{map}
use Rattle.std.specs.List.{AllZip}

pub items-cloned : {X : Type 0} (R : X → X → Type 0) (P : Vec X Global → Vec X Global → Type 0) → ((x y : X) → R x y → y ≡ x) → (vs ws : List (Vec X Global)) → AllZip (λ v w. AllZip R v.items w.items × P v w) vs ws → map (λ v. v.items) ws ≡ map (λ v. v.items) vs
items-cloned R P says [] [] h = refl
items-cloned R P says [] (w ∷ ws) h = absurd h
items-cloned R P says (v ∷ vs) [] h = absurd h
items-cloned {X} R P says (v ∷ vs) (w ∷ ws) h = ap₂ (λ (xs : List X) (xss : List (List X)). xs ∷ xss) (same_from_all_zip R v.items w.items h.0.0 says) (items-cloned R P says vs ws h.1)
