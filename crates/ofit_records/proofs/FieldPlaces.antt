-- A record's field by its place.
use Rattle.std.proofs.Common.{◌≡◌, ◌≤◌, ◌∙◌, ℕ, zero, suc, List, [], ◌∷◌, Option, Some, None, IfNone, IfSome, Bor, length, refl, sym, slice_get, arith}
use Rattle.std.specs.Prelude.{option_map}
use Rattle.csv.specs.Records.{field_at}

pub field_get : (fields : List (List ℕ)) (place : ℕ) → field_at fields place ≡ slice_get fields place
unfolding field_at
field_get [] place = refl
field_get (f ∷ fs) zero = refl
field_get (f ∷ fs) (suc place) = field_get fs place

pub none_there : (fields : List (List ℕ)) (place : ℕ) → field_at fields place ≡ None → length fields ≤ place
unfolding field_at
none_there [] place e = omega arith
none_there (f ∷ fs) zero e = cc
none_there (f ∷ fs) (suc place) e = omega (arith, none_there fs place e)

pub given_none : (o : Option (Bor (List ℕ))) (fields : List (List ℕ)) (place : ℕ) → option_map (λ f. f.now) o ≡ field_at fields place → IfNone o (length fields ≤ place)
given_none None fields place e = none_there fields place (sym e)
given_none (Some f) fields place e = tt

pub given_some : (o : Option (Bor (List ℕ))) (fields : List (List ℕ)) (place : ℕ) → option_map (λ f. f.now) o ≡ field_at fields place → IfSome o (λ f. slice_get fields place ≡ Some f.now)
given_some None fields place e = tt
given_some (Some f) fields place e = sym (field_get fields place) ∙ sym e
