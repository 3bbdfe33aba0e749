-- How two ways to part a list lie.
use Rattle.std.proofs.Common.{◌≡◌, ◌++◌, List, [], ◌∷◌, refl, sym, ap, subst}

pub data Parting {X : Type 0} (xs zs : List X) (x z : X) : Type 0 where
  at_one : xs ≡ zs → x ≡ z → Parting xs zs x z
  first_shorter : (t : List X) → zs ≡ xs ++ x ∷ t → Parting xs zs x z
  second_shorter : (t : List X) → xs ≡ zs ++ z ∷ t → Parting xs zs x z

pub head_same : {X : Type 0} (x z : X) (ys ws : List X) → x ∷ ys ≡ z ∷ ws → x ≡ z
head_same x z ys ws e = cc

pub tail_same : {X : Type 0} (x z : X) (ys ws : List X) → x ∷ ys ≡ z ∷ ws → ys ≡ ws
tail_same x z ys ws e = cc

longer : {X : Type 0} (y : X) (xs zs : List X) (x z : X) → Parting xs zs x z → Parting (y ∷ xs) (y ∷ zs) x z
longer {X} y xs zs x z (at_one e f) = at_one (ap (λ (t : List X). y ∷ t) e) f
longer {X} y xs zs x z (first_shorter t e) = first_shorter t (ap (λ (u : List X). y ∷ u) e)
longer {X} y xs zs x z (second_shorter t e) = second_shorter t (ap (λ (u : List X). y ∷ u) e)

pub parted : {X : Type 0} (xs zs ys ws : List X) (x z : X) → xs ++ x ∷ ys ≡ zs ++ z ∷ ws → Parting xs zs x z
parted {X} [] [] ys ws x z e = at_one refl (head_same x z ys ws e)
parted {X} [] (w ∷ zs) ys ws x z e = first_shorter zs (ap (λ (t : X). t ∷ zs) (sym (head_same x w ys (zs ++ z ∷ ws) e)))
parted {X} (y ∷ xs) [] ys ws x z e = second_shorter xs (ap (λ (t : X). t ∷ xs) (head_same y z (xs ++ x ∷ ys) ws e))
parted {X} (y ∷ xs) (w ∷ zs) ys ws x z e =
    subst (λ (t : X). Parting (y ∷ xs) (t ∷ zs) x z) (head_same y w (xs ++ x ∷ ys) (zs ++ z ∷ ws) e)
    (longer y xs zs x z (parted xs zs ys ws x z (tail_same y w (xs ++ x ∷ ys) (zs ++ z ∷ ws) e)))
