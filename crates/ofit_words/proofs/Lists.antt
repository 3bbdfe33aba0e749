-- the words before one, it, and those after it
use Rattle.std.proofs.Common.{◌≡◌, ℕ, ◌+◌, ◌<◌, ◌≤◌, List, [], ◌∷◌, ◌++◌, length, take, drop, get_or, map, sym, ap, ◌∙◌, subst, arith}
use Rattle.std.proofs.lemmas.List.{take-append-drop, map-append, drop_more, map_more, take_all, length-map, length-take-le}
use Rattle.std.specs.List.{AllByRecursion}

pub all_more : {X : Type 0} (P : X → Type 0) (xs : List X) (b : X) → AllByRecursion P xs → P b → AllByRecursion P (xs ++ b ∷ [])
all_more P [] b h k = (k, tt)
all_more P (x ∷ xs) b h k = (h.0, all_more P xs b h.1 k)

pub map_split : {X Y : Type 0} (f : X → Y) (xs : List X) (i : ℕ) (x : X) → i < length xs → x ≡ get_or xs i x → map f xs ≡ map f (take i xs) ++ f x ∷ map f (drop (i + 1) xs)
map_split f xs i x l e =
    ap (map f) (sym (take-append-drop i xs)) ∙ map-append f (take i xs) (drop i xs)
    ∙ ap (λ ys. map f (take i xs) ++ map f ys) (drop_more xs i x l) ∙ ap (λ y. map f (take i xs) ++ f y ∷ map f (drop (i + 1) xs)) (sym e)

pub all_so_far : {X Y : Type 0} (f : X → Y) (P : Y → Type 0) (xs : List X) (i : ℕ) (x : X) → i < length xs → x ≡ get_or xs i x → AllByRecursion P (map f (take i xs)) → P (f x) → AllByRecursion P (map f (take (i + 1) xs))
all_so_far {Y = Y} f P xs i x l e h k =
    let Q : List Y → Type 0 = AllByRecursion P in
    subst Q (sym (map_more f xs i x l ∙ ap (λ y. map f (take i xs) ++ f y ∷ []) (sym e))) (all_more P (map f (take i xs)) (f x) h k)

pub all_of : {X Y : Type 0} (f : X → Y) (P : Y → Type 0) (xs : List X) (i : ℕ) → length xs ≤ i → AllByRecursion P (map f (take i xs)) → AllByRecursion P (map f xs)
all_of {Y = Y} f P xs i l h = let Q : List Y → Type 0 = AllByRecursion P in subst Q (ap (map f) (take_all i xs l)) h

pub one_name : {X Y : Type 0} (f : X → Y) (xs : List X) (x : X) → length xs ≡ 1 → x ≡ get_or xs 0 x → map f xs ≡ f x ∷ []
one_name f [] x l e = absurd (omega arith)
one_name f (y ∷ []) x l e = ap (λ z. f z ∷ []) (sym e)
one_name f (y ∷ (z ∷ zs)) x l e = absurd (omega arith)

pub two_names : {X Y : Type 0} (f : X → Y) (xs : List X) (x z : X) → length xs ≡ 2 → x ≡ get_or xs 0 x → z ≡ get_or xs 1 z → map f xs ≡ f x ∷ (f z ∷ [])
two_names f [] x z l e g = absurd (omega arith)
two_names f (y ∷ []) x z l e g = absurd (omega arith)
two_names f (y ∷ (u ∷ [])) x z l e g = ap (λ a. f a ∷ (f u ∷ [])) (sym e) ∙ ap (λ a. f x ∷ (f a ∷ [])) (sym g)
two_names f (y ∷ (u ∷ (v ∷ vs))) x z l e g = absurd (omega arith)

pub map_so_far : {X Y : Type 0} (f : X → Y) (xs : List X) (i : ℕ) (x : X) → i < length xs → x ≡ get_or xs i x → map f (take i xs) ++ f x ∷ [] ≡ map f (take (i + 1) xs)
map_so_far f xs i x l e = sym (map_more f xs i x l ∙ ap (λ y. map f (take i xs) ++ f y ∷ []) (sym e))

pub length_so_far : {X Y : Type 0} (f : X → Y) (xs : List X) (i : ℕ) → i < length xs → length (map f (take i xs)) ≡ i
length_so_far f xs i l = length-map (take i xs) f ∙ length-take-le i xs (omega arith)
