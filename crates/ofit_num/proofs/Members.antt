-- Lists by their members.
use Rattle.std.proofs.Common.{◌≡◌, ◌⊎◌, ◌∙◌, zero, suc, List, [], ◌∷◌, map, inl, inr, refl, sym, ap, subst, arith, Bool, true, false, cond, true≢false}
use Rattle.std.specs.Prelude.{All, AllPairs, Contains, filter}
use Rattle.std.proofs.lemmas.List.Elements.{All-contains}
use Rattle.ofit_num.proofs.Sheets.{AllPairs-head, AllPairs-tail}

-- a member of a list is its first one, or one of the others
pub cons_cases : {X : Type 0} (ys : List X) (y x : X) → Contains (y ∷ ys) x → (y ≡ x) ⊎ Contains ys x
cons_cases ys y x (zero, l, e) = inl e
cons_cases ys y x (suc k, l, e) = inr (k, omega (arith, l), e)

pub Contains-cons : {X : Type 0} (y : X) (ys : List X) (x : X) → Contains ys x → Contains (y ∷ ys) x
Contains-cons y ys x h = (suc h.0, omega (arith, h.1), h.2)

pub Contains-filter : {X : Type 0} (keep : X → Bool) (xs : List X) (x : X) → Contains xs x → keep x ≡ true → Contains (filter keep xs) x
Contains-filter keep [] x h u = absurd (omega (arith, h.1))
Contains-filter {X} keep (y ∷ ys) x h u = go (keep y) refl (cons_cases ys y x h) (Contains-filter keep ys x) where
  go : (b : Bool) → keep y ≡ b → (y ≡ x) ⊎ Contains ys x → (Contains ys x → keep x ≡ true → Contains (filter keep ys) x) → Contains (cond b (y ∷ filter keep ys) (filter keep ys)) x
  go true f (inl e) later = (0, omega arith, e)
  go true f (inr k) later = Contains-cons y (filter keep ys) x (later k u)
  go false f (inl e) later = absurd (true≢false (sym u ∙ ap keep (sym e) ∙ f))
  go false f (inr k) later = later k u

pub cons_first : {X : Type 0} (ys : List X) (y : X) → Contains (y ∷ ys) y
cons_first ys y = (0, omega arith, refl)

nothing_in : {X : Type 0} (x : X) → Contains [] x → ⊥
nothing_in x (k, lt, e) = absurd (omega (arith, lt))

pub in_map : {X Y : Type 0} (f : X → Y) (xs : List X) (x : X) → Contains xs x → Contains (map f xs) (f x)
in_map f [] x h = absurd (nothing_in x h)
in_map {X} {Y} f (y ∷ xs) x h = by (cons_cases xs y x h) (in_map f xs x)
  where
    by : (y ≡ x) ⊎ Contains xs x → (Contains xs x → Contains (map f xs) (f x)) → Contains (map f (y ∷ xs)) (f x)
    by (inl e) rest = subst (λ (t : X). Contains (map f (y ∷ xs)) (f t)) e (cons_first (map f xs) (f y))
    by (inr k) rest = Contains-cons (f y) (map f xs) (f x) (rest k)

-- a member comes from a member
abbrev pub ComesFrom : (X Y : Type 0) → (X → Y) → List X → Y → Type 0
ComesFrom X Y f xs y = (x : X) × Contains xs x × (f x ≡ y)

pub from_map : {X Y : Type 0} (f : X → Y) (xs : List X) (y : Y) → Contains (map f xs) y → ComesFrom X Y f xs y
from_map f [] y h = absurd (nothing_in y h)
from_map {X} {Y} f (x ∷ xs) y h = by (cons_cases (map f xs) (f x) y h) (from_map f xs y)
  where
    by : (f x ≡ y) ⊎ Contains (map f xs) y → (Contains (map f xs) y → ComesFrom X Y f xs y) → ComesFrom X Y f (x ∷ xs) y
    by (inl e) rest = (x, cons_first xs x, e)
    by (inr k) rest = let r = rest k in (r.0, Contains-cons x xs r.0 r.1, r.2)

module _ {X : Type 0} (R : X → X → Type 0) (never : (x : X) → R x x → ⊥) (over : (x y z : X) → R x y → R y z → R x z) where
  tail_on : (x y : X) (xs ys : List X) → x ≡ y → All (R x) xs → ((z : X) → Contains (x ∷ xs) z → Contains (y ∷ ys) z) → (z : X) → Contains xs z → Contains ys z
  tail_on x y xs ys same above on z h = by (cons_cases ys y z (on z (Contains-cons x xs z h)))
    where
      by : (y ≡ z) ⊎ Contains ys z → Contains ys z
      by (inl e) = absurd (never z (subst (λ (t : X). R t z) (same ∙ e) (All-contains (R x) xs z above h)))
      by (inr k) = k

  first_one : (x y : X) (xs ys : List X) → All (R x) xs → All (R y) ys → (y ≡ x) ⊎ Contains ys x → (x ≡ y) ⊎ Contains xs y → x ≡ y
  first_one x y xs ys low high (inl e) k = sym e
  first_one x y xs ys low high (inr h) (inl e) = e
  first_one x y xs ys low high (inr h) (inr k) = absurd (never x (over x y x (All-contains (R x) xs y low k) (All-contains (R y) ys x high h)))

  -- a list in strict order is known by its members
  pub sorted_one : (xs ys : List X) → AllPairs R xs → AllPairs R ys → ((z : X) → Contains xs z → Contains ys z) → ((z : X) → Contains ys z → Contains xs z) → xs ≡ ys
  sorted_one [] [] p q on back = refl
  sorted_one [] (y ∷ ys) p q on back = absurd (nothing_in y (back y (cons_first ys y)))
  sorted_one (x ∷ xs) [] p q on back = absurd (nothing_in x (on x (cons_first xs x)))
  sorted_one (x ∷ xs) (y ∷ ys) p q on back =
      let low = AllPairs-head R x xs p in
      let high = AllPairs-head R y ys q in
      let same : x ≡ y = first_one x y xs ys low high (cons_cases ys y x (on x (cons_first xs x))) (cons_cases xs x y (back y (cons_first ys y))) in
      let rest : xs ≡ ys = sorted_one xs ys (AllPairs-tail R x xs p) (AllPairs-tail R y ys q) (tail_on x y xs ys same low on) (tail_on y x ys xs (sym same) high back) in
      λ i. same i ∷ rest i
