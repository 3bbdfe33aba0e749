-- What a pick from a rising list leaves.
use Rattle.std.proofs.Common.{◌≡◌, ℕ, suc, ◌+◌, cond, leb, List, [], ◌∷◌, ◌++◌, map, length, refl, ap, sym, ◌∙◌, arith}
use Rattle.std.specs.List.{sum_by, flat_map}
use Rattle.std.proofs.lemmas.List.Folds.{flat_map-map}
use Rattle.std.proofs.lemmas.List.Sums.{sum_by-cons}
use Rattle.ofit_levels.specs.Orderings.{picks, orderings_of, orderings}
use Rattle.ofit_levels.proofs.Sums.{sum_by-map}
use Rattle.ofit_levels.proofs.Rising.{Rises, Rises-from, at_least}

-- the rest of a list without one of its items
pub record Leaves (xs : List ℕ) (x : ℕ) (rest : List ℕ) : Type 0 where
  pub shorter : length xs ≡ suc (length rest)
  pub counted : (bound : ℕ) → at_least bound xs ≡ cond (leb bound x) 1 0 + at_least bound rest
  pub rising : (low : ℕ) → Rises low xs → Rises low rest

leaves_tail : (x : ℕ) (xs : List ℕ) → Leaves (x ∷ xs) x xs
leaves_tail x xs = record {
  shorter = refl;
  counted = λ bound. sum_by-cons (λ (y : ℕ). cond (leb bound y) 1 0) x xs;
  rising = λ low up. Rises-from (suc x) low xs (omega (arith, up.0)) up.1;
}

leaves_more : (first : ℕ) (xs : List ℕ) (x : ℕ) (rest : List ℕ) → Leaves xs x rest → Leaves (first ∷ xs) x (first ∷ rest)
leaves_more first xs x rest l = record {
  shorter = ap suc l.shorter;
  counted = λ bound.
      let a = sum_by-cons (λ (y : ℕ). cond (leb bound y) 1 0) first xs in
      let b = sum_by-cons (λ (y : ℕ). cond (leb bound y) 1 0) first rest in
      omega (arith, a, b, l.counted bound);
  rising = λ low up. (up.0, l.rising (suc first) up.1);
}

-- a sum over the picks of a list, where each term is known from the item that is picked
pub sum_by-picks : (f : ℕ → List ℕ → ℕ) (g : ℕ → ℕ) (xs : List ℕ) → ((x : ℕ) (rest : List ℕ) → Leaves xs x rest → f x rest ≡ g x) → sum_by (λ pick. f pick.0 pick.1) (picks xs) ≡ sum_by g xs
unfolding picks
sum_by-picks f g [] each = refl
sum_by-picks f g (x ∷ xs) each =
    let behind : ℕ × List ℕ → ℕ × List ℕ = λ pick. (pick.0, x ∷ pick.1) in
    let term = λ (pick : ℕ × List ℕ). f pick.0 pick.1 in
    let first : ℕ × List ℕ = (x, xs) in
    let a = sum_by-cons term first (map behind (picks xs)) in
    let b = sum_by-map term behind (picks xs) in
    let rest = sum_by-picks (λ y others. f y (x ∷ others)) g xs (λ y others l. each y (x ∷ others) (leaves_more x xs y others l)) in
    omega (arith, a, b, rest, each x xs (leaves_tail x xs), sum_by-cons g x xs)

flat_map-picks : (f g : ℕ → List ℕ → List (List ℕ)) (xs : List ℕ) → ((x : ℕ) (rest : List ℕ) → length xs ≡ suc (length rest) → f x rest ≡ g x rest) → flat_map (λ pick. f pick.0 pick.1) (picks xs) ≡ flat_map (λ pick. g pick.0 pick.1) (picks xs)
unfolding picks
flat_map-picks f g [] same = refl
flat_map-picks f g (x ∷ xs) same =
    let behind : ℕ × List ℕ → ℕ × List ℕ = λ pick. (pick.0, x ∷ pick.1) in
    let rest = flat_map-picks (λ y others. f y (x ∷ others)) (λ y others. g y (x ∷ others)) xs (λ y others l. same y (x ∷ others) (ap suc l)) in
    ap (λ (first : List (List ℕ)). first ++ flat_map (λ pick. f pick.0 pick.1) (map behind (picks xs))) (same x xs refl)
    ∙ ap (λ (more : List (List ℕ)). g x xs ++ more)
    (flat_map-map (λ (pick : ℕ × List ℕ). f pick.0 pick.1) behind (picks xs) ∙ rest ∙ sym (flat_map-map (λ (pick : ℕ × List ℕ). g pick.0 pick.1) behind (picks xs)))

-- the orderings of some items by those of each rest, with no count of the items
pub orderings-cons : (x : ℕ) (xs : List ℕ) → orderings (x ∷ xs) ≡ flat_map (λ pick. map (λ others. pick.0 ∷ others) (orderings pick.1)) (picks (x ∷ xs))
unfolding orderings orderings_of
orderings-cons x xs =
    flat_map-picks (λ y rest. map (λ others. y ∷ others) (orderings_of (length xs) rest)) (λ y rest. map (λ others. y ∷ others) (orderings rest)) (x ∷ xs)
    (λ y rest l. ap (λ (n : ℕ). map (λ others. y ∷ others) (orderings_of n rest)) (omega (arith, l)))
