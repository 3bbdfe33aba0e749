-- The orderings of the items of a list, by the item that stands first.
use Rattle.std.specs.Prelude.{ℕ, zero, suc, List, [], ◌∷◌, map, length, flat_map}

-- for each position of a list, the item there and the rest
unfoldable pub picks : List ℕ → List (ℕ × List ℕ)
picks [] = []
picks (x ∷ xs) = (x, xs) ∷ map (λ pick. (pick.0, x ∷ pick.1)) (picks xs)

-- the orderings of a list of that many items: the empty list alone for no items, and else, for each
-- position, the item there put before each ordering of the rest
unfoldable pub orderings_of : ℕ → List ℕ → List (List ℕ)
orderings_of zero items = [] ∷ []
orderings_of (suc n) items = flat_map (λ pick. map (λ others. pick.0 ∷ others) (orderings_of n pick.1)) (picks items)

unfoldable pub orderings : List ℕ → List (List ℕ)
orderings items = orderings_of (length items) items
