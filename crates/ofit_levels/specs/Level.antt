-- How many orderings of 1 to k have a given number of left-to-right maxima.
use Rattle.std.specs.Prelude.{ℕ, suc, ◌==◌, Bool, nat_lt, cond, List, [], ◌∷◌, count_by}
use Rattle.std.specs.List.{list_all, range_with_len}
use Rattle.ofit_levels.specs.Orderings.{orderings}

-- whether an item is above all of those before it
abbrev pub is_above_all : List ℕ → ℕ → Bool
is_above_all before item = list_all (λ earlier. nat_lt earlier item) before

-- how many items of an ordering are above all items before them, where the items `before` have gone
-- ahead
unfoldable pub maxima_behind : List ℕ → List ℕ → ℕ
maxima_behind before [] = 0
maxima_behind before (item ∷ rest) = cond (is_above_all before item) (suc (maxima_behind (item ∷ before) rest)) (maxima_behind (item ∷ before) rest)

-- how many items of an ordering are above all items before them
abbrev pub left_to_right_maxima : List ℕ → ℕ
left_to_right_maxima ordering = maxima_behind [] ordering

-- the number of orderings of 1 to k in which exactly l items are above all items before them
unfoldable pub level : ℕ → ℕ → ℕ
level k l = count_by (λ ordering. left_to_right_maxima ordering == l) (orderings (range_with_len 1 k))
