-- The order in which waiting blocks are taken up: the greatest rank first.
use Rattle.std.specs.Prelude.{suc, ◌-◌, pos, ◌*ℤ◌, neg_ℤ}
use Rattle.std.specs.Ordering.{int_cmp, on}
use Rattle.std.specs.declared.cmp.Ordering.{Ordering}
use Rattle.ofit_num.specs.Fraction.{Fraction, AtMost}
use Rattle.ofit_tree.specs.declared.direction.Direction.{Direction}
use Rattle.ofit_tree.specs.declared.direction.Direction.TheVariants.{RootGreatest, RootLeast}
use Rattle.ofit_tree.specs.declared.entry.Entry.{Entry}

-- the value where the root is greatest, and its negative where it is least
abbrev pub rank_of : Direction → Fraction → Fraction
rank_of RootGreatest c = c
rank_of RootLeast c = record { num = neg_ℤ c.num; den = c.den }

-- the order of two values; a denominator of 0, which no value has, is taken as 1
abbrev pub value_cmp : Fraction → Fraction → Ordering
value_cmp x y = int_cmp (x.num *ℤ pos (suc (y.den - 1))) (y.num *ℤ pos (suc (x.den - 1)))

abbrev pub entry_cmp : Entry → Entry → Ordering
entry_cmp x y = on (λ e. e.rank) value_cmp x y

-- the first value may stand nearer to the leaves, where the second stands nearer to the root
abbrev pub IsInOrder : Direction → Fraction → Fraction → Type 0
IsInOrder RootGreatest c b = AtMost c b
IsInOrder RootLeast c b = AtMost b c
