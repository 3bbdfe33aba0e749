-- A size with the sign of a number.
use Rattle.std.specs.Prelude.{ℕ, ℤ, pos, negsuc}
use Rattle.ofit_num.specs.Reduced.{negated}

-- the number of size k that has the sign of the first
abbrev pub signed_as : ℤ → ℕ → ℤ
signed_as (pos n) k = pos k
signed_as (negsuc n) k = negated k
