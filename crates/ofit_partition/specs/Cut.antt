-- What one step makes of a piece.
use Rattle.std.specs.Prelude.{◌≡◌, ℕ, ◌+◌, ◌*◌, ◌^◌, ◌<◌, ◌≤◌, Bool, List, length, unsigned_abs, max, sum_by}
use Rattle.ofit_num.specs.Problem.{Problem}
use Rattle.ofit_num.specs.Meaning.{Meaning}
use Rattle.ofit_num.specs.Fraction.{Fraction}
use Rattle.ofit_num.specs.Law.{least_at, greatest_at}
use Rattle.ofit_num.specs.Sets.{set_sum}
use Rattle.ofit_num.specs.Block.{IsPooled, IsCost}
use Rattle.ofit_num.specs.Level.{IsCut, IsLevel}
use Rattle.ofit_partition.specs.declared.piece.Piece.{Piece}
use Rattle.ofit_partition.specs.declared.piece.Parts.{Parts}
use Rattle.ofit_partition.specs.declared.cut.Cut.{Cut}
use Rattle.ofit_partition.specs.declared.cut.Cut.TheVariants.{Open, Settled}
use Rattle.ofit_partition.specs.Piece.{holds, IsPiece}

-- the greater absolute value of the two ends of each place's span, summed
abbrev pub span_sizes : Meaning → Problem → Fraction → List ℕ → ℕ
span_sizes m s c places = sum_by (λ g. max (unsigned_abs (least_at m s c g)) (unsigned_abs (greatest_at m s c g))) places

-- the least minimiser of the rows of all places together, and how great the spans are there
pub record IsPooledValue (m : Meaning) (s : Problem) (strict : Bool) (places : List ℕ) (c : Fraction) : Type 0 where
  pub pooled : IsPooled m s (holds places) c
  pub costs : IsCost strict (set_sum (holds places) (greatest_at m s c) s.count)
  pub small : span_sizes m s c places ≤ 2 * 10 ^ 33

-- two pieces that a cut of the piece at this value makes, the first of which has a place
pub record AreCutAt (m : Meaning) (s : Problem) (piece : Piece) (parts : Parts) (value : Fraction) : Type 0 where
  pub cut : IsCut m s (holds piece.places.items) (holds parts.chosen.places.items) (holds parts.rest.places.items) value
  pub chosen : IsPiece s parts.chosen
  pub rest : IsPiece s parts.rest
  pub some : 0 < length parts.chosen.places.items
  pub sizes : length parts.chosen.places.items + length parts.rest.places.items ≡ length piece.places.items

-- both parts are left to be cut, or the first one is a level
abbrev pub IsCutOf : Meaning → Problem → Bool → Piece → Cut → Type 0
IsCutOf m s strict piece (Open parts) = (value : Fraction) × AreCutAt m s piece parts value × (0 < length parts.rest.places.items)
IsCutOf m s strict piece (Settled value parts) = AreCutAt m s piece parts value × IsLevel m s strict (holds parts.chosen.places.items) value
