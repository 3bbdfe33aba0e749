-- what a cut of a piece's positions makes of the piece
use Rattle.std.proofs.Common.{◌≡◌, ℕ, zero, suc, ◌<◌, refl, sym, ap, subst, ◌∙◌, arith, Bool, true, false, ◌&&◌, List, [], ◌∷◌, length, get_or, ◌⊎◌, inl, inr}
use Rattle.std.proofs.Math.Path.{fun_ext}
use Rattle.std.specs.Prelude.{ℤ, All, Any, slice_index, slice_index_or}
use Rattle.ofit_num.specs.Problem.{Problem}
use Rattle.ofit_num.specs.ProblemPairs.{HasPlaces}
use Rattle.ofit_num.specs.Unbounded.{no_bounds}
use Rattle.ofit_num.specs.Meaning.{Meaning}
use Rattle.ofit_num.specs.Fraction.{Fraction}
use Rattle.ofit_num.specs.Groups.{RowLists}
use Rattle.ofit_num.specs.RowTotals.{all_rows}
use Rattle.ofit_num.specs.Law.{least_at, greatest_at, HasSupport, HasFallingSpans, HasScaling}
use Rattle.ofit_num.specs.Sets.{IsUpperIn, IsSplit, IsGreatestUpper, IsSmallest}
use Rattle.ofit_num.specs.Block.{HasCeiling}
use Rattle.ofit_num.specs.Level.{IsLevel, IsTieOf, IsCut}
use Rattle.ofit_num.proofs.Pieces.{both_and}
use Rattle.ofit_num.proofs.StrictBest.{FallStrictly}
use Rattle.ofit_num.proofs.Division.{none_gains, first_cut, first_rest, second_cut, second_level, second_some}
use Rattle.ofit_cut.specs.declared.tie.Tie.{Tie}
use Rattle.ofit_cut.specs.declared.tie.Tie.TheVariants.{Smallest, Largest}
use Rattle.ofit_loss.specs.Rows.{AreFittable, IsPlain}
use Rattle.ofit_loss.specs.Laws.{HasLossLaws}
use Rattle.ofit_loss.proofs.ProblemLaws.{groups_fittable, problem_support, problem_falling, problem_scaling, problem_strictness}
use Rattle.ofit_partition.specs.declared.piece.Piece.{Piece}
use Rattle.ofit_partition.specs.declared.piece.Parts.{Parts}
use Rattle.ofit_partition.specs.Piece.{holds, IsPiece, AreNumbered, is_marked, marked, IsInside, AreParts, IsTieIn, partition_problem}
use Rattle.ofit_partition.specs.Cut.{IsPooledValue, AreCutAt}
use Rattle.ofit_partition.proofs.Places.{position_of, holds_at, held_below}
use Rattle.ofit_partition.proofs.Pools.{plain_at}
use Rattle.ofit_partition.proofs.Uppers.{at_position}
use Rattle.ofit_partition.proofs.Splits.{chosen_piece, rest_piece, chosen_holds, part_sizes, parts_split}

-- each place has a position of the set
pub inside_set : (positions places : List ℕ) (set : List Bool) → AreNumbered positions places → length set ≡ length places → (g : ℕ) → holds places g ≡ true → IsInside positions set g
inside_set positions places set numbered count g u = (held_below (λ x. x < length positions) places g numbered.inside u, omega (arith, count, (at_position positions places numbered g u).0))

pub places_inside : (positions places : List ℕ) (set : List Bool) → AreNumbered positions places → length set ≡ length places → All (IsInside positions set) places
places_inside positions places set numbered count = λ k d l. subst (IsInside positions set) (default places k d l) (inside_set positions places set numbered count (slice_index places k) (holds_at places k l)) where
  default : (xs : List ℕ) (k d : ℕ) → k < length xs → slice_index xs k ≡ get_or xs k d
  default [] k d l = absurd (omega arith)
  default (x ∷ xs) zero d l = refl
  default (x ∷ xs) (suc k) d l = default xs k d (omega arith)

pub ends_inside : (s : Problem) (piece : Piece) (positions : List ℕ) (set : List Bool) → IsPiece s piece → AreNumbered positions piece.places.items → length set ≡ length piece.places.items → All (λ e. IsInside positions set e.0 × IsInside positions set e.1) piece.pairs.items
ends_inside s piece positions set h numbered count = λ k d l. (inside_set positions piece.places.items set numbered count _ (h.inside k d l).1, inside_set positions piece.places.items set numbered count _ (h.inside k d l).2)

some_place : (places : List ℕ) (g : ℕ) → holds places g ≡ true → 0 < length places
some_place places g u = omega (arith, (position_of places g u).1)

-- no position of a set that holds none
none_marked : (set : List Bool) → (Any (λ b. b ≡ true) set → ⊥) → (i : ℕ) → slice_index_or set i false ≡ false
none_marked set none i = go (slice_index_or set i false) refl where
  go : (x : Bool) → slice_index_or set i false ≡ x → x ≡ false
  go false e = refl
  go true e = absurd (none (at set i e)) where
    at : (xs : List Bool) (i : ℕ) → slice_index_or xs i false ≡ true → Any (λ b. b ≡ true) xs
    at [] i e = cc
    at (x ∷ xs) zero e = (0, true, omega arith, e, refl)
    at (x ∷ xs) (suc i) e = let k : Any (λ b. b ≡ true) xs = at xs i e in (suc k.0, k.1, omega (arith, k.2), k.3, k.4)

module _ (m : Meaning) (s : Problem) (strict : Bool) (law : HasFallingSpans m s) (places : HasPlaces s) (piece : Piece) (is : IsPiece s piece) (some : 0 < length piece.places.items) (positions : List ℕ) (numbered : AreNumbered positions piece.places.items)
    (value : Fraction) (pooled : IsPooledValue m s strict piece.places.items value) (set : List Bool) (count : length set ≡ length piece.places.items) (parts : Parts) (are : AreParts (is_marked positions set) piece parts) where
  -- the chosen places are those of the chosen piece
  held : marked piece positions set ≡ holds parts.chosen.places.items
  held = fun_ext (λ g. sym (chosen_holds s piece (is_marked positions set) parts are g))

  split : IsUpperIn s (holds piece.places.items) (marked piece positions set) → IsSplit s (holds piece.places.items) (holds parts.chosen.places.items) (holds parts.rest.places.items)
  split up = parts_split s piece (is_marked positions set) parts are up

  at_piece : (g : ℕ) → holds piece.places.items g ≡ true → g < s.count
  at_piece g u = held_below (λ x. x < s.count) piece.places.items g is.below u

  cut_at : IsCut m s (holds piece.places.items) (holds parts.chosen.places.items) (holds parts.rest.places.items) value → (g : ℕ) → holds parts.chosen.places.items g ≡ true → AreCutAt m s piece parts value
  cut_at cut g u = record {
    cut = cut;
    chosen = chosen_piece s piece (is_marked positions set) parts are is;
    rest = rest_piece s piece (is_marked positions set) parts are is;
    some = some_place parts.chosen.places.items g u;
    sizes = part_sizes s piece (is_marked positions set) parts are;
  }

  -- the first cut, of a set that has a place
  pub opened : IsGreatestUpper s (holds piece.places.items) (least_at m s value) (marked piece positions set) → IsSmallest s (holds piece.places.items) (least_at m s value) (marked piece positions set) → Any (λ b. b ≡ true) set
      → AreCutAt m s piece parts value × (0 < length parts.rest.places.items)
  opened best small any = (cut_at (first_cut m s places law (holds piece.places.items) (holds parts.chosen.places.items) (holds parts.rest.places.items) value (split best.closed) pooled.pooled best' small') place in_chosen, some_place parts.rest.places.items left.0 left.2) where
    best' : IsGreatestUpper s (holds piece.places.items) (least_at m s value) (holds parts.chosen.places.items)
    best' = subst (IsGreatestUpper s (holds piece.places.items) (least_at m s value)) held best

    small' : IsSmallest s (holds piece.places.items) (least_at m s value) (holds parts.chosen.places.items)
    small' = subst (IsSmallest s (holds piece.places.items) (least_at m s value)) held small

    place : ℕ
    place = slice_index piece.places.items any.0

    below : any.0 < length piece.places.items
    below = omega (arith, any.2, count)

    in_piece : holds piece.places.items (slice_index piece.places.items any.0) ≡ true
    in_piece = holds_at piece.places.items any.0 below

    in_chosen : holds parts.chosen.places.items (slice_index piece.places.items any.0) ≡ true
    in_chosen = chosen_holds s piece (is_marked positions set) parts are (slice_index piece.places.items any.0)
        ∙ both_and _ _ in_piece (ap (λ (i : ℕ). slice_index_or set i false) (numbered.each any.0 below) ∙ read set any.0 any.1 any.2 any.3 ∙ any.4) where
          read : (xs : List Bool) (k : ℕ) (x : Bool) → k < length xs → slice_index_or xs k x ≡ x → slice_index_or xs k false ≡ x
          read [] k x l e = absurd (omega arith)
          read (y ∷ ys) zero x l e = e
          read (y ∷ ys) (suc k) x l e = read ys k x (omega arith) e

    left : (x : ℕ) × (x < s.count) × (holds parts.rest.places.items x ≡ true)
    left = first_rest m s places law (holds piece.places.items) (holds parts.chosen.places.items) (holds parts.rest.places.items) value (split best.closed) pooled.pooled best' small' (slice_index piece.places.items any.0) (at_piece _ in_piece) in_chosen

  -- the second cut, where no upper set gains
  pub settled : HasCeiling m s (holds piece.places.items) value → (strict ≡ true → FallStrictly m s) → IsGreatestUpper s (holds piece.places.items) (greatest_at m s value) (marked piece positions set)
      → IsTieOf strict s (holds piece.places.items) (greatest_at m s value) (marked piece positions set) → AreCutAt m s piece parts value × IsLevel m s strict (holds parts.chosen.places.items) value
  settled ceiling strictly best tie = (
    cut_at (second_cut m s places law strict (holds piece.places.items) (holds parts.chosen.places.items) (holds parts.rest.places.items) value (split best.closed) pooled.pooled ceiling best' tie' strictly) found.0 found.2,
    second_level m s places law strict (holds piece.places.items) (holds parts.chosen.places.items) (holds parts.rest.places.items) value (split best.closed) pooled.pooled ceiling best' tie' strictly,
  ) where
    best' : IsGreatestUpper s (holds piece.places.items) (greatest_at m s value) (holds parts.chosen.places.items)
    best' = subst (IsGreatestUpper s (holds piece.places.items) (greatest_at m s value)) held best

    tie' : IsTieOf strict s (holds piece.places.items) (greatest_at m s value) (holds parts.chosen.places.items)
    tie' = subst (IsTieOf strict s (holds piece.places.items) (greatest_at m s value)) held tie

    found : (x : ℕ) × (x < s.count) × (holds parts.chosen.places.items x ≡ true)
    found = second_some m s places law strict (holds piece.places.items) (holds parts.chosen.places.items) (holds parts.rest.places.items) value (split best.closed) pooled.pooled ceiling best' tie' strictly pooled.costs
        (slice_index piece.places.items 0) (at_piece _ (holds_at piece.places.items 0 some)) (holds_at piece.places.items 0 some)

-- where the set of the first cut has none, no upper set gains
pub first_ceiling : (m : Meaning) (s : Problem) → HasPlaces s → HasFallingSpans m s → (piece : Piece) (positions : List ℕ) (value : Fraction) → 0 < value.den → (set : List Bool)
    → IsGreatestUpper s (holds piece.places.items) (least_at m s value) (marked piece positions set) → (Any (λ b. b ≡ true) set → ⊥) → HasCeiling m s (holds piece.places.items) value
first_ceiling m s places law piece positions value l set best none = none_gains m s places law (holds piece.places.items) (marked piece positions set) value l best
    (λ g b. out (holds piece.places.items g) (is_marked positions set g) (none_marked set none (slice_index positions g))) where
      out : (x y : Bool) → y ≡ false → (x && y) ≡ false
      out true y e = e
      out false y e = refl

-- the tie that the loss asks for
pub tie_of : (strict : Bool) (tie : Tie) (s : Problem) (piece : ℕ → Bool) (c : ℕ → ℤ) (chosen : ℕ → Bool) → ((strict ≡ true) × (tie ≡ Largest)) ⊎ ((strict ≡ false) × (tie ≡ Smallest)) → IsTieIn tie s piece c chosen → IsTieOf strict s piece c chosen
tie_of strict tie s piece c chosen (inl e) h = subst (λ b. IsTieOf b s piece c chosen) (sym e.0) (subst (λ t. IsTieIn t s piece c chosen) e.1 h)
tie_of strict tie s piece c chosen (inr e) h = subst (λ b. IsTieOf b s piece c chosen) (sym e.0) (subst (λ t. IsTieIn t s piece c chosen) e.1 h)

module _ (m : Meaning) (strict : Bool) (laws : HasLossLaws m strict) (groups : RowLists) (pairs : List (ℕ × ℕ)) (fit : AreFittable (all_rows groups)) where
  pub order_falling : HasFallingSpans m (partition_problem groups pairs)
  order_falling = problem_falling m strict laws (partition_problem groups pairs) (groups_fittable groups pairs no_bounds fit)

  pub order_support : HasSupport m (partition_problem groups pairs)
  order_support = problem_support m strict laws (partition_problem groups pairs) (groups_fittable groups pairs no_bounds fit)

  pub order_scaling : HasScaling m (partition_problem groups pairs)
  order_scaling = problem_scaling m strict laws (partition_problem groups pairs) (groups_fittable groups pairs no_bounds fit)

  pub order_strictly : All (λ rows. Any IsPlain rows) groups → strict ≡ true → FallStrictly m (partition_problem groups pairs)
  order_strictly plain is = record { falls = λ g l c b lc lb below. problem_strictness m strict laws (partition_problem groups pairs) (groups_fittable groups pairs no_bounds fit) is g l (plain_at groups g plain l) c b lc lb below }
