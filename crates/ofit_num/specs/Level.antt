-- Pieces of one value, what bounds the values of a piece from below, and the parts of a problem by labels of its places.
use Rattle.std.specs.Prelude.{◌≡◌, ℕ, ◌<◌, ◌⊎◌, Bool, true, false, List, length, All, slice_get, Some, nat_eq, ℤ, pos, ◌≤ℤ◌, ◌<ℤ◌}
use Rattle.ofit_num.specs.Problem.{Problem}
use Rattle.ofit_num.specs.Meaning.{Meaning}
use Rattle.ofit_num.specs.Fraction.{Fraction, AtMost}
use Rattle.ofit_num.specs.Below.{Below}
use Rattle.ofit_num.specs.Law.{least_at, greatest_at}
use Rattle.ofit_num.specs.Sets.{set_sum, IsWithin, IsUpperIn, IsLowerIn, IsSplit, IsGreatestUpper, IsSmallest}
use Rattle.ofit_num.specs.Block.{IsPooled, IsCost, HasCeiling}

-- No upper set of the piece gains by rising from the value, each lower set that has a place costs by falling from it, and would gain by rising again from each smaller value.
pub record IsLevel (m : Meaning) (s : Problem) (strict : Bool) (piece : ℕ → Bool) (value : Fraction) : Type 0 where
  pub den : 0 < value.den
  pub raised : (a : ℕ → Bool) → IsWithin s piece a → IsUpperIn s piece a → set_sum a (least_at m s value) s.count ≤ℤ pos 0
  pub costs : (a : ℕ → Bool) → IsWithin s piece a → IsLowerIn s piece a → (g : ℕ) → g < s.count → a g ≡ true → IsCost strict (set_sum a (greatest_at m s value) s.count)
  pub gains : (b : Fraction) → 0 < b.den → Below b value → (a : ℕ → Bool) → IsWithin s piece a → IsLowerIn s piece a → (g : ℕ) → g < s.count → a g ≡ true → pos 0 <ℤ set_sum a (greatest_at m s b) s.count

-- every lower set of the piece that has a place would gain by rising from any value below a
pub record HasBase (m : Meaning) (s : Problem) (piece : ℕ → Bool) (a : Fraction) : Type 0 where
  pub den : 0 < a.den
  pub base : (b : Fraction) → 0 < b.den → Below b a → (x : ℕ → Bool) → IsWithin s piece x → IsLowerIn s piece x → (g : ℕ) → g < s.count → x g ≡ true → pos 0 <ℤ set_sum x (least_at m s b) s.count

-- each other upper set with the chosen one's sum is inside it
pub record IsLargest (s : Problem) (piece : ℕ → Bool) (c : ℕ → ℤ) (chosen : ℕ → Bool) : Type 0 where
  pub largest : (a : ℕ → Bool) → IsWithin s piece a → IsUpperIn s piece a → set_sum a c s.count ≡ set_sum chosen c s.count → (g : ℕ) → g < s.count → a g ≡ true → chosen g ≡ true

-- of the greatest upper sets the largest where the loss is strict, and else the smallest
abbrev pub IsTieOf : Bool → Problem → (ℕ → Bool) → (ℕ → ℤ) → (ℕ → Bool) → Type 0
IsTieOf true = IsLargest
IsTieOf false = IsSmallest

-- The piece, whose rows together have this value, is cut in two by an upper set with the greatest sum of some ends: the values of the chosen part are at least this value, and those of the rest at most.
pub record IsCut (m : Meaning) (s : Problem) (piece chosen rest : ℕ → Bool) (value : Fraction) : Type 0 where
  pub split : IsSplit s piece chosen rest
  pub ends : ℕ → ℤ
  pub greatest : IsGreatestUpper s piece ends chosen
  pub pooled : IsPooled m s piece value
  pub base : HasBase m s chosen value
  pub ceiling : HasCeiling m s rest value

-- the places that have this label
abbrev pub labelled : (ℕ → ℕ) → ℕ → ℕ → Bool
labelled label k g = nat_eq (label g) k

-- a value that the part of the pair's low end doesn't pass, and the part of its high end reaches
pub record HasBetween (m : Meaning) (s : Problem) (label : ℕ → ℕ) (e : ℕ × ℕ) : Type 0 where
  pub value : Fraction
  pub ceiling : HasCeiling m s (labelled label (label e.0)) value
  pub base : HasBase m s (labelled label (label e.1)) value

-- each pair is inside one part, or has a value between its two parts
abbrev pub AreDivided : Meaning → Problem → (ℕ → ℕ) → Type 0
AreDivided m s label = All (λ e. (label e.0 ≡ label e.1) ⊎ HasBetween m s label e) s.pairs

-- the place's part is a level, and all of it has the level's value
pub record IsOfLevel (m : Meaning) (s : Problem) (strict : Bool) (label : ℕ → ℕ) (values : List Fraction) (g : ℕ) : Type 0 where
  pub value : Fraction
  pub level : IsLevel m s strict (labelled label (label g)) value
  pub alike : (h : ℕ) → h < s.count → label h ≡ label g → slice_get values h ≡ Some value

-- the parts are levels, whose values rise along the pairs
pub record AreLevels (m : Meaning) (s : Problem) (strict : Bool) (label : ℕ → ℕ) (top : ℕ) (values : List Fraction) : Type 0 where
  pub count : length values ≡ s.count
  pub below : (g : ℕ) → g < s.count → label g < top
  pub levels : (g : ℕ) → g < s.count → IsOfLevel m s strict label values g
  pub rises : All (λ e. (v w : Fraction) → slice_get values e.0 ≡ Some v → slice_get values e.1 ≡ Some w → AtMost v w) s.pairs
