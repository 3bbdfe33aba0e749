-- Settled trials: no set that can move together gains by it. What is settled is best.
use Rattle.std.specs.Prelude.{◌≡◌, ℕ, ◌<◌, Bool, true, false, All, pos, ◌≤ℤ◌, ◌<ℤ◌}
use Rattle.ofit_num.specs.Problem.{Problem}
use Rattle.ofit_num.specs.Meaning.{Meaning}
use Rattle.ofit_num.specs.Trial.{Trial}
use Rattle.ofit_num.specs.Fit.{Obeys}
use Rattle.ofit_num.specs.Span.{is_at}
use Rattle.ofit_num.specs.Sets.{set_sum, IsClosedUp, IsClosedDown, IsWithin, IsClosedUpIn, IsClosedDownIn}

-- no place of the set is at its upper, or lower, bound
abbrev pub CanRise : Problem → Trial → (ℕ → Bool) → Type 0
CanRise s t a = (g : ℕ) → g < s.count → a g ≡ true → is_at (s.bounds g).hi (t.value g) t.scale ≡ false

abbrev pub CanFall : Problem → Trial → (ℕ → Bool) → Type 0
CanFall s t a = (g : ℕ) → g < s.count → a g ≡ true → is_at (s.bounds g).lo (t.value g) t.scale ≡ false

-- No set of places that can be raised together gains by it, and none that can be lowered together.
pub record IsSettled (m : Meaning) (s : Problem) (t : Trial) : Type 0 where
  pub obeys : Obeys s t
  pub raised : (a : ℕ → Bool) → IsClosedUp s t a → CanRise s t a → set_sum a (λ g. m.least (s.rows g) (t.value g) t.scale) s.count ≤ℤ pos 0
  pub lowered : (a : ℕ → Bool) → IsClosedDown s t a → CanFall s t a → pos 0 ≤ℤ set_sum a (λ g. m.greatest (s.rows g) (t.value g) t.scale) s.count

-- settled, and every set that could be lowered together would lose by it: so no best fit is lower anywhere
pub record IsLeastSettled (m : Meaning) (s : Problem) (t : Trial) : Type 0 where
  pub settled : IsSettled m s t
  pub loses : (a : ℕ → Bool) → IsClosedDown s t a → CanFall s t a → (g : ℕ) → g < s.count → a g ≡ true → pos 0 <ℤ set_sum a (λ g. m.greatest (s.rows g) (t.value g) t.scale) s.count

-- the trial is settled on the piece
pub record IsFitted (m : Meaning) (s : Problem) (t : Trial) (piece : ℕ → Bool) : Type 0 where
  pub obeys : All (λ e. piece e.0 ≡ true → piece e.1 ≡ true → t.value e.0 ≤ℤ t.value e.1) s.pairs
  pub raised : (a : ℕ → Bool) → IsWithin s piece a → IsClosedUpIn s t piece a → set_sum a (λ g. m.least (s.rows g) (t.value g) t.scale) s.count ≤ℤ pos 0
  pub lowered : (a : ℕ → Bool) → IsWithin s piece a → IsClosedDownIn s t piece a → pos 0 ≤ℤ set_sum a (λ g. m.greatest (s.rows g) (t.value g) t.scale) s.count

-- and every set that could be lowered together loses by it
pub record LosesByLowering (m : Meaning) (s : Problem) (t : Trial) (piece : ℕ → Bool) : Type 0 where
  pub loses : (a : ℕ → Bool) → IsWithin s piece a → IsClosedDownIn s t piece a → (g : ℕ) → g < s.count → a g ≡ true → pos 0 <ℤ set_sum a (λ g. m.greatest (s.rows g) (t.value g) t.scale) s.count
