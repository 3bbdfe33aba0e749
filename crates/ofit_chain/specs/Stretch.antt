-- Stretches of a chain: neighbouring groups that share one value.
use Rattle.std.specs.Prelude.{◌≡◌, ℕ, suc, ◌+◌, ◌≤◌, Bool, not, ◌&&◌, nat_lt, List, [], ◌∷◌, ◌++◌, replicate}
use Rattle.ofit_num.specs.Problem.{Problem}
use Rattle.ofit_num.specs.Meaning.{Meaning}
use Rattle.ofit_num.specs.Fraction.{Fraction}
use Rattle.ofit_num.specs.Below.{Below}
use Rattle.ofit_num.specs.Block.{IsBlock}
use Rattle.ofit_num.specs.Steep.{IsSteep}

-- the places from i on and below j
abbrev pub run : ℕ → ℕ → ℕ → Bool
run i j g = not (nat_lt g i) && nat_lt g j

-- so many neighbouring groups at one value
pub record Stretch : Type 0 where
  pub value : Fraction
  pub groups : ℕ

-- the groups of the stretch are a block, whose last place is its top
pub record IsStretch (m : Meaning) (s : Problem) (strict : Bool) (start : ℕ) (b : Stretch) : Type 0 where
  pub last : ℕ
  pub ends : start + b.groups ≡ suc last
  pub reaches : start ≤ last
  pub limit : Fraction
  pub block : IsBlock m s strict (run start (suc last)) last b.value limit
  pub steep : IsSteep m s (run start (suc last)) last limit

-- each stretch begins where the one before it ends
abbrev pub AreStretches : Meaning → Problem → Bool → ℕ → List Stretch → Type 0
AreStretches m s strict start [] = Unit {0}
AreStretches m s strict start (b ∷ bs) = IsStretch m s strict start b × AreStretches m s strict (start + b.groups) bs

-- the first stretch lies above the value
abbrev pub StartsAbove : Fraction → List Stretch → Type 0
StartsAbove c [] = Unit {0}
StartsAbove c (b ∷ bs) = Below c b.value

-- each stretch lies above the one before it
abbrev pub Rise : List Stretch → Type 0
Rise [] = Unit {0}
Rise (b ∷ bs) = StartsAbove b.value bs × Rise bs

-- how many groups the stretches have
abbrev pub groups_in : List Stretch → ℕ
groups_in [] = 0
groups_in (b ∷ bs) = b.groups + groups_in bs

-- the value of each group
abbrev pub values_of : List Stretch → List Fraction
values_of [] = []
values_of (b ∷ bs) = replicate b.groups b.value ++ values_of bs
