-- two parts of a piece, and what of a set lies in each
use Rattle.std.proofs.Common.{◌≡◌, ℕ, ◌<◌, ap, ◌∙◌, refl, Bool, true, false, ◌||◌}
use Rattle.std.specs.Prelude.{All}
use Rattle.ofit_num.specs.Problem.{Problem}
use Rattle.ofit_num.specs.Sets.{IsWithin, IsUpperIn, IsLowerIn}
use Rattle.ofit_num.proofs.Pieces.{meet, and_both, both_and}

pub in_part : (s : Problem) (part a : ℕ → Bool) → IsWithin s part (meet a part)
in_part s part a = record { each = λ g l k. (and_both (a g) (part g) k).1 }

module _ (n : ℕ) (piece base child : ℕ → Bool) (parts : (g : ℕ) → g < n → piece g ≡ (base g || child g)) where
  pub base_in : (g : ℕ) → g < n → base g ≡ true → piece g ≡ true
  base_in g l u = parts g l ∙ ap (λ (y : Bool). y || child g) u

  pub child_in : (g : ℕ) → g < n → child g ≡ true → piece g ≡ true
  child_in g l u = parts g l ∙ last (base g) (child g) u where
    last : (y z : Bool) → z ≡ true → (y || z) ≡ true
    last true z e = refl
    last false z e = e

module _ (s : Problem) (places : All (λ e. (e.0 < s.count) × (e.1 < s.count)) s.pairs) (piece part a : ℕ → Bool) (inside : (g : ℕ) → g < s.count → part g ≡ true → piece g ≡ true) where
  pub upper_part : IsUpperIn s piece a → IsUpperIn s part (meet a part)
  upper_part h i d l low high k = both_and _ _ (h i d l (inside _ (places i d l).0 low) (inside _ (places i d l).1 high) (and_both _ _ k).0) high

  pub lower_part : IsLowerIn s piece a → IsLowerIn s part (meet a part)
  lower_part h i d l low high k = both_and _ _ (h i d l (inside _ (places i d l).0 low) (inside _ (places i d l).1 high) (and_both _ _ k).0) low
