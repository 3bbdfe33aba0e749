-- One value more, of those that an edited study has by the names of its groups.
use Rattle.std.proofs.Common.{◌≡◌, ◌<◌, ◌+◌, ◌⊎◌, inl, inr, ◌++◌, ◌∷◌, [], ℕ, List, length, ap, sym, ◌∙◌, arith}
use Rattle.std.proofs.lemmas.Bool.{cases_order}
use Rattle.std.proofs.lemmas.Option.{same_Some}
use Rattle.std.specs.Prelude.{Some, slice_get}
use Rattle.ofit_num.specs.Fraction.{Fraction}
use Rattle.ofit_num.proofs.Elements.{slice_get-before, slice_get-push}

pub carried_more : (names old : List (List ℕ)) (values own more : List Fraction) (value : Fraction) (place : ℕ) (name : List ℕ) → length own ≡ place → more ≡ own ++ value ∷ [] → slice_get names place ≡ Some name
    → ((p : ℕ) → slice_get old p ≡ Some name → slice_get values p ≡ Some value)
    → ((g p : ℕ) (n : List ℕ) → g < place → slice_get names g ≡ Some n → slice_get old p ≡ Some n → slice_get own g ≡ slice_get values p)
    → (g p : ℕ) (n : List ℕ) → g < place + 1 → slice_get names g ≡ Some n → slice_get old p ≡ Some n → slice_get more g ≡ slice_get values p
carried_more names old values own more value place name count is at here before g p n l e f = ap (λ (t : List Fraction). slice_get t g) is ∙ by (cases_order g place) where
  by : (g ≡ place) ⊎ ((g < place) ⊎ (place < g)) → slice_get (own ++ value ∷ []) g ≡ slice_get values p
  by (inl same) =
      let named : n ≡ name = same_Some n name (sym e ∙ ap (slice_get names) same ∙ at) in
      ap (slice_get (own ++ value ∷ [])) (same ∙ sym count) ∙ slice_get-push own value ∙ sym (here p (f ∙ ap Some named))
  by (inr (inl less)) = slice_get-before own value g (omega (arith, less, count)) ∙ before g p n less e f
  by (inr (inr greater)) = absurd (omega (arith, l, greater))
