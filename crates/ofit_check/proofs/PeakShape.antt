-- A value of a peaked sheet and the next one.
use Rattle.std.proofs.Common.{◌≡◌, ℕ, suc, ◌+◌, ◌<◌, ◌≤◌, Option, Some, sym, ap, subst, ◌∙◌, arith}
use Rattle.std.proofs.lemmas.Int.{ints}
use Rattle.std.specs.Prelude.{ℤ, pos, ◌≤ℤ◌, ◌↔◌, IfSome, slice_get, slice_index_or}
use Rattle.ofit_sheet.specs.Peaked.{Peaked}
use Rattle.ofit_sheet.specs.PeakVerdict.{KeepsShape}
use Rattle.ofit_check.proofs.PeakCosts.{number_there}

module _ (x : Peaked) (g peak : ℕ) (value next : ℤ) (is : x.peak ≡ Some peak) (here : slice_get x.values g ≡ Some value) (behind : slice_get x.values (g + 1) ≡ Some next) where
  abbrev at : ℕ → ℤ
  at k = slice_index_or x.values k (pos 0)

  abbrev Keeps : Option ℕ → Type 0
  Keeps o = IfSome o (λ p. (g < p → at g ≤ℤ at (suc g)) × (p ≤ g → at (suc g) ≤ℤ at g))

  first : at g ≡ value
  first = number_there x.values g value here

  second : at (suc g) ≡ next
  second = ap at (let a : suc g ≡ g + 1 = omega arith in a) ∙ number_there x.values (g + 1) next behind

  pub before_peak : g < peak → (value ≤ℤ next) ↔ KeepsShape x g
  before_peak l = subst (λ (o : Option ℕ). (value ≤ℤ next) ↔ Keeps o) (sym is) (
    λ h. (λ m. omega (arith, ints, first, second, h), λ m. absurd (omega (arith, l, m))),
    λ h. omega (arith, ints, first, second, h.0 l),
  )

  pub from_peak : peak ≤ g → (next ≤ℤ value) ↔ KeepsShape x g
  from_peak l = subst (λ (o : Option ℕ). (next ≤ℤ value) ↔ Keeps o) (sym is) (
    λ h. (λ m. absurd (omega (arith, l, m)), λ m. omega (arith, ints, first, second, h)),
    λ h. omega (arith, ints, first, second, h.1 l),
  )
