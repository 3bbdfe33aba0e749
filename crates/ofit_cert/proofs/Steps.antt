-- A value and an amount more.
use Rattle.std.proofs.Common.{◌≡◌, ℕ, ◌+◌, ◌<◌, List, [], ◌∷◌, ◌++◌, length, take, get_or, sym, ap, ap₂, ◌∙◌, arith, true, false, map}
use Rattle.std.proofs.lemmas.List.{map-append, take_more, get_or_default}
use Rattle.std.proofs.lemmas.List.FromFn.{length-enumerate_from, get_or-enumerate_from}
use Rattle.std.proofs.lemmas.Slice.Zip.{get_or-zip, length-zip}
use Rattle.std.specs.List.{filter, zip, enumerate_from}
use Rattle.std.specs.Prelude.{ℤ, pos}
use Rattle.ofit_num.proofs.Lists.{filter_kept, filter_left}
use Rattle.ofit_cert.specs.TightFlows.{is_above_zero}

-- a value more with its place
pub entry_more : {X : Type 0} (values : List X) (k : ℕ) (value : X) → k < length values → value ≡ get_or values k value → take k (enumerate_from 0 values) ++ (k, value) ∷ [] ≡ take (k + 1) (enumerate_from 0 values)
entry_more {X} values k value l at = sym (take_more (enumerate_from 0 values) k (k, value) (omega (arith, length-enumerate_from 0 values, l)) ∙ ap (λ (e : ℕ × X). take k (enumerate_from 0 values) ++ e ∷ []) here) where
  zero_more : (k : ℕ) → 0 + k ≡ k
  zero_more k = omega arith

  here : get_or (enumerate_from 0 values) k (k, value) ≡ (k, value)
  here = get_or-enumerate_from 0 values k (k, value) l ∙ ap (λ (v : X). (0 + k, v)) (sym at) ∙ ap (λ (n : ℕ). (n, value)) (zero_more k)

-- an amount more
abbrev flat : (ℕ × ℕ) × ℤ → ℕ × ℕ × ℤ
flat e = (e.0.0, e.0.1, e.1)

module _ (pairs : List (ℕ × ℕ)) (amounts : List ℤ) (i : ℕ) (amount : ℤ) (l : i < length pairs) (counted : length amounts ≡ length pairs) (is : amount ≡ get_or amounts i (pos 0)) where
  abbrev here : (ℕ × ℕ) × ℤ
  here = (get_or pairs i (0, 0), amount)

  inside : i < length (zip pairs amounts)
  inside = omega (arith, length-zip pairs amounts, counted, l)

  zipped : get_or (zip pairs amounts) i here ≡ here
  zipped =
      get_or-zip pairs amounts i here l (omega (arith, counted, l))
      ∙ ap₂ (λ (e : ℕ × ℕ) (z : ℤ). (e, z)) (get_or_default pairs i (get_or pairs i (0, 0)) (0, 0) l) (get_or_default amounts i amount (pos 0) (omega (arith, counted, l)) ∙ sym is)

  pub flow_more : is_above_zero amount ≡ true → map flat (filter (λ e. is_above_zero e.1) (take (i + 1) (zip pairs amounts))) ≡ map flat (filter (λ e. is_above_zero e.1) (take i (zip pairs amounts))) ++ ((get_or pairs i (0, 0)).0, (get_or pairs i (0, 0)).1, amount) ∷ []
  flow_more h =
      ap (map flat) (filter_kept (λ e. is_above_zero e.1) (zip pairs amounts) i here inside zipped h)
      ∙ map-append flat (filter (λ e. is_above_zero e.1) (take i (zip pairs amounts))) (here ∷ [])

  pub flow_less : is_above_zero amount ≡ false → map flat (filter (λ e. is_above_zero e.1) (take (i + 1) (zip pairs amounts))) ≡ map flat (filter (λ e. is_above_zero e.1) (take i (zip pairs amounts)))
  flow_less h = ap (map flat) (filter_left (λ e. is_above_zero e.1) (zip pairs amounts) i here inside zipped h)
