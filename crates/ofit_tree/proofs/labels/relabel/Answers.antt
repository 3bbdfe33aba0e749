use Rattle.std.proofs.Common.{◌≡◌, ℕ, ◌+◌, ◌<◌, sym, ap, subst, ◌∙◌, arith, List, [], ◌∷◌, ◌++◌, length, take, set, get_or, inl, inr}
use Rattle.std.proofs.lemmas.Bool.{cases_eq}
use Rattle.std.proofs.lemmas.List.{take_more, take_all, get_or-set_same, get_or-set_other, length-set}
use Rattle.std.proofs.lemmas.List.Elements.{All-get_or, Contains-push, Contains-push_cases, Contains-append_left}
use Rattle.std.specs.Prelude.{All, Contains, slice_index}
use Rattle.ofit_tree.proofs.labels.relabel.Goals as goal

module _ (xs old labels : List ℕ) (i number : ℕ) (l : i < length xs) (inside : All (λ g. g < length labels) xs)
    (given : (g : ℕ) → Contains (take i xs) g → slice_index labels g ≡ number) (kept : (g : ℕ) → (Contains (take i xs) g → ⊥) → slice_index labels g ≡ slice_index old g) where
  here : get_or xs i 0 < length labels
  here = All-get_or (λ g. g < length labels) xs i 0 l inside

  more : take (i + 1) xs ≡ take i xs ++ get_or xs i 0 ∷ []
  more = take_more xs i 0 l

  given_more : (g : ℕ) → Contains (take (i + 1) xs) g → slice_index (set labels (get_or xs i 0) number) g ≡ number
  given_more g h = elim (cases_eq g (get_or xs i 0)) [
    | inl e ↦ ap (λ (x : ℕ). get_or (set labels (get_or xs i 0) number) x 0) e ∙ get_or-set_same labels (get_or xs i 0) number 0 here
    | inr out ↦ elim (Contains-push_cases (take i xs) (get_or xs i 0) g (subst (λ (ys : List ℕ). Contains ys g) more h)) [
      | inl k ↦ get_or-set_other labels (get_or xs i 0) g number 0 out ∙ given g k
      | inr e ↦ absurd (out (sym e))
    ]
  ]

  kept_more : (g : ℕ) → (Contains (take (i + 1) xs) g → ⊥) → slice_index (set labels (get_or xs i 0) number) g ≡ slice_index old g
  kept_more g none = get_or-set_other labels (get_or xs i 0) g number 0 out ∙ kept g (λ k. none (subst (λ (ys : List ℕ). Contains ys g) (sym more) (Contains-append_left (take i xs) (get_or xs i 0 ∷ []) g k))) where
    out : g ≡ get_or xs i 0 → ⊥
    out e = none (subst (λ (ys : List ℕ). Contains ys g) (sym more) (subst (λ (x : ℕ). Contains (take i xs ++ get_or xs i 0 ∷ []) x) (sym e) (Contains-push (take i xs) (get_or xs i 0))))

pub loop-place-preserved : goal.loop-place-preserved
loop-place-preserved c =
    let inside : All (λ g. g < length c.loop-place.labels.items) c.args.places.now = subst (λ (n : ℕ). All (λ g. g < n) c.args.places.now) (sym c.loop-place.invariant.2) c.requires in (
      given_more c.args.places.now c.args.labels.now.items c.loop-place.labels.items c.loop-place.place-index c.args.number (omega arith) inside c.loop-place.invariant.0 c.loop-place.invariant.1,
      kept_more c.args.places.now c.args.labels.now.items c.loop-place.labels.items c.loop-place.place-index c.args.number (omega arith) inside c.loop-place.invariant.0 c.loop-place.invariant.1,
      length-set c.loop-place.labels.items (get_or c.args.places.now c.loop-place.place-index 0) c.args.number ∙ c.loop-place.invariant.2,
    )

pub returns-clause-given : goal.returns-clause-given
returns-clause-given c = λ g h. c.loop-place.invariant.0 g (subst (λ (xs : List ℕ). Contains xs g) (sym (take_all c.loop-place.place-index c.args.places.now (omega arith))) h)
