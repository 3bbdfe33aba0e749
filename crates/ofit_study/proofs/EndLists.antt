-- The indexes of pairs at their ends, with one pair more.
use Rattle.std.proofs.Common.{◌≡◌, ◌≢◌, ℕ, zero, suc, ◌+◌, ◌<◌, inl, inr, List, [], ◌∷◌, ◌++◌, refl, sym, ap, ap₂, ◌∙◌, subst, arith, length, Bool, true, false, cond, nat_eq, set, get_or, append-nil, replicate}
use Rattle.std.proofs.lemmas.Bool.{cases_eq}
use Rattle.std.proofs.lemmas.Bool.Decides.{nat_tests}
use Rattle.std.proofs.lemmas.List.{map-id, get_or-set_same, get_or-set_other}
use Rattle.std.proofs.lemmas.List.FromFn.{map-range_with_len_more}
use Rattle.std.proofs.lemmas.List.Elements.{filter-append}
use Rattle.std.specs.Prelude.{filter, ◌||◌}
use Rattle.std.specs.List.{range_with_len}
use Rattle.ofit_study.specs.Ends.{has_end, indexes_upto}

range-more : (k : ℕ) → range_with_len 0 (k + 1) ≡ range_with_len 0 k ++ k ∷ []
range-more k =
    sym (map-id (range_with_len 0 (k + 1))) ∙ map-range_with_len_more (λ (i : ℕ). i) 0 k k (omega arith) ∙ ap (λ (t : List ℕ). t ++ k ∷ []) (map-id (range_with_len 0 k))

indexes-more : (pairs : List (ℕ × ℕ)) (k g : ℕ) → indexes_upto pairs (k + 1) g ≡ indexes_upto pairs k g ++ cond (has_end g (get_or pairs k (0, 0))) (k ∷ []) []
indexes-more pairs k g = ap (filter (λ i. has_end g (get_or pairs i (0, 0)))) (range-more k) ∙ filter-append (λ i. has_end g (get_or pairs i (0, 0))) (range_with_len 0 k) (k ∷ [])

-- the lists with an index more at a place
abbrev pub with_index : List (List ℕ) → ℕ → ℕ → List (List ℕ)
with_index lists p k = set lists p (get_or lists p [] ++ k ∷ [])

at_other : (a b : ℕ) → a ≢ b → nat_eq a b ≡ false
at_other a b d = grind (arith, nat_tests)

at_same : (a b : ℕ) → a ≡ b → nat_eq a b ≡ true
at_same a b e = grind (arith, nat_tests)

put-one : (lists : List (List ℕ)) (p k g : ℕ) → p < length lists → get_or (with_index lists p k) g [] ≡ get_or lists g [] ++ cond (nat_eq p g) (k ∷ []) []
put-one lists p k g l = elim (cases_eq g p) [
  | inl e ↦
      subst (λ (t : ℕ). get_or (with_index lists p k) t [] ≡ get_or lists t [] ++ cond (nat_eq p t) (k ∷ []) []) (sym e)
      (get_or-set_same lists p (get_or lists p [] ++ k ∷ []) [] l ∙ ap (λ (t : Bool). get_or lists p [] ++ cond t (k ∷ []) []) (sym (at_same p p refl)))
  | inr d ↦
      get_or-set_other lists p g (get_or lists p [] ++ k ∷ []) [] d
      ∙ sym (append-nil (get_or lists g [])) ∙ ap (λ (t : Bool). get_or lists g [] ++ cond t (k ∷ []) []) (sym (at_other p g (λ e. d (sym e))))
]

-- a pair whose ends are one place
pub put-equal : (pairs : List (ℕ × ℕ)) (lists : List (List ℕ)) (k low high : ℕ) → low < length lists → low ≡ high → (low, high) ≡ get_or pairs k (0, 0) → ((g : ℕ) → get_or lists g [] ≡ indexes_upto pairs k g)
    → (g : ℕ) → get_or (with_index lists low k) g [] ≡ indexes_upto pairs (k + 1) g
put-equal pairs lists k low high l same is h g =
    put-one lists low k g l
    ∙ ap₂ (λ (t : List ℕ) (b : Bool). t ++ cond b (k ∷ []) []) (h g) (either (nat_eq low g) (nat_eq high g) (ap (λ (t : ℕ). nat_eq t g) same) ∙ ap (has_end g) is)
    ∙ sym (indexes-more pairs k g)
  where
    either : (a b : Bool) → a ≡ b → a ≡ (a || b)
    either true b e = refl
    either false b e = e

-- a pair of two places
pub put-both : (pairs : List (ℕ × ℕ)) (lists : List (List ℕ)) (k low high : ℕ) → low < length lists → high < length (with_index lists low k) → low ≢ high → (low, high) ≡ get_or pairs k (0, 0) → ((g : ℕ) → get_or lists g [] ≡ indexes_upto pairs k g)
    → (g : ℕ) → get_or (with_index (with_index lists low k) high k) g [] ≡ indexes_upto pairs (k + 1) g
put-both pairs lists k low high l m apart is h g =
    put-one (with_index lists low k) high k g m
    ∙ ap (λ (t : List ℕ). t ++ cond (nat_eq high g) (k ∷ []) []) (put-one lists low k g l ∙ ap (λ (t : List ℕ). t ++ cond (nat_eq low g) (k ∷ []) []) (h g))
    ∙ cases (nat_eq low g) (nat_eq high g) clash (indexes_upto pairs k g)
    ∙ ap (λ (e : ℕ × ℕ). indexes_upto pairs k g ++ cond (has_end g e) (k ∷ []) []) is
    ∙ sym (indexes-more pairs k g)
  where
    clash : nat_eq low g ≡ true → nat_eq high g ≡ true → ⊥
    clash a b = apart (grind (arith, nat_tests))

    cases : (a b : Bool) → (a ≡ true → b ≡ true → ⊥) → (t : List ℕ) → (t ++ cond a (k ∷ []) []) ++ cond b (k ∷ []) [] ≡ t ++ cond (a || b) (k ∷ []) []
    cases true true f t = absurd (f refl refl)
    cases true false f t = append-nil (t ++ k ∷ [])
    cases false b f t = ap (λ (u : List ℕ). u ++ cond b (k ∷ []) []) (append-nil t)

pub empty-lists : (n g : ℕ) → get_or (replicate {A = List ℕ} n []) g [] ≡ []
empty-lists zero g = refl
empty-lists (suc n) zero = refl
empty-lists (suc n) (suc g) = empty-lists n g
