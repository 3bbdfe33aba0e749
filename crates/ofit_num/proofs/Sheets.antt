-- A complete sheet lists its values by place: the value of place g is the g-th of them.
use Rattle.std.proofs.Common.{◌≡◌, ◌≢◌, ℕ, zero, suc, ◌+◌, ◌<◌, ◌≤◌, refl, sym, ap, subst, ◌∙◌, arith, inl, inr, List, [], ◌∷◌, length, cond, nat_eq, Bool, true, false, map, ◌⊎◌}
use Rattle.std.proofs.lemmas.Bool.{cases_order}
use Rattle.std.proofs.lemmas.Bool.Decides.{nat_tests}
use Rattle.std.proofs.lemmas.List.Elements.{All-head, All-tail}
use Rattle.std.proofs.lemmas.List.{length-map}
use Rattle.std.specs.Prelude.{All, AllPairs, slice_get, Option, Some, None, IsSome, unwrap_or, pos}
use Rattle.ofit_num.specs.Fraction.{Fraction}
use Rattle.ofit_num.specs.Sheet.{Entry, Sheet, FitsCount, entry_value, sheet_value, sheet_values}
use Rattle.ofit_num.specs.Verdict.{AllBelow, HasValue}

pub AllPairs-head : {X : Type 0} (R : X → X → Type 0) (x : X) (xs : List X) → AllPairs R (x ∷ xs) → All (R x) xs
AllPairs-head R x xs h k d l = h 0 (suc k) d (omega arith) (omega arith)

pub AllPairs-tail : {X : Type 0} (R : X → X → Type 0) (x : X) (xs : List X) → AllPairs R (x ∷ xs) → AllPairs R xs
AllPairs-tail R x xs h i j d l k = h (suc i) (suc j) d (omega arith) (omega arith)

equal_places : (g k : ℕ) → g ≡ k → nat_eq g k ≡ true
equal_places g k e = grind (arith, nat_tests)

other_places : (g k : ℕ) → g ≢ k → nat_eq g k ≡ false
other_places g k d = grind (arith, nat_tests)

pub here_value : (e : Entry) (es : List Entry) (g : ℕ) → e.place ≡ g → entry_value (e ∷ es) g ≡ Some e.value
here_value e es g h = ap (λ (b : Bool). cond b (Some e.value) (entry_value es g)) (equal_places e.place g h)

pub later_value : (e : Entry) (es : List Entry) (g : ℕ) → e.place ≢ g → entry_value (e ∷ es) g ≡ entry_value es g
later_value e es g h = ap (λ (b : Bool). cond b (Some e.value) (entry_value es g)) (other_places e.place g h)

-- a place that no entry has gets none
pub no_value : (es : List Entry) (g : ℕ) → All (λ e. e.place ≢ g) es → entry_value es g ≡ None
no_value [] g h = refl
no_value (e ∷ es) g h = later_value e es g (All-head (λ f. f.place ≢ g) e es h) ∙ no_value es g (All-tail (λ f. f.place ≢ g) e es h)

pub not_some : (o : Option Fraction) → o ≡ None → IsSome o → ⊥
not_some o e h = cc

module _ (n : ℕ) where
  -- the first of the entries from place k on is at k
  first_place : (e : Entry) (es : List Entry) (k : ℕ) → k ≤ e.place → e.place < n → All (λ f. e.place < f.place) es → ((g : ℕ) → k ≤ g → g < n → IsSome (entry_value (e ∷ es) g)) → e.place ≡ k
  first_place e es k at_least small later has = go (cases_order k e.place) where
    go : (k ≡ e.place) ⊎ ((k < e.place) ⊎ (e.place < k)) → e.place ≡ k
    go (inl h) = sym h
    go (inr (inl h)) = absurd (not_some (entry_value (e ∷ es) k) (later_value e es k (λ same. omega arith) ∙ no_value es k (λ i d b same. omega (arith, later i d b, same))) (has k (omega arith) (omega arith)))
    go (inr (inr h)) = absurd (omega arith)

  -- entries from place k on that rise and leave out no place are at k, k + 1 and so on
  in_order : (es : List Entry) (k : ℕ) → k ≤ n → All (λ e. e.place < n) es → All (λ e. k ≤ e.place) es → AllPairs (λ e f. e.place < f.place) es
      → ((g : ℕ) → k ≤ g → g < n → IsSome (entry_value es g)) → (length es + k ≡ n) × ((j : ℕ) → slice_get (map (λ e. e.value) es) j ≡ entry_value es (k + j))
  in_order [] k l below from rising has = (full (cases_order k n), λ j. refl) where
    full : (k ≡ n) ⊎ ((k < n) ⊎ (n < k)) → length {A = Entry} [] + k ≡ n
    full (inl e) = omega arith
    full (inr (inl h)) = absurd (not_some (entry_value [] k) refl (has k (omega arith) h))
    full (inr (inr h)) = absurd (omega arith)
  in_order (e ∷ es) k l below from rising has =
      let later : All (λ f. e.place < f.place) es = AllPairs-head (λ e f. e.place < f.place) e es rising in
      let first : e.place ≡ k = first_place e es k (All-head (λ e. k ≤ e.place) e es from) (All-head (λ e. e.place < n) e es below) later has in
      let rest : (length es + suc k ≡ n) × ((j : ℕ) → slice_get (map (λ e. e.value) es) j ≡ entry_value es (suc k + j)) =
      in_order es (suc k) (omega (arith, first, All-head (λ e. e.place < n) e es below)) (All-tail (λ e. e.place < n) e es below) (λ i d b. omega (arith, later i d b, first)) (AllPairs-tail (λ e f. e.place < f.place) e es rising)
      (λ g a b. subst IsSome (later_value e es g (λ same. omega (arith, first))) (has g (omega arith) b)) in
      (omega (arith, rest.0), values first rest.1)
    where
      values : e.place ≡ k → ((j : ℕ) → slice_get (map (λ e. e.value) es) j ≡ entry_value es (suc k + j)) → (j : ℕ) → slice_get (map (λ e. e.value) (e ∷ es)) j ≡ entry_value (e ∷ es) (k + j)
      values first rest zero = sym (here_value e es (k + 0) (omega (arith, first)))
      values first rest (suc j) = rest j ∙ ap (entry_value es) (omega arith) ∙ sym (later_value e es (k + suc j) (λ same. omega (arith, first)))

module _ {S : Type 0} (n : ℕ) (x : Sheet S) (fits : FitsCount n x) (complete : AllBelow (HasValue x) n) where
  listed : (length x.values + 0 ≡ n) × ((j : ℕ) → slice_get (map (λ e. e.value) x.values) j ≡ entry_value x.values (0 + j))
  listed = in_order n x.values 0 (omega arith) fits.places (λ i d b. omega arith) fits.rising (λ g a b. complete g b)

  pub sheet_values-length : length (sheet_values x) ≡ n
  sheet_values-length = length-map x.values (λ e. e.value) ∙ omega (arith, listed.0)

  pub sheet_values-get : (g : ℕ) → slice_get (sheet_values x) g ≡ entry_value x.values g
  sheet_values-get g = listed.1 g ∙ ap (entry_value x.values) (omega arith)

  -- each place below the count has its value in the list
  pub sheet_value-get : (g : ℕ) → g < n → slice_get (sheet_values x) g ≡ Some (sheet_value x g)
  sheet_value-get g l = sheet_values-get g ∙ given (entry_value x.values g) (complete g l) where
    given : (o : Option Fraction) → IsSome o → o ≡ Some (unwrap_or o (record { num = pos 0; den = 1 }))
    given None h = cc
    given (Some f) h = refl
