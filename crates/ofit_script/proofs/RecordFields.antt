-- The fields of a record one by one.
use Rattle.std.proofs.Common.{◌≡◌, ◌⊎◌, ℕ, List, [], ◌∷◌, length, drop, Some, inl, inr, sym, subst, arith}
use Rattle.std.specs.Prelude.{slice_get}
use Rattle.ofit_script.specs.declared.fault.ScriptFault.{ScriptFault}
use Rattle.ofit_script.specs.Kinds.{Field}
use Rattle.ofit_script.specs.Spelling.{FieldFault, FieldsFault, FitsField}

pub one_field : (xs : List (List ℕ)) (a : List ℕ) → length xs ≡ 1 → slice_get xs 0 ≡ Some a → xs ≡ a ∷ []
one_field [] a l e = absurd (omega (arith, l))
one_field (x ∷ []) a l e = cc
one_field (x ∷ y ∷ rest) a l e = absurd (omega (arith, l))

pub two_fields : (xs : List (List ℕ)) (a b : List ℕ) → length xs ≡ 2 → slice_get xs 0 ≡ Some a → slice_get xs 1 ≡ Some b → xs ≡ a ∷ b ∷ []
two_fields [] a b l e f = absurd (omega (arith, l))
two_fields (x ∷ []) a b l e f = absurd (omega (arith, l))
two_fields (x ∷ y ∷ []) a b l e f = cc
two_fields (x ∷ y ∷ z ∷ rest) a b l e f = absurd (omega (arith, l))

pub three_fields : (xs : List (List ℕ)) (a b c : List ℕ) → length xs ≡ 3 → slice_get xs 0 ≡ Some a → slice_get xs 1 ≡ Some b → slice_get xs 2 ≡ Some c → xs ≡ a ∷ b ∷ c ∷ []
three_fields [] a b c l e f g = absurd (omega (arith, l))
three_fields (x ∷ []) a b c l e f g = absurd (omega (arith, l))
three_fields (x ∷ y ∷ []) a b c l e f g = absurd (omega (arith, l))
three_fields (x ∷ y ∷ z ∷ []) a b c l e f g = cc
three_fields (x ∷ y ∷ z ∷ w ∷ rest) a b c l e f g = absurd (omega (arith, l))

behind_one : (xs : List (List ℕ)) (b : List ℕ) → slice_get xs 1 ≡ Some b → drop 1 xs ≡ b ∷ drop 2 xs
behind_one [] b f = absurd cc
behind_one (x ∷ []) b f = absurd cc
behind_one (x ∷ y ∷ rest) b f = cc

behind_two : (xs : List (List ℕ)) (b c : List ℕ) → slice_get xs 1 ≡ Some b → slice_get xs 2 ≡ Some c → drop 1 xs ≡ b ∷ c ∷ drop 3 xs
behind_two [] b c f g = absurd cc
behind_two (x ∷ []) b c f g = absurd cc
behind_two (x ∷ y ∷ []) b c f g = absurd cc
behind_two (x ∷ y ∷ z ∷ rest) b c f g = cc

behind_three : (xs : List (List ℕ)) (b c d : List ℕ) → slice_get xs 1 ≡ Some b → slice_get xs 2 ≡ Some c → slice_get xs 3 ≡ Some d → drop 1 xs ≡ b ∷ c ∷ d ∷ drop 4 xs
behind_three [] b c d f g h = absurd cc
behind_three (x ∷ []) b c d f g h = absurd cc
behind_three (x ∷ y ∷ []) b c d f g h = absurd cc
behind_three (x ∷ y ∷ z ∷ []) b c d f g h = absurd cc
behind_three (x ∷ y ∷ z ∷ w ∷ rest) b c d f g h = cc

-- the fields behind the first
pub behind_first : (xs : List (List ℕ)) (a : List ℕ) (rest : List (List ℕ)) → slice_get xs 0 ≡ Some a → drop 1 xs ≡ rest → xs ≡ a ∷ rest
behind_first [] a rest e f = absurd cc
behind_first (x ∷ xs) a rest e f = cc

pub two_behind : (xs : List (List ℕ)) (b c : List ℕ) → length xs ≡ 3 → slice_get xs 1 ≡ Some b → slice_get xs 2 ≡ Some c → drop 1 xs ≡ b ∷ c ∷ []
two_behind [] b c l f g = absurd (omega (arith, l))
two_behind (x ∷ []) b c l f g = absurd (omega (arith, l))
two_behind (x ∷ y ∷ []) b c l f g = absurd (omega (arith, l))
two_behind (x ∷ y ∷ z ∷ []) b c l f g = cc
two_behind (x ∷ y ∷ z ∷ w ∷ rest) b c l f g = absurd (omega (arith, l))

-- the first field behind the first one that may not stand there
module _ (places : ℕ) (xs : List (List ℕ)) (number : ℕ) (fault : ScriptFault) where
  pub first_bad : (k : Field) (ks : List Field) (b : List ℕ) → slice_get xs 1 ≡ Some b → FieldFault places k b number fault → FieldsFault places (k ∷ ks) (drop 1 xs) number fault
  first_bad k ks b f bad = subst (λ (t : List (List ℕ)). FieldsFault places (k ∷ ks) t number fault) (sym (behind_one xs b f)) (inl bad)

  pub second_bad : (k j : Field) (ks : List Field) (b c : List ℕ) → slice_get xs 1 ≡ Some b → slice_get xs 2 ≡ Some c → FitsField places k b → FieldFault places j c number fault
      → FieldsFault places (k ∷ j ∷ ks) (drop 1 xs) number fault
  second_bad k j ks b c f g fits bad = subst (λ (t : List (List ℕ)). FieldsFault places (k ∷ j ∷ ks) t number fault) (sym (behind_two xs b c f g)) (inr (fits, inl bad))

  pub third_bad : (k j i : Field) (ks : List Field) (b c d : List ℕ) → slice_get xs 1 ≡ Some b → slice_get xs 2 ≡ Some c → slice_get xs 3 ≡ Some d → FitsField places k b → FitsField places j c
      → FieldFault places i d number fault → FieldsFault places (k ∷ j ∷ i ∷ ks) (drop 1 xs) number fault
  third_bad k j i ks b c d f g h fits also bad =
      subst (λ (t : List (List ℕ)). FieldsFault places (k ∷ j ∷ i ∷ ks) t number fault) (sym (behind_three xs b c d f g h)) (inr (fits, inr (also, inl bad)))

-- want of memory, or else
pub or_else : {A P Q : Type 0} → (P → Q) → A ⊎ P → A ⊎ Q
or_else f (inl a) = inl a
or_else f (inr p) = inr (f p)
