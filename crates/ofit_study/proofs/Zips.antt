-- What goes with the elements of a list, one with each.
use Rattle.std.proofs.Common.{◌≡◌, ◌++◌, List, [], ◌∷◌, refl, ap}
use Rattle.std.specs.List.{AllZip}

module _ {A B : Type 0} (R : A → B → Type 0) where
  -- where one goes with each element, one list goes with all
  pub zip_one : ((a : A) (x y : B) → R a x → R a y → x ≡ y) → (keys : List A) (xs ys : List B) → AllZip R keys xs → AllZip R keys ys → xs ≡ ys
  zip_one one [] [] [] h k = refl
  zip_one one [] [] (y ∷ ys) h k = absurd k
  zip_one one [] (x ∷ xs) ys h k = absurd h
  zip_one one (a ∷ keys) [] ys h k = absurd h
  zip_one one (a ∷ keys) (x ∷ xs) [] h k = absurd k
  zip_one one (a ∷ keys) (x ∷ xs) (y ∷ ys) h k =
      let first : x ≡ y = one a x y h.0 k.0 in
      let rest : xs ≡ ys = zip_one one keys xs ys h.1 k.1 in
      λ i. first i ∷ rest i

  -- what goes with one of the elements, and with those before it
  pub record Splits (before : List A) (a : A) (all : List B) : Type 0 where
    pub done : List B
    pub one : B
    pub rest : List B
    pub same : all ≡ done ++ one ∷ rest
    pub each : AllZip R before done
    pub at : R a one

  pub split : (before : List A) (a : A) (after : List A) (all : List B) → AllZip R (before ++ a ∷ after) all → Splits before a all
  split [] a after [] h = absurd h
  split [] a after (y ∷ all) h = record { done = []; one = y; rest = all; same = refl; each = tt; at = h.0 }
  split (x ∷ before) a after [] h = absurd h
  split (x ∷ before) a after (y ∷ all) h =
      let s = split before a after all h.1 in
      record { done = y ∷ s.done; one = s.one; rest = s.rest; same = ap (λ (t : List B). y ∷ t) s.same; each = (h.0, s.each); at = s.at }
