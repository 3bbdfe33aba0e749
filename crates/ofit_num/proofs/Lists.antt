-- what holds of each element of a list, by its index or by recursion
use Rattle.std.proofs.Common.{◌≡◌, ◌+◌, ◌<◌, ◌++◌, ◌∙◌, ℕ, zero, suc, refl, ap, ap₂, subst, arith, List, [], ◌∷◌, length, take, get_or, Bool, true, false, cond}
use Rattle.std.proofs.lemmas.List.{append-nil}
use Rattle.std.proofs.lemmas.List.Elements.{All-head, All-tail, filter_more}
use Rattle.std.specs.Prelude.{All, slice_get, Some, IfSome}
use Rattle.std.specs.List.{AllByRecursion, AllZip, filter}
use Rattle.ofit_num.specs.Verdict.{AllBelow}

pub All-slice_get : {X : Type 0} (P : X → Type 0) (xs : List X) (k : ℕ) (x : X) → All P xs → slice_get xs k ≡ Some x → P x
All-slice_get P [] k x h e = cc
All-slice_get P (y ∷ xs) zero x h e =
    let same : y ≡ x = cc in
    subst P same (All-head P y xs h)
All-slice_get P (y ∷ xs) (suc k) x h e = All-slice_get P xs k x (All-tail P y xs h) e

pub AllByRecursion-from_All : {X : Type 0} (P : X → Type 0) (xs : List X) → All P xs → AllByRecursion P xs
AllByRecursion-from_All P [] h = tt
AllByRecursion-from_All P (x ∷ xs) h = (All-head P x xs h, AllByRecursion-from_All P xs (All-tail P x xs h))

pub AllByRecursion-from_each : {X : Type 0} (P : X → Type 0) (xs : List X) → AllBelow (λ i. IfSome (slice_get xs i) P) (length xs) → AllByRecursion P xs
AllByRecursion-from_each P [] h = tt
AllByRecursion-from_each P (x ∷ xs) h = (h 0 (omega arith), AllByRecursion-from_each P xs (λ i l. h (suc i) (omega arith)))

-- lists of one length whose elements are equal at each index
pub same_lists : {X : Type 0} (xs ys : List X) → length xs ≡ length ys → ((k : ℕ) (x y : X) → slice_get xs k ≡ Some x → slice_get ys k ≡ Some y → x ≡ y) → xs ≡ ys
same_lists [] [] l h = refl
same_lists [] (y ∷ ys) l h = absurd (omega arith)
same_lists (x ∷ xs) [] l h = absurd (omega arith)
same_lists {X} (x ∷ xs) (y ∷ ys) l h = ap₂ (λ (z : X) (zs : List X). z ∷ zs) (h 0 x y refl refl) (same_lists xs ys (omega arith) (λ k a b e f. h (suc k) a b e f))

-- one element more of a list that is filtered
module _ {X : Type 0} (p : X → Bool) (xs : List X) (i : ℕ) (x : X) (l : i < length xs) (at : get_or xs i x ≡ x) where
  one_more : filter p (take (i + 1) xs) ≡ filter p (take i xs) ++ cond (p x) (x ∷ []) []
  one_more = filter_more p xs i x l ∙ ap (λ (y : X). filter p (take i xs) ++ cond (p y) (y ∷ []) []) at

  pub filter_kept : p x ≡ true → filter p (take (i + 1) xs) ≡ filter p (take i xs) ++ x ∷ []
  filter_kept e = one_more ∙ ap (λ (b : Bool). filter p (take i xs) ++ cond b (x ∷ []) []) e

  pub filter_left : p x ≡ false → filter p (take (i + 1) xs) ≡ filter p (take i xs)
  filter_left e = one_more ∙ ap (λ (b : Bool). filter p (take i xs) ++ cond b (x ∷ []) []) e ∙ append-nil (filter p (take i xs))

-- one element more of each of two lists
pub zip-push : {A B : Type 0} (R : A → B → Type 0) (xs : List A) (ys : List B) (x : A) (y : B) → AllZip R xs ys → R x y → AllZip R (xs ++ x ∷ []) (ys ++ y ∷ [])
zip-push R [] [] x y h r = (r, tt)
zip-push R [] (b ∷ ys) x y h r = absurd h
zip-push R (a ∷ xs) [] x y h r = absurd h
zip-push R (a ∷ xs) (b ∷ ys) x y h r = (h.0, zip-push R xs ys x y h.1 r)
