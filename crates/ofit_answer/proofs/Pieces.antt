-- Pieces of a text that come one after the other.
use Rattle.std.proofs.Common.{◌≡◌, ℕ, suc, ◌+◌, ◌<◌, List, ◌++◌, refl, sym, ap, ◌∙◌, arith, length, take, drop, get_or, append_assoc, subst}
use Rattle.std.proofs.Math.Seq.{take-append-add, drop-cons}
use Rattle.std.proofs.lemmas.List.{length-append, take-append-le, take-append-drop}
use Rattle.std.proofs.lemmas.List.Concat.{flat_map-append}
use Rattle.std.specs.List.{flat_map}
use Rattle.std.specs.Prelude.{Option, Some, None}
use Rattle.ofit_outside.specs.Sink.{with_more, GainsPrefix}

pub with_more-append : (w : Option (List ℕ)) (a b : List ℕ) → with_more (with_more w a) b ≡ with_more w (a ++ b)
with_more-append None a b = refl
with_more-append (Some w) a b = ap Some (append_assoc w a b)

-- a first part of what comes behind a front
pub gains_more : (old now new : Option (List ℕ)) (front piece rest : List ℕ) → now ≡ with_more old front → GainsPrefix now new piece → GainsPrefix old new (front ++ piece ++ rest)
gains_more old now new front piece rest e (n, l, h) = (
  length front + n,
  omega (arith, length-append front piece, length-append (front ++ piece) rest, l),
  h ∙ ap (λ (w : Option (List ℕ)). with_more w (take n piece)) e ∙ with_more-append old front (take n piece) ∙ ap (with_more old) (sym whole),
)
  where
    whole : take (length front + n) (front ++ piece ++ rest) ≡ front ++ take n piece
    whole = ap (take (length front + n)) (append_assoc front piece rest) ∙ take-append-add front (piece ++ rest) n ∙ ap (λ (t : List ℕ). front ++ t) (take-append-le n piece rest l)

module _ {X : Type 0} (f : X → List ℕ) (xs : List X) (i : ℕ) (d : X) (l : i < length xs) where
  whole_text : flat_map f xs ≡ flat_map f (take i xs) ++ f (get_or xs i d) ++ flat_map f (drop (suc i) xs)
  whole_text =
      ap (flat_map f) (sym (take-append-drop i xs)) ∙ flat_map-append f (take i xs) (drop i xs)
      ∙ ap (λ (t : List X). flat_map f (take i xs) ++ flat_map f t) (drop-cons xs i d l)
      ∙ sym (append_assoc (flat_map f (take i xs)) (f (get_or xs i d)) (flat_map f (drop (suc i) xs)))

  pub first_part : (old now new : Option (List ℕ)) → now ≡ with_more old (flat_map f (take i xs)) → GainsPrefix now new (f (get_or xs i d)) → GainsPrefix old new (flat_map f xs)
  first_part old now new e h =
      subst (GainsPrefix old new) (sym whole_text) (gains_more old now new (flat_map f (take i xs)) (f (get_or xs i d)) (flat_map f (drop (suc i) xs)) e h)
