-- a text that is put piece after piece
use Rattle.std.proofs.Common.{◌≡◌, ℕ, ◌+◌, List, [], ◌++◌, refl, sym, ap, ◌∙◌, arith, length, take, append_assoc}
use Rattle.std.proofs.Math.Seq.{take-append-add}
use Rattle.std.proofs.lemmas.List.{length-append, take-append-le, append-nil}
use Rattle.std.specs.Prelude.{Option, Some, None}
use Rattle.ofit_outside.specs.Sink.{with_more, GainsPrefix}

pub with_more-append : (w : Option (List ℕ)) (a b : List ℕ) → with_more (with_more w a) b ≡ with_more w (a ++ b)
with_more-append None a b = refl
with_more-append (Some w) a b = ap Some (append_assoc w a b)

pub with_more-nil : (w : Option (List ℕ)) → w ≡ with_more w []
with_more-nil None = refl
with_more-nil (Some w) = ap Some (sym (append-nil w))

-- what is gained after a front of the text is a front of it
pub gains_more : (old now new : Option (List ℕ)) (text front rest piece after : List ℕ) → text ≡ front ++ rest → rest ≡ piece ++ after → now ≡ with_more old front → GainsPrefix now new piece → GainsPrefix old new text
gains_more old now new text front rest piece after e f g (n, l, h) = (
  length front + n,
  omega (arith, ap length e, ap length f, length-append front rest, length-append piece after, l),
  h ∙ ap (λ (w : Option (List ℕ)). with_more w (take n piece)) g ∙ with_more-append old front (take n piece) ∙ ap (with_more old) (sym whole),
)
  where
    whole : take (length front + n) text ≡ front ++ take n piece
    whole = ap (take (length front + n)) (e ∙ ap (λ (t : List ℕ). front ++ t) f) ∙ take-append-add front (piece ++ after) n ∙ ap (λ (t : List ℕ). front ++ t) (take-append-le n piece after l)
