-- values that are put at places, one by one
use Rattle.std.proofs.Common.{◌≡◌, ℕ, ◌+◌, ◌<◌, refl, sym, ap, ◌∙◌, arith, Bool, true, false, ◌||◌, List, length, take, get_or, set}
use Rattle.std.proofs.lemmas.Bool.{eqb-true, eq-eqb, both_ways}
use Rattle.std.proofs.lemmas.List.{length-set}
use Rattle.std.proofs.lemmas.List.Folds.{list_any_more}
use Rattle.std.specs.Prelude.{Option, Some, slice_get, nat_eq}
use Rattle.ofit_num.specs.Fraction.{Fraction}
use Rattle.ofit_partition.specs.Piece.{holds}
use Rattle.ofit_partition.specs.Work.{AreSettled}
use Rattle.ofit_num.proofs.Elements.{at_set, other_set}

pub settle_more : (places : List ℕ) (i : ℕ) (value : Fraction) (before values : List (Option Fraction)) → i < length places → get_or places i 0 < length before → AreSettled (take i places) value before values
    → AreSettled (take (i + 1) places) value before (set values (get_or places i 0) (Some value))
settle_more places i value before values l inside h = record {
  count = length-set values (get_or places i 0) (Some value) ∙ h.count;
  given = λ g b u. given g b (nat_eq (get_or places i 0) g) refl (sym (more g) ∙ u);
  kept = λ g u. kept g (nat_eq (get_or places i 0) g) refl (sym (more g) ∙ u);
} where
  more : (g : ℕ) → holds (take (i + 1) places) g ≡ (holds (take i places) g || nat_eq (get_or places i 0) g)
  more g = list_any_more (λ p. nat_eq p g) places i 0 l

  given : (g : ℕ) → g < length before → (x : Bool) → nat_eq (get_or places i 0) g ≡ x → (holds (take i places) g || nat_eq (get_or places i 0) g) ≡ true → slice_get (set values (get_or places i 0) (Some value)) g ≡ Some (Some value)
  given g b true e u = ap (slice_get (set values (get_or places i 0) (Some value))) (sym (eqb-true (get_or places i 0) g e)) ∙ at_set values (get_or places i 0) (Some value) (omega (arith, inside, h.count))
  given g b false e u = other_set values (get_or places i 0) g (Some value) (λ same. both_ways (nat_eq (get_or places i 0) g) e (eq-eqb (get_or places i 0) g (sym same))) ∙ h.given g b (first (holds (take i places) g) (nat_eq (get_or places i 0) g) e u) where
    first : (y x : Bool) → x ≡ false → (y || x) ≡ true → y ≡ true
    first true x f k = refl
    first false x f k = absurd (both_ways x f k)

  kept : (g : ℕ) → (x : Bool) → nat_eq (get_or places i 0) g ≡ x → (holds (take i places) g || nat_eq (get_or places i 0) g) ≡ false → slice_get (set values (get_or places i 0) (Some value)) g ≡ slice_get before g
  kept g true e u = absurd (none (holds (take i places) g) (nat_eq (get_or places i 0) g) e u) where
    none : (y x : Bool) → x ≡ true → (y || x) ≡ false → ⊥
    none true x f k = cc
    none false x f k = both_ways x k f
  kept g false e u = other_set values (get_or places i 0) g (Some value) (λ same. both_ways (nat_eq (get_or places i 0) g) e (eq-eqb (get_or places i 0) g (sym same))) ∙ h.kept g (first (holds (take i places) g) (nat_eq (get_or places i 0) g) u) where
    first : (y x : Bool) → (y || x) ≡ false → y ≡ false
    first true x k = cc
    first false x k = refl
