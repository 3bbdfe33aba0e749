-- the two parts of a piece by a mark of its places
use Rattle.std.proofs.Common.{◌≡◌, ℕ, zero, suc, ◌+◌, ◌<◌, refl, sym, ap, subst, ◌∙◌, arith, cond, Bool, true, false, ◌||◌, ◌&&◌, not, List, [], ◌∷◌, length, get_or}
use Rattle.std.proofs.lemmas.List.Elements.{All-filter}
use Rattle.std.proofs.lemmas.List.Filters.{length-filter_both}
use Rattle.std.proofs.lemmas.List.Kept.{AllPairs-filter}
use Rattle.std.proofs.lemmas.List.Sums.{length-filter, count_by-le-length}
use Rattle.std.specs.Prelude.{All, Contains, slice_index_or}
use Rattle.std.specs.List.{AllPairs, filter}
use Rattle.ofit_num.specs.Problem.{Problem}
use Rattle.ofit_num.specs.Sets.{IsUpperIn, IsSplit}
use Rattle.ofit_num.proofs.Pieces.{and_both, both_and}
use Rattle.ofit_partition.specs.declared.piece.Piece.{Piece}
use Rattle.ofit_partition.specs.declared.piece.Parts.{Parts}
use Rattle.ofit_partition.specs.Piece.{holds, IsPiece, AreParts}
use Rattle.ofit_partition.proofs.Places.{holds-filter}
use Rattle.ofit_num.proofs.Members.{Contains-filter}

All-passes : {X : Type 0} (P : X → Type 0) (keep : X → Bool) (xs : List X) → All P xs → All (λ x. P x × (keep x ≡ true)) (filter keep xs)
All-passes {X} P keep [] h = λ k d l. absurd (omega arith)
All-passes {X} P keep (y ∷ ys) h = go (keep y) refl (All-passes P keep ys (λ k d l. h (suc k) d (omega arith))) where
  go : (b : Bool) → keep y ≡ b → All (λ x. P x × (keep x ≡ true)) (filter keep ys) → All (λ x. P x × (keep x ≡ true)) (cond b (y ∷ filter keep ys) (filter keep ys))
  go false e later = later
  go true e later = at where
    at : All (λ x. P x × (keep x ≡ true)) (y ∷ filter keep ys)
    at zero d l = (h 0 d (omega arith), e)
    at (suc k) d l = later k d (omega arith)

-- what is kept of a piece is a piece
pub kept_piece : (s : Problem) (piece kept : Piece) (keep : ℕ → Bool) → IsPiece s piece → kept.places.items ≡ filter keep piece.places.items → kept.pairs.items ≡ filter (λ e. keep e.0 && keep e.1) piece.pairs.items → IsPiece s kept
kept_piece s piece kept keep h e f = record {
  rising = subst (AllPairs (λ x y. x < y)) (sym e) (AllPairs-filter (λ x y. x < y) keep piece.places.items h.rising);
  below = subst (All (λ g. g < s.count)) (sym e) (All-filter keep (λ g. g < s.count) piece.places.items h.below);
  few = omega (arith, ap length e, length-filter keep piece.places.items, count_by-le-length keep piece.places.items, h.few);
  inside = subst (All (λ e. Contains s.pairs e × (holds kept.places.items e.0 ≡ true) × (holds kept.places.items e.1 ≡ true))) (sym f)
      (λ k d l.
      let w : (Contains s.pairs (get_or kept_pairs k d) × (holds piece.places.items (get_or kept_pairs k d).0 ≡ true) × (holds piece.places.items (get_or kept_pairs k d).1 ≡ true)) × ((keep (get_or kept_pairs k d).0 && keep (get_or kept_pairs k d).1) ≡ true) =
      All-passes (λ e. Contains s.pairs e × (holds piece.places.items e.0 ≡ true) × (holds piece.places.items e.1 ≡ true)) (λ e. keep e.0 && keep e.1) piece.pairs.items h.inside k d l in
      (w.0.0, into (get_or kept_pairs k d).0 w.0.1 (and_both _ _ w.1).0, into (get_or kept_pairs k d).1 w.0.2 (and_both _ _ w.1).1));
  all = λ k d l low high. subst (λ xs. Contains xs (slice_index_or s.pairs k d)) (sym f)
      (Contains-filter (λ e. keep e.0 && keep e.1) piece.pairs.items (slice_index_or s.pairs k d) (h.all k d l (from _ low) (from _ high)) (both_and _ _ (marked _ low) (marked _ high)));
  few_pairs = omega (arith, ap length f, length-filter (λ e. keep e.0 && keep e.1) piece.pairs.items, count_by-le-length (λ e. keep e.0 && keep e.1) piece.pairs.items, h.few_pairs);
} where
  kept_pairs : List (ℕ × ℕ)
  kept_pairs = filter (λ e. keep e.0 && keep e.1) piece.pairs.items

  held : (g : ℕ) → holds kept.places.items g ≡ (keep g && holds piece.places.items g)
  held g = ap (λ xs. holds xs g) e ∙ holds-filter keep piece.places.items g

  into : (g : ℕ) → holds piece.places.items g ≡ true → keep g ≡ true → holds kept.places.items g ≡ true
  into g u w = held g ∙ both_and (keep g) (holds piece.places.items g) w u

  from : (g : ℕ) → holds kept.places.items g ≡ true → holds piece.places.items g ≡ true
  from g u = (and_both (keep g) (holds piece.places.items g) (sym (held g) ∙ u)).1

  marked : (g : ℕ) → holds kept.places.items g ≡ true → keep g ≡ true
  marked g u = (and_both (keep g) (holds piece.places.items g) (sym (held g) ∙ u)).0

module _ (s : Problem) (piece : Piece) (mark : ℕ → Bool) (parts : Parts) (h : AreParts mark piece parts) where
  pub chosen_piece : IsPiece s piece → IsPiece s parts.chosen
  chosen_piece p = kept_piece s piece parts.chosen mark p h.chosen h.chosen_pairs

  pub rest_piece : IsPiece s piece → IsPiece s parts.rest
  rest_piece p = kept_piece s piece parts.rest (λ g. not (mark g)) p h.rest h.rest_pairs

  pub chosen_holds : (g : ℕ) → holds parts.chosen.places.items g ≡ (holds piece.places.items g && mark g)
  chosen_holds g = ap (λ xs. holds xs g) h.chosen ∙ holds-filter mark piece.places.items g ∙ swap (mark g) (holds piece.places.items g) where
    swap : (x y : Bool) → (x && y) ≡ (y && x)
    swap true true = refl
    swap true false = refl
    swap false true = refl
    swap false false = refl

  rest_holds : (g : ℕ) → holds parts.rest.places.items g ≡ (not (mark g) && holds piece.places.items g)
  rest_holds g = ap (λ xs. holds xs g) h.rest ∙ holds-filter (λ g. not (mark g)) piece.places.items g

  pub part_sizes : length parts.chosen.places.items + length parts.rest.places.items ≡ length piece.places.items
  part_sizes = omega (arith, ap length h.chosen, ap length h.rest, length-filter_both mark (λ g. not (mark g)) (λ g. refl) piece.places.items)

  pub parts_split : IsUpperIn s (holds piece.places.items) (λ g. holds piece.places.items g && mark g) → IsSplit s (holds piece.places.items) (holds parts.chosen.places.items) (holds parts.rest.places.items)
  parts_split up = record {
    closed = λ k d l low high u. chosen_holds _ ∙ up k d l low high (sym (chosen_holds _) ∙ u);
    parts = λ g l. both (holds piece.places.items g) (mark g) _ _ (chosen_holds g) (rest_holds g);
    apart = λ g l u. apart (holds piece.places.items g) (mark g) (sym (chosen_holds g) ∙ u) (rest_holds g);
  } where
    both : (x y c r : Bool) → c ≡ (x && y) → r ≡ (not y && x) → x ≡ (c || r)
    both true true c r e f = sym (ap (λ (b : Bool). b || r) e)
    both true false c r e f = sym (ap (λ (b : Bool). b || r) e ∙ f)
    both false true c r e f = sym (ap (λ (b : Bool). b || r) e ∙ f)
    both false false c r e f = sym (ap (λ (b : Bool). b || r) e ∙ f)

    apart : (x y : Bool) → {r : Bool} → (x && y) ≡ true → r ≡ (not y && x) → r ≡ false
    apart true true u f = f
    apart true false u f = cc
    apart false y u f = cc
