-- sets of a piece's positions and sets of its places
use Rattle.std.proofs.Common.{◌≡◌, ℕ, ◌<◌, refl, sym, ap, subst, ◌∙◌, arith, Bool, true, false, ◌&&◌, List, [], ◌∷◌, length, map}
use Rattle.std.proofs.lemmas.Int.{ints}
use Rattle.std.proofs.lemmas.List.{length-map}
use Rattle.std.proofs.lemmas.List.Elements.{All-head, All-tail, All-nil, All-cons, All-contains, All-map}
use Rattle.std.specs.Prelude.{ℤ, All, Contains, slice_index, slice_index_or, IfOk, Result, Ok, Err, Vec}
use Rattle.std.specs.Global.{Global}
use Rattle.ofit_num.specs.Problem.{Problem}
use Rattle.ofit_num.specs.Sets.{set_sum, IsWithin, IsUpperIn, IsGreatestUpper}
use Rattle.ofit_num.proofs.Pieces.{and_both, both_and}
use Rattle.ofit_cut.specs.declared.tie.Tie.{Tie}
use Rattle.ofit_cut.specs.declared.tie.Tie.TheVariants.{Smallest, Largest}
use Rattle.ofit_cut.specs.Sets.{AreWithin, IsLower, sum_of, weight_at, set_sum as node_sum}
use Rattle.ofit_cut.specs.Greatest.{IsGreatest, IsTied}
use Rattle.ofit_partition.specs.declared.piece.Piece.{Piece}
use Rattle.ofit_partition.specs.Piece.{holds, IsPiece, AreNumbered, is_marked, marked, IsTieIn}
use Rattle.ofit_partition.proofs.Places.{position_of, holds_at, held_below, set_sum-listed, positions_sum}

All-of_map : {X Y : Type 0} (P : Y → Type 0) (f : X → Y) (xs : List X) → All P (map f xs) → All (λ x. P (f x)) xs
All-of_map {X} {Y} P f [] h = All-nil (λ x. P (f x))
All-of_map {X} {Y} P f (x ∷ xs) h = All-cons (λ x. P (f x)) x xs (All-head P (f x) (map f xs) h) (All-of_map P f xs (All-tail P (f x) (map f xs) h))

-- a pair turned round, each place by its position
abbrev pub by_position : List ℕ → ℕ × ℕ → ℕ × ℕ
by_position positions e = (slice_index positions e.1, slice_index positions e.0)

-- a place of the list stands at its position
pub at_position : (positions places : List ℕ) → AreNumbered positions places → (g : ℕ) → holds places g ≡ true → (slice_index positions g < length places) × (slice_index places (slice_index positions g) ≡ g)
at_position positions places numbered g h =
    let r : (i : ℕ) × (i < length places) × (slice_index places i ≡ g) = position_of places g h in
    let e : slice_index positions g ≡ r.0 = ap (slice_index positions) (sym r.2) ∙ numbered.each r.0 r.1 in
    (omega (arith, e, r.1), ap (slice_index places) e ∙ r.2)

module _ (s : Problem) (piece : Piece) (positions : List ℕ) (f : ℕ → ℤ) (is_piece : IsPiece s piece) (numbered : AreNumbered positions piece.places.items) (set : List Bool) where
  -- the set of the positions of a set's places
  abbrev at_places : (ℕ → Bool) → ℕ → Bool
  at_places a i = a (slice_index piece.places.items i)

  abbrev at_positions : ℕ → Bool
  at_positions i = slice_index_or set i false

  held_marked : (i : ℕ) → i < length piece.places.items → slice_index_or set i false ≡ marked piece positions set (slice_index piece.places.items i)
  held_marked i l = sym (ap (λ (b : Bool). b && is_marked positions set (slice_index piece.places.items i)) (holds_at piece.places.items i l)
      ∙ ap (λ (j : ℕ). slice_index_or set j false) (numbered.each i l))

  inside : IsWithin s (holds piece.places.items) (marked piece positions set)
  inside = record { each = λ g l u. (and_both (holds piece.places.items g) (is_marked positions set g) u).0 }

  sum_at : (x a : ℕ → Bool) → IsWithin s (holds piece.places.items) a → ((i : ℕ) → i < length piece.places.items → x i ≡ a (slice_index piece.places.items i)) → sum_of (map f piece.places.items) x ≡ set_sum a f s.count
  sum_at x a within same = ap (λ (n : ℕ). node_sum x (weight_at (map f piece.places.items)) n) (length-map piece.places.items f)
      ∙ positions_sum x a f piece.places.items same ∙ set_sum-listed s a f piece.places.items is_piece.rising is_piece.below within

  lower_at : (a : ℕ → Bool) → IsUpperIn s (holds piece.places.items) a → IsLower (map (by_position positions) piece.pairs.items) (at_places a)
  lower_at a up = All-map (λ e. at_places a e.1 ≡ true → at_places a e.0 ≡ true) (by_position positions) piece.pairs.items each where
    each : All (λ e. a (slice_index piece.places.items (slice_index positions e.0)) ≡ true → a (slice_index piece.places.items (slice_index positions e.1)) ≡ true) piece.pairs.items
    each i d l u =
        let e : ℕ × ℕ = slice_index_or piece.pairs.items i d in
        let k : Contains s.pairs e × (holds piece.places.items e.0 ≡ true) × (holds piece.places.items e.1 ≡ true) = is_piece.inside i d l in
        let low : slice_index piece.places.items (slice_index positions e.0) ≡ e.0 = (at_position positions piece.places.items numbered e.0 k.1).1 in
        let high : slice_index piece.places.items (slice_index positions e.1) ≡ e.1 = (at_position positions piece.places.items numbered e.1 k.2).1 in
        ap a high ∙ All-contains (λ e. holds piece.places.items e.0 ≡ true → holds piece.places.items e.1 ≡ true → a e.0 ≡ true → a e.1 ≡ true) s.pairs e up k.0 k.1 k.2 (ap a (sym low) ∙ u)

  upper_of : IsLower (map (by_position positions) piece.pairs.items) (at_positions) → IsUpperIn s (holds piece.places.items) (marked piece positions set)
  upper_of lower i d l low high u =
      let e : ℕ × ℕ = slice_index_or s.pairs i d in
      both_and (holds piece.places.items e.1) (is_marked positions set e.1) high
      (All-contains (λ e. slice_index_or set (slice_index positions e.0) false ≡ true → slice_index_or set (slice_index positions e.1) false ≡ true) piece.pairs.items e
      (All-of_map (λ e. at_positions e.1 ≡ true → at_positions e.0 ≡ true) (by_position positions) piece.pairs.items lower) (is_piece.all i d l low high)
      (and_both (holds piece.places.items e.0) (is_marked positions set e.0) u).1)

  marked_sum : sum_of (map f piece.places.items) at_positions ≡ set_sum (marked piece positions set) f s.count
  marked_sum = sum_at at_positions (marked piece positions set) inside held_marked

  pub greatest_upper : IsGreatest (IsLower (map (by_position positions) piece.pairs.items)) (map f piece.places.items) at_positions → IsGreatestUpper s (holds piece.places.items) f (marked piece positions set)
  greatest_upper best = record {
    within = inside;
    closed = upper_of best.of_kind;
    greatest = λ a within up. omega (arith, ints, best.greatest (at_places a) (lower_at a up), sum_at (at_places a) a within (λ i l. refl), marked_sum);
  }

  -- of a set with the same sum the positions are a greatest set too
  as_great : (a : ℕ → Bool) → IsWithin s (holds piece.places.items) a → IsUpperIn s (holds piece.places.items) a → set_sum a f s.count ≡ set_sum (marked piece positions set) f s.count
      → IsGreatest (IsLower (map (by_position positions) piece.pairs.items)) (map f piece.places.items) at_positions → IsGreatest (IsLower (map (by_position positions) piece.pairs.items)) (map f piece.places.items) (at_places a)
  as_great a within up same best = record {
    of_kind = lower_at a up;
    greatest = λ other kind. omega (arith, ints, best.greatest other kind, sum_at (at_places a) a within (λ i l. refl), marked_sum, same);
  }

  node_below : (i : ℕ) → i < length piece.places.items → i < length (map f piece.places.items)
  node_below i l = omega (arith, l, length-map piece.places.items f)

  pub tie_upper : (tie : Tie) → IsTied tie (IsLower (map (by_position positions) piece.pairs.items)) (map f piece.places.items) at_positions → IsTieIn tie s (holds piece.places.items) f (marked piece positions set)
  tie_upper Smallest tied = record {
    smallest = λ a within up same g l u.
        let k : (slice_index positions g < length piece.places.items) × (slice_index piece.places.items (slice_index positions g) ≡ g) = at_position positions piece.places.items numbered g (and_both (holds piece.places.items g) (is_marked positions set g) u).0 in
        ap a (sym k.1) ∙ tied.inside (at_places a) (as_great a within up same tied.is_greatest) (slice_index positions g) (node_below _ k.0) (and_both (holds piece.places.items g) (is_marked positions set g) u).1;
  }
  tie_upper Largest tied = record {
    largest = λ a within up same g l u.
        let k : (slice_index positions g < length piece.places.items) × (slice_index piece.places.items (slice_index positions g) ≡ g) = at_position positions piece.places.items numbered g (within.each g l u) in
        both_and (holds piece.places.items g) (is_marked positions set g) (within.each g l u)
        (tied.around (at_places a) (as_great a within up same tied.is_greatest) (slice_index positions g) (node_below _ k.0) (ap a k.1 ∙ u));
  }

pub tie_greatest : (tie : Tie) (IsOfKind : (ℕ → Bool) → Type 0) (weights : List ℤ) (set : ℕ → Bool) → IsTied tie IsOfKind weights set → IsGreatest IsOfKind weights set
tie_greatest Smallest IsOfKind weights set tied = tied.is_greatest
tie_greatest Largest IsOfKind weights set tied = tied.is_greatest

module _ (positions places : List ℕ) (pairs : List (ℕ × ℕ)) (numbered : AreNumbered positions places) (inside : All (λ e. (holds places e.0 ≡ true) × (holds places e.1 ≡ true)) pairs) where
  pub pairs_inside : All (λ e. (e.0 < length positions) × (e.1 < length positions)) pairs
  pairs_inside i d l = (held_below (λ g. g < length positions) places _ numbered.inside (inside i d l).0, held_below (λ g. g < length positions) places _ numbered.inside (inside i d l).1)

  pub pairs_within : AreWithin (map (by_position positions) pairs) (length places)
  pairs_within = All-map (λ e. (e.0 < length places) × (e.1 < length places)) (by_position positions) pairs
      (λ i d l. ((at_position positions places numbered _ (inside i d l).1).0, (at_position positions places numbered _ (inside i d l).0).0))

-- what the cut says of the positions, in the words of places
module _ {E : Type 0} (tie : Tie) (piece : Piece) (positions : List ℕ) (weights : List ℤ) (round : List (ℕ × ℕ)) (result : Result (Vec Bool Global) E) (turned : round ≡ map (by_position positions) piece.pairs.items) (numbered : AreNumbered positions piece.places.items) where
  pub cut_greatest : IfOk result (λ set. IsTied tie (IsLower round) weights (λ i. slice_index_or set.items i false))
      → IfOk result (λ set. (s : Problem) (f : ℕ → ℤ) → IsPiece s piece → weights ≡ map f piece.places.items → IsGreatestUpper s (holds piece.places.items) f (marked piece positions set.items))
  cut_greatest h = go result h where
    go : (r : Result (Vec Bool Global) E) → IfOk r (λ set. IsTied tie (IsLower round) weights (λ i. slice_index_or set.items i false))
        → IfOk r (λ set. (s : Problem) (f : ℕ → ℤ) → IsPiece s piece → weights ≡ map f piece.places.items → IsGreatestUpper s (holds piece.places.items) f (marked piece positions set.items))
    go (Err e) k = tt
    go (Ok set) k = λ s f is same. greatest_upper s piece positions f is numbered set.items
        (tie_greatest tie (IsLower (map (by_position positions) piece.pairs.items)) (map f piece.places.items) (λ i. slice_index_or set.items i false)
        (subst (λ ws. IsTied tie (IsLower (map (by_position positions) piece.pairs.items)) ws (λ i. slice_index_or set.items i false)) same (subst (λ ps. IsTied tie (IsLower ps) weights (λ i. slice_index_or set.items i false)) turned k)))

  pub cut_tied : IfOk result (λ set. IsTied tie (IsLower round) weights (λ i. slice_index_or set.items i false))
      → IfOk result (λ set. (s : Problem) (f : ℕ → ℤ) → IsPiece s piece → weights ≡ map f piece.places.items → IsTieIn tie s (holds piece.places.items) f (marked piece positions set.items))
  cut_tied h = go result h where
    go : (r : Result (Vec Bool Global) E) → IfOk r (λ set. IsTied tie (IsLower round) weights (λ i. slice_index_or set.items i false))
        → IfOk r (λ set. (s : Problem) (f : ℕ → ℤ) → IsPiece s piece → weights ≡ map f piece.places.items → IsTieIn tie s (holds piece.places.items) f (marked piece positions set.items))
    go (Err e) k = tt
    go (Ok set) k = λ s f is same. tie_upper s piece positions f is numbered set.items tie
        (subst (λ ws. IsTied tie (IsLower (map (by_position positions) piece.pairs.items)) ws (λ i. slice_index_or set.items i false)) same (subst (λ ps. IsTied tie (IsLower ps) weights (λ i. slice_index_or set.items i false)) turned k))
