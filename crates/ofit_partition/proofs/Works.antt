-- the whole recursion: how it starts, what each step leaves, and what its end says
use Rattle.std.proofs.Common.{◌≡◌, ℕ, zero, suc, ◌+◌, ◌*◌, ◌-◌, ◌<◌, refl, sym, ap, subst, ◌∙◌, arith, Bool, true, false, ◌||◌, ◌&&◌, not, List, [], ◌∷◌, ◌++◌, length, ◌⊎◌, inl, inr, replicate, get_or}
use Rattle.std.proofs.lemmas.Bool.{both_ways}
use Rattle.std.proofs.lemmas.List.{get_or-replicate, length-replicate}
use Rattle.std.proofs.lemmas.List.Elements.{All-contains_itself}
use Rattle.std.proofs.lemmas.List.FromFn.{length-range_with_len, get_or-range_with_len}
use Rattle.std.proofs.lemmas.List.Folds.{list_any_at}
use Rattle.std.proofs.lemmas.List.Sums.{sum_by-append, sum_by-cons}
use Rattle.std.proofs.lemmas.Bool.{eq-eqb}
use Rattle.std.proofs.lemmas.Option.{slice_get-get_or, slice_get_within, get_or_from_slice_get}
use Rattle.std.proofs.lemmas.Int.{ints}
use Rattle.std.specs.Prelude.{All, Contains, slice_get, slice_index_or, Option, Some, None, nat_eq}
use Rattle.std.specs.List.{range_with_len}
use Rattle.ofit_num.specs.Problem.{Problem}
use Rattle.ofit_num.specs.ProblemPairs.{HasPlaces}
use Rattle.ofit_num.specs.Meaning.{Meaning}
use Rattle.ofit_num.specs.Fraction.{Fraction, AtMost}
use Rattle.ofit_num.specs.Law.{HasFallingSpans}
use Rattle.ofit_num.specs.Level.{IsLevel, labelled, HasBetween, AreLevels}
use Rattle.ofit_num.proofs.Cuts.{or_true}
use Rattle.ofit_num.proofs.Levels.{has_label}
use Rattle.ofit_num.proofs.Division.{relabelled, at_most_trans, base_at_most_ceiling}
use Rattle.ofit_partition.specs.declared.piece.Piece.{Piece}
use Rattle.ofit_partition.specs.declared.piece.Parts.{Parts}
use Rattle.ofit_partition.specs.Piece.{holds, IsPiece}
use Rattle.ofit_partition.specs.declared.cut.Cut.TheVariants.{Open, Settled}
use Rattle.ofit_partition.specs.Cut.{AreCutAt, IsCutOf}
use Rattle.ofit_partition.specs.Work.{IsSettledAt, IsOpenPart, ArePartsOf, IsWork, IsTakenOff, AreSettled, AreValues, steps_left}
use Rattle.ofit_partition.proofs.Steps.{loose_same, taken_off, listed_more, settled_more, recut, chosen_whole, rest_whole}

-- the last piece of the list is taken up
pub take_last : (m : Meaning) (s : Problem) (strict : Bool) (pieces : List Piece) (p : Piece) (values : List (Option Fraction)) (all : List Piece) → all ≡ pieces ++ p ∷ [] → IsWork m s strict all values → IsTakenOff m s strict p pieces values
take_last m s strict pieces p values all e h =
    let parts : ArePartsOf m s strict h.label h.top (λ g. false) (pieces ++ p ∷ []) values = subst (λ ps. ArePartsOf m s strict h.label h.top (λ g. false) ps values) e h.parts in
    record { label = h.label; top = h.top; parts = taken_off m s strict h.label h.top values pieces p parts; taken = parts.listed (length pieces) p (end pieces) } where
      end : (xs : List Piece) → slice_get (xs ++ p ∷ []) (length xs) ≡ Some p
      end [] = refl
      end (x ∷ xs) = end xs

module _ (m : Meaning) (s : Problem) (strict : Bool) (law : HasFallingSpans m s) (places : HasPlaces s) (pieces : List Piece) (values : List (Option Fraction)) (piece : Piece) (h : IsTakenOff m s strict piece pieces values)
    (parts : Parts) (value : Fraction) (cut : AreCutAt m s piece parts value) where
  abbrev after : ℕ → ℕ
  after = relabelled h.label (holds parts.chosen.places.items) h.top

  cut_parts : ArePartsOf m s strict after (suc h.top) (holds piece.places.items) pieces values
  cut_parts = recut m s strict law places h.label h.top pieces values piece h.parts h.taken (holds parts.chosen.places.items) (holds parts.rest.places.items) value cut.cut

  chosen_in : (g : ℕ) → g < s.count → holds parts.chosen.places.items g ≡ true → holds piece.places.items g ≡ true
  chosen_in g l u = cut.cut.greatest.within.each g l u

  rest_in : (g : ℕ) → g < s.count → holds parts.rest.places.items g ≡ true → holds piece.places.items g ≡ true
  rest_in g l u = cut.cut.split.parts g l ∙ or_true (holds parts.chosen.places.items g) (holds parts.rest.places.items g) u

  whole_chosen : (g x : ℕ) → g < s.count → x < s.count → holds parts.chosen.places.items g ≡ true → (holds parts.chosen.places.items x ≡ true → after x ≡ after g) × (after x ≡ after g → holds parts.chosen.places.items x ≡ true)
  whole_chosen = chosen_whole m s strict law places h.label h.top pieces values piece h.parts h.taken (holds parts.chosen.places.items) (holds parts.rest.places.items) value cut.cut

  open_chosen : IsOpenPart s after values parts.chosen
  open_chosen = record { piece = cut.chosen; some = cut.some; whole = whole_chosen; waits = λ g l u. h.taken.waits g l (chosen_in g l u) }

  open_rest : 0 < length parts.rest.places.items → IsOpenPart s after values parts.rest
  open_rest some = record {
    piece = cut.rest;
    some = some;
    whole = rest_whole m s strict law places h.label h.top pieces values piece h.parts h.taken (holds parts.chosen.places.items) (holds parts.rest.places.items) value cut.cut;
    waits = λ g l u. h.taken.waits g l (rest_in g l u);
  }

  -- what the chosen part leaves is the rest
  chosen_left : (g : ℕ) → g < s.count → (holds piece.places.items g && not (holds parts.chosen.places.items g)) ≡ holds parts.rest.places.items g
  chosen_left g l = go (holds piece.places.items g) (holds parts.chosen.places.items g) (holds parts.rest.places.items g) (cut.cut.split.parts g l) (cut.cut.split.apart g l) where
    go : (x y z : Bool) → x ≡ (y || z) → (y ≡ true → z ≡ false) → (x && not y) ≡ z
    go true true z e d = sym (d refl)
    go true false z e d = e
    go false true z e d = cc
    go false false z e d = e

  -- and what the rest leaves is the chosen part
  rest_left : (g : ℕ) → g < s.count → (holds piece.places.items g && not (holds parts.rest.places.items g)) ≡ holds parts.chosen.places.items g
  rest_left g l = go (holds piece.places.items g) (holds parts.chosen.places.items g) (holds parts.rest.places.items g) (cut.cut.split.parts g l) (cut.cut.split.apart g l) where
    go : (x y z : Bool) → x ≡ (y || z) → (y ≡ true → z ≡ false) → (x && not z) ≡ y
    go true true z e d = ap not (d refl)
    go true false true e d = refl
    go true false false e d = cc
    go false true z e d = cc
    go false false z e d = refl

  without : (x y : ℕ → Bool) (g : ℕ) → x g ≡ y g → (x g && not (y g)) ≡ false
  without x y g e = go (x g) (y g) e where
    go : (a b : Bool) → a ≡ b → (a && not b) ≡ false
    go true true k = refl
    go true false k = cc
    go false b k = refl

  -- both parts are listed
  pub opened_work : 0 < length parts.rest.places.items → IsWork m s strict ((pieces ++ parts.rest ∷ []) ++ parts.chosen ∷ []) values
  opened_work some = record {
    label = after;
    top = suc h.top;
    parts = loose_same m s strict after (suc h.top) values _ (λ g. false) ((pieces ++ parts.rest ∷ []) ++ parts.chosen ∷ [])
        (λ g l. without (λ x. holds piece.places.items x && not (holds parts.rest.places.items x)) (holds parts.chosen.places.items) g (rest_left g l))
        (listed_more m s strict after (suc h.top) values (λ x. holds piece.places.items x && not (holds parts.rest.places.items x)) (pieces ++ parts.rest ∷ []) parts.chosen
        (listed_more m s strict after (suc h.top) values (holds piece.places.items) pieces parts.rest cut_parts (open_rest some) rest_in) open_chosen (λ g l u. rest_left g l ∙ u));
  }

  -- the chosen part gets its value
  module _ (level : IsLevel m s strict (holds parts.chosen.places.items) value) (new : List (Option Fraction)) (put : AreSettled parts.chosen.places.items value values new) where
    settled_parts : ArePartsOf m s strict after (suc h.top) (λ g. holds piece.places.items g && not (holds parts.chosen.places.items g)) pieces new
    settled_parts = settled_more m s strict after (suc h.top) values places (holds piece.places.items) pieces cut_parts parts.chosen.places.items value new put chosen_in whole_chosen level cut.cut.base

    rest_waits : (g : ℕ) → g < s.count → holds parts.rest.places.items g ≡ true → slice_get new g ≡ Some None
    rest_waits g l u = settled_parts.loose_waits g l (chosen_left g l ∙ u)

    -- and the rest is listed, where it has a place
    pub settled_listed : 0 < length parts.rest.places.items → IsWork m s strict (pieces ++ parts.rest ∷ []) new
    settled_listed some = record {
      label = after;
      top = suc h.top;
      parts = loose_same m s strict after (suc h.top) new _ (λ g. false) (pieces ++ parts.rest ∷ [])
          (λ g l. without (λ x. holds piece.places.items x && not (holds parts.chosen.places.items x)) (holds parts.rest.places.items) g (chosen_left g l))
          (listed_more m s strict after (suc h.top) new (λ x. holds piece.places.items x && not (holds parts.chosen.places.items x)) pieces parts.rest settled_parts
          (record { piece = cut.rest; some = some; whole = (open_rest some).whole; waits = rest_waits }) (λ g l u. chosen_left g l ∙ u));
    }

    pub settled_work : parts.rest.places.items ≡ [] → IsWork m s strict pieces new
    settled_work none = record {
      label = after;
      top = suc h.top;
      parts = loose_same m s strict after (suc h.top) new _ (λ g. false) pieces (λ g l. chosen_left g l ∙ ap (λ xs. holds xs g) none) settled_parts;
    }

-- all places in one piece, without values
module _ (m : Meaning) (s : Problem) (strict : Bool) (places : HasPlaces s) where
  in_range : (n g : ℕ) → g < n → holds (range_with_len 0 n) g ≡ true
  in_range n g l = list_any_at (λ p. nat_eq p g) (range_with_len 0 n) g 0 (omega (arith, length-range_with_len 0 n, l)) (eq-eqb (get_or (range_with_len 0 n) g 0) g (omega (arith, get_or-range_with_len 0 n g 0 l)))

  whole_piece : (p : Piece) → p.places.items ≡ range_with_len 0 s.count → p.pairs.items ≡ s.pairs → IsPiece s p
  whole_piece p e f = record {
    rising = λ i j d b l.
        let n : length p.places.items ≡ s.count = ap length e ∙ length-range_with_len 0 s.count in
        omega (
          arith,
          ap (λ xs. get_or xs i d) e ∙ get_or-range_with_len 0 s.count i d (omega (arith, n, b, l)),
          ap (λ xs. get_or xs j d) e ∙ get_or-range_with_len 0 s.count j d (omega (arith, n, l)),
        );
    below = λ k d l.
        let n : length p.places.items ≡ s.count = ap length e ∙ length-range_with_len 0 s.count in
        omega (arith, ap (λ xs. get_or xs k d) e ∙ get_or-range_with_len 0 s.count k d (omega (arith, n, l)), n, l);
    few = omega (arith, ap length e, length-range_with_len 0 s.count);
    inside = subst (All (λ x. Contains s.pairs x × (holds p.places.items x.0 ≡ true) × (holds p.places.items x.1 ≡ true))) (sym f)
        (λ k d l. (All-contains_itself s.pairs k d l, ap (λ xs. holds xs (slice_index_or s.pairs k d).0) e ∙ in_range s.count (slice_index_or s.pairs k d).0 (places k d l).0, ap (λ xs. holds xs (slice_index_or s.pairs k d).1) e ∙ in_range s.count (slice_index_or s.pairs k d).1 (places k d l).1));
    all = λ k d l low high. subst (λ xs. Contains xs (slice_index_or s.pairs k d)) (sym f) (All-contains_itself s.pairs k d l);
    few_pairs = omega (arith, ap length f);
  }

  no_value : (values : List (Option Fraction)) → values ≡ replicate s.count None → (g : ℕ) → g < s.count → slice_get values g ≡ Some None
  no_value values e g l = ap (λ xs. slice_get xs g) e ∙ slice_get-get_or (replicate s.count None) g None (omega (arith, length-replicate {A = Option Fraction} s.count None, l)) ∙ ap (λ x. Some x) (get_or-replicate s.count g None None l)

  not_yet : (o : Option (Option Fraction)) (v : Fraction) → o ≡ Some None → o ≡ Some (Some v) → ⊥
  not_yet o v e f = cc

  pub one_piece : (p : Piece) (values : List (Option Fraction)) → p.places.items ≡ range_with_len 0 s.count → p.pairs.items ≡ s.pairs → values ≡ replicate s.count None → 0 < s.count → IsWork m s strict (p ∷ []) values
  one_piece p values e f none some = record {
    label = λ g. 0;
    top = 1;
    parts = record {
      below = λ g l. omega arith;
      divided = λ k d l. inl refl;
      count = ap length none ∙ length-replicate s.count None;
      settled = λ g v l u. absurd (not_yet (slice_get values g) v (no_value values none g l) u);
      waiting = λ g l u. inr (0, p, refl, held g l);
      listed = λ i q u. go i q u;
      apart = λ i j q r b u w. absurd (omega (arith, b, slice_get_within (p ∷ []) j r w));
      loose_waits = λ g l u. absurd (cc u);
      loose_apart = λ i q w g l u. absurd (cc u);
    };
  } where
    held : (g : ℕ) → g < s.count → holds p.places.items g ≡ true
    held g l = ap (λ xs. holds xs g) e ∙ in_range s.count g l

    part : IsOpenPart s (λ g. 0) values p
    part = record {
      piece = whole_piece p e f;
      some = omega (arith, ap length e, length-range_with_len 0 s.count, some);
      whole = λ g x l b u. ((λ w. refl), (λ w. held x b));
      waits = λ g l u. no_value values none g l;
    }

    go : (i : ℕ) (q : Piece) → slice_get (p ∷ []) i ≡ Some q → IsOpenPart s (λ g. 0) values q
    go zero q u = subst (IsOpenPart s (λ g. 0) values) (same p q u) part where
      same : (x y : Piece) → Some x ≡ Some y → x ≡ y
      same x y k = cc
    go (suc i) q u = cc

  pub no_piece : (values : List (Option Fraction)) → values ≡ replicate s.count None → s.count ≡ 0 → IsWork m s strict [] values
  no_piece values none empty = record {
    label = λ g. 0;
    top = 1;
    parts = record {
      below = λ g l. omega arith;
      divided = λ k d l. inl refl;
      count = ap length none ∙ length-replicate s.count None;
      settled = λ g v l u. absurd (omega (arith, l, empty));
      waiting = λ g l u. absurd (omega (arith, l, empty));
      listed = λ i q u. cc;
      apart = λ i j q r b u. cc;
      loose_waits = λ g l u. absurd (omega (arith, l, empty));
      loose_apart = λ i q u. cc;
    };
  }

-- where no piece is left, each place has its value
module _ (m : Meaning) (s : Problem) (strict : Bool) (places : HasPlaces s) (settled : List (Option Fraction)) (h : IsWork m s strict [] settled) where
  value_of_place : (g : ℕ) → g < s.count → (v : Fraction) × (slice_get settled g ≡ Some (Some v))
  value_of_place g l = go (get_or settled g None) (slice_get-get_or settled g None (omega (arith, h.parts.count, l))) where
    go : (o : Option Fraction) → slice_get settled g ≡ Some o → (v : Fraction) × (slice_get settled g ≡ Some (Some v))
    go (Some v) e = (v, e)
    go None e = elim (h.parts.waiting g l e) [ inl u ↦ absurd (both_ways false refl u) | inr k ↦ absurd (never k.0 k.1 k.2) ] where
      never : (i : ℕ) (p : Piece) → slice_get [] i ≡ Some p → ⊥
      never i p e = cc

  pub none_missing : All (λ v. v ≡ None → ⊥) settled
  none_missing k d l e =
      let v : (w : Fraction) × (slice_get settled k ≡ Some (Some w)) = value_of_place k (omega (arith, sym h.parts.count, l)) in
      clash (get_or settled k d) v.0 (sym (get_or_from_slice_get settled k (Some v.0) d v.1)) e where
        clash : (o : Option Fraction) (w : Fraction) → Some w ≡ o → o ≡ None → ⊥
        clash o w e f = cc

  pub all_levels : (values : List Fraction) → AreValues (length settled) settled values → AreLevels m s strict h.label h.top values
  all_levels values are = record {
    count = are.count ∙ h.parts.count;
    below = h.parts.below;
    levels = λ g l. let v : (w : Fraction) × (slice_get settled g ≡ Some (Some w)) = value_of_place g l in
        let at : IsSettledAt m s strict h.label settled g v.0 = h.parts.settled g v.0 l v.1 in
        record { value = v.0; level = at.level; alike = λ x b e. are.each x v.0 (omega (arith, b, h.parts.count)) (at.alike x b e) };
    rises = λ k d l v w at_low at_high. rising (slice_index_or s.pairs k d) (places k d l).0 (places k d l).1 (h.parts.divided k d l) v w at_low at_high;
  } where
    same : (o : Option Fraction) (a b : Fraction) → o ≡ Some a → o ≡ Some b → a ≡ b
    same o a b e f = cc

    rising : (e : ℕ × ℕ) → e.0 < s.count → e.1 < s.count → (h.label e.0 ≡ h.label e.1) ⊎ HasBetween m s h.label e → (v w : Fraction) → slice_get values e.0 ≡ Some v → slice_get values e.1 ≡ Some w → AtMost v w
    rising e low high between v w at_low at_high = go between where
      one : (x : Fraction) × (slice_get settled e.0 ≡ Some (Some x))
      one = value_of_place e.0 low

      two : (x : Fraction) × (slice_get settled e.1 ≡ Some (Some x))
      two = value_of_place e.1 high

      first : IsSettledAt m s strict h.label settled e.0 one.0
      first = h.parts.settled e.0 one.0 low one.1

      second : IsSettledAt m s strict h.label settled e.1 two.0
      second = h.parts.settled e.1 two.0 high two.1

      is_v : one.0 ≡ v
      is_v = same (slice_get values e.0) one.0 v (are.each e.0 one.0 (omega (arith, low, h.parts.count)) one.1) at_low

      is_w : two.0 ≡ w
      is_w = same (slice_get values e.1) two.0 w (are.each e.1 two.0 (omega (arith, high, h.parts.count)) two.1) at_high

      into : AtMost one.0 two.0 → AtMost v w
      into k = subst (λ x. AtMost x w) is_v (subst (λ x. AtMost one.0 x) is_w k)

      own : (g : ℕ) → labelled h.label (h.label g) g ≡ true
      own g = has_label h.label (h.label g) g refl

      go : (h.label e.0 ≡ h.label e.1) ⊎ HasBetween m s h.label e → AtMost v w
      go (inl k) = into (level (same_value (slice_get settled e.1) one.0 two.0 (first.alike e.1 high (sym k)) two.1)) where
        same_value : (o : Option (Option Fraction)) (a b : Fraction) → o ≡ Some (Some a) → o ≡ Some (Some b) → a ≡ b
        same_value o a b x y = cc

        level : one.0 ≡ two.0 → AtMost one.0 two.0
        level x = subst (λ z. AtMost one.0 z) x (omega (arith, ints))
      go (inr k) = into (at_most_trans one.0 k.value two.0 first.level.den k.base.den second.level.den
          (base_at_most_ceiling m s places (labelled h.label (h.label e.0)) one.0 k.value e.0 low (own e.0) first.base k.ceiling)
          (base_at_most_ceiling m s places (labelled h.label (h.label e.1)) k.value two.0 e.1 high (own e.1) k.base
          (record { den = second.level.den; ceiling = second.level.raised })))

-- the steps that are left, with one piece more
pub steps_more : (pieces : List Piece) (p : Piece) → steps_left (pieces ++ p ∷ []) ≡ steps_left pieces + (2 * length p.places.items - 1)
steps_more pieces p = sum_by-append (λ (p : Piece). 2 * length p.places.items - 1) pieces (p ∷ []) ∙ omega (arith, sum_by-cons (λ (p : Piece). 2 * length p.places.items - 1) p [])

-- a step, by what it makes of the piece
module _ (m : Meaning) (s : Problem) (strict : Bool) (law : HasFallingSpans m s) (places : HasPlaces s) (pieces : List Piece) (values : List (Option Fraction)) (piece : Piece) (h : IsTakenOff m s strict piece pieces values) where
  pub open_step : (parts : Parts) → IsCutOf m s strict piece (Open parts) → (all : List Piece) (new : List (Option Fraction)) → all ≡ (pieces ++ parts.rest ∷ []) ++ parts.chosen ∷ [] → new ≡ values → IsWork m s strict all new
  open_step parts cut all new e f = subst (λ ps. IsWork m s strict ps new) (sym e) (subst (IsWork m s strict ((pieces ++ parts.rest ∷ []) ++ parts.chosen ∷ [])) (sym f) (opened_work m s strict law places pieces values piece h parts cut.0 cut.1 cut.2))

  pub listed_step : (parts : Parts) (value : Fraction) → IsCutOf m s strict piece (Settled value parts) → (all : List Piece) (new : List (Option Fraction)) → all ≡ pieces ++ parts.rest ∷ [] → AreSettled parts.chosen.places.items value values new → 0 < length parts.rest.places.items → IsWork m s strict all new
  listed_step parts value cut all new e put some = subst (λ ps. IsWork m s strict ps new) (sym e) (settled_listed m s strict law places pieces values piece h parts value cut.0 cut.1 new put some)

  pub settled_step : (parts : Parts) (value : Fraction) → IsCutOf m s strict piece (Settled value parts) → (all : List Piece) (new : List (Option Fraction)) → all ≡ pieces → AreSettled parts.chosen.places.items value values new → parts.rest.places.items ≡ [] → IsWork m s strict all new
  settled_step parts value cut all new e put none = subst (λ ps. IsWork m s strict ps new) (sym e) (settled_work m s strict law places pieces values piece h parts value cut.0 cut.1 new put none)
