-- a step of the recursion: a piece is taken off the list, cut, and its parts are listed or get their value
use Rattle.std.proofs.Common.{◌≡◌, ℕ, zero, suc, ◌<◌, refl, sym, ap, subst, ◌∙◌, arith, Bool, true, false, ◌&&◌, not, List, [], ◌∷◌, ◌++◌, length, ◌⊎◌, inl, inr}
use Rattle.std.proofs.lemmas.Bool.{both_ways}
use Rattle.std.proofs.lemmas.Option.{slice_get_within}
use Rattle.std.specs.Prelude.{slice_get, slice_index, Option, Some, None}
use Rattle.ofit_num.specs.Problem.{Problem}
use Rattle.ofit_num.specs.ProblemPairs.{HasPlaces}
use Rattle.ofit_num.specs.Meaning.{Meaning}
use Rattle.ofit_num.specs.Fraction.{Fraction}
use Rattle.ofit_num.specs.Law.{HasFallingSpans}
use Rattle.ofit_num.specs.Level.{IsLevel, HasBase, IsCut, labelled}
use Rattle.ofit_num.proofs.Cuts.{but_not, not_but}
use Rattle.ofit_num.proofs.Elements.{slice_get-push}
use Rattle.ofit_num.proofs.Levels.{has_label, is_label}
use Rattle.ofit_num.proofs.Division.{same_test, relabelled, at_chosen, at_other, level_same, base_same, chosen_part, rest_part, other_part, cut_divided}
use Rattle.ofit_partition.specs.declared.piece.Piece.{Piece}
use Rattle.ofit_partition.specs.Piece.{holds}
use Rattle.ofit_partition.specs.Work.{IsSettledAt, IsOpenPart, ArePartsOf, AreSettled}
use Rattle.ofit_partition.proofs.Places.{holds_at, held_below}

-- lists with one element more at the end
pub at_front : {X : Type 0} (xs : List X) (y x : X) (i : ℕ) → slice_get xs i ≡ Some x → slice_get (xs ++ y ∷ []) i ≡ Some x
at_front [] y x i e = cc
at_front (z ∷ xs) y x zero e = e
at_front (z ∷ xs) y x (suc i) e = at_front xs y x i e

pub front_or_end : {X : Type 0} (xs : List X) (y x : X) (i : ℕ) → slice_get (xs ++ y ∷ []) i ≡ Some x → (slice_get xs i ≡ Some x) ⊎ ((i ≡ length xs) × (y ≡ x))
front_or_end [] y x zero e = inr (refl, cc)
front_or_end [] y x (suc i) e = cc
front_or_end (z ∷ xs) y x zero e = inl e
front_or_end (z ∷ xs) y x (suc i) e = elim (front_or_end xs y x i e) [ inl k ↦ inl k | inr k ↦ inr (ap (λ (n : ℕ). suc n) k.0, k.1) ]

none_some : {X : Type 0} (o : Option (Option X)) (v : X) → o ≡ Some None → o ≡ Some (Some v) → ⊥
none_some o v e f = cc

minus : (a b : ℕ → Bool) → ℕ → Bool
minus a b g = a g && not (b g)

module _ (m : Meaning) (s : Problem) (strict : Bool) (label : ℕ → ℕ) (top : ℕ) (values : List (Option Fraction)) where
  -- what is loose matters at the places alone
  pub loose_same : (a b : ℕ → Bool) (pieces : List Piece) → ((g : ℕ) → g < s.count → a g ≡ b g) → ArePartsOf m s strict label top a pieces values → ArePartsOf m s strict label top b pieces values
  loose_same a b pieces same h = record {
    below = h.below;
    divided = h.divided;
    count = h.count;
    settled = h.settled;
    waiting = λ g l e. elim (h.waiting g l e) [ inl u ↦ inl (sym (same g l) ∙ u) | inr k ↦ inr k ];
    listed = h.listed;
    apart = h.apart;
    loose_waits = λ g l u. h.loose_waits g l (same g l ∙ u);
    loose_apart = λ i p e g l u. h.loose_apart i p e g l (same g l ∙ u);
  }

  -- the last piece is taken off the list
  pub taken_off : (pieces : List Piece) (p : Piece) → ArePartsOf m s strict label top (λ g. false) (pieces ++ p ∷ []) values → ArePartsOf m s strict label top (holds p.places.items) pieces values
  taken_off pieces p h = record {
    below = h.below;
    divided = h.divided;
    count = h.count;
    settled = h.settled;
    waiting = λ g l e. elim (h.waiting g l e) [
      | inl u ↦ cc
      | inr k ↦ elim (front_or_end pieces p k.1 k.0 k.2) [ inl f ↦ inr (k.0, k.1, f, k.3) | inr f ↦ inl (ap (λ (q : Piece). holds q.places.items g) f.1 ∙ k.3) ]
    ];
    listed = λ i q e. h.listed i q (at_front pieces p q i e);
    apart = λ i j q r b e f. h.apart i j q r b (at_front pieces p q i e) (at_front pieces p r j f);
    loose_waits = λ g l u. (h.listed (length pieces) p (slice_get-push pieces p)).waits g l u;
    loose_apart = λ i q e g l u w. h.apart i (length pieces) q p (slice_get_within pieces i q e) (at_front pieces p q i e) (slice_get-push pieces p) g l w u;
  }

  -- a piece of loose places is listed
  pub listed_more : (loose : ℕ → Bool) (pieces : List Piece) (p : Piece) → ArePartsOf m s strict label top loose pieces values → IsOpenPart s label values p → ((g : ℕ) → g < s.count → holds p.places.items g ≡ true → loose g ≡ true)
      → ArePartsOf m s strict label top (λ g. loose g && not (holds p.places.items g)) (pieces ++ p ∷ []) values
  listed_more loose pieces p h part inside = record {
    below = h.below;
    divided = h.divided;
    count = h.count;
    settled = h.settled;
    waiting = λ g l e. elim (h.waiting g l e) [
      | inl u ↦ choose g u (holds p.places.items g) refl
      | inr k ↦ inr (k.0, k.1, at_front pieces p k.1 k.0 k.2, k.3)
    ];
    listed = λ i q e. elim (front_or_end pieces p q i e) [ inl f ↦ h.listed i q f | inr f ↦ subst (IsOpenPart s label values) f.1 part ];
    apart = λ i j q r b e f g l u w. elim (front_or_end pieces p r j f) [
      | inl fr ↦ elim (front_or_end pieces p q i e) [
        | inl fq ↦ h.apart i j q r b fq fr g l u w
        | inr eq ↦ absurd (omega (arith, eq.0, b, slice_get_within pieces j r fr))
      ]
      | inr er ↦ elim (front_or_end pieces p q i e) [
        | inl fq ↦ h.loose_apart i q fq g l (inside g l (ap (λ (x : Piece). holds x.places.items g) er.1 ∙ w)) u
        | inr eq ↦ absurd (omega (arith, eq.0, er.0, b))
      ]
    ];
    loose_waits = λ g l u. h.loose_waits g l (but_not (loose g) (holds p.places.items g) u).0;
    loose_apart = λ i q e g l u w. elim (front_or_end pieces p q i e) [
      | inl f ↦ h.loose_apart i q f g l (but_not (loose g) (holds p.places.items g) u).0 w
      | inr f ↦ both_ways (holds p.places.items g) (but_not (loose g) (holds p.places.items g) u).1 (ap (λ (x : Piece). holds x.places.items g) f.1 ∙ w)
    ];
  } where
    choose : (g : ℕ) → loose g ≡ true → (x : Bool) → holds p.places.items g ≡ x → ((loose g && not (holds p.places.items g)) ≡ true) ⊎ ((i : ℕ) × (q : Piece) × (slice_get (pieces ++ p ∷ []) i ≡ Some q) × (holds q.places.items g ≡ true))
    choose g u true w = inr (length pieces, p, slice_get-push pieces p, w)
    choose g u false w = inl (not_but (loose g) (holds p.places.items g) u w)

  -- loose places get their value
  module _ (places : HasPlaces s) (loose : ℕ → Bool) (pieces : List Piece) (h : ArePartsOf m s strict label top loose pieces values) (level : List ℕ) (value : Fraction) (after : List (Option Fraction)) (put : AreSettled level value values after)
      (inside : (g : ℕ) → g < s.count → holds level g ≡ true → loose g ≡ true) (whole : (g x : ℕ) → g < s.count → x < s.count → holds level g ≡ true → (holds level x ≡ true → label x ≡ label g) × (label x ≡ label g → holds level x ≡ true))
      (is : IsLevel m s strict (holds level) value) (base : HasBase m s (holds level) value) where
    in_level : (g : ℕ) → g < s.count → holds level g ≡ true → slice_get after g ≡ Some (Some value)
    in_level g l u = put.given g (omega (arith, l, h.count)) u

    part_of : (g : ℕ) → g < s.count → holds level g ≡ true → (x : ℕ) → x < s.count → holds level x ≡ labelled label (label g) x
    part_of g l u x b = same_test _ _ (λ w. has_label label (label g) x ((whole g x l b u).0 w)) (λ w. (whole g x l b u).1 (is_label label (label g) x w))

    settled_new : (g : ℕ) (v : Fraction) → g < s.count → slice_get after g ≡ Some (Some v) → holds level g ≡ true → IsSettledAt m s strict label after g v
    settled_new g v l e u =
        let same : value ≡ v = same_value (slice_get after g) value v (in_level g l u) e in
        record {
          level = subst (IsLevel m s strict (labelled label (label g))) same (level_same m s places (holds level) (labelled label (label g)) (part_of g l u) strict value is);
          base = subst (HasBase m s (labelled label (label g))) same (base_same m s places (holds level) (labelled label (label g)) (part_of g l u) value base);
          alike = λ x b f. in_level x b ((whole g x l b u).1 f) ∙ ap (λ (w : Fraction). Some (Some w)) same;
        } where
          same_value : (o : Option (Option Fraction)) (a b : Fraction) → o ≡ Some (Some a) → o ≡ Some (Some b) → a ≡ b
          same_value o a b e f = cc

    settled_old : (g : ℕ) (v : Fraction) → g < s.count → slice_get after g ≡ Some (Some v) → holds level g ≡ false → IsSettledAt m s strict label after g v
    settled_old g v l e u =
        let old : IsSettledAt m s strict label values g v = h.settled g v l (sym (put.kept g u) ∙ e) in
        record {
          level = old.level;
          base = old.base;
          alike = λ x b f. put.kept x (out x b f (holds level x) refl) ∙ old.alike x b f;
        } where
          out : (x : ℕ) → x < s.count → label x ≡ label g → (y : Bool) → holds level x ≡ y → y ≡ false
          out x b f false w = refl
          out x b f true w = absurd (both_ways (holds level g) u ((whole x g b l w).1 (sym f)))

    pub settled_more : ArePartsOf m s strict label top (λ g. loose g && not (holds level g)) pieces after
    settled_more = record {
      below = h.below;
      divided = h.divided;
      count = put.count ∙ h.count;
      settled = λ g v l e. go g v l e (holds level g) refl;
      waiting = λ g l e. wait g l e (holds level g) refl;
      listed = λ i p e.
          let old : IsOpenPart s label values p = h.listed i p e in
          record {
            piece = old.piece;
            some = old.some;
            whole = old.whole;
            waits = λ g l u. put.kept g (away i p e g l u (holds level g) refl) ∙ old.waits g l u;
          };
      apart = h.apart;
      loose_waits = λ g l u. put.kept g (but_not (loose g) (holds level g) u).1 ∙ h.loose_waits g l (but_not (loose g) (holds level g) u).0;
      loose_apart = λ i p e g l u. h.loose_apart i p e g l (but_not (loose g) (holds level g) u).0;
    } where
      go : (g : ℕ) (v : Fraction) → g < s.count → slice_get after g ≡ Some (Some v) → (x : Bool) → holds level g ≡ x → IsSettledAt m s strict label after g v
      go g v l e true u = settled_new g v l e u
      go g v l e false u = settled_old g v l e u

      wait : (g : ℕ) → g < s.count → slice_get after g ≡ Some None → (x : Bool) → holds level g ≡ x → ((loose g && not (holds level g)) ≡ true) ⊎ ((i : ℕ) × (p : Piece) × (slice_get pieces i ≡ Some p) × (holds p.places.items g ≡ true))
      wait g l e true u = absurd (none_some (slice_get after g) value e (in_level g l u))
      wait g l e false u = elim (h.waiting g l (sym (put.kept g u) ∙ e)) [ inl k ↦ inl (not_but (loose g) (holds level g) k u) | inr k ↦ inr k ]

      away : (i : ℕ) (p : Piece) → slice_get pieces i ≡ Some p → (g : ℕ) → g < s.count → holds p.places.items g ≡ true → (x : Bool) → holds level g ≡ x → x ≡ false
      away i p e g l u false w = refl
      away i p e g l u true w = absurd (h.loose_apart i p e g l (inside g l w) u)

-- the labels after a cut of a loose part
module _ (m : Meaning) (s : Problem) (strict : Bool) (law : HasFallingSpans m s) (places : HasPlaces s) (label : ℕ → ℕ) (top : ℕ) (pieces : List Piece) (values : List (Option Fraction)) (p : Piece)
    (h : ArePartsOf m s strict label top (holds p.places.items) pieces values) (part : IsOpenPart s label values p) (chosen rest : ℕ → Bool) (value : Fraction) (cut : IsCut m s (holds p.places.items) chosen rest value) where
  first : ℕ
  first = slice_index p.places.items 0

  first_held : holds p.places.items (slice_index p.places.items 0) ≡ true
  first_held = holds_at p.places.items 0 part.some

  first_below : slice_index p.places.items 0 < s.count
  first_below = held_below (λ x. x < s.count) p.places.items (slice_index p.places.items 0) part.piece.below (holds_at p.places.items 0 part.some)

  abbrev number : ℕ
  number = label (slice_index p.places.items 0)

  part_is : (g : ℕ) → g < s.count → labelled label number g ≡ holds p.places.items g
  part_is g l = same_test _ _ (λ u. (part.whole (slice_index p.places.items 0) g first_below l first_held).1 (is_label label number g u))
      (λ u. has_label label number g ((part.whole (slice_index p.places.items 0) g first_below l first_held).0 u))

  old : number < top
  old = h.below (slice_index p.places.items 0) first_below

  abbrev after : ℕ → ℕ
  after = relabelled label chosen top

  outside : (g : ℕ) → g < s.count → (holds p.places.items g ≡ true → ⊥) → (x : Bool) → chosen g ≡ x → x ≡ false
  outside g l none false u = refl
  outside g l none true u = absurd (none (cut.greatest.within.each g l u))

  -- a place of another part keeps its part
  same_part : (g x : ℕ) → g < s.count → x < s.count → chosen g ≡ false → (after x ≡ after g → label x ≡ label g)
  same_part g x l b u e = go (chosen x) refl where
    go : (y : Bool) → chosen x ≡ y → label x ≡ label g
    go true w = absurd (omega (arith, h.below g l, sym (at_chosen label chosen top x w) ∙ e ∙ at_other label chosen top g u))
    go false w = sym (at_other label chosen top x w) ∙ e ∙ at_other label chosen top g u

  settled_kept : (g : ℕ) (v : Fraction) → g < s.count → slice_get values g ≡ Some (Some v) → IsSettledAt m s strict label values g v → IsSettledAt m s strict after values g v
  settled_kept g v l e was = record {
    level = subst (λ (i : ℕ). IsLevel m s strict (labelled after i) v) (sym kept) (level_same m s places (labelled label (label g)) (labelled after (label g)) others strict v was.level);
    base = subst (λ (i : ℕ). HasBase m s (labelled after i) v) (sym kept) (base_same m s places (labelled label (label g)) (labelled after (label g)) others v was.base);
    alike = λ x b f. was.alike x b (same_part g x l b out f);
  } where
    away : holds p.places.items g ≡ true → ⊥
    away u = none_some (slice_get values g) v (part.waits g l u) e

    out : chosen g ≡ false
    out = outside g l away (chosen g) refl

    kept : after g ≡ label g
    kept = at_other label chosen top g out

    others : (x : ℕ) → x < s.count → labelled label (label g) x ≡ labelled after (label g) x
    others = other_part m s places law (holds p.places.items) chosen rest value cut label number top part_is h.below old (label g)
        (λ f. away (sym (part_is g l) ∙ has_label label number g f)) (h.below g l)

  open_kept : (i : ℕ) (q : Piece) → slice_get pieces i ≡ Some q → IsOpenPart s label values q → IsOpenPart s after values q
  open_kept i q e was = record {
    piece = was.piece;
    some = was.some;
    whole = λ g x l b u. (
      (λ w. at_other label chosen top x (out x b w) ∙ (was.whole g x l b u).0 w ∙ sym (at_other label chosen top g (out g l u))),
      (λ f. (was.whole g x l b u).1 (same_part g x l b (out g l u) f)),
    );
    waits = was.waits;
  } where
    out : (g : ℕ) → g < s.count → holds q.places.items g ≡ true → chosen g ≡ false
    out g l u = outside g l (λ w. h.loose_apart i q e g l w u) (chosen g) refl

  pub recut : ArePartsOf m s strict after (suc top) (holds p.places.items) pieces values
  recut = record {
    below = λ g l. below g l (chosen g) refl;
    divided = cut_divided m s places law (holds p.places.items) chosen rest value cut label number top part_is h.below old h.divided;
    count = h.count;
    settled = λ g v l e. settled_kept g v l e (h.settled g v l e);
    waiting = h.waiting;
    listed = λ i q e. open_kept i q e (h.listed i q e);
    apart = h.apart;
    loose_waits = h.loose_waits;
    loose_apart = h.loose_apart;
  } where
    below : (g : ℕ) → g < s.count → (x : Bool) → chosen g ≡ x → after g < suc top
    below g l true u = omega (arith, at_chosen label chosen top g u)
    below g l false u = omega (arith, at_other label chosen top g u, h.below g l)

  -- each of its two parts is one part by the new labels
  pub chosen_whole : (g x : ℕ) → g < s.count → x < s.count → chosen g ≡ true → (chosen x ≡ true → after x ≡ after g) × (after x ≡ after g → chosen x ≡ true)
  chosen_whole g x l b u = (
    (λ w. at_chosen label chosen top x w ∙ sym (at_chosen label chosen top g u)),
    (λ e. sym (chosen_part m s places law (holds p.places.items) chosen rest value cut label number top part_is h.below old x b) ∙ has_label after top x (e ∙ at_chosen label chosen top g u)),
  )

  rest_number : (g : ℕ) → g < s.count → rest g ≡ true → after g ≡ number
  rest_number g l u = is_label after number g (rest_part m s places law (holds p.places.items) chosen rest value cut label number top part_is h.below old g l ∙ u)

  pub rest_whole : (g x : ℕ) → g < s.count → x < s.count → rest g ≡ true → (rest x ≡ true → after x ≡ after g) × (after x ≡ after g → rest x ≡ true)
  rest_whole g x l b u = (
    (λ w. rest_number x b w ∙ sym (rest_number g l u)),
    (λ e. sym (rest_part m s places law (holds p.places.items) chosen rest value cut label number top part_is h.below old x b) ∙ has_label after number x (e ∙ rest_number g l u)),
  )
