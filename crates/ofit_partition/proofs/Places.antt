-- lists of rising places as sets, and sums over them
use Rattle.std.proofs.Common.{◌≡◌, ℕ, zero, suc, ◌<◌, ◌≤◌, refl, sym, ap, subst, ◌∙◌, arith, cond, Bool, true, false, ◌||◌, ◌&&◌, List, [], ◌∷◌, length, map}
use Rattle.std.proofs.lemmas.Int.{ints}
use Rattle.std.proofs.lemmas.Bool.{eqb-true, eq-eqb, ne_eqb, both_ways}
use Rattle.std.proofs.lemmas.List.Elements.{All-head, All-tail}
use Rattle.std.proofs.lemmas.List.Folds.{list_any_at}
use Rattle.std.proofs.lemmas.Map.Views.{any-filter_same}
use Rattle.std.specs.Prelude.{ℤ, pos, ◌+ℤ◌, All, slice_index, nat_eq}
use Rattle.std.specs.List.{AllPairs, filter}
use Rattle.ofit_num.specs.Problem.{Problem}
use Rattle.ofit_num.specs.Sets.{set_sum, IsWithin}
use Rattle.ofit_num.proofs.Cuts.{union, set_sum-union}
use Rattle.ofit_num.proofs.Blocks.{set_sum-equal}
use Rattle.ofit_num.proofs.Layers.{set_sum-is}
use Rattle.ofit_num.proofs.Sums.{int_sum, int_sum-at}
use Rattle.ofit_cut.specs.Sets.{set_sum as node_sum, weight_at}
use Rattle.ofit_partition.specs.Piece.{holds}
use Rattle.ofit_num.proofs.Sheets.{AllPairs-head, AllPairs-tail}

-- a place that the list holds, by its position
pub position_of : (places : List ℕ) (g : ℕ) → holds places g ≡ true → (i : ℕ) × (i < length places) × (slice_index places i ≡ g)
position_of [] g h = cc
position_of (p ∷ places) g h = go (position_of places g) (nat_eq p g) refl h where
  go : (holds places g ≡ true → (i : ℕ) × (i < length places) × (slice_index places i ≡ g)) → (x : Bool) → nat_eq p g ≡ x → (x || holds places g) ≡ true
      → (i : ℕ) × (i < length (p ∷ places)) × (slice_index (p ∷ places) i ≡ g)
  go later true e k = (0, omega arith, eqb-true p g e)
  go later false e k = let r : (i : ℕ) × (i < length places) × (slice_index places i ≡ g) = later k in (suc r.0, omega (arith, r.1), r.2)

pub holds_at : (places : List ℕ) (i : ℕ) → i < length places → holds places (slice_index places i) ≡ true
holds_at places i l = list_any_at (λ p. nat_eq p (slice_index places i)) places i 0 l (eq-eqb (slice_index places i) (slice_index places i) refl)

pub held_below : (P : ℕ → Type 0) (places : List ℕ) (g : ℕ) → All P places → holds places g ≡ true → P g
held_below P places g h u =
    let r : (i : ℕ) × (i < length places) × (slice_index places i ≡ g) = position_of places g u in
    subst P r.2 (h r.0 0 r.1)

pub holds-filter : (mark : ℕ → Bool) (places : List ℕ) (g : ℕ) → holds (filter mark places) g ≡ (mark g && holds places g)
holds-filter mark places g = any-filter_same (λ p. nat_eq p g) mark (mark g) (λ k e. ap mark (eqb-true k g e)) places

-- the sum over the list, place by place
abbrev pub place_sum : (ℕ → ℤ) → List ℕ → ℤ
place_sum f [] = pos 0
place_sum f (p ∷ places) = f p +ℤ place_sum f places

lone_sum : (p : ℕ) (f : ℕ → ℤ) (n : ℕ) → p < n → set_sum (nat_eq p) f n ≡ f p
lone_sum p f n l = set_sum-is (nat_eq p) f n ∙ int_sum-at (λ g. cond (nat_eq p g) (f g) (pos 0)) n p l
    (λ g b away. ap (λ (x : Bool). cond x (f g) (pos 0)) (ne_eqb p g (λ e. away (sym e))))
    ∙ ap (λ (x : Bool). cond x (f p) (pos 0)) (eq-eqb p p refl)

pub place_sum-holds : (f : ℕ → ℤ) (places : List ℕ) (n : ℕ) → AllPairs (λ x y. x < y) places → All (λ g. g < n) places → place_sum f places ≡ set_sum (holds places) f n
unfolding union
place_sum-holds f [] n rising below = sym (set_sum-is (λ g. false) f n ∙ none n) where
  none : (n : ℕ) → int_sum (λ g. pos 0) n ≡ pos 0
  none zero = refl
  none (suc n) = omega (arith, ints, none n)
place_sum-holds f (p ∷ places) n rising below =
    omega (
      arith,
      ints,
      place_sum-holds f places n (AllPairs-tail (λ x y. x < y) p places rising) (All-tail (λ g. g < n) p places below),
      lone_sum p f n (All-head (λ g. g < n) p places below),
      set_sum-union (nat_eq p) (holds places) f n (λ g l e. apart g (eqb-true p g e)),
      set_sum-equal (holds (p ∷ places)) (union (nat_eq p) (holds places)) f n (λ g l. refl),
    ) where
      apart : (g : ℕ) → p ≡ g → holds places g ≡ false
      apart g e = go (holds places g) refl where
        go : (x : Bool) → holds places g ≡ x → x ≡ false
        go false u = refl
        go true u = absurd (omega (arith, e, held_below (λ x. p < x) places g (AllPairs-head (λ x y. x < y) p places rising) u))

-- the sum over a set inside the list
pub set_sum-listed : (s : Problem) (a : ℕ → Bool) (f : ℕ → ℤ) (places : List ℕ) → AllPairs (λ x y. x < y) places → All (λ g. g < s.count) places → IsWithin s (holds places) a
    → place_sum (λ g. cond (a g) (f g) (pos 0)) places ≡ set_sum a f s.count
set_sum-listed s a f places rising below inside = place_sum-holds (λ g. cond (a g) (f g) (pos 0)) places s.count rising below ∙ same s.count (omega arith) where
  one : (g : ℕ) → g < s.count → (x y : Bool) → a g ≡ x → holds places g ≡ y → cond y (cond x (f g) (pos 0)) (pos 0) ≡ cond x (f g) (pos 0)
  one g l x true e u = refl
  one g l false false e u = refl
  one g l true false e u = absurd (both_ways (holds places g) u (inside.each g l e))

  same : (n : ℕ) → n ≤ s.count → set_sum (holds places) (λ g. cond (a g) (f g) (pos 0)) n ≡ set_sum a f n
  same zero l = refl
  same (suc n) l = omega (arith, ints, same n (omega arith), one n (omega arith) (a n) (holds places n) refl refl)

-- the sum over a set of positions, of the weights of the places there
first_term : (x : ℕ → Bool) (w : ℕ → ℤ) (n : ℕ) → node_sum x w (suc n) ≡ cond (x 0) (w 0) (pos 0) +ℤ node_sum (λ i. x (suc i)) (λ i. w (suc i)) n
first_term x w zero = omega (arith, ints)
first_term x w (suc n) = omega (arith, ints, first_term x w n)

pub positions_sum : (x : ℕ → Bool) (a : ℕ → Bool) (f : ℕ → ℤ) (places : List ℕ) → ((i : ℕ) → i < length places → x i ≡ a (slice_index places i))
    → node_sum x (weight_at (map f places)) (length places) ≡ place_sum (λ g. cond (a g) (f g) (pos 0)) places
positions_sum x a f [] same = refl
positions_sum x a f (p ∷ places) same = omega (
  arith,
  ints,
  first_term x (weight_at (map f (p ∷ places))) (length places),
  positions_sum (λ i. x (suc i)) a f places (λ i l. same (suc i) (omega arith)),
  ap (λ (b : Bool). cond b (f p) (pos 0)) (same 0 (omega arith)),
)
