-- what the greatest upper set of a piece tells of the sets inside it and outside it
use Rattle.std.proofs.Common.{◌≡◌, ℕ, zero, suc, ◌<◌, refl, sym, ap, ◌∙◌, arith, cond, Bool, true, false, ◌&&◌, ◌||◌, not}
use Rattle.std.proofs.lemmas.Int.{ints, by_lt_z}
use Rattle.std.specs.Prelude.{ℤ, pos, ◌+ℤ◌, ◌≤ℤ◌, ◌<ℤ◌, All, slice_index_or}
use Rattle.ofit_num.specs.Problem.{Problem}
use Rattle.ofit_num.specs.Sets.{set_sum, IsWithin, IsUpperIn, IsLowerIn, IsSplit, IsGreatestUpper, IsSmallest}

unfoldable pub union : (ℕ → Bool) → (ℕ → Bool) → ℕ → Bool
union a b g = a g || b g

unfoldable pub difference : (ℕ → Bool) → (ℕ → Bool) → ℕ → Bool
difference a b g = a g && not (b g)

-- sets with no place in common
pub set_sum-union : (a b : ℕ → Bool) (c : ℕ → ℤ) (n : ℕ) → ((g : ℕ) → g < n → a g ≡ true → b g ≡ false) → set_sum (union a b) c n ≡ set_sum a c n +ℤ set_sum b c n
unfolding union
set_sum-union a b c zero h = refl
set_sum-union a b c (suc n) h = omega (arith, ints, set_sum-union a b c n (λ g l. h g (omega arith)), here (a n) (b n) (h n (omega arith))) where
  here : (x y : Bool) → (x ≡ true → y ≡ false) → cond (x || y) (c n) (pos 0) ≡ cond x (c n) (pos 0) +ℤ cond y (c n) (pos 0)
  here true true k = absurd (cc (k refl))
  here true false k = omega (arith, ints)
  here false true k = omega (arith, ints)
  here false false k = refl

-- a set and a part of it
pub set_sum-difference : (a b : ℕ → Bool) (c : ℕ → ℤ) (n : ℕ) → ((g : ℕ) → g < n → b g ≡ true → a g ≡ true) → set_sum (difference a b) c n +ℤ set_sum b c n ≡ set_sum a c n
unfolding difference
set_sum-difference a b c zero h = refl
set_sum-difference a b c (suc n) h = omega (arith, ints, set_sum-difference a b c n (λ g l. h g (omega arith)), here (a n) (b n) (h n (omega arith))) where
  here : (x y : Bool) → (y ≡ true → x ≡ true) → cond (x && not y) (c n) (pos 0) +ℤ cond y (c n) (pos 0) ≡ cond x (c n) (pos 0)
  here true true k = omega (arith, ints)
  here true false k = omega (arith, ints)
  here false true k = absurd (cc (k refl))
  here false false k = refl

pub true_or : (a b : Bool) → a ≡ true → (a || b) ≡ true
true_or true b e = refl
true_or false b e = cc

pub or_true : (a b : Bool) → b ≡ true → (a || b) ≡ true
or_true true b e = refl
or_true false b e = e

pub either : {P : Type 0} (a b : Bool) → (a || b) ≡ true → (a ≡ true → P) → (b ≡ true → P) → P
either true b e f h = f refl
either false b e f h = h e

pub but_not : (a b : Bool) → (a && not b) ≡ true → (a ≡ true) × (b ≡ false)
but_not true true e = cc
but_not true false e = (refl, refl)
but_not false b e = cc

pub not_but : (a b : Bool) → a ≡ true → b ≡ false → (a && not b) ≡ true
not_but a b e f = rw (e, f) refl

pub not_both : {P : Type 0} (b : Bool) → b ≡ true → b ≡ false → P
not_both b e f = absurd (cc)

module _ (s : Problem) (piece upper rest : ℕ → Bool) (c : ℕ → ℤ) (cut : IsSplit s piece upper rest)
    (places : All (λ e. (e.0 < s.count) × (e.1 < s.count)) s.pairs) (best : IsGreatestUpper s piece c upper) where
  -- No upper set of the rest has a sum above 0.
  pub rest_gains_nothing : (a : ℕ → Bool) → IsWithin s rest a → IsUpperIn s rest a → set_sum a c s.count ≤ℤ pos 0
  unfolding union
  rest_gains_nothing a inside closed =
      omega (arith, ints, best.greatest (union upper a) both_inside both_closed, set_sum-union upper a c s.count apart) where
        apart : (g : ℕ) → g < s.count → upper g ≡ true → a g ≡ false
        apart g l u = go (a g) refl where
          go : (x : Bool) → a g ≡ x → x ≡ false
          go false e = refl
          go true e = not_both (rest g) (inside.each g l e) (cut.apart g l u)

        both_inside : IsWithin s piece (union upper a)
        both_inside = record { each = λ g l k. either (upper g) (a g) k (λ u. best.within.each g l u) (λ w. cut.parts g l ∙ or_true (upper g) (rest g) (inside.each g l w)) }

        both_closed : IsUpperIn s piece (union upper a)
        both_closed i d l low high k = either (upper e.0) (a e.0) k (λ u. true_or _ _ (cut.closed i d l low high u)) (λ w. go (upper e.1) refl w) where
          e : ℕ × ℕ
          e = slice_index_or s.pairs i d

          go : (x : Bool) → upper e.1 ≡ x → a e.0 ≡ true → (x || a e.1) ≡ true
          go true u w = refl
          go false u w = closed i d l (inside.each e.0 (places i d l).0 w) (ap (λ (b : Bool). b || rest e.1) (sym u) ∙ sym (cut.parts e.1 (places i d l).1) ∙ high) w

  -- No lower set of the chosen one has a sum below 0.
  difference_inside : (b : ℕ → Bool) → IsWithin s piece (difference upper b)
  unfolding difference
  difference_inside b = record { each = λ g l k. best.within.each g l (but_not (upper g) (b g) k).0 }

  difference_closed : (b : ℕ → Bool) → IsLowerIn s upper b → IsUpperIn s piece (difference upper b)
  unfolding difference
  difference_closed b lower i d l low high k = not_but (upper e.1) (b e.1) up_high (go (b e.1) refl) where
    e : ℕ × ℕ
    e = slice_index_or s.pairs i d

    up_low : upper e.0 ≡ true
    up_low = (but_not (upper e.0) (b e.0) k).0

    up_high : upper e.1 ≡ true
    up_high = cut.closed i d l low high up_low

    go : (x : Bool) → b e.1 ≡ x → x ≡ false
    go false f = refl
    go true f = not_both (b e.0) (lower i d l up_low up_high f) (but_not (upper e.0) (b e.0) k).1

  pub chosen_loses_nothing : (b : ℕ → Bool) → IsWithin s upper b → IsLowerIn s upper b → pos 0 ≤ℤ set_sum b c s.count
  chosen_loses_nothing b inside lower =
      omega (arith, ints, best.greatest (difference upper b) (difference_inside b) (difference_closed b lower), set_sum-difference upper b c s.count inside.each)

  -- Where it is the smallest, each of its lower sets that isn't empty has a sum above 0.
  pub chosen_loses : IsSmallest s piece c upper → (b : ℕ → Bool) → IsWithin s upper b → IsLowerIn s upper b → (g : ℕ) → g < s.count → b g ≡ true → pos 0 <ℤ set_sum b c s.count
  unfolding difference
  chosen_loses small b inside lower g l member = by_lt_z (pos 0) (set_sum b c s.count) (λ h. h) (λ none.
      not_both (b g) member (but_not (upper g) (b g)
      (small.smallest (difference upper b) (difference_inside b) (difference_closed b lower) (omega (arith, ints, none, chosen_loses_nothing b inside lower, set_sum-difference upper b c s.count inside.each)) g l (inside.each g l member))).1)

  -- An upper set of the chosen one is an upper set of the piece.
  pub upper_of_chosen : (a : ℕ → Bool) → IsWithin s upper a → IsUpperIn s upper a → IsUpperIn s piece a
  upper_of_chosen a inside closed i d l low high k = closed i d l u (cut.closed i d l low high u) k where
    u : upper (slice_index_or s.pairs i d).0 ≡ true
    u = inside.each _ (places i d l).0 k

  pub within_chosen : (a : ℕ → Bool) → IsWithin s upper a → IsWithin s piece a
  within_chosen a inside = record { each = λ g l k. best.within.each g l (inside.each g l k) }

  -- A lower set of the rest is a lower set of the piece.
  pub lower_of_rest : (a : ℕ → Bool) → IsWithin s rest a → IsLowerIn s rest a → IsLowerIn s piece a
  lower_of_rest a inside closed i d l low high k = closed i d l (go (upper e.0) refl) w k where
    e : ℕ × ℕ
    e = slice_index_or s.pairs i d

    w : rest e.1 ≡ true
    w = inside.each e.1 (places i d l).1 k

    go : (x : Bool) → upper e.0 ≡ x → rest e.0 ≡ true
    go true u = not_both (rest e.1) w (cut.apart e.1 (places i d l).1 (cut.closed i d l low high u))
    go false u = ap (λ (b : Bool). b || rest e.0) (sym u) ∙ sym (cut.parts e.0 (places i d l).0) ∙ low

  pub within_rest : (a : ℕ → Bool) → IsWithin s rest a → IsWithin s piece a
  within_rest a inside = record { each = λ g l k. cut.parts g l ∙ or_true (upper g) (rest g) (inside.each g l k) }
