-- runs of places of a chain: neighbours that are pieces, their sums and their blocks
use Rattle.std.proofs.Common.{◌≡◌, ℕ, zero, suc, ◌+◌, ◌-◌, ◌<◌, ◌≤◌, refl, sym, ap, subst, ◌∙◌, arith, cond, Bool, true, false, ◌||◌, ◌&&◌, not, [], ◌∷◌, ◌++◌, ◌⊎◌, inl, inr, nat_lt}
use Rattle.std.proofs.lemmas.Int.{ints}
use Rattle.std.proofs.lemmas.Bool.{cases_order}
use Rattle.std.proofs.lemmas.Bool.Decides.{nat_tests}
use Rattle.std.proofs.lemmas.List.{map-append}
use Rattle.std.proofs.lemmas.List.Elements.{All-nil, All-push, All-contains, Contains-push, Contains-append_left}
use Rattle.std.specs.List.{range_with_len}
use Rattle.std.specs.Prelude.{List, map, ℤ, pos, ◌+ℤ◌, ◌≤ℤ◌, ◌<ℤ◌, All, Contains}
use Rattle.ofit_num.specs.Pairs.{rising_to}
use Rattle.ofit_num.specs.Problem.{Problem}
use Rattle.ofit_num.specs.Meaning.{Meaning}
use Rattle.ofit_num.specs.Fraction.{Fraction, AtMost}
use Rattle.ofit_num.specs.Below.{Below}
use Rattle.ofit_num.specs.Law.{least_at, greatest_at, HasFallingSpans}
use Rattle.ofit_num.specs.Sets.{set_sum, IsWithin, IsUpperIn, IsLowerIn, IsSplit}
use Rattle.ofit_num.specs.Steep.{IsSteep}
use Rattle.ofit_num.specs.Block.{IsPooled, IsBlock, IsCost}
use Rattle.ofit_num.proofs.Blocks.{absorbed, member_or_none, set_sum-none, set_sum-equal, below_trans}
use Rattle.ofit_num.proofs.Pieces.{and_both, both_and, meet, set_sum-split}
use Rattle.ofit_num.proofs.Ranges.{range-push}
use Rattle.ofit_chain.specs.Chain.{chain_pairs}
use Rattle.ofit_chain.specs.Stretch.{run}
use Rattle.ofit_num.proofs.Division.{same_test}
use Rattle.ofit_num.proofs.LoneBlocks.{lone_block, lone_steep}

-- the pairs of a chain are those of each place with the next
rising_push : (n : ℕ) → rising_to (suc n) ≡ rising_to n ++ (n, suc n) ∷ []
rising_push n =
    ap (map (λ (i : ℕ). (i, i + 1))) (range-push 0 n) ∙ map-append (λ (i : ℕ). (i, i + 1)) (range_with_len 0 n) ((0 + n) ∷ [])
    ∙ ap (λ (i : ℕ). rising_to n ++ (i, i + 1) ∷ []) (from_zero n) ∙ ap (λ (i : ℕ). rising_to n ++ (n, i) ∷ []) (next n) where
      from_zero : (k : ℕ) → 0 + k ≡ k
      from_zero k = omega arith

      next : (k : ℕ) → k + 1 ≡ suc k
      next k = omega arith

steps_contains : (n k : ℕ) → k < n → Contains (rising_to n) (k, suc k)
steps_contains zero k l = absurd (omega arith)
steps_contains (suc n) k l = subst (λ (ps : List (ℕ × ℕ)). Contains ps (k, suc k)) (sym (rising_push n)) (elim (cases_order k n) [
  | inl e ↦ subst (λ (i : ℕ). Contains (rising_to n ++ (n, suc n) ∷ []) (i, suc i)) (sym e) (Contains-push (rising_to n) (n, suc n))
  | inr o ↦ elim o [
    | inl b ↦ Contains-append_left (rising_to n) ((n, suc n) ∷ []) (k, suc k) (steps_contains n k b)
    | inr b ↦ absurd (omega arith)
  ]
])

steps_all : (P : ℕ × ℕ → Type 0) (n : ℕ) → ((k : ℕ) → k < n → P (k, suc k)) → All P (rising_to n)
steps_all P zero h = All-nil P
steps_all P (suc n) h = subst (All P) (sym (rising_push n)) (All-push P (rising_to n) (n, suc n) (steps_all P n (λ k l. h k (omega arith))) (h n (omega arith)))

one_less : (n : ℕ) → suc n - 1 ≡ n
one_less n = omega arith

pub pair_at : (P : ℕ × ℕ → Type 0) (n : ℕ) → All P (chain_pairs n) → (k : ℕ) → suc k < n → P (k, suc k)
pair_at P zero h k l = absurd (omega arith)
pair_at P (suc n) h k l =
    All-contains P (chain_pairs (suc n)) (k, suc k) h (subst (λ (m : ℕ). Contains (rising_to m) (k, suc k)) (sym (one_less n)) (steps_contains n k (omega arith)))

pub each_pair : (P : ℕ × ℕ → Type 0) (n : ℕ) → ((k : ℕ) → suc k < n → P (k, suc k)) → All P (chain_pairs n)
each_pair P zero h = All-nil P
each_pair P (suc n) h = subst (λ (m : ℕ). All P (rising_to m)) (sym (one_less n)) (steps_all P n (λ k l. h k (omega arith)))

-- a test is false where it isn't true
pub untrue : (x : Bool) → (x ≡ true → ⊥) → x ≡ false
untrue false h = refl
untrue true h = absurd (h refl)

pub clash : (x : Bool) → x ≡ true → x ≡ false → ⊥
clash x e f = cc

either : (x y : Bool) → (x || y) ≡ true → (x ≡ true) ⊎ (y ≡ true)
either true y e = inl refl
either false y e = inr e

left_or : (x y : Bool) → x ≡ true → (x || y) ≡ true
left_or x y e = rw e refl

right_or : (x y : Bool) → y ≡ true → (x || y) ≡ true
right_or true y e = refl
right_or false y e = e

-- the places of a run
pub from_run : (i j g : ℕ) → run i j g ≡ true → (i ≤ g) × (g < j)
from_run i j g e = let both : _ = and_both (not (nat_lt g i)) (nat_lt g j) e in (at_least both.0, less both.1) where
  at_least : not (nat_lt g i) ≡ true → i ≤ g
  at_least h = grind (arith, nat_tests)

  less : nat_lt g j ≡ true → g < j
  less h = grind (arith, nat_tests)

pub in_run : (i j g : ℕ) → i ≤ g → g < j → run i j g ≡ true
in_run i j g l h = both_and (not (nat_lt g i)) (nat_lt g j) (at_least l) (less h) where
  at_least : i ≤ g → not (nat_lt g i) ≡ true
  at_least h = grind (arith, nat_tests)

  less : g < j → nat_lt g j ≡ true
  less h = grind (arith, nat_tests)

-- a run is cut at any of its places
pub run_parts : (i k j g : ℕ) → i ≤ k → k ≤ j → run i j g ≡ (run k j g || run i k g)
run_parts i k j g l h = same_test _ _ apart together where
  apart : run i j g ≡ true → (run k j g || run i k g) ≡ true
  apart e = elim (cases_order g k) [
    | inl same ↦ left_or _ _ (in_run k j g (omega arith) (from_run i j g e).1)
    | inr o ↦ elim o [
      | inl b ↦ right_or _ _ (in_run i k g (from_run i j g e).0 b)
      | inr b ↦ left_or _ _ (in_run k j g (omega arith) (from_run i j g e).1)
    ]
  ]

  together : (run k j g || run i k g) ≡ true → run i j g ≡ true
  together e = elim (either (run k j g) (run i k g) e) [
    | inl p ↦ in_run i j g (omega (arith, (from_run k j g p).0)) (from_run k j g p).1
    | inr p ↦ in_run i j g (from_run i k g p).0 (omega (arith, (from_run i k g p).1))
  ]

pub run_apart : (i k j g : ℕ) → run k j g ≡ true → run i k g ≡ false
run_apart i k j g e = untrue _ (λ f. absurd (omega (arith, (from_run k j g e).0, (from_run i k g f).1)))

-- sums over the parts of a set, and over one place
set_sum-parts : (piece upper rest : ℕ → Bool) (f : ℕ → ℤ) (n : ℕ) → ((g : ℕ) → piece g ≡ (upper g || rest g)) → ((g : ℕ) → upper g ≡ true → rest g ≡ false)
    → set_sum piece f n ≡ set_sum rest f n +ℤ set_sum upper f n
set_sum-parts piece upper rest f zero parts apart = refl
set_sum-parts piece upper rest f (suc n) parts apart =
    omega (arith, ints, set_sum-parts piece upper rest f n parts apart, here (piece n) (upper n) (rest n) (parts n) (apart n)) where
      here : (x u w : Bool) → x ≡ (u || w) → (u ≡ true → w ≡ false) → cond x (f n) (pos 0) ≡ cond w (f n) (pos 0) +ℤ cond u (f n) (pos 0)
      here x true true p d = absurd (cc (d refl))
      here x true false p d = rw p (omega (arith, ints))
      here x false true p d = rw p (omega (arith, ints))
      here x false false p d = rw p (omega (arith, ints))

pub run_sum : (i k j : ℕ) (f : ℕ → ℤ) (n : ℕ) → i ≤ k → k ≤ j → set_sum (run i j) f n ≡ set_sum (run i k) f n +ℤ set_sum (run k j) f n
run_sum i k j f n l h = set_sum-parts (run i j) (run k j) (run i k) f n (λ g. run_parts i k j g l h) (λ g e. run_apart i k j g e)

pub place_sum : (k : ℕ) (f : ℕ → ℤ) (n : ℕ) → k < n → set_sum (run k (suc k)) f n ≡ f k
place_sum k f zero l = absurd (omega arith)
place_sum k f (suc n) l = elim (cases_order k n) [
  | inl e ↦ ap (λ (x : Bool). set_sum (run k (suc k)) f n +ℤ cond x (f n) (pos 0)) (in_run k (suc k) n (omega arith) (omega arith))
      ∙ omega (arith, ints, set_sum-none (run k (suc k)) f n (λ g b. untrue _ (λ u. absurd (omega (arith, (from_run k (suc k) g u).0)))), ap f e)
  | inr o ↦ elim o [
    | inl b ↦ ap (λ (x : Bool). set_sum (run k (suc k)) f n +ℤ cond x (f n) (pos 0)) (untrue (run k (suc k) n) (λ u. absurd (omega (arith, (from_run k (suc k) n u).1))))
        ∙ omega (arith, ints, place_sum k f n b)
    | inr b ↦ absurd (omega arith)
  ]
]

less_at_most : (z : ℤ) → pos 0 <ℤ z → pos 0 ≤ℤ z
less_at_most z h = omega (arith, ints)

module _ (m : Meaning) (s : Problem) (chain : s.pairs ≡ chain_pairs s.count) where
  -- what holds of the chain's pairs
  pub along : (P : ℕ × ℕ → Type 0) → All P s.pairs → (k : ℕ) → suc k < s.count → P (k, suc k)
  along P h k l = pair_at P s.count (subst (All P) chain h) k l

  pub everywhere : (P : ℕ × ℕ → Type 0) → ((k : ℕ) → suc k < s.count → P (k, suc k)) → All P s.pairs
  everywhere P h = subst (All P) (sym chain) (each_pair P s.count h)

  pub chain_places : All (λ e. (e.0 < s.count) × (e.1 < s.count)) s.pairs
  chain_places = everywhere (λ e. (e.0 < s.count) × (e.1 < s.count)) (λ k l. (omega arith, l))

  pub run_cut : (i k j : ℕ) → i ≤ k → k ≤ j → IsSplit s (run i j) (run k j) (run i k)
  run_cut i k j l h = record {
    closed = everywhere (λ e. run i j e.0 ≡ true → run i j e.1 ≡ true → run k j e.0 ≡ true → run k j e.1 ≡ true)
        (λ g b low high u. in_run k j (suc g) (omega (arith, (from_run k j g u).0)) (from_run i j (suc g) high).1);
    parts = λ g b. run_parts i k j g l h;
    apart = λ g b u. run_apart i k j g u;
  }

  -- an upper set of a run that has a place has the last one
  climbs : (i j : ℕ) (a : ℕ → Bool) → j < s.count → IsUpperIn s (run i (suc j)) a → (g d : ℕ) → i ≤ g → g + d ≤ j → a g ≡ true → a (g + d) ≡ true
  climbs i j a top up g zero l h e = subst (λ (n : ℕ). a n ≡ true) (omega arith) e
  climbs i j a top up g (suc d) l h e = subst (λ (n : ℕ). a n ≡ true) (omega arith)
      (along (λ p. run i (suc j) p.0 ≡ true → run i (suc j) p.1 ≡ true → a p.0 ≡ true → a p.1 ≡ true) up (g + d) (omega arith)
      (in_run i (suc j) (g + d) (omega arith) (omega arith)) (in_run i (suc j) (suc (g + d)) (omega arith) (omega arith)) (climbs i j a top up g d l (omega arith) e))

  pub run_reaches : (i j : ℕ) → j < s.count → (a : ℕ → Bool) → IsWithin s (run i (suc j)) a → IsUpperIn s (run i (suc j)) a → (g : ℕ) → g < s.count → a g ≡ true → a j ≡ true
  run_reaches i j top a inside up g l e =
      let both : (i ≤ g) × (g < suc j) = from_run i (suc j) g (inside.each g l e) in
      subst (λ (n : ℕ). a n ≡ true) (omega (arith, both.1)) (climbs i j a top up g (j - g) both.0 (omega (arith, both.1)) e)

  -- A lone group is a block with any limit.
  module _ (strict : Bool) (k : ℕ) (value limit : Fraction) (top : k < s.count) (pooled : IsPooled m s (run k (suc k)) value)
      (pooled_costs : IsCost strict (set_sum (run k (suc k)) (greatest_at m s value) s.count)) (limit_den : 0 < limit.den) (within : AtMost value limit) where
    alone : (g : ℕ) → g < s.count → run k (suc k) g ≡ true → g ≡ k
    alone g l u = omega (arith, (from_run k (suc k) g u).0, (from_run k (suc k) g u).1)

    pub lone_run : IsBlock m s strict (run k (suc k)) k value limit
    lone_run = lone_block m s strict (run k (suc k)) k value limit top (in_run k (suc k) k (omega arith) (omega arith)) alone pooled pooled_costs limit_den within

    pub lone_run_steep : IsSteep m s (run k (suc k)) k limit
    lone_run_steep = lone_steep m s strict (run k (suc k)) k value limit top (in_run k (suc k) k (omega arith) (omega arith)) alone pooled pooled_costs limit_den within

  -- a lower set of a run that has a place has each earlier one
  sinks : (i j : ℕ) (a : ℕ → Bool) → j < s.count → IsLowerIn s (run i (suc j)) a → (g d : ℕ) → i ≤ g → g + d ≤ j → a (g + d) ≡ true → a g ≡ true
  sinks i j a top low g zero l h e = subst (λ (n : ℕ). a n ≡ true) (omega arith) e
  sinks i j a top low g (suc d) l h e = sinks i j a top low g d l (omega arith)
      (along (λ p. run i (suc j) p.0 ≡ true → run i (suc j) p.1 ≡ true → a p.1 ≡ true → a p.0 ≡ true) low (g + d) (omega arith)
      (in_run i (suc j) (g + d) (omega arith) (omega arith)) (in_run i (suc j) (suc (g + d)) (omega arith) (omega arith)) (subst (λ (n : ℕ). a n ≡ true) (omega arith) e))

  pub run_sinks : (i j : ℕ) → j < s.count → (a : ℕ → Bool) → IsLowerIn s (run i (suc j)) a → (g h : ℕ) → i ≤ g → g ≤ h → h ≤ j → a h ≡ true → a g ≡ true
  run_sinks i j top a low g h l k b e = sinks i j a top low g (h - g) l (omega arith) (subst (λ (n : ℕ). a n ≡ true) (omega arith) e)

  -- each lower set of a block that has a place would gain by rising from a value below the block's
  pub block_gains : (strict : Bool) (i j : ℕ) (c ce : Fraction) → IsBlock m s strict (run i (suc j)) j c ce → IsSteep m s (run i (suc j)) j ce → (b : Fraction) → 0 < b.den → Below b c
      → (a : ℕ → Bool) → IsWithin s (run i (suc j)) a → IsLowerIn s (run i (suc j)) a → (g : ℕ) → g < s.count → a g ≡ true → pos 0 <ℤ set_sum a (least_at m s b) s.count
  block_gains strict i j c ce block steep b lb below a inside low g l e = go (a j) refl where
    same : a j ≡ true → (h : ℕ) → h < s.count → run i (suc j) h ≡ a h
    same top h k = same_test _ _ (λ u. run_sinks i j block.top_below a low h j (from_run i (suc j) h u).0 (omega (arith, (from_run i (suc j) h u).1)) (omega arith) top) (λ u. inside.each h k u)

    go : (x : Bool) → a j ≡ x → pos 0 <ℤ set_sum a (least_at m s b) s.count
    go true top = subst (λ (z : ℤ). pos 0 <ℤ z) (set_sum-equal (run i (suc j)) a (least_at m s b) s.count (same top)) (block.pooled.smaller b lb below)
    go false out = steep.gains b lb (below_trans b c ce lb block.pooled.den block.limit_den below block.within) a inside low out g l e

  -- Two neighbouring runs, of which the first has a value at least that of the second, are one block at the value that pools them.
  module _ (law : HasFallingSpans m s) (strict : Bool) (i k j : ℕ) (b be c ce t : Fraction) (front : i ≤ k) (back : k < j) (top : j < s.count)
      (lower : IsBlock m s strict (run (suc k) (suc j)) j b be) (upper : IsBlock m s strict (run i (suc k)) k c ce) (order : AtMost b c) (limit : AtMost c be) where
    pub absorbed_run : IsPooled m s (run i (suc j)) t → IsCost strict (set_sum (run i (suc j)) (greatest_at m s t) s.count) → IsBlock m s strict (run i (suc j)) j t c
    absorbed_run pooled pooled_costs =
        absorbed m s law strict (run i (suc j)) (run (suc k) (suc j)) (run i (suc k)) j k b be c ce t (run_cut i (suc k) (suc j) (omega arith) (omega arith)) chain_places lower upper order limit (run_reaches i j top) pooled pooled_costs

    pub absorbed_steep : IsSteep m s (run (suc k) (suc j)) j be → IsSteep m s (run i (suc k)) k ce → IsSteep m s (run i (suc j)) j c
    absorbed_steep steep child_steep = record { gains = λ v lv below a inside low out g l e. total v lv below a inside low out g l e } where
      part : (a : ℕ → Bool) (x y : ℕ) → i ≤ x → y ≤ j → IsLowerIn s (run i (suc j)) a → IsLowerIn s (run x (suc y)) (meet a (run x (suc y)))
      part a x y lx ly low = everywhere (λ e. run x (suc y) e.0 ≡ true → run x (suc y) e.1 ≡ true → meet a (run x (suc y)) e.1 ≡ true → meet a (run x (suc y)) e.0 ≡ true)
          (λ g h first second u. both_and (a g) (run x (suc y) g)
          (along (λ e. run i (suc j) e.0 ≡ true → run i (suc j) e.1 ≡ true → a e.1 ≡ true → a e.0 ≡ true) low g h
          (in_run i (suc j) g (omega (arith, (from_run x (suc y) g first).0)) (omega (arith, (from_run x (suc y) g first).1)))
          (in_run i (suc j) (suc g) (omega (arith, (from_run x (suc y) (suc g) second).0)) (omega (arith, (from_run x (suc y) (suc g) second).1)))
          (and_both (a (suc g)) (run x (suc y) (suc g)) u).0) first)

      within : (a piece : ℕ → Bool) → IsWithin s piece (meet a piece)
      within a piece = record { each = λ g l u. (and_both (a g) (piece g) u).1 }

      total : (v : Fraction) → 0 < v.den → Below v c → (a : ℕ → Bool) → IsWithin s (run i (suc j)) a → IsLowerIn s (run i (suc j)) a → a j ≡ false → (g : ℕ) → g < s.count → a g ≡ true → pos 0 <ℤ set_sum a (least_at m s v) s.count
      total v lv below a inside low out g l e =
          let ends : i ≤ g = (from_run i (suc j) g (inside.each g l e)).0 in
          let first : a i ≡ true = run_sinks i j top a low i g (omega arith) ends (omega (arith, (from_run i (suc j) g (inside.each g l e)).1)) e in
          let child : pos 0 <ℤ set_sum (meet a (run i (suc k))) (least_at m s v) s.count =
          block_gains strict i k c ce upper child_steep v lv below (meet a (run i (suc k))) (within a (run i (suc k))) (part a i k (omega arith) (omega arith) low) i (omega arith) (both_and (a i) (run i (suc k) i) first (in_run i (suc k) i (omega arith) (omega arith))) in
          let rest : pos 0 ≤ℤ set_sum (meet a (run (suc k) (suc j))) (least_at m s v) s.count = elim (member_or_none (meet a (run (suc k) (suc j))) s.count) [
            | inl p ↦ less_at_most _ (steep.gains v lv (below_trans v c be lv upper.pooled.den lower.limit_den below limit) (meet a (run (suc k) (suc j))) (within a (run (suc k) (suc j))) (part a (suc k) j (omega arith) (omega arith) low) (ap (λ (x : Bool). x && run (suc k) (suc j) j) out) p.0 p.1 p.2)
            | inr none ↦ subst (λ (z : ℤ). pos 0 ≤ℤ z) (sym (set_sum-none (meet a (run (suc k) (suc j))) (least_at m s v) s.count none)) (omega (arith, ints))
          ] in
          omega (arith, ints, set_sum-split s (run i (suc j)) (run (suc k) (suc j)) (run i (suc k)) a (least_at m s v) (run_cut i (suc k) (suc j) (omega arith) (omega arith)) inside s.count (omega arith), child, rest)
