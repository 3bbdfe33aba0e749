-- a piece that is cut into an upper part and a rest, fitted apart
use Rattle.std.proofs.Common.{◌≡◌, ℕ, zero, suc, ◌<◌, ◌≤◌, refl, sym, ap, ◌∙◌, arith, cond, Bool, true, false, ◌&&◌, ◌||◌}
use Rattle.std.specs.Prelude.{slice_index_or}
use Rattle.std.proofs.lemmas.Int.{ints}
use Rattle.std.specs.Prelude.{ℤ, pos, ◌+ℤ◌, ◌≤ℤ◌, ◌<ℤ◌, All}
use Rattle.ofit_num.specs.Problem.{Problem}
use Rattle.ofit_num.specs.Meaning.{Meaning}
use Rattle.ofit_num.specs.Trial.{Trial}
use Rattle.ofit_num.specs.Fit.{Obeys}
use Rattle.ofit_num.specs.Sets.{set_sum, IsWithin, IsClosedUpIn, IsClosedDownIn, IsSplit}
use Rattle.ofit_num.specs.Settled.{IsFitted, LosesByLowering, IsSettled, IsLeastSettled}

-- the places of both sets
abbrev pub meet : (ℕ → Bool) → (ℕ → Bool) → ℕ → Bool
meet a b g = a g && b g

-- a sum over a set inside a piece is the sum over its two parts
pub set_sum-split : (s : Problem) (piece upper rest a : ℕ → Bool) (c : ℕ → ℤ) → IsSplit s piece upper rest → IsWithin s piece a
    → (n : ℕ) → n ≤ s.count → set_sum a c n ≡ set_sum (meet a upper) c n +ℤ set_sum (meet a rest) c n
set_sum-split s piece upper rest a c cut inside zero h = refl
set_sum-split s piece upper rest a c cut inside (suc n) h =
    omega (arith, ints, set_sum-split s piece upper rest a c cut inside n (omega arith), here (a n) (upper n) (rest n) (inside.each n h) (cut.parts n h) (cut.apart n h)) where
      here : (x u w : Bool) → (x ≡ true → piece n ≡ true) → piece n ≡ (u || w) → (u ≡ true → w ≡ false)
          → cond x (c n) (pos 0) ≡ cond (x && u) (c n) (pos 0) +ℤ cond (x && w) (c n) (pos 0)
      here false u w i p d = refl
      here true true true i p d = absurd (cc (d refl))
      here true true false i p d = omega (arith, ints)
      here true false true i p d = omega (arith, ints)
      here true false false i p d = cc (i refl)

pub and_both : (a b : Bool) → (a && b) ≡ true → (a ≡ true) × (b ≡ true)
and_both true true e = (refl, refl)
and_both true false e = cc
and_both false b e = cc

pub both_and : (a b : Bool) → a ≡ true → b ≡ true → (a && b) ≡ true
both_and a b e f = rw (e, f) refl

module _ (m : Meaning) (s : Problem) (t : Trial) (piece upper rest : ℕ → Bool) (cut : IsSplit s piece upper rest)
    (places : All (λ e. (e.0 < s.count) × (e.1 < s.count)) s.pairs)
    (above : All (λ e. rest e.0 ≡ true → upper e.1 ≡ true → t.value e.0 ≤ℤ t.value e.1) s.pairs) where
  from_upper : (g : ℕ) → g < s.count → upper g ≡ true → piece g ≡ true
  from_upper g l u = cut.parts g l ∙ ap (λ (b : Bool). b || rest g) u

  from_rest : (g : ℕ) → g < s.count → rest g ≡ true → piece g ≡ true
  from_rest g l w = cut.parts g l ∙ join (upper g) (rest g) w where
    join : (a b : Bool) → b ≡ true → (a || b) ≡ true
    join true b e = refl
    join false b e = e

  to_rest : (g : ℕ) → g < s.count → piece g ≡ true → upper g ≡ false → rest g ≡ true
  to_rest g l k u = ap (λ (b : Bool). b || rest g) (sym u) ∙ sym (cut.parts g l) ∙ k

  joined_obeys : IsFitted m s t upper → IsFitted m s t rest → All (λ e. piece e.0 ≡ true → piece e.1 ≡ true → t.value e.0 ≤ℤ t.value e.1) s.pairs
  joined_obeys fu fw i d l low high = go (upper e.0) refl where
    e : ℕ × ℕ
    e = slice_index_or s.pairs i d

    go_rest : (x : Bool) → upper e.1 ≡ x → upper e.0 ≡ false → t.value e.0 ≤ℤ t.value e.1
    go_rest true u1 u0 = above i d l (to_rest e.0 (places i d l).0 low u0) u1
    go_rest false u1 u0 = fw.obeys i d l (to_rest e.0 (places i d l).0 low u0) (to_rest e.1 (places i d l).1 high u1)

    go : (x : Bool) → upper e.0 ≡ x → t.value e.0 ≤ℤ t.value e.1
    go true u0 = fu.obeys i d l u0 (cut.closed i d l low high u0)
    go false u0 = go_rest (upper e.1) refl u0

  -- a part of a set, inside a part of the piece
  part_within : (part a : ℕ → Bool) → IsWithin s part (meet a part)
  part_within part a = record { each = λ g l k. (and_both (a g) (part g) k).1 }

  part_closed_up : (part a : ℕ → Bool) → ((g : ℕ) → g < s.count → part g ≡ true → piece g ≡ true) → IsClosedUpIn s t piece a → IsClosedUpIn s t part (meet a part)
  part_closed_up part a inside h i d l low high same k =
      both_and _ _ (h i d l (inside _ (places i d l).0 low) (inside _ (places i d l).1 high) same (and_both _ _ k).0) high

  part_closed_down : (part a : ℕ → Bool) → ((g : ℕ) → g < s.count → part g ≡ true → piece g ≡ true) → IsClosedDownIn s t piece a → IsClosedDownIn s t part (meet a part)
  part_closed_down part a inside h i d l low high same k =
      both_and _ _ (h i d l (inside _ (places i d l).0 low) (inside _ (places i d l).1 high) same (and_both _ _ k).0) low

  pub joined : IsFitted m s t upper → IsFitted m s t rest → IsFitted m s t piece
  joined fu fw = record {
    obeys = joined_obeys fu fw;
    raised = λ a inside closed. omega (
      arith,
      ints,
      set_sum-split s piece upper rest a (λ g. m.least (s.rows g) (t.value g) t.scale) cut inside s.count (omega arith),
      fu.raised (meet a upper) (part_within upper a) (part_closed_up upper a from_upper closed),
      fw.raised (meet a rest) (part_within rest a) (part_closed_up rest a from_rest closed),
    );
    lowered = λ a inside closed. omega (
      arith,
      ints,
      set_sum-split s piece upper rest a (λ g. m.greatest (s.rows g) (t.value g) t.scale) cut inside s.count (omega arith),
      fu.lowered (meet a upper) (part_within upper a) (part_closed_down upper a from_upper closed),
      fw.lowered (meet a rest) (part_within rest a) (part_closed_down rest a from_rest closed),
    );
  }

  pub joined_loses : IsFitted m s t upper → IsFitted m s t rest → LosesByLowering m s t upper → LosesByLowering m s t rest → LosesByLowering m s t piece
  joined_loses fu fw lu lw = record { loses = λ a inside closed g l k. go a inside closed g l k (upper g) refl } where
    total : (a : ℕ → Bool) → ℤ
    total a = set_sum a (λ g. m.greatest (s.rows g) (t.value g) t.scale) s.count

    go : (a : ℕ → Bool) → IsWithin s piece a → IsClosedDownIn s t piece a → (g : ℕ) → g < s.count → a g ≡ true → (x : Bool) → upper g ≡ x → pos 0 <ℤ set_sum a (λ g. m.greatest (s.rows g) (t.value g) t.scale) s.count
    go a inside closed g l k true u = omega (
      arith,
      ints,
      set_sum-split s piece upper rest a (λ g. m.greatest (s.rows g) (t.value g) t.scale) cut inside s.count (omega arith),
      lu.loses (meet a upper) (part_within upper a) (part_closed_down upper a from_upper closed) g l (both_and (a g) (upper g) k u),
      fw.lowered (meet a rest) (part_within rest a) (part_closed_down rest a from_rest closed),
    )
    go a inside closed g l k false u = omega (
      arith,
      ints,
      set_sum-split s piece upper rest a (λ g. m.greatest (s.rows g) (t.value g) t.scale) cut inside s.count (omega arith),
      lw.loses (meet a rest) (part_within rest a) (part_closed_down rest a from_rest closed) g l (both_and (a g) (rest g) k (to_rest g l (inside.each g l k) u)),
      fu.lowered (meet a upper) (part_within upper a) (part_closed_down upper a from_upper closed),
    )

-- what is fitted on all places is settled
pub whole_settled : (m : Meaning) (s : Problem) (t : Trial) (piece : ℕ → Bool) → Obeys s t → ((g : ℕ) → piece g ≡ true) → IsFitted m s t piece → IsSettled m s t
whole_settled m s t piece obeys all fitted = record {
  obeys = obeys;
  raised = λ a closed can. fitted.raised a (record { each = λ g l k. all g }) (λ i d l low high same k. closed i d l same k);
  lowered = λ a closed can. fitted.lowered a (record { each = λ g l k. all g }) (λ i d l low high same k. closed i d l same k);
}

pub whole_settled_low : (m : Meaning) (s : Problem) (t : Trial) (piece : ℕ → Bool) → Obeys s t → ((g : ℕ) → piece g ≡ true) → IsFitted m s t piece → LosesByLowering m s t piece → IsLeastSettled m s t
whole_settled_low m s t piece obeys all fitted loses = record {
  settled = whole_settled m s t piece obeys all fitted;
  loses = λ a closed can g l k. loses.loses a (record { each = λ g l k. all g }) (λ i d b low high same k. closed i d b same k) g l k;
}
