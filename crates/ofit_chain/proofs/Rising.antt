-- stretches of rising values, run after run, are fitted, and each set that can be lowered together loses by it
use Rattle.std.proofs.Common.{◌≡◌, ℕ, zero, suc, ◌+◌, ◌*◌, ◌<◌, ◌≤◌, refl, sym, subst, ◌∙◌, arith, mul-pos, Bool, true, false, List, [], ◌∷◌, ◌⊎◌, inl, inr}
use Rattle.std.proofs.lemmas.Int.{ints}
use Rattle.std.specs.Prelude.{ℤ, pos, ◌+ℤ◌, ◌-ℤ◌, ◌*ℤ◌, ◌≤ℤ◌, ◌<ℤ◌}
use Rattle.ofit_num.specs.Problem.{Problem}
use Rattle.ofit_num.specs.Meaning.{Meaning}
use Rattle.ofit_num.specs.Fraction.{Fraction}
use Rattle.ofit_num.specs.Below.{Below}
use Rattle.ofit_num.specs.Trial.{Trial}
use Rattle.ofit_num.specs.Law.{least_at, HasFallingSpans}
use Rattle.ofit_num.specs.Sets.{set_sum, IsWithin, IsLowerIn, IsSplit, IsClosedDownIn}
use Rattle.ofit_num.specs.Settled.{IsFitted, LosesByLowering}
use Rattle.ofit_num.specs.Block.{IsBlock}
use Rattle.ofit_num.proofs.Values.{rising_values, lowered_below}
use Rattle.ofit_num.proofs.Falls.{set_sum-members}
use Rattle.ofit_num.proofs.Blocks.{block_fitted, block_loses, set_sum-none, member_or_none}
use Rattle.ofit_num.proofs.Pieces.{and_both, both_and, meet, set_sum-split, joined, joined_loses}
use Rattle.ofit_num.proofs.Order.{cancel_ℤ}
use Rattle.ofit_chain.specs.Chain.{chain_pairs}
use Rattle.ofit_chain.specs.Stretch.{run, Stretch, IsStretch, AreStretches, StartsAbove, Rise, groups_in}
use Rattle.ofit_chain.proofs.Runs.{from_run, in_run, untrue, clash, along, everywhere, chain_places, run_cut, block_gains}

-- the trial has each stretch's value at its places
abbrev pub Follows : Trial → ℕ → List Stretch → Type 0
Follows t start [] = Unit {0}
Follows t start (b ∷ bs) = ((g : ℕ) → run start (start + b.groups) g ≡ true → t.value g *ℤ pos b.value.den ≡ b.value.num *ℤ pos t.scale) × Follows t (start + b.groups) bs

module _ (m : Meaning) (s : Problem) (chain : s.pairs ≡ chain_pairs s.count) (law : HasFallingSpans m s) (strict : Bool) (t : Trial) (scale : 0 < t.scale) where
  -- no stretch, no place
  nowhere : (i : ℕ) (a : ℕ → Bool) → i ≡ s.count → IsWithin s (run i s.count) a → (g : ℕ) → g < s.count → a g ≡ false
  nowhere i a e inside g l = untrue (a g) (λ u. absurd (omega (arith, (from_run i s.count g (inside.each g l u)).0)))

  none_fitted : (i : ℕ) → i ≡ s.count → IsFitted m s t (run i s.count)
  none_fitted i e = record {
    obeys = everywhere m s chain (λ p. run i s.count p.0 ≡ true → run i s.count p.1 ≡ true → t.value p.0 ≤ℤ t.value p.1) (λ g l low high. absurd (omega (arith, (from_run i s.count g low).0)));
    raised = λ a inside closed. omega (arith, ints, set_sum-none a (λ g. m.least (s.rows g) (t.value g) t.scale) s.count (nowhere i a e inside));
    lowered = λ a inside closed. omega (arith, ints, set_sum-none a (λ g. m.greatest (s.rows g) (t.value g) t.scale) s.count (nowhere i a e inside));
  }

  none_loses : (i : ℕ) → i ≡ s.count → LosesByLowering m s t (run i s.count)
  none_loses i e = record { loses = λ a inside closed g l u. absurd (clash (a g) u (nowhere i a e inside g l)) }

  -- the last place of a stretch is at most the first one of the next
  next_above : (i k : ℕ) (b : Stretch) (bs : List Stretch) → i + b.groups ≡ k → 0 < b.value.den → AreStretches m s strict k bs → StartsAbove b.value bs
      → ((g : ℕ) → run i (i + b.groups) g ≡ true → t.value g *ℤ pos b.value.den ≡ b.value.num *ℤ pos t.scale) → Follows t k bs → k + groups_in bs ≡ s.count
      → (g : ℕ) → run i (i + b.groups) g ≡ true → run k s.count (suc g) ≡ true → t.value g ≤ℤ t.value (suc g)
  next_above i k b [] same den are above at follows total g low high = absurd (omega (arith, (from_run k s.count (suc g) high).0, (from_run k s.count (suc g) high).1))
  next_above i k b (c ∷ bs) same den are above at follows total g low high =
      rising_values (t.value g) (t.value (suc g)) b.value.num c.value.num b.value.den c.value.den t.scale den are.0.block.pooled.den (at g low)
      (follows.0 (suc g) (in_run k (k + c.groups) (suc g) (from_run k s.count (suc g) high).0 (omega (arith, (from_run i (i + b.groups) g low).1, are.0.ends, are.0.reaches)))) (omega (arith, ints, above))

  -- the run of one stretch, as its block has it
  as_run : (i : ℕ) (b : Stretch) → (p : (ℕ → Bool) → Type 0) → (st : IsStretch m s strict i b) → p (run i (suc st.last)) → p (run i (i + b.groups))
  as_run i b p st h = subst (λ (n : ℕ). p (run i n)) (sym st.ends) h

  at_block : (i : ℕ) (b : Stretch) → (st : IsStretch m s strict i b) → ((g : ℕ) → run i (i + b.groups) g ≡ true → t.value g *ℤ pos b.value.den ≡ b.value.num *ℤ pos t.scale)
      → (g : ℕ) → g < s.count → run i (suc st.last) g ≡ true → t.value g *ℤ pos b.value.den ≡ b.value.num *ℤ pos t.scale
  at_block i b st at g l u = at g (subst (λ (n : ℕ). run i n g ≡ true) (sym st.ends) u)

  pub stretches_fitted : (bs : List Stretch) (i : ℕ) → AreStretches m s strict i bs → Rise bs → Follows t i bs → i + groups_in bs ≡ s.count → IsFitted m s t (run i s.count)
  stretches_fitted [] i are rise follows total = none_fitted i (omega arith)
  stretches_fitted (b ∷ bs) i are rise follows total =
      joined m s t (run i s.count) (run (i + b.groups) s.count) (run i (i + b.groups)) (run_cut m s chain i (i + b.groups) s.count (omega arith) (omega arith)) (chain_places m s chain)
      (everywhere m s chain (λ e. run i (i + b.groups) e.0 ≡ true → run (i + b.groups) s.count e.1 ≡ true → t.value e.0 ≤ℤ t.value e.1)
      (λ g l low high. next_above i (i + b.groups) b bs refl are.0.block.pooled.den are.1 rise.0 follows.0 follows.1 (omega arith) g low high))
      (stretches_fitted bs (i + b.groups) are.1 rise.1 follows.1 (omega arith))
      (as_run i b (IsFitted m s t) are.0 (block_fitted m s law (run i (suc are.0.last)) are.0.last b.value are.0.limit t scale (at_block i b are.0 follows.0) (chain_places m s chain) strict are.0.block))

  pub stretches_lose : strict ≡ false → (bs : List Stretch) (i : ℕ) → AreStretches m s strict i bs → Rise bs → Follows t i bs → i + groups_in bs ≡ s.count → LosesByLowering m s t (run i s.count)
  stretches_lose lax [] i are rise follows total = none_loses i (omega arith)
  stretches_lose lax (b ∷ bs) i are rise follows total =
      joined_loses m s t (run i s.count) (run (i + b.groups) s.count) (run i (i + b.groups)) (run_cut m s chain i (i + b.groups) s.count (omega arith) (omega arith)) (chain_places m s chain)
      (everywhere m s chain (λ e. run i (i + b.groups) e.0 ≡ true → run (i + b.groups) s.count e.1 ≡ true → t.value e.0 ≤ℤ t.value e.1)
      (λ g l low high. next_above i (i + b.groups) b bs refl are.0.block.pooled.den are.1 rise.0 follows.0 follows.1 (omega arith) g low high))
      (stretches_fitted bs (i + b.groups) are.1 rise.1 follows.1 (omega arith))
      (as_run i b (IsFitted m s t) are.0 (block_fitted m s law (run i (suc are.0.last)) are.0.last b.value are.0.limit t scale (at_block i b are.0 follows.0) (chain_places m s chain) strict are.0.block))
      (stretches_lose lax bs (i + b.groups) are.1 rise.1 follows.1 (omega arith))
      (as_run i b (LosesByLowering m s t) are.0
      (block_loses m s law (run i (suc are.0.last)) are.0.last b.value are.0.limit t scale (at_block i b are.0 follows.0) (chain_places m s chain)
      (subst (λ (x : Bool). IsBlock m s x (run i (suc are.0.last)) are.0.last b.value are.0.limit) lax are.0.block)))

  -- At a value that lies below each stretch by as much, each set closed downwards that has a place would gain by rising again.
  module _ (r k : ℕ) (lr : 0 < r) (lk : 0 < k) where
    end : ℕ → ℤ
    end g = m.greatest (s.rows g) (t.value g *ℤ pos r -ℤ pos k) (t.scale * r)

    -- one stretch
    stretch_gains : (i : ℕ) (b : Stretch) (st : IsStretch m s strict i b) → ((g : ℕ) → run i (i + b.groups) g ≡ true → t.value g *ℤ pos b.value.den ≡ b.value.num *ℤ pos t.scale)
        → (a : ℕ → Bool) → IsWithin s (run i (suc st.last)) a → IsClosedDownIn s t (run i (suc st.last)) a → (g : ℕ) → g < s.count → a g ≡ true → pos 0 <ℤ set_sum a end s.count
    unfolding end
    stretch_gains i b st at a inside closed g l u =
        let v : Fraction = record { num = t.value g *ℤ pos r -ℤ pos k; den = t.scale * r } in
        let lv : 0 < v.den = mul-pos scale lr in
        let here : t.value g *ℤ pos b.value.den ≡ b.value.num *ℤ pos t.scale = at_block i b st at g l (inside.each g l u) in
        let below : Below v b.value = lowered_below (t.value g) b.value.num b.value.den t.scale r k st.block.pooled.den lk here in
        let level : (h : ℕ) → h < s.count → run i (suc st.last) h ≡ true → t.value h ≡ t.value g = λ h lh uh. cancel_ℤ (t.value h) (t.value g) b.value.den st.block.pooled.den (at_block i b st at h lh uh ∙ sym here) in
        let low : IsLowerIn s (run i (suc st.last)) a = λ n d ln first second into.
        closed n d ln first second (level _ (chain_places m s chain n d ln).0 first ∙ sym (level _ (chain_places m s chain n d ln).1 second)) into in
        let gains : pos 0 <ℤ set_sum a (least_at m s v) s.count = block_gains m s chain strict i st.last b.value st.limit st.block st.steep v lv below a inside low g l u in
        let ends : set_sum a (least_at m s v) s.count ≤ℤ set_sum a (λ h. m.greatest (s.rows h) (t.value h *ℤ pos r -ℤ pos k) (t.scale * r)) s.count =
        set_sum-members a _ _ s.count (λ h lh uh. subst (λ (z : ℤ). least_at m s v h ≤ℤ m.greatest (s.rows h) (z *ℤ pos r -ℤ pos k) (t.scale * r)) (sym (level h lh (inside.each h lh uh))) (law.ordered h lh v lv)) in
        omega (arith, ints, gains, ends)

    pub stretches_gain : (bs : List Stretch) (i : ℕ) → AreStretches m s strict i bs → Follows t i bs → i + groups_in bs ≡ s.count
        → (a : ℕ → Bool) → IsWithin s (run i s.count) a → IsClosedDownIn s t (run i s.count) a → (g : ℕ) → g < s.count → a g ≡ true → pos 0 <ℤ set_sum a (λ g. m.greatest (s.rows g) (t.value g *ℤ pos r -ℤ pos k) (t.scale * r)) s.count
    unfolding end
    stretches_gain [] i are follows total a inside closed g l u = absurd (clash (a g) u (nowhere i a (omega arith) inside g l))
    stretches_gain (b ∷ bs) i are follows total a inside closed g l u =
        go (λ h lh v. stretches_gain bs (i + b.groups) are.1 follows.1 (omega arith) (meet a (run (i + b.groups) s.count)) (within (run (i + b.groups) s.count)) (part (i + b.groups) s.count (omega arith) (omega arith)) h lh v)
        (member_or_none (meet a (run (i + b.groups) s.count)) s.count) (member_or_none (meet a (run i (i + b.groups))) s.count) where
          cut : IsSplit s (run i s.count) (run (i + b.groups) s.count) (run i (i + b.groups))
          cut = run_cut m s chain i (i + b.groups) s.count (omega arith) (omega arith)

          part : (x y : ℕ) → i ≤ x → y ≤ s.count → IsClosedDownIn s t (run x y) (meet a (run x y))
          part x y lx ly = everywhere m s chain (λ e. run x y e.0 ≡ true → run x y e.1 ≡ true → t.value e.0 ≡ t.value e.1 → meet a (run x y) e.1 ≡ true → meet a (run x y) e.0 ≡ true)
              (λ h lh first second same v. both_and (a h) (run x y h)
              (along m s chain (λ e. run i s.count e.0 ≡ true → run i s.count e.1 ≡ true → t.value e.0 ≡ t.value e.1 → a e.1 ≡ true → a e.0 ≡ true) closed h lh
              (in_run i s.count h (omega (arith, (from_run x y h first).0)) (omega arith)) (in_run i s.count (suc h) (omega (arith, (from_run x y h first).0)) lh) same (and_both (a (suc h)) (run x y (suc h)) v).0) first)

          within : (p : ℕ → Bool) → IsWithin s p (meet a p)
          within p = record { each = λ h lh v. (and_both (a h) (p h) v).1 }

          lower : (h : ℕ) → h < s.count → meet a (run i (i + b.groups)) h ≡ true → pos 0 <ℤ set_sum (meet a (run i (i + b.groups))) (λ g. m.greatest (s.rows g) (t.value g *ℤ pos r -ℤ pos k) (t.scale * r)) s.count
          lower h lh v = stretch_gains i b are.0 follows.0 (meet a (run i (i + b.groups)))
              (subst (λ (n : ℕ). IsWithin s (run i n) (meet a (run i (i + b.groups)))) are.0.ends (within (run i (i + b.groups))))
              (subst (λ (n : ℕ). IsClosedDownIn s t (run i n) (meet a (run i (i + b.groups)))) are.0.ends (part i (i + b.groups) (omega arith) (omega arith))) h lh v

          halves : set_sum a (λ g. m.greatest (s.rows g) (t.value g *ℤ pos r -ℤ pos k) (t.scale * r)) s.count
              ≡ set_sum (meet a (run (i + b.groups) s.count)) (λ g. m.greatest (s.rows g) (t.value g *ℤ pos r -ℤ pos k) (t.scale * r)) s.count
              +ℤ set_sum (meet a (run i (i + b.groups))) (λ g. m.greatest (s.rows g) (t.value g *ℤ pos r -ℤ pos k) (t.scale * r)) s.count
          halves = set_sum-split s (run i s.count) (run (i + b.groups) s.count) (run i (i + b.groups)) a (λ g. m.greatest (s.rows g) (t.value g *ℤ pos r -ℤ pos k) (t.scale * r)) cut inside s.count (omega arith)

          go : ((h : ℕ) → h < s.count → meet a (run (i + b.groups) s.count) h ≡ true → pos 0 <ℤ set_sum (meet a (run (i + b.groups) s.count)) (λ g. m.greatest (s.rows g) (t.value g *ℤ pos r -ℤ pos k) (t.scale * r)) s.count)
              → ((h : ℕ) × (h < s.count) × (meet a (run (i + b.groups) s.count) h ≡ true)) ⊎ ((h : ℕ) → h < s.count → meet a (run (i + b.groups) s.count) h ≡ false)
              → ((h : ℕ) × (h < s.count) × (meet a (run i (i + b.groups)) h ≡ true)) ⊎ ((h : ℕ) → h < s.count → meet a (run i (i + b.groups)) h ≡ false)
              → pos 0 <ℤ set_sum a (λ g. m.greatest (s.rows g) (t.value g *ℤ pos r -ℤ pos k) (t.scale * r)) s.count
          go upper (inl x) (inl y) = omega (arith, ints, halves, upper x.0 x.1 x.2, lower y.0 y.1 y.2)
          go upper (inl x) (inr none) = omega (arith, ints, halves, upper x.0 x.1 x.2, set_sum-none (meet a (run i (i + b.groups))) (λ g. m.greatest (s.rows g) (t.value g *ℤ pos r -ℤ pos k) (t.scale * r)) s.count none)
          go upper (inr none) (inl y) = omega (arith, ints, halves, lower y.0 y.1 y.2, set_sum-none (meet a (run (i + b.groups) s.count)) (λ g. m.greatest (s.rows g) (t.value g *ℤ pos r -ℤ pos k) (t.scale * r)) s.count none)
          go upper (inr none) (inr none') = absurd (part_of (cases g)) where
            cases : (h : ℕ) → (h < i + b.groups) ⊎ (i + b.groups ≤ h)
            cases h = decide h (i + b.groups) where
              decide : (x y : ℕ) → (x < y) ⊎ (y ≤ x)
              decide x zero = inr (omega arith)
              decide zero (suc y) = inl (omega arith)
              decide (suc x) (suc y) = elim (decide x y) [ inl p ↦ inl (omega arith) | inr p ↦ inr (omega arith) ]

            part_of : (g < i + b.groups) ⊎ (i + b.groups ≤ g) → ⊥
            part_of (inl p) = clash (meet a (run i (i + b.groups)) g) (both_and (a g) (run i (i + b.groups) g) u (in_run i (i + b.groups) g (from_run i s.count g (inside.each g l u)).0 p)) (none' g l)
            part_of (inr p) = clash (meet a (run (i + b.groups) s.count) g) (both_and (a g) (run (i + b.groups) s.count g) u (in_run (i + b.groups) s.count g p l)) (none g l)
