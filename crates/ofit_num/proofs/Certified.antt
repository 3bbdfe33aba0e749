-- what a certificate shows: the values that it certifies cost no more than any others
use Rattle.std.proofs.Common.{◌≡◌, ◌≢◌, ℕ, ◌*◌, ◌-◌, ◌^◌, ◌<◌, refl, ap, ◌∙◌, arith, cond, Bool, true, false, nat_eq, List, [], ◌∷◌, Option, Some, None, int_eq}
use Rattle.std.proofs.lemmas.Int.{ints, by_lt_z}
use Rattle.std.proofs.lemmas.List.Elements.{All-contains}
use Rattle.std.specs.Option.{IfSome}
use Rattle.std.proofs.lemmas.Bool.Decides.{nat_tests, Decides-int_eq}
use Rattle.std.specs.Prelude.{ℤ, pos, ◌+ℤ◌, ◌-ℤ◌, ◌*ℤ◌, ◌≤ℤ◌, ◌<ℤ◌}
use Rattle.std.specs.List.{AllByRecursion}
use Rattle.ofit_num.proofs.Gap.{is_gap, gap-same, gap-add, gap-sub, gap-mul}
use Rattle.ofit_num.specs.Problem.{Problem}
use Rattle.ofit_num.specs.Meaning.{Meaning}
use Rattle.ofit_num.specs.Trial.{Trial}
use Rattle.ofit_num.specs.Fit.{Obeys, Best, sum_below}
use Rattle.ofit_num.specs.Span.{InOpenSpan, is_at}
use Rattle.ofit_num.specs.Flow.{Flow, balance}
use Rattle.ofit_num.specs.Certificate.{IsTight, Certifies}
use Rattle.ofit_num.specs.Law.{HasSupport}
use Rattle.ofit_num.proofs.Order.{zero_mul_ℤ, mul_pos, mul_nonneg, mul_nonpos, swap_ℤ, assoc_swap}
use Rattle.ofit_num.proofs.Sums.{int_sum, sum_below-scale, int_sum-sub, int_sum-add, int_sum-same, int_sum-zero, int_sum-at, int_sum-mono, int_sum-scale, int_sum-pos}

-- what the flows carry from the low ends' x to the high ends'
abbrev pub along : List Flow → (ℕ → ℤ) → ℤ
along [] x = pos 0
along (f ∷ fs) x = along fs x +ℤ (x f.low -ℤ x f.high) *ℤ pos f.amount

away : (g k : ℕ) → g ≢ k → nat_eq g k ≡ false
away g k d = grind (arith, nat_tests)

same_place : (k : ℕ) → nat_eq k k ≡ true
same_place k = grind (arith, nat_tests)

-- one end of one flow
abbrev end : ℕ → ℕ → (ℕ → ℤ) → ℕ → ℤ
end k a x g = pos (cond (nat_eq g k) a 0) *ℤ x g

end_sum : (n k a : ℕ) (x : ℕ → ℤ) → k < n → int_sum (end k a x) n ≡ x k *ℤ pos a
end_sum n k a x l =
    int_sum-at (end k a x) n k l (λ g b d. ap (λ (t : Bool). pos (cond t a 0) *ℤ x g) (away g k d) ∙ zero_mul_ℤ (x g))
    ∙ ap (λ (t : Bool). pos (cond t a 0) *ℤ x k) (same_place k) ∙ swap_ℤ (pos a) (x k)

-- one place's balance times x, with one more flow
one_more : (b c d y : ℤ) → (b +ℤ (c -ℤ d)) *ℤ y ≡ (b *ℤ y +ℤ c *ℤ y) -ℤ d *ℤ y
one_more b c d y = rw (is_gap b, is_gap c, is_gap d, is_gap y) (simp (gap-mul, gap-add, gap-sub) (gap-same _ _ _ _ (omega arith)))

minus_left : (x y a : ℤ) → x *ℤ a -ℤ y *ℤ a ≡ (x -ℤ y) *ℤ a
minus_left x y a = rw (is_gap x, is_gap y, is_gap a) (simp (gap-mul, gap-sub) (gap-same _ _ _ _ (omega arith)))

abbrev pub Within : ℕ → Flow → Type 0
Within n f = (f.low < n) × (f.high < n)

-- the balances times x, summed over the places, are what the flows carry
pub balances_carry : (fs : List Flow) (x : ℕ → ℤ) (n : ℕ) → AllByRecursion (Within n) fs → int_sum (λ g. balance fs g *ℤ x g) n ≡ along fs x
balances_carry [] x n w = int_sum-zero _ n (λ g l. zero_mul_ℤ (x g))
balances_carry (f ∷ fs) x n w =
    let low : ℕ → ℤ = end f.low f.amount x in
    let high : ℕ → ℤ = end f.high f.amount x in
    let rest : ℕ → ℤ = λ g. balance fs g *ℤ x g in
    int_sum-same _ (λ g. (rest g +ℤ low g) -ℤ high g) n (λ g l. one_more (balance fs g) (pos (cond (nat_eq g f.low) f.amount 0)) (pos (cond (nat_eq g f.high) f.amount 0)) (x g))
    ∙ int_sum-sub (λ g. rest g +ℤ low g) high n
    ∙ ap (λ (z : ℤ). z -ℤ int_sum high n) (int_sum-add rest low n)
    ∙ parts (balances_carry fs x n w.1) (end_sum n f.low f.amount x w.0.0) (end_sum n f.high f.amount x w.0.1)
  where
    parts : {r l h : ℤ} → r ≡ along fs x → l ≡ x f.low *ℤ pos f.amount → h ≡ x f.high *ℤ pos f.amount → (r +ℤ l) -ℤ h ≡ along fs x +ℤ (x f.low -ℤ x f.high) *ℤ pos f.amount
    parts {r} {l} {h} e1 e2 e3 = omega (arith, ints, minus_left (x f.low) (x f.high) (pos f.amount))

-- how far u is above t at a place, over both denominators
abbrev pub rise : Trial → Trial → ℕ → ℤ
rise t u g = u.value g *ℤ pos t.scale -ℤ t.value g *ℤ pos u.scale

pub rise_mono : (s : Problem) (t u : Trial) (f : Flow) → Obeys s u → IsTight s t f → (rise t u f.low -ℤ rise t u f.high) ≤ℤ pos 0
rise_mono s t u f o k =
    let h : (u.value f.low *ℤ pos t.scale) ≤ℤ (u.value f.high *ℤ pos t.scale) = mul_pos _ _ t.scale (All-contains (λ e. u.value e.0 ≤ℤ u.value e.1) s.pairs (f.low, f.high) o.pairs k.pair) in
    omega (arith, ints, ap (λ (z : ℤ). z *ℤ pos u.scale) k.equal)

carried_le : (s : Problem) (t u : Trial) (fs : List Flow) → Obeys s u → AllByRecursion (IsTight s t) fs → along fs (rise t u) ≤ℤ pos 0
carried_le s t u [] o k = omega (arith, ints)
carried_le s t u (f ∷ fs) o k =
    let h : ((rise t u f.low -ℤ rise t u f.high) *ℤ pos f.amount) ≤ℤ (pos 0 *ℤ pos f.amount) = mul_pos _ _ f.amount (rise_mono s t u f o k.0) in
    omega (arith, ints, carried_le s t u fs o k.1, zero_mul_ℤ (pos f.amount))

is_equal : (x y : ℤ) → int_eq x y ≡ true → x ≡ y
is_equal x y e = grind (arith, Decides-int_eq)

-- where p/q is the upper bound, no obedient value is above it
below_upper : (o : Option ℤ) (p r : ℤ) (q q' : ℕ) → is_at o p q ≡ true → IfSome o (λ hi. r ≤ℤ (hi *ℤ pos q')) → (r *ℤ pos q -ℤ p *ℤ pos q') ≤ℤ pos 0
below_upper None p r q q' e h = cc
below_upper (Some v) p r q q' e h =
    let k : (r *ℤ pos q) ≤ℤ ((v *ℤ pos q') *ℤ pos q) = mul_pos _ _ q h in
    omega (arith, ints, assoc_swap v (pos q') (pos q), ap (λ (z : ℤ). z *ℤ pos q') (is_equal (v *ℤ pos q) p e))

above_lower : (o : Option ℤ) (p r : ℤ) (q q' : ℕ) → is_at o p q ≡ true → IfSome o (λ lo. (lo *ℤ pos q') ≤ℤ r) → pos 0 ≤ℤ (r *ℤ pos q -ℤ p *ℤ pos q')
above_lower None p r q q' e h = cc
above_lower (Some v) p r q q' e h =
    let k : ((v *ℤ pos q') *ℤ pos q) ≤ℤ (r *ℤ pos q) = mul_pos _ _ q h in
    omega (arith, ints, assoc_swap v (pos q') (pos q), ap (λ (z : ℤ). z *ℤ pos q') (is_equal (v *ℤ pos q) p e))

-- a greater y on the right
pub weaken : (c c' k : ℕ) (y z : ℤ) → pos c ≤ℤ (pos c' +ℤ pos k *ℤ y) → y ≤ℤ z → pos c ≤ℤ (pos c' +ℤ pos k *ℤ z)
weaken c c' k y z h l = omega (arith, ints, swap_ℤ (pos k) y, swap_ℤ (pos k) z, mul_pos y z k l)

-- the support law at a balance in the open span
module _ (m : Meaning) (s : Problem) (t u : Trial) (law : HasSupport m s) (ot : Obeys s t) (ou : Obeys s u) where
  unfoldable pub low : ℕ → ℤ
  low g = m.least (s.rows g) (t.value g) t.scale

  unfoldable pub high : ℕ → ℤ
  high g = m.greatest (s.rows g) (t.value g) t.scale

  unfoldable pub factor : ℕ
  factor = m.degree * u.scale ^ (m.degree - 1)

  unfoldable pub before : ℕ → ℕ
  before g = m.cost (s.rows g) (t.value g) t.scale * u.scale ^ m.degree

  unfoldable pub after : ℕ → ℕ
  after g = m.cost (s.rows g) (u.value g) u.scale * t.scale ^ m.degree

  abbrev pub Holds : ℕ → ℤ → Type 0
  Holds g b = pos (before g) ≤ℤ (pos (after g) +ℤ pos factor *ℤ (b *ℤ rise t u g))

  pub inside : (g : ℕ) → g < s.count → (b : ℤ) → low g ≤ℤ b → b ≤ℤ high g → Holds g b
  unfolding low high factor before after
  inside g l b above within = law.support g l _ _ _ _ ot.scale ou.scale b above within

  pub ends_ordered : (g : ℕ) → g < s.count → low g ≤ℤ high g
  unfolding low high
  ends_ordered g l = law.ordered g l _ _ ot.scale

  pub falls : (g : ℕ) → g < s.count → is_at (s.bounds g).hi (t.value g) t.scale ≡ true → rise t u g ≤ℤ pos 0
  falls g l e = below_upper (s.bounds g).hi (t.value g) (u.value g) t.scale u.scale e (ou.high g l)

  pub climbs : (g : ℕ) → g < s.count → is_at (s.bounds g).lo (t.value g) t.scale ≡ true → pos 0 ≤ℤ rise t u g
  climbs g l e = above_lower (s.bounds g).lo (t.value g) (u.value g) t.scale u.scale e (ou.low g l)

  refuted : (a b : ℤ) {P : Type 0} → a <ℤ b → b ≤ℤ a → P
  refuted a b h k = absurd (omega (arith, ints))

  under : (g : ℕ) → g < s.count → (b : ℤ) → b <ℤ low g → (is_at (s.bounds g).hi (t.value g) t.scale ≡ false → low g ≤ℤ b) → Holds g b
  under g l b h k = go (is_at (s.bounds g).hi (t.value g) t.scale) refl where
    go : (x : Bool) → is_at (s.bounds g).hi (t.value g) t.scale ≡ x → Holds g b
    go true e = weaken (before g) (after g) factor _ _ (inside g l (low g) (omega (arith, ints)) (ends_ordered g l)) (mul_nonpos b (low g) (rise t u g) (omega (arith, ints)) (falls g l e))
    go false e = refuted _ _ h (k e)

  over : (g : ℕ) → g < s.count → (b : ℤ) → high g <ℤ b → (is_at (s.bounds g).lo (t.value g) t.scale ≡ false → b ≤ℤ high g) → Holds g b
  over g l b h k = go (is_at (s.bounds g).lo (t.value g) t.scale) refl where
    go : (x : Bool) → is_at (s.bounds g).lo (t.value g) t.scale ≡ x → Holds g b
    go true e = weaken (before g) (after g) factor _ _ (inside g l (high g) (ends_ordered g l) (omega (arith, ints))) (mul_nonneg (high g) b (rise t u g) (omega (arith, ints)) (climbs g l e))
    go false e = refuted _ _ h (k e)

  held : (g : ℕ) → g < s.count → (b : ℤ) → InOpenSpan m (s.rows g) (s.bounds g) (t.value g) t.scale b → Holds g b
  unfolding low high
  held g l b span = by_lt_z b (low g) (λ h. under g l b h span.least) (λ above. by_lt_z (high g) b (λ h. over g l b h span.greatest) (λ within. inside g l b above within))

  the_balance : List Flow → ℕ → ℤ
  the_balance fs g = balance fs g *ℤ rise t u g

  summed : (fs : List Flow) → ((g : ℕ) → g < s.count → InOpenSpan m (s.rows g) (s.bounds g) (t.value g) t.scale (balance fs g))
      → pos (sum_below before s.count) ≤ℤ (pos (sum_below after s.count) +ℤ pos factor *ℤ int_sum (the_balance fs) s.count)
  unfolding the_balance
  summed fs spans =
      let each : int_sum (λ g. pos (before g)) s.count ≤ℤ int_sum (λ g. pos (after g) +ℤ pos factor *ℤ the_balance fs g) s.count =
      int_sum-mono _ _ s.count (λ g l. held g l (balance fs g) (spans g l)) in
      omega (
        arith,
        ints,
        int_sum-pos before s.count,
        int_sum-pos after s.count,
        int_sum-add (λ g. pos (after g)) (λ g. pos factor *ℤ the_balance fs g) s.count,
        int_sum-scale (pos factor) (the_balance fs) s.count,
      )

  nothing_gained : (fs : List Flow) → AllByRecursion (IsTight s t) fs → (pos factor *ℤ int_sum (the_balance fs) s.count) ≤ℤ pos 0
  unfolding the_balance
  nothing_gained fs tight =
      let carried : int_sum (the_balance fs) s.count ≡ along fs (rise t u) = balances_carry fs (rise t u) s.count (within fs tight) in
      let h : (along fs (rise t u) *ℤ pos factor) ≤ℤ (pos 0 *ℤ pos factor) = mul_pos _ _ factor (carried_le s t u fs ou tight) in
      omega (arith, ints, swap_ℤ (pos factor) (int_sum (the_balance fs) s.count), ap (λ (z : ℤ). z *ℤ pos factor) carried, zero_mul_ℤ (pos factor))
    where
      within : (gs : List Flow) → AllByRecursion (IsTight s t) gs → AllByRecursion (Within s.count) gs
      within [] k = tt
      within (g ∷ gs) k = ((k.0.low, k.0.high), within gs k.1)

-- What a certificate certifies is best.
pub certified_best : (m : Meaning) (s : Problem) (t : Trial) (flows : List Flow) → HasSupport m s → Certifies m s t flows → Best m s t
unfolding before after
certified_best m s t flows law c = record {
  obeys = c.obeys;
  cheapest = λ u ou. record {
    costs = omega (
      arith,
      ints,
      summed m s t u law c.obeys ou flows c.balances,
      nothing_gained m s t u law c.obeys ou flows c.tight,
      sum_below-scale (λ g. m.cost (s.rows g) (t.value g) t.scale) s.count (u.scale ^ m.degree),
      sum_below-scale (λ g. m.cost (s.rows g) (u.value g) u.scale) s.count (t.scale ^ m.degree),
    );
  };
}
