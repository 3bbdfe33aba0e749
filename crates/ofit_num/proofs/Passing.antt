-- What passes is optimal: the values of a sheet that the checker passes are best.
use Rattle.std.proofs.Common.{◌≡◌, ℕ, ◌*◌, ◌-◌, ◌^◌, ◌<◌, refl, sym, ap, ap₂, subst, ◌∙◌, arith, cond, Bool, true, false, nat_eq, int_eq, List, [], ◌∷◌, map}
use Rattle.std.proofs.lemmas.Int.{ints}
use Rattle.std.proofs.lemmas.Bool.Decides.{nat_tests, Decides-int_eq}
use Rattle.std.proofs.lemmas.List.Elements.{All-from_recursion, All-map}
use Rattle.std.specs.Prelude.{ℤ, pos, ◌+ℤ◌, ◌-ℤ◌, ◌*ℤ◌, ◌≤ℤ◌, All, Contains, slice_get, Option, Some, None}
use Rattle.std.specs.List.{AllByRecursion}
use Rattle.ofit_num.specs.Problem.{Problem}
use Rattle.ofit_num.specs.ProblemPairs.{HasPlaces}
use Rattle.ofit_num.specs.Meaning.{Meaning}
use Rattle.ofit_num.specs.Fraction.{Fraction, AtMost, SameValue, IsLowest}
use Rattle.ofit_num.specs.Trial.{scale_of, value_of, trial_of}
use Rattle.ofit_num.specs.Fit.{Obeys, BestValues}
use Rattle.ofit_num.specs.Span.{is_at, InOpenSpan}
use Rattle.ofit_num.specs.Flow.{Flow, balance}
use Rattle.ofit_num.specs.Certificate.{IsTight}
use Rattle.ofit_num.specs.Law.{HasSupport, HasScaling}
use Rattle.ofit_num.specs.Sheet.{Sheet, FitsCount, sheet_value, sheet_values}
use Rattle.ofit_num.specs.Verdict.{AllBelow, HasValue, Passes}
use Rattle.ofit_num.proofs.Gap.{is_gap, gap-same, gap-add, gap-sub, gap-mul, pos-gap}
use Rattle.ofit_num.proofs.Order.{mul_pos, zero_mul_ℤ, cancel_le, cancel_le_ℤ, assoc_swap}
use Rattle.ofit_num.proofs.Lists.{All-slice_get, AllByRecursion-from_All, AllByRecursion-from_each}
use Rattle.ofit_num.proofs.Scaling.{above_equal, below_equal}
use Rattle.ofit_num.proofs.Trials.{scale_above, second_factor, value_of-den, others, scale_of-others, value_of-others}
use Rattle.ofit_num.proofs.Sheets.{sheet_values-length, sheet_value-get}
use Rattle.ofit_num.proofs.Coprime.{den-from_SameValue, num-from_SameValue}
use Rattle.ofit_num.proofs.Certified.{certified_best}
use Rattle.ofit_num.specs.Loss.{squares, median}
use Rattle.ofit_num.proofs.TableScaling.{absolute-scaling, squared-scaling}
use Rattle.ofit_num.proofs.TableSupport.{absolute-support, squared-support}

-- each flow, times a power of the number that its low end has
abbrev scaled_flow : (ℕ → ℕ) → ℕ → Flow → Flow
scaled_flow k e f = record { low = f.low; high = f.high; amount = f.amount * k f.low ^ e }

one_end : (b : Bool) (a k c : ℕ) → (b ≡ true → k ≡ c) → cond b (a * k) 0 ≡ cond b a 0 * c
one_end true a k c h = ap (λ (n : ℕ). a * n) (h refl)
one_end false a k c h = omega arith

is_place : (g k : ℕ) → nat_eq g k ≡ true → g ≡ k
is_place g k e = grind (arith, nat_tests)

times_ends : (b x y c : ℤ) → b *ℤ c +ℤ (x *ℤ c -ℤ y *ℤ c) ≡ (b +ℤ (x -ℤ y)) *ℤ c
times_ends b x y c = rw (is_gap b, is_gap x, is_gap y, is_gap c) (simp (gap-mul, gap-sub, gap-add) (gap-same _ _ _ _ (omega arith)))

-- where both ends of each flow have one number, balances grow as the flows do
balance-scaled : (k : ℕ → ℕ) (e : ℕ) (fs : List Flow) (g : ℕ) → AllByRecursion (λ f. k f.low ≡ k f.high) fs → balance (map (scaled_flow k e) fs) g ≡ balance fs g *ℤ pos (k g ^ e)
balance-scaled k e [] g h = refl_zero (pos (k g ^ e)) where
  refl_zero : (z : ℤ) → pos 0 ≡ pos 0 *ℤ z
  refl_zero z = sym (zero_mul_ℤ z)
balance-scaled k e (f ∷ fs) g h =
    let low : cond (nat_eq g f.low) (f.amount * k f.low ^ e) 0 ≡ cond (nat_eq g f.low) f.amount 0 * k g ^ e =
    one_end (nat_eq g f.low) f.amount (k f.low ^ e) (k g ^ e) (λ t. ap (λ (n : ℕ). k n ^ e) (sym (is_place g f.low t))) in
    let high : cond (nat_eq g f.high) (f.amount * k f.low ^ e) 0 ≡ cond (nat_eq g f.high) f.amount 0 * k g ^ e =
    one_end (nat_eq g f.high) f.amount (k f.low ^ e) (k g ^ e) (λ t. ap (λ (n : ℕ). n ^ e) h.0 ∙ ap (λ (n : ℕ). k n ^ e) (sym (is_place g f.high t))) in
    ap₂ (λ (b c : ℤ). b +ℤ c) (balance-scaled k e fs g h.1) (ap₂ (λ (a b : ℕ). pos a -ℤ pos b) low high)
    ∙ times_ends (balance fs g) (pos (cond (nat_eq g f.low) f.amount 0)) (pos (cond (nat_eq g f.high) f.amount 0)) (pos (k g ^ e))

is_equal : (x y : ℤ) → int_eq x y ≡ true → x ≡ y
is_equal x y e = grind (arith, Decides-int_eq)

equal_is : (x y : ℤ) → x ≡ y → int_eq x y ≡ true
equal_is x y e = grind (arith, Decides-int_eq)

-- a value at a bound is so in every spelling
is_at-scale : (o : Option ℤ) (p : ℤ) (q k : ℕ) → is_at o p q ≡ true → is_at o (p *ℤ pos k) (q * k) ≡ true
is_at-scale None p q k e = e
is_at-scale (Some v) p q k e = equal_is _ _ (spread v q k ∙ ap (λ (z : ℤ). z *ℤ pos k) (is_equal (v *ℤ pos q) p e)) where
  spread : (v : ℤ) (q k : ℕ) → v *ℤ pos (q * k) ≡ (v *ℤ pos q) *ℤ pos k
  spread v q k = rw (is_gap v) (simp (pos-gap, gap-mul) (gap-same _ _ _ _ (omega arith)))

not_at-scale : (o : Option ℤ) (p : ℤ) (q k : ℕ) → is_at o (p *ℤ pos k) (q * k) ≡ false → is_at o p q ≡ false
not_at-scale o p q k e = go (is_at o p q) refl where
  go : (b : Bool) → is_at o p q ≡ b → b ≡ false
  go false h = refl
  go true h = absurd (clash (is_at o (p *ℤ pos k) (q * k)) (is_at-scale o p q k h) e) where
    clash : (b : Bool) → b ≡ true → b ≡ false → ⊥
    clash b t f = cc

-- a balance in the open span stays in it, in the units of the spelling
pub InOpenSpan-scale : (m : Meaning) (s : Problem) → HasScaling m s → (g : ℕ) → g < s.count → (p b : ℤ) (q k : ℕ) → 0 < k → 0 < q
    → InOpenSpan m (s.rows g) (s.bounds g) p q b → InOpenSpan m (s.rows g) (s.bounds g) (p *ℤ pos k) (q * k) (b *ℤ pos (k ^ (m.degree - 1)))
InOpenSpan-scale m s law g l p b q k lk lq span = record {
  least = λ closed.
      subst (λ (z : ℤ). z ≤ℤ (b *ℤ pos (k ^ (m.degree - 1)))) (sym (law.least g l k q p lk lq)) (mul_pos _ _ (k ^ (m.degree - 1)) (span.least (not_at-scale (s.bounds g).hi p q k closed)));
  greatest = λ closed.
      subst (λ (z : ℤ). (b *ℤ pos (k ^ (m.degree - 1))) ≤ℤ z) (sym (law.greatest g l k q p lk lq)) (mul_pos _ _ (k ^ (m.degree - 1)) (span.greatest (not_at-scale (s.bounds g).lo p q k closed)));
}

-- x and y are a/p and b/q over one scale
pub at_most_over : (a b x y : ℤ) (p q c : ℕ) → 0 < p → 0 < q → x *ℤ pos p ≡ a *ℤ pos c → y *ℤ pos q ≡ b *ℤ pos c → (a *ℤ pos q) ≤ℤ (b *ℤ pos p) → x ≤ℤ y
at_most_over a b x y p q c lp lq e f h = cancel_le_ℤ x y p lp (cancel_le_ℤ _ _ q lq (omega (
  arith,
  ints,
  ap (λ (z : ℤ). z *ℤ pos q) e,
  assoc_swap a (pos c) (pos q),
  mul_pos _ _ c h,
  assoc_swap b (pos p) (pos c),
  ap (λ (z : ℤ). z *ℤ pos p) f,
  assoc_swap y (pos q) (pos p),
)))

module _ {S : Type 0} (m : Meaning) (s : Problem) (own : S) (x : Sheet S) (places : HasPlaces s) (fits : FitsCount s.count x) (pass : Passes m s own x) where
  complete : AllBelow (HasValue x) s.count
  complete = pass.tight.in_order.on_pairs.within_bounds.obedient.complete.complete

  got : (g : ℕ) → g < s.count → slice_get (sheet_values x) g ≡ Some (sheet_value x g)
  got g l = sheet_value-get s.count x fits complete g l

  all_lowest : All IsLowest (sheet_values x)
  all_lowest = All-map IsLowest (λ e. e.value) x.values fits.lowest

  lowest : (g : ℕ) → g < s.count → IsLowest (sheet_value x g)
  lowest g l = All-slice_get IsLowest (sheet_values x) g (sheet_value x g) all_lowest (got g l)

  scale : 0 < scale_of (sheet_values x)
  scale = scale_above (sheet_values x) (λ g f e. den_of f (All-slice_get IsLowest (sheet_values x) g f all_lowest e)) where
    den_of : (f : Fraction) → IsLowest f → 0 < f.den
    den_of f h = h.den

  over : (g : ℕ) → g < s.count → value_of (sheet_values x) g *ℤ pos (sheet_value x g).den ≡ (sheet_value x g).num *ℤ pos (scale_of (sheet_values x))
  over g l = value_of-den (sheet_values x) g (sheet_value x g) (got g l)

  parts : (g : ℕ) → g < s.count → scale_of (sheet_values x) ≡ (sheet_value x g).den * others (sheet_values x) g
  parts g l = scale_of-others (sheet_values x) g (sheet_value x g) (got g l)

  others_above : (g : ℕ) → g < s.count → 0 < others (sheet_values x) g
  others_above g l = second_factor (sheet_value x g).den (others (sheet_values x) g) (subst (λ (n : ℕ). 0 < n) (parts g l) scale)

  obeys : Obeys s (trial_of (sheet_values x))
  obeys = record {
    scale = scale;
    pairs = λ k d l. at_most_over _ _ _ _ _ _ _ (lowest _ (places k d l).0).den (lowest _ (places k d l).1).den (over _ (places k d l).0) (over _ (places k d l).1) (rises k d l);
    low = λ g l. above_equal (s.bounds g).lo (sheet_value x g).num (value_of (sheet_values x) g) (sheet_value x g).den (scale_of (sheet_values x)) (lowest g l).den (sym (over g l)) (pass.tight.in_order.on_pairs.within_bounds.within g l).0;
    high = λ g l. below_equal (s.bounds g).hi (sheet_value x g).num (value_of (sheet_values x) g) (sheet_value x g).den (scale_of (sheet_values x)) (lowest g l).den (sym (over g l)) (pass.tight.in_order.on_pairs.within_bounds.within g l).1;
  } where
    rises : All (λ e. AtMost (sheet_value x e.0) (sheet_value x e.1)) s.pairs
    rises = All-from_recursion _ s.pairs (AllByRecursion-from_each (λ e. AtMost (sheet_value x e.0) (sheet_value x e.1)) s.pairs pass.tight.in_order.on_pairs.within_bounds.obedient.rises)

  -- the ends of a flow have one value in lowest terms, so one number of times that their denominator is in the scale
  same_others : (g h : ℕ) → g < s.count → h < s.count → SameValue (sheet_value x g) (sheet_value x h) → others (sheet_values x) g ≡ others (sheet_values x) h
  same_others g h lg lh e = cancel_both (others (sheet_values x) g) (others (sheet_values x) h) (sheet_value x g).den (lowest g lg).den (sym (parts g lg) ∙ parts h lh ∙ ap (λ (n : ℕ). n * others (sheet_values x) h) (sym (den-from_SameValue _ _ (lowest g lg) (lowest h lh) e))) where
    cancel_both : (j k d : ℕ) → 0 < d → d * j ≡ d * k → j ≡ k
    cancel_both j k d l e = omega (arith, cancel_le j k d l (omega arith), cancel_le k j d l (omega arith))

  same_values : (g h : ℕ) → g < s.count → h < s.count → SameValue (sheet_value x g) (sheet_value x h) → value_of (sheet_values x) g ≡ value_of (sheet_values x) h
  same_values g h lg lh e =
      value_of-others (sheet_values x) g (sheet_value x g) (got g lg)
      ∙ ap₂ (λ (z : ℤ) (n : ℕ). z *ℤ pos n) (num-from_SameValue _ _ (lowest g lg) (lowest h lh) e) (same_others g h lg lh e)
      ∙ sym (value_of-others (sheet_values x) h (sheet_value x h) (got h lh))

  tight : (flows : List Flow) → AllByRecursion (λ f. Contains s.pairs (f.low, f.high)) flows → AllByRecursion (λ f. (f.low < s.count) × (f.high < s.count)) flows
      → AllByRecursion (λ f. SameValue (sheet_value x f.low) (sheet_value x f.high)) flows
      → AllByRecursion (IsTight s (trial_of (sheet_values x))) (map (scaled_flow (others (sheet_values x)) (m.degree - 1)) flows) × AllByRecursion (λ f. others (sheet_values x) f.low ≡ others (sheet_values x) f.high) flows
  tight [] on ends same = (tt, tt)
  tight (f ∷ fs) on ends same =
      let rest : _ = tight fs on.1 ends.1 same.1 in
      ((record { pair = on.0; low = ends.0.0; high = ends.0.1; equal = same_values f.low f.high ends.0.0 ends.0.1 same.0 }, rest.0), (same_others f.low f.high ends.0.0 ends.0.1 same.0, rest.1))

  both : AllByRecursion (IsTight s (trial_of (sheet_values x))) (map (scaled_flow (others (sheet_values x)) (m.degree - 1)) x.flows) × AllByRecursion (λ f. others (sheet_values x) f.low ≡ others (sheet_values x) f.high) x.flows
  both = tight x.flows
      (AllByRecursion-from_each _ x.flows pass.tight.in_order.on_pairs.on_pairs)
      (AllByRecursion-from_All _ x.flows fits.ends)
      (AllByRecursion-from_each _ x.flows pass.tight.tight)

  balances : HasScaling m s → (g : ℕ) → g < s.count → InOpenSpan m (s.rows g) (s.bounds g) (value_of (sheet_values x) g) (scale_of (sheet_values x)) (balance (map (scaled_flow (others (sheet_values x)) (m.degree - 1)) x.flows) g)
  balances law g l =
      let here : _ = InOpenSpan-scale m s law g l (sheet_value x g).num (balance x.flows g) (sheet_value x g).den (others (sheet_values x) g) (others_above g l) (lowest g l).den (pass.balances g l) in
      let value : _ = subst (λ (z : ℤ). InOpenSpan m (s.rows g) (s.bounds g) z ((sheet_value x g).den * others (sheet_values x) g) (balance x.flows g *ℤ pos (others (sheet_values x) g ^ (m.degree - 1)))) (sym (value_of-others (sheet_values x) g (sheet_value x g) (got g l))) here in
      let over : _ = subst (λ (n : ℕ). InOpenSpan m (s.rows g) (s.bounds g) (value_of (sheet_values x) g) n (balance x.flows g *ℤ pos (others (sheet_values x) g ^ (m.degree - 1)))) (sym (parts g l)) value in
      subst (λ (z : ℤ). InOpenSpan m (s.rows g) (s.bounds g) (value_of (sheet_values x) g) (scale_of (sheet_values x)) z) (sym (balance-scaled (others (sheet_values x)) (m.degree - 1) x.flows g both.1)) over

  -- The values of a sheet that passes are best.
  pub passing_is_best : HasSupport m s → HasScaling m s → BestValues m s (sheet_values x)
  passing_is_best support law = record {
    count = sheet_values-length s.count x fits complete;
    best = certified_best m s (trial_of (sheet_values x)) (map (scaled_flow (others (sheet_values x)) (m.degree - 1)) x.flows) support (record { obeys = obeys; tight = both.0; balances = balances law });
  }

-- under the losses of the first table
pub passing_squares : {S : Type 0} (s : Problem) (own : S) (x : Sheet S) → HasPlaces s → FitsCount s.count x → Passes squares s own x → BestValues squares s (sheet_values x)
passing_squares s own x places fits pass = passing_is_best squares s own x places fits pass (squared-support (record { above = 1; below = 1 }) s) (squared-scaling (record { above = 1; below = 1 }) s)

pub passing_median : {S : Type 0} (s : Problem) (own : S) (x : Sheet S) → HasPlaces s → FitsCount s.count x → Passes median s own x → BestValues median s (sheet_values x)
passing_median s own x places fits pass = passing_is_best median s own x places fits pass (absolute-support (record { above = 1; below = 1 }) s) (absolute-scaling (record { above = 1; below = 1 }) s)
