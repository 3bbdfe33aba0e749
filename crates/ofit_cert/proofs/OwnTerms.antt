-- What is best is settled in its own terms too: at each place's fraction in lowest terms, in place of the numbers over one denominator.
use Rattle.std.proofs.Common.{◌≡◌, ◌⊎◌, inl, inr, ℕ, zero, suc, ◌*◌, ◌-◌, ◌^◌, ◌<◌, ◌≤◌, refl, sym, ap, ap₂, subst, ◌∙◌, arith, Bool, true, false, cond, not, ◌&&◌, nat_eq, int_eq, List, length}
use Rattle.std.proofs.lemmas.Int.{ints}
use Rattle.std.proofs.lemmas.Bool.{cases_order}
use Rattle.std.proofs.lemmas.Bool.Decides.{nat_tests, Decides-int_eq}
use Rattle.std.specs.Prelude.{ℤ, pos, ◌+ℤ◌, ◌*ℤ◌, ◌≤ℤ◌, All, slice_get, Option, Some, None}
use Rattle.ofit_num.specs.declared.row.Row.{Row}
use Rattle.ofit_num.specs.Problem.{Problem}
use Rattle.ofit_num.specs.ProblemPairs.{HasPlaces}
use Rattle.ofit_num.specs.Meaning.{Meaning}
use Rattle.ofit_num.specs.Fraction.{Fraction, IsLowest}
use Rattle.ofit_num.specs.Trial.{scale_of, value_of, trial_of}
use Rattle.ofit_num.specs.Fit.{BestValues}
use Rattle.ofit_num.specs.Span.{is_at}
use Rattle.ofit_num.specs.Law.{HasScaling}
use Rattle.ofit_num.specs.Sets.{set_sum, IsClosedUp, IsClosedDown}
use Rattle.ofit_num.specs.Settled.{IsSettled, CanRise, CanFall}
use Rattle.ofit_num.specs.Loss.{squares, median}
use Rattle.ofit_num.proofs.Order.{cancel_ℤ, assoc_swap, mul_pos, pow_above, zero_mul_ℤ}
use Rattle.ofit_num.proofs.Lists.{All-slice_get}
use Rattle.ofit_num.proofs.Trials.{value_of-den, cross}
use Rattle.ofit_num.proofs.Coprime.{same_lowest}
use Rattle.ofit_num.proofs.Pieces.{meet, and_both, both_and}
use Rattle.ofit_num.proofs.Cuts.{but_not, not_but, not_both}
use Rattle.ofit_num.proofs.Blocks.{set_sum-none}
use Rattle.ofit_num.proofs.Recursion.{set_sum-same, not_above, not_below}
use Rattle.ofit_num.proofs.TableScaling.{absolute-scaling, squared-scaling}
use Rattle.ofit_num.proofs.TableFalling.{proportional}
use Rattle.ofit_num.proofs.TableSettled.{either_best_settled}
use Rattle.ofit_cert.specs.Tight.{own}
use Rattle.ofit_cert.proofs.Spanning.{own_at}

is_equal : (x y : ℤ) → int_eq x y ≡ true → x ≡ y
is_equal x y e = grind (arith, Decides-int_eq)

equal_is : (x y : ℤ) → x ≡ y → int_eq x y ≡ true
equal_is x y e = grind (arith, Decides-int_eq)

is_equal_nat : (x y : ℕ) → nat_eq x y ≡ true → x ≡ y
is_equal_nat x y e = grind (arith, nat_tests)

equal_is_nat : (x y : ℕ) → x ≡ y → nat_eq x y ≡ true
equal_is_nat x y e = grind (arith, nat_tests)

-- the places with the fraction f
abbrev pub level : List Fraction → Fraction → ℕ → Bool
level fs f g = int_eq (own fs g).num f.num && nat_eq (own fs g).den f.den

level-is : (fs : List Fraction) (f : Fraction) (g : ℕ) → level fs f g ≡ true → own fs g ≡ f
level-is fs f g e = go (and_both _ _ e) where
  go : (int_eq (own fs g).num f.num ≡ true) × (nat_eq (own fs g).den f.den ≡ true) → own fs g ≡ f
  go k = ap₂ (λ (n : ℤ) (d : ℕ). record { num = n; den = d }) (is_equal _ _ k.0) (is_equal_nat _ _ k.1)

is_level : (fs : List Fraction) (f : Fraction) (g : ℕ) → own fs g ≡ f → level fs f g ≡ true
is_level fs f g e = both_and _ _ (equal_is _ _ (ap (λ (h : Fraction). h.num) e)) (equal_is_nat _ _ (ap (λ (h : Fraction). h.den) e))

-- x/c is p/q, so it is at no bound where that isn't
at_too : (v p x : ℤ) (q c : ℕ) → 0 < c → x *ℤ pos q ≡ p *ℤ pos c → v *ℤ pos c ≡ x → v *ℤ pos q ≡ p
at_too v p x q c l e f = cancel_ℤ _ _ c l (assoc_swap v (pos q) (pos c) ∙ ap (λ (z : ℤ). z *ℤ pos q) f ∙ e)

not_at : (o : Option ℤ) (p x : ℤ) (q c : ℕ) → 0 < c → x *ℤ pos q ≡ p *ℤ pos c → is_at o p q ≡ false → is_at o x c ≡ false
not_at None p x q c l e h = refl
not_at (Some v) p x q c l e h = go (int_eq (v *ℤ pos c) x) refl where
  go : (b : Bool) → int_eq (v *ℤ pos c) x ≡ b → b ≡ false
  go false k = refl
  go true k = not_both (int_eq (v *ℤ pos q) p) (equal_is _ _ (at_too v p x q c l e (is_equal _ _ k))) h

-- the places of a set that aren't at the fraction f
abbrev outside : List Fraction → Fraction → (ℕ → Bool) → ℕ → Bool
outside fs f a g = a g && not (level fs f g)

-- a set's sum in two parts
parted : (a b : ℕ → Bool) (c : ℕ → ℤ) (n : ℕ) → set_sum (λ g. a g && not (b g)) c n +ℤ set_sum (meet a b) c n ≡ set_sum a c n
parted a b c zero = refl
parted a b c (suc n) = omega (arith, ints, parted a b c n, here (a n) (b n)) where
  here : (x y : Bool) → cond (x && not y) (c n) (pos 0) +ℤ cond (x && y) (c n) (pos 0) ≡ cond x (c n) (pos 0)
  here true true = omega (arith, ints)
  here true false = omega (arith, ints)
  here false y = refl

-- A claim on the sums of sets holds where it holds of each level of them, for a sum is that of its levels.
module _ (fs : List Fraction) (n : ℕ) (c : ℕ → ℤ) (Sign : ℤ → Type 0) (Movable : (ℕ → Bool) → Type 0)
    (none : Sign (pos 0)) (more : (x y : ℤ) → Sign x → Sign y → Sign (x +ℤ y))
    (rest : (a : ℕ → Bool) (f : Fraction) → Movable a → Movable (outside fs f a))
    (one : (a : ℕ → Bool) (k : ℕ) → k < n → Movable a → Sign (set_sum (meet a (level fs (own fs k))) c n)) where
  -- the place k isn't left outside its own level
  left_out : (a : ℕ → Bool) (k g : ℕ) → g ≡ k → outside fs (own fs k) a g ≡ false
  left_out a k g e = go (a g) (level fs (own fs k) g) (is_level fs (own fs k) g (ap (own fs) e)) where
    go : (x y : Bool) → y ≡ true → (x && not y) ≡ false
    go true true h = refl
    go true false h = cc
    go false y h = refl

  fewer : (a : ℕ → Bool) (k : ℕ) → ((g : ℕ) → suc k ≤ g → g < n → a g ≡ false) → (g : ℕ) → k ≤ g → g < n → outside fs (own fs k) a g ≡ false
  fewer a k empty g b l = elim (cases_order k g) [
    | inl e ↦ left_out a k g (sym e)
    | inr o ↦ elim o [
      | inl h ↦ ap (λ (x : Bool). x && not (level fs (own fs k) g)) (empty g (omega arith) l)
      | inr h ↦ absurd (omega arith)
    ]
  ]

  by_levels : (k : ℕ) → k ≤ n → (a : ℕ → Bool) → Movable a → ((g : ℕ) → k ≤ g → g < n → a g ≡ false) → Sign (set_sum a c n)
  by_levels zero h a movable empty = subst Sign (sym (set_sum-none a c n (λ g l. empty g (omega arith) l))) none
  by_levels (suc k) h a movable empty = subst Sign (parted a (level fs (own fs k)) c n)
      (more _ _ (by_levels k (omega arith) (outside fs (own fs k) a) (rest a (own fs k) movable) (fewer a k empty)) (one a k (omega arith) movable))

  pub from_levels : (a : ℕ → Bool) → Movable a → Sign (set_sum a c n)
  from_levels a movable = by_levels n (omega arith) a movable (λ g b l. absurd (omega arith))

-- A best list's sums at its own terms, for a loss that scales.
module _ (m : Meaning) (s : Problem) (fs : List Fraction) (law : HasScaling m s) (lowest : All IsLowest fs) (count : length fs ≡ s.count) (settled : IsSettled m s (trial_of fs)) (places : HasPlaces s) where
  get : (g : ℕ) → g < s.count → slice_get fs g ≡ Some (own fs g)
  get g l = own_at fs g (subst (λ (n : ℕ). g < n) (sym count) l)

  lowest_at : (g : ℕ) → g < s.count → IsLowest (own fs g)
  lowest_at g l = All-slice_get IsLowest fs g (own fs g) lowest (get g l)

  value_at : (g : ℕ) → g < s.count → value_of fs g *ℤ pos (own fs g).den ≡ (own fs g).num *ℤ pos (scale_of fs)
  value_at g l = value_of-den fs g (own fs g) (get g l)

  -- equal values are equal fractions
  same_own : (g h : ℕ) → g < s.count → h < s.count → value_of fs g ≡ value_of fs h → own fs g ≡ own fs h
  same_own g h l k e = same_lowest (own fs g) (own fs h) (lowest_at g l) (lowest_at h k)
      (cross (own fs g).num (own fs h).num (value_of fs h) (scale_of fs) (own fs g).den (own fs h).den settled.obeys.scale
      (sym (value_at g l) ∙ ap (λ (z : ℤ). z *ℤ pos (own fs g).den) e) (sym (value_at h k)))

  same_den : (f : Fraction) (g : ℕ) → level fs f g ≡ true → (own fs g).den ≡ f.den
  same_den f g k = ap (λ (h : Fraction). h.den) (level-is fs f g k)

  -- on a level the sums at both are proportional
  module _ (end : List Row → ℤ → ℕ → ℤ)
      (scaling : (g : ℕ) → g < s.count → (k q : ℕ) (p : ℤ) → 0 < k → 0 < q → end (s.rows g) (p *ℤ pos k) (q * k) ≡ end (s.rows g) p q *ℤ pos (k ^ (m.degree - 1))) (f : Fraction) where
    end_at : (g : ℕ) → g < s.count → level fs f g ≡ true → end (s.rows g) (own fs g).num (own fs g).den *ℤ pos (scale_of fs ^ (m.degree - 1)) ≡ end (s.rows g) (value_of fs g) (scale_of fs) *ℤ pos (f.den ^ (m.degree - 1))
    end_at g l k =
        proportional (end (s.rows g)) (m.degree - 1) (scaling g l) (own fs g) (record { num = value_of fs g; den = scale_of fs }) (lowest_at g l).den settled.obeys.scale (sym (value_at g l))
        ∙ ap (λ (d : ℕ). end (s.rows g) (value_of fs g) (scale_of fs) *ℤ pos (d ^ (m.degree - 1))) (same_den f g k)

    level_sum : (a : ℕ → Bool) → set_sum (meet a (level fs f)) (λ g. end (s.rows g) (own fs g).num (own fs g).den) s.count *ℤ pos (scale_of fs ^ (m.degree - 1))
        ≡ set_sum (meet a (level fs f)) (λ g. end (s.rows g) (value_of fs g) (scale_of fs)) s.count *ℤ pos (f.den ^ (m.degree - 1))
    level_sum a = set_sum-same (meet a (level fs f)) _ _ _ _ s.count (λ g l k. end_at g l (and_both (a g) (level fs f g) k).1)

  -- a level is left or taken as a whole
  outside_too : (a : ℕ → Bool) (f : Fraction) (g h : ℕ) → own fs g ≡ own fs h → (a g ≡ true → a h ≡ true) → outside fs f a g ≡ true → outside fs f a h ≡ true
  outside_too a f g h e closed k = go (but_not (a g) (level fs f g) k) where
    go : (a g ≡ true) × (level fs f g ≡ false) → outside fs f a h ≡ true
    go both = not_but (a h) (level fs f h) (closed both.0) (off (level fs f h) refl) where
      off : (x : Bool) → level fs f h ≡ x → x ≡ false
      off false i = refl
      off true i = not_both (level fs f g) (is_level fs f g (e ∙ level-is fs f h i)) both.1

  level_too : (a : ℕ → Bool) (f : Fraction) (g h : ℕ) → own fs g ≡ own fs h → (a g ≡ true → a h ≡ true) → meet a (level fs f) g ≡ true → meet a (level fs f) h ≡ true
  level_too a f g h e closed k = go (and_both (a g) (level fs f g) k) where
    go : (a g ≡ true) × (level fs f g ≡ true) → meet a (level fs f) h ≡ true
    go both = both_and (a h) (level fs f h) (closed both.0) (is_level fs f h (sym e ∙ level-is fs f g both.1))

  free_at : (o : Option ℤ) (g : ℕ) → g < s.count → is_at o (own fs g).num (own fs g).den ≡ false → is_at o (value_of fs g) (scale_of fs) ≡ false
  free_at o g l h = not_at o (own fs g).num (value_of fs g) (own fs g).den (scale_of fs) settled.obeys.scale (value_at g l) h

  -- a set that can be raised, or lowered, in own terms
  abbrev Rises : (ℕ → Bool) → Type 0
  Rises a = All (λ e. own fs e.0 ≡ own fs e.1 → a e.0 ≡ true → a e.1 ≡ true) s.pairs
      × ((g : ℕ) → g < s.count → a g ≡ true → is_at (s.bounds g).hi (own fs g).num (own fs g).den ≡ false)

  abbrev Falls : (ℕ → Bool) → Type 0
  Falls a = All (λ e. own fs e.0 ≡ own fs e.1 → a e.1 ≡ true → a e.0 ≡ true) s.pairs
      × ((g : ℕ) → g < s.count → a g ≡ true → is_at (s.bounds g).lo (own fs g).num (own fs g).den ≡ false)

  rises_outside : (a : ℕ → Bool) (f : Fraction) → Rises a → Rises (outside fs f a)
  rises_outside a f r = (λ i d l e. outside_too a f _ _ e (r.0 i d l e), λ g l k. r.1 g l (but_not (a g) (level fs f g) k).0)

  falls_outside : (a : ℕ → Bool) (f : Fraction) → Falls a → Falls (outside fs f a)
  falls_outside a f r = (λ i d l e. outside_too a f _ _ (sym e) (r.0 i d l e), λ g l k. r.1 g l (but_not (a g) (level fs f g) k).0)

  power : 0 < scale_of fs ^ (m.degree - 1)
  power = pow_above (scale_of fs) (m.degree - 1) settled.obeys.scale

  raised_level : (a : ℕ → Bool) (f : Fraction) → Rises a → set_sum (meet a (level fs f)) (λ g. m.least (s.rows g) (own fs g).num (own fs g).den) s.count ≤ℤ pos 0
  raised_level a f r =
      let closed : IsClosedUp s (trial_of fs) (meet a (level fs f)) = λ i d l e. level_too a f _ _ (same_own _ _ (places i d l).0 (places i d l).1 e) (r.0 i d l (same_own _ _ (places i d l).0 (places i d l).1 e)) in
      let can : CanRise s (trial_of fs) (meet a (level fs f)) = λ g l k. free_at (s.bounds g).hi g l (r.1 g l (and_both (a g) (level fs f g) k).0) in
      not_above _ (scale_of fs ^ (m.degree - 1)) power
      (omega (arith, ints, level_sum m.least law.least f a, mul_pos _ _ (f.den ^ (m.degree - 1)) (settled.raised (meet a (level fs f)) closed can), zero_mul_ℤ (pos (f.den ^ (m.degree - 1)))))

  lowered_level : (a : ℕ → Bool) (f : Fraction) → Falls a → pos 0 ≤ℤ set_sum (meet a (level fs f)) (λ g. m.greatest (s.rows g) (own fs g).num (own fs g).den) s.count
  lowered_level a f r =
      let closed : IsClosedDown s (trial_of fs) (meet a (level fs f)) = λ i d l e. level_too a f _ _ (sym (same_own _ _ (places i d l).0 (places i d l).1 e)) (r.0 i d l (same_own _ _ (places i d l).0 (places i d l).1 e)) in
      let can : CanFall s (trial_of fs) (meet a (level fs f)) = λ g l k. free_at (s.bounds g).lo g l (r.1 g l (and_both (a g) (level fs f g) k).0) in
      not_below _ (scale_of fs ^ (m.degree - 1)) power
      (omega (arith, ints, level_sum m.greatest law.greatest f a, mul_pos _ _ (f.den ^ (m.degree - 1)) (settled.lowered (meet a (level fs f)) closed can), zero_mul_ℤ (pos (f.den ^ (m.degree - 1)))))

  settled_raised : (a : ℕ → Bool) → Rises a → set_sum a (λ g. m.least (s.rows g) (own fs g).num (own fs g).den) s.count ≤ℤ pos 0
  settled_raised = from_levels fs s.count (λ g. m.least (s.rows g) (own fs g).num (own fs g).den) (λ z. z ≤ℤ pos 0) Rises (omega (arith, ints)) (λ x y h k. omega (arith, ints)) rises_outside (λ a k l. raised_level a (own fs k))

  settled_lowered : (a : ℕ → Bool) → Falls a → pos 0 ≤ℤ set_sum a (λ g. m.greatest (s.rows g) (own fs g).num (own fs g).den) s.count
  settled_lowered = from_levels fs s.count (λ g. m.greatest (s.rows g) (own fs g).num (own fs g).den) (λ z. pos 0 ≤ℤ z) Falls (omega (arith, ints)) (λ x y h k. omega (arith, ints)) falls_outside (λ a k l. lowered_level a (own fs k))

either-scaling : (m : Meaning) → (m ≡ squares) ⊎ (m ≡ median) → (s : Problem) → HasScaling m s
either-scaling m kind s = elim kind [
  | inl e ↦ subst (λ (k : Meaning). HasScaling k s) (sym e) (squared-scaling (record { above = 1; below = 1 }) s)
  | inr e ↦ subst (λ (k : Meaning). HasScaling k s) (sym e) (absolute-scaling (record { above = 1; below = 1 }) s)
]

-- No set that can be raised gains by it, in own terms.
pub own_raised : (m : Meaning) → (m ≡ squares) ⊎ (m ≡ median) → (s : Problem) (fs : List Fraction) → All IsLowest fs → BestValues m s fs → HasPlaces s → (a : ℕ → Bool)
    → All (λ e. own fs e.0 ≡ own fs e.1 → a e.0 ≡ true → a e.1 ≡ true) s.pairs
    → ((g : ℕ) → g < s.count → a g ≡ true → is_at (s.bounds g).hi (own fs g).num (own fs g).den ≡ false)
    → set_sum a (λ g. m.least (s.rows g) (own fs g).num (own fs g).den) s.count ≤ℤ pos 0
own_raised m kind s fs lowest best places a closed can =
    settled_raised m s fs (either-scaling m kind s) lowest best.count (either_best_settled m kind s (trial_of fs) best.best) places a (closed, can)

-- And none that can be lowered gains by that.
pub own_lowered : (m : Meaning) → (m ≡ squares) ⊎ (m ≡ median) → (s : Problem) (fs : List Fraction) → All IsLowest fs → BestValues m s fs → HasPlaces s → (a : ℕ → Bool)
    → All (λ e. own fs e.0 ≡ own fs e.1 → a e.1 ≡ true → a e.0 ≡ true) s.pairs
    → ((g : ℕ) → g < s.count → a g ≡ true → is_at (s.bounds g).lo (own fs g).num (own fs g).den ≡ false)
    → pos 0 ≤ℤ set_sum a (λ g. m.greatest (s.rows g) (own fs g).num (own fs g).den) s.count
own_lowered m kind s fs lowest best places a closed can =
    settled_lowered m s fs (either-scaling m kind s) lowest best.count (either_best_settled m kind s (trial_of fs) best.best) places a (closed, can)
