-- The trial of a list of fractions, and every other trial of its values.
use Rattle.std.proofs.Common.{◌≡◌, ℕ, zero, suc, ◌*◌, ◌<◌, refl, ap, subst, ◌∙◌, arith, mul-pos, List, [], ◌∷◌, length}
use Rattle.std.proofs.lemmas.Int.{ints}
use Rattle.std.specs.Prelude.{ℤ, pos, ◌*ℤ◌, slice_get, Some}
use Rattle.ofit_num.specs.Problem.{Problem}
use Rattle.ofit_num.specs.ProblemPairs.{HasPlaces}
use Rattle.ofit_num.specs.Meaning.{Meaning}
use Rattle.ofit_num.specs.Fraction.{Fraction}
use Rattle.ofit_num.specs.Trial.{Trial, scale_of, value_of, trial_of}
use Rattle.ofit_num.specs.TrialValues.{Represents, EqualBelow}
use Rattle.ofit_num.specs.Fit.{Best, LeastBest, BestValues, LeastBestValues}
use Rattle.ofit_num.specs.Law.{HasScaling}
use Rattle.ofit_num.proofs.Order.{assoc_swap, mul_pos_mul, cancel_ℤ}
use Rattle.ofit_num.proofs.Scaling.{EqualBelow-sym, Best-equal, LeastBest-equal}

-- the product of the denominators is above 0 exactly where each of them is
pub scale_above : (fs : List Fraction) → ((g : ℕ) (f : Fraction) → slice_get fs g ≡ Some f → 0 < f.den) → 0 < scale_of fs
scale_above [] h = omega arith
scale_above (f ∷ fs) h = mul-pos (h 0 f refl) (scale_above fs (λ g k e. h (suc g) k e))

pub first_factor : (a b : ℕ) → 0 < a * b → 0 < a
first_factor zero b h = absurd (omega arith)
first_factor (suc a) b h = omega arith

pub second_factor : (a b : ℕ) → 0 < a * b → 0 < b
second_factor a zero h = absurd (omega arith)
second_factor a (suc b) h = omega arith

pub den_above : (fs : List Fraction) → 0 < scale_of fs → (g : ℕ) (f : Fraction) → slice_get fs g ≡ Some f → 0 < f.den
den_above [] l g f e = cc
den_above (h ∷ fs) l zero f e =
    let same : h ≡ f = cc in
    subst (λ (k : Fraction). 0 < k.den) same (first_factor h.den (scale_of fs) l)
den_above (h ∷ fs) l (suc g) f e = den_above fs (second_factor h.den (scale_of fs) l) g f e

one_more : (v n : ℤ) (d e q : ℕ) → v *ℤ pos d ≡ n *ℤ pos q → (v *ℤ pos e) *ℤ pos d ≡ n *ℤ pos (e * q)
one_more v n d e q h = assoc_swap v (pos e) (pos d) ∙ ap (λ (z : ℤ). z *ℤ pos e) h ∙ mul_pos_mul n q e

pub value_of-den : (fs : List Fraction) (g : ℕ) (f : Fraction) → slice_get fs g ≡ Some f → value_of fs g *ℤ pos f.den ≡ f.num *ℤ pos (scale_of fs)
value_of-den [] g f e = cc
value_of-den (h ∷ fs) zero f e =
    let same : h ≡ f = cc in
    subst (λ (k : Fraction). (h.num *ℤ pos (scale_of fs)) *ℤ pos k.den ≡ k.num *ℤ pos (h.den * scale_of fs)) same (mul_pos_mul h.num (scale_of fs) h.den)
value_of-den (h ∷ fs) (suc g) f e = one_more (value_of fs g) f.num f.den h.den (scale_of fs) (value_of-den fs g f e)

-- the product of the denominators of all places but one
abbrev pub others : List Fraction → ℕ → ℕ
others [] g = 1
others (f ∷ fs) zero = scale_of fs
others (f ∷ fs) (suc g) = f.den * others fs g

pub scale_of-others : (fs : List Fraction) (g : ℕ) (f : Fraction) → slice_get fs g ≡ Some f → scale_of fs ≡ f.den * others fs g
scale_of-others [] g f e = cc
scale_of-others (h ∷ fs) zero f e =
    let same : h ≡ f = cc in
    ap (λ (k : Fraction). k.den * scale_of fs) same
scale_of-others (h ∷ fs) (suc g) f e = omega (arith, ap (λ (n : ℕ). h.den * n) (scale_of-others fs g f e))

pub value_of-others : (fs : List Fraction) (g : ℕ) (f : Fraction) → slice_get fs g ≡ Some f → value_of fs g ≡ f.num *ℤ pos (others fs g)
value_of-others [] g f e = cc
value_of-others (h ∷ fs) zero f e =
    let same : h ≡ f = cc in
    ap (λ (k : Fraction). k.num *ℤ pos (scale_of fs)) same
value_of-others (h ∷ fs) (suc g) f e = ap (λ (z : ℤ). z *ℤ pos h.den) (value_of-others fs g f e) ∙ mul_pos_mul f.num (others fs g) h.den

-- the trial of the list has the list's fractions
pub trial_of-represents : (fs : List Fraction) → 0 < scale_of fs → Represents fs (trial_of fs)
trial_of-represents fs l = record { scale = l; dens = den_above fs l; values = value_of-den fs }

-- a/p and b/q are both n/d
pub cross : (a b n : ℤ) (d p q : ℕ) → 0 < d → a *ℤ pos d ≡ n *ℤ pos p → b *ℤ pos d ≡ n *ℤ pos q → a *ℤ pos q ≡ b *ℤ pos p
cross a b n d p q l e f = cancel_ℤ _ _ d l (omega (
  arith,
  ints,
  assoc_swap a (pos q) (pos d),
  assoc_swap b (pos p) (pos d),
  ap (λ (z : ℤ). z *ℤ pos q) e,
  ap (λ (z : ℤ). z *ℤ pos p) f,
  assoc_swap n (pos p) (pos q),
))

pub fraction_at : (fs : List Fraction) (g : ℕ) → g < length fs → (f : Fraction) × (slice_get fs g ≡ Some f)
fraction_at [] g l = absurd (omega arith)
fraction_at (f ∷ fs) zero l = (f, refl)
fraction_at (f ∷ fs) (suc g) l = fraction_at fs g (omega arith)

-- two trials of one list have equal values
pub EqualBelow-represents : (fs : List Fraction) (t u : Trial) → Represents fs t → Represents fs u → EqualBelow (length fs) t u
EqualBelow-represents fs t u rt ru = record { values = λ g l. here g (fraction_at fs g l) } where
  here : (g : ℕ) → (f : Fraction) × (slice_get fs g ≡ Some f) → t.value g *ℤ pos u.scale ≡ u.value g *ℤ pos t.scale
  here g k = cross (t.value g) (u.value g) k.0.num k.0.den t.scale u.scale (rt.dens g k.0 k.1) (rt.values g k.0 k.1) (ru.values g k.0 k.1)

-- The list is best, or least best, exactly where any one trial of its values is.
module _ (m : Meaning) (s : Problem) (places : HasPlaces s) (law : HasScaling m s) (fs : List Fraction) (t : Trial) (count : length fs ≡ s.count) (has : Represents fs t) where
  to_list : EqualBelow s.count t (trial_of fs)
  to_list = subst (λ (n : ℕ). EqualBelow n t (trial_of fs)) count (EqualBelow-represents fs t (trial_of fs) has (trial_of-represents fs (scale_above fs has.dens)))

  pub best_values : Best m s t → BestValues m s fs
  best_values best = record { count = count; best = Best-equal m s t (trial_of fs) places law to_list (scale_above fs has.dens) best }

  pub best_trial : BestValues m s fs → Best m s t
  best_trial values = Best-equal m s (trial_of fs) t places law (EqualBelow-sym s.count t (trial_of fs) to_list) has.scale values.best

  pub least_best_values : LeastBest m s t → LeastBestValues m s fs
  least_best_values least = record { count = count; least_best = LeastBest-equal m s t (trial_of fs) places law to_list (scale_above fs has.dens) least }

  pub least_best_trial : LeastBestValues m s fs → LeastBest m s t
  least_best_trial values = LeastBest-equal m s (trial_of fs) t places law (EqualBelow-sym s.count t (trial_of fs) to_list) has.scale values.least_best
