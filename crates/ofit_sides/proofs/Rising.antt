-- The values of the first groups' chain with what flows along its tight neighbours are a rise.
use Rattle.std.proofs.Common.{◌≡◌, ℕ, zero, suc, ◌*◌, ◌-◌, ◌<◌, ◌≤◌, ◌^◌, List, [], ◌∷◌, length, refl, sym, ap, ap₂, subst, ◌∙◌, arith, true, get_or, take, map, int_eq}
use Rattle.std.proofs.lemmas.Int.{ints}
use Rattle.std.proofs.lemmas.Bool.Decides.{Decides-int_eq}
use Rattle.std.proofs.lemmas.List.{get_or_default}
use Rattle.std.proofs.lemmas.Option.{slice_get-get_or}
use Rattle.std.proofs.lemmas.Slice.Zip.{length-zip, get_or-zip}
use Rattle.std.specs.List.{zip}
use Rattle.std.specs.Prelude.{ℤ, pos, ◌-ℤ◌, ◌*ℤ◌, ◌≤ℤ◌, ◌<ℤ◌, All, slice_get, IfSome, Option, unsigned_abs}
use Rattle.ofit_num.specs.declared.row.Row.{Row}
use Rattle.ofit_num.specs.Fraction.{Fraction}
use Rattle.ofit_num.specs.Groups.{RowLists}
use Rattle.ofit_num.specs.Loss.{median}
use Rattle.ofit_num.specs.Pairs.{chain_pairs}
use Rattle.ofit_num.specs.Unbounded.{no_bounds}
use Rattle.ofit_num.specs.Span.{InOpenSpan}
use Rattle.ofit_num.specs.Tight.{value_at as own, is_tight, tight_among}
use Rattle.ofit_num.specs.Trial.{value_of}
use Rattle.ofit_chain.proofs.Runs.{pair_at}
use Rattle.ofit_cut.specs.Balance.{balance}
use Rattle.ofit_cert.specs.TightFlows.{Certify}
use Rattle.ofit_sheet.specs.Kept.{most_amount}
use Rattle.ofit_sheet.specs.Peaked.{IsStepInLimits}
use Rattle.ofit_sheet.specs.PeakVerdict.{value_at, amount_at, amount_before, IsInSpan, IsRiseStep}
use Rattle.ofit_sides.specs.FirstFit.{rows_at, first_chain, IsFirstFit}
use Rattle.ofit_sides.specs.Leaving.{leaving, AreLeaving}
use Rattle.ofit_sides.specs.Sides.{IsRise}
use Rattle.ofit_sides.specs.Values.{whole_fraction}
use Rattle.ofit_sides.proofs.FirstRows.{first_rows}
use Rattle.ofit_sides.proofs.Flows.{balance-first, balance-next, leaving-none, leaving-keeps, leaving-some}
use Rattle.ofit_sides.proofs.Neighbours.{tight_within, tight_lead_on, tight_passes, tight_rise, first_count}
use Rattle.ofit_sides.proofs.OwnWhole.{one_scale, as_long, own_whole, whole_rises}

is_equal : (x y : ℤ) → int_eq x y ≡ true → x ≡ y
is_equal x y e = grind (arith, Decides-int_eq)

-- the last step's amount
pub last_amount : (side : List (ℤ × ℤ)) → ((j : ℕ) → suc j ≡ length side → amount_at side j ≡ pos 0) → IfSome (slice_get side (length side - 1)) (λ step. step.1 ≡ pos 0)
last_amount [] h = tt
last_amount (step ∷ side) h =
    let inside : length (step ∷ side) - 1 < length (step ∷ side) = omega arith in
    subst (λ (o : Option (ℤ × ℤ)). IfSome o (λ step. step.1 ≡ pos 0)) (sym (slice_get-get_or (step ∷ side) (length (step ∷ side) - 1) (pos 0, pos 0) inside)) (h (length (step ∷ side) - 1) (omega arith))

-- what holds of each step's value and amount
pub each_step : (P : ℤ → ℤ → Type 0) (side : List (ℤ × ℤ)) → ((j : ℕ) → j < length side → P (value_at side j) (amount_at side j)) → All (λ step. P step.0 step.1) side
each_step P side h j d l = subst (λ (step : ℤ × ℤ). P step.0 step.1) (get_or_default side j (pos 0, pos 0) d l) (h j l)

amount_size : (z : ℤ) → pos 0 ≤ℤ z → z ≤ℤ pos (2 * 10 ^ 33) → unsigned_abs z ≤ most_amount
amount_size z low high = omega (arith, ints, low, high)

module _ (groups : RowLists) (fs : List Fraction) (fit : IsFirstFit groups fs) (whole : List ℤ) (same : fs ≡ map whole_fraction whole) (small : All (λ z. unsigned_abs z ≤ 10 ^ 9) whole)
    (amounts : List ℤ) (certify : Certify median (first_chain groups (length fs)) fs (tight_among fs (chain_pairs (length fs))) amounts) (flows : List ℤ) (are : AreLeaving (length fs) (tight_among fs (chain_pairs (length fs))) amounts flows) where
  abbrev pairs : List (ℕ × ℕ)
  pairs = tight_among fs (chain_pairs (length fs))

  abbrev side : List (ℤ × ℤ)
  side = zip whole flows

  long : length fs ≡ length whole
  long = as_long fs whole same

  side_long : length side ≡ length fs
  side_long = omega (arith, length-zip whole flows, long, are.count)

  step_is : (j : ℕ) → j < length fs → get_or side j (pos 0, pos 0) ≡ (get_or whole j (pos 0), get_or flows j (pos 0))
  step_is j l = get_or-zip whole flows j (pos 0, pos 0) (omega (arith, l, long)) (omega (arith, l, are.count))

  value_is : (j : ℕ) → j < length fs → value_at side j ≡ get_or whole j (pos 0)
  value_is j l = ap (λ (step : ℤ × ℤ). step.0) (step_is j l)

  amount_is : (j : ℕ) → j < length fs → amount_at side j ≡ leaving pairs amounts j
  amount_is j l = ap (λ (step : ℤ × ℤ). step.1) (step_is j l) ∙ are.each j l

  own_is : (j : ℕ) → j < length fs → own fs j ≡ whole_fraction (value_at side j)
  own_is j l = own_whole fs whole same j (omega (arith, l, long)) ∙ ap whole_fraction (sym (value_is j l))

  -- the values
  rises : (j : ℕ) → suc j < length fs → value_at side j ≤ℤ value_at side (suc j)
  rises j l =
      let along : value_of fs j ≤ℤ value_of fs (suc j) = pair_at (λ e. value_of fs e.0 ≤ℤ value_of fs e.1) (length (take (length fs) groups)) fit.best.best.obeys.pairs j (omega (arith, l, first_count groups (length fs) fit.few)) in
      let wholes : get_or whole j (pos 0) ≤ℤ get_or whole (suc j) (pos 0) = whole_rises fs whole same fit.best.best.obeys.scale j (suc j) (omega (arith, l, long)) (omega (arith, l, long)) along in
      omega (arith, ints, wholes, value_is j (omega (arith, l)), value_is (suc j) l)

  equal_if_tight : (e : ℕ × ℕ) (j : ℕ) → suc j < length fs → is_tight fs e ≡ true → e.1 ≡ suc e.0 → e.0 ≡ j → value_at side j ≡ value_at side (suc j)
  equal_if_tight e j l t on at =
      let first : own fs e.0 ≡ whole_fraction (value_at side j) = ap (λ (k : ℕ). own fs k) at ∙ own_is j (omega (arith, l)) in
      let second : own fs e.1 ≡ whole_fraction (value_at side (suc j)) = ap (λ (k : ℕ). own fs k) (on ∙ ap suc at) ∙ own_is (suc j) l in
      let cross : (own fs e.0).num *ℤ pos (own fs e.1).den ≡ (own fs e.1).num *ℤ pos (own fs e.0).den = is_equal _ _ t in
      sym (one_scale (value_at side j)) ∙ sym (ap₂ (λ (c b : Fraction). c.num *ℤ pos b.den) first second) ∙ cross ∙ ap₂ (λ (c b : Fraction). b.num *ℤ pos c.den) first second ∙ one_scale (value_at side (suc j))

  joins : (j : ℕ) → suc j < length fs → pos 0 <ℤ amount_at side j → value_at side j ≡ value_at side (suc j)
  joins j l some =
      leaving-some (value_at side j ≡ value_at side (suc j)) pairs amounts j (λ k d m at. equal_if_tight (get_or pairs k d) j l (tight_passes fs k d m) (tight_lead_on fs k d m) at)
      (subst (λ (z : ℤ). pos 0 <ℤ z) (amount_is j (omega (arith, l))) some)

  -- the balances
  balance_is : (j : ℕ) → j < length fs → balance pairs amounts j ≡ amount_at side j -ℤ amount_before side j
  balance_is zero l = balance-first pairs amounts (tight_lead_on fs) ∙ ap (λ (z : ℤ). z -ℤ pos 0) (sym (amount_is zero l))
  balance_is (suc j) l = balance-next pairs amounts j (tight_lead_on fs) ∙ ap₂ (λ (z y : ℤ). z -ℤ y) (sym (amount_is (suc j) l)) (sym (amount_is j (omega (arith, l))))

  in_span : (j : ℕ) → j < length fs → IsInSpan (rows_at groups j) (value_at side j) (amount_at side j -ℤ amount_before side j)
  in_span j l =
      let inside : j < length (take (length fs) groups) = omega (arith, l, first_count groups (length fs) fit.few) in
      let told : InOpenSpan median (rows_at (take (length fs) groups) j) (no_bounds j) (own fs j).num (own fs j).den (balance pairs amounts j) = certify.balances j inside in
      let moved : InOpenSpan median (rows_at groups j) (no_bounds j) (value_at side j) 1 (amount_at side j -ℤ amount_before side j) =
      subst (λ (rows : List Row). InOpenSpan median rows (no_bounds j) (value_at side j) 1 (amount_at side j -ℤ amount_before side j)) (first_rows groups (length fs) j l)
      (subst (λ (c : Fraction). InOpenSpan median (rows_at (take (length fs) groups) j) (no_bounds j) c.num c.den (amount_at side j -ℤ amount_before side j)) (own_is j l)
      (subst (InOpenSpan median (rows_at (take (length fs) groups) j) (no_bounds j) (own fs j).num (own fs j).den) (balance_is j l) told)) in
      record { least = moved.least refl; greatest = moved.greatest refl }

  step_at : (j : ℕ) → j < length fs → IsRiseStep (rows_at groups j) side j
  step_at j l = record {
    order = λ next. rises j (omega (arith, next, side_long));
    tight = λ next. joins j (omega (arith, next, side_long));
    balance = in_span j l;
  }

  -- the amounts
  amount_keeps : (P : ℤ → Type 0) → P (pos 0) → All P amounts → (j : ℕ) → j < length side → P (amount_at side j)
  amount_keeps P none h j l = subst P (sym (amount_is j (omega (arith, l, side_long)))) (leaving-keeps P none pairs amounts j (tight_rise fs) h)

  low_at : (j : ℕ) → j < length side → pos 0 ≤ℤ amount_at side j
  low_at = amount_keeps (λ z. pos 0 ≤ℤ z) (omega (arith, ints)) certify.flows.low

  high_at : (j : ℕ) → j < length side → amount_at side j ≤ℤ pos (2 * 10 ^ 33)
  high_at = amount_keeps (λ z. z ≤ℤ pos (2 * 10 ^ 33)) (omega (arith, ints)) certify.flows.high

  last_is : (j : ℕ) → suc j ≡ length side → amount_at side j ≡ pos 0
  last_is j e = amount_is j (omega (arith, e, side_long)) ∙ leaving-none pairs amounts j (λ k d l at. absurd (omega (arith, e, side_long, at, tight_lead_on fs k d l, (tight_within fs k d l).1)))

  value_small : (j : ℕ) → j < length side → unsigned_abs (value_at side j) ≤ 10 ^ 9
  value_small j l = subst (λ (z : ℤ). unsigned_abs z ≤ 10 ^ 9) (sym (value_is j (omega (arith, l, side_long)))) (small j (pos 0) (omega (arith, l, side_long, long)))

  limits_at : (j : ℕ) → j < length side → IsStepInLimits (value_at side j, amount_at side j)
  limits_at j l = record { value = value_small j l; amount = amount_size (amount_at side j) (low_at j l) (high_at j l) }

  pub is_rise : IsRise (rows_at groups) (length fs) side
  is_rise = record {
    shape = record {
      count = side_long;
      amounts = each_step (λ value amount. pos 0 ≤ℤ amount) side low_at;
      last = last_amount side last_is;
    };
    steps = step_at;
    limits = each_step (λ value amount. IsStepInLimits (value, amount)) side limits_at;
  }
