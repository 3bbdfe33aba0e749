-- Under squares a best fit gives each block the weighted mean of its rows, or a bound: a block strictly between the bounds
-- is closed both ways among equal values, so its residuals sum to 0.
use Rattle.std.proofs.Common.{◌≡◌, ℕ, ◌<◌, inl, inr, refl, sym, ap, subst, ◌∙◌, arith, Bool, true, false, List, [], ◌∷◌, length, get_or, slice_index, Option, Some, None, int_eq}
use Rattle.std.proofs.Math.Nat.{one-dvd, dvd-mul_right}
use Rattle.std.proofs.lemmas.Int.{ints, unsigned_abs-mul}
use Rattle.std.proofs.lemmas.Bool.Decides.{Decides-int_eq}
use Rattle.std.proofs.lemmas.List.Elements.{Contains-get_or, All-contains}
use Rattle.std.proofs.lemmas.Nat.Gcd.{dvd_refl, dvd_antisymm}
use Rattle.std.specs.Int.{◌∣◌}
use Rattle.std.specs.List.{Contains}
use Rattle.std.specs.Prelude.{ℤ, pos, ◌+ℤ◌, ◌-ℤ◌, ◌*ℤ◌, unsigned_abs}
use Rattle.ofit_num.specs.declared.row.Row.{Row}
use Rattle.ofit_num.specs.Fit.{BestValues}
use Rattle.ofit_num.specs.Fraction.{Fraction, IsLowest}
use Rattle.ofit_num.specs.RowTotals.{total_weight}
use Rattle.ofit_num.specs.Loss.{squares, residual, squared_end}
use Rattle.ofit_num.specs.Sets.{set_sum, IsClosedUp, IsClosedDown}
use Rattle.ofit_num.specs.Settled.{CanRise, CanFall, IsSettled}
use Rattle.ofit_num.specs.Span.{is_at}
use Rattle.ofit_num.specs.Trial.{trial_of, scale_of, value_of}
use Rattle.ofit_num.proofs.Order.{cancel_ℤ, assoc_swap, swap_ℤ}
use Rattle.ofit_num.proofs.RowSums.{int_row_sum-append}
use Rattle.ofit_num.proofs.TableSettled.{squares_best_settled}
use Rattle.ofit_order.specs.Within.{AreWithin}
use Rattle.ofit_order.specs.Component.{AreMembers}
use Rattle.ofit_order.proofs.DoubleCounting.{has, Contains-from_has, has-from_Contains}
use Rattle.ofit_order.proofs.Forming.{member_inside}
use Rattle.ofit_order.proofs.Uniqueness.{members_along, LiesIn-at, LiesIn-connected}
use Rattle.ofit_study.specs.Settings.{IsBoundInLimits}
use Rattle.ofit_study.specs.Study.{Study, IsValid, names_of, groups_of, places_of, problem_stated}
use Rattle.ofit_study.proofs.Stating.{pairs_have_places}
use Rattle.ofit_loss.specs.Squares.{weighted_sum}
use Rattle.ofit_loss.proofs.SquaresLeast.{balance}
use Rattle.ofit_report.specs.Tight.{value_at, is_tight, tight_among}
use Rattle.ofit_report.specs.Blocks.{block_order}
use Rattle.ofit_report.specs.BlockMeans.{IsMean, IsWholeValue, IsMeanOrWhole}
use Rattle.ofit_report.specs.Cost.{rows_among}
use Rattle.ofit_report.proofs.Members.{member_sum, member_sum-has, member_sum-same}
use Rattle.ofit_study.proofs.Places.{group_count}
use Rattle.ofit_report.proofs.Places.{tight_within}
use Rattle.ofit_num.proofs.Members.{Contains-filter}
use Rattle.ofit_report.proofs.Tightness.{own_value, same_tight, connected_same}

-- a fraction in lowest terms that is a whole number has the denominator 1
whole_den : (f : Fraction) (z : ℤ) → IsLowest f → z *ℤ pos f.den ≡ f.num → f.den ≡ 1
whole_den f z lowest e = dvd_antisymm (lowest.coprime.2 f.den divides (dvd_refl f.den)) (one-dvd f.den) where
  divides : f.den ∣ unsigned_abs f.num
  divides = subst (λ (n : ℕ). f.den ∣ n) (sym (unsigned_abs-mul (pos f.den) z) ∙ ap unsigned_abs (swap_ℤ (pos f.den) z ∙ e)) (dvd-mul_right f.den (unsigned_abs z))

at_bound : (x y : ℤ) → int_eq x y ≡ true → x ≡ y
at_bound x y e = grind (arith, Decides-int_eq)

-- the value x/q of f is a bound
whole_at : (bound : Option ℤ) (f : Fraction) (x : ℤ) (q : ℕ) → IsBoundInLimits bound → IsLowest f → 0 < q → x *ℤ pos f.den ≡ f.num *ℤ pos q → is_at bound x q ≡ true → IsWholeValue f
whole_at None f x q limit lowest lq e at = cc
whole_at (Some z) f x q limit lowest lq e at = (one, omega (arith, ap unsigned_abs num, limit)) where
  parts : z *ℤ pos f.den ≡ f.num
  parts = cancel_ℤ _ _ q lq (assoc_swap z (pos f.den) (pos q) ∙ ap (λ (t : ℤ). t *ℤ pos f.den) (at_bound (z *ℤ pos q) x at) ∙ e)

  one : f.den ≡ 1
  one = whole_den f z lowest parts

  num : f.num ≡ z
  num = sym parts ∙ ap (λ (n : ℕ). z *ℤ pos n) one ∙ alone z where
    alone : (z : ℤ) → z *ℤ pos 1 ≡ z
    alone z = omega (arith, ints)

mean_from : (n s x : ℤ) (w d q : ℕ) → 0 < q → x *ℤ pos d ≡ n *ℤ pos q → pos q *ℤ s -ℤ x *ℤ pos w ≡ pos 0 → n *ℤ pos w ≡ s *ℤ pos d
mean_from n s x w d q lq e zero_sum = cancel_ℤ _ _ q lq (
    assoc_swap n (pos w) (pos q) ∙ ap (λ (z : ℤ). z *ℤ pos w) (sym e) ∙ assoc_swap x (pos d) (pos w)
    ∙ ap (λ (z : ℤ). z *ℤ pos d) (sym even ∙ swap_ℤ (pos q) s) ∙ assoc_swap s (pos q) (pos d)
    ) where
      even : pos q *ℤ s ≡ x *ℤ pos w
      even = omega (arith, ints, zero_sum)

module _ (s : Study) (v : IsValid s) (values : List Fraction) (best : BestValues squares (problem_stated s) values) (k : ℕ) (members : List ℕ) (are : AreMembers (block_order s values) k members) (some : 0 < length members) where
  abbrev first : ℕ
  first = slice_index members 0

  abbrev q : ℕ
  q = scale_of values

  abbrev x : ℤ
  x = value_of values first

  scale : 0 < q
  scale = best.best.obeys.scale

  counted : length values ≡ length (groups_of s)
  counted = best.count

  named : length values ≡ length (names_of s)
  named = counted ∙ group_count s

  pairs_inside : (e : ℕ × ℕ) → Contains (places_of s) e → (e.0 < length values) × (e.1 < length values)
  pairs_inside e h =
      let ends : (e.0 < length (groups_of s)) × (e.1 < length (groups_of s)) = All-contains (λ (e : ℕ × ℕ). (e.0 < length (groups_of s)) × (e.1 < length (groups_of s))) (places_of s) e (pairs_have_places s v) h in
      (omega (arith, ends.0, counted), omega (arith, ends.1, counted))

  within : AreWithin (tight_among values (places_of s)) (length (names_of s))
  within = tight_within s v values (tight_among values (places_of s)) (length (names_of s)) refl refl

  pub inside : (m : ℕ) → Contains members m → m < length (names_of s)
  inside m h = member_inside (block_order s values) k members are m h

  first_in : Contains members first
  first_in = Contains-get_or members 0 0 some

  -- all members have one value
  alike : (m : ℕ) → Contains members m → value_of values m ≡ x
  alike m h =
      let here = (are.exact first).0 first_in in
      let there = (are.exact m).0 h in
      connected_same values scale (places_of s) pairs_inside first m
      (LiesIn-connected (block_order s values) here.0 k first m here.2 (LiesIn-at (block_order s values) here.0 there.0 k m here.1 there.1 there.2))

  closed_up : IsClosedUp (problem_stated s) (trial_of values) (has members)
  closed_up i d l same held =
      let e : ℕ × ℕ = get_or (places_of s) i d in
      let pair : Contains (places_of s) e = Contains-get_or (places_of s) i d l in
      let tight = Contains-filter (is_tight values) (places_of s) e pair (same_tight values scale e (pairs_inside e pair).0 (pairs_inside e pair).1 same) in
      has-from_Contains members e.1 (members_along (block_order s values) k members are within e.0 e.1 (inl tight) (Contains-from_has members e.0 held))

  closed_down : IsClosedDown (problem_stated s) (trial_of values) (has members)
  closed_down i d l same held =
      let e : ℕ × ℕ = get_or (places_of s) i d in
      let pair : Contains (places_of s) e = Contains-get_or (places_of s) i d l in
      let tight = Contains-filter (is_tight values) (places_of s) e pair (same_tight values scale e (pairs_inside e pair).0 (pairs_inside e pair).1 same) in
      has-from_Contains members e.0 (members_along (block_order s values) k members are within e.1 e.0 (inr tight) (Contains-from_has members e.1 held))

  settled : IsSettled squares (problem_stated s) (trial_of values)
  settled = squares_best_settled (problem_stated s) (trial_of values) best.best

  -- the residuals of the members' rows
  ends : (ms : List ℕ) → squares.least (rows_among s ms) x q ≡ member_sum (λ g. squares.least ((problem_stated s).rows g) x q) ms
  ends [] = refl
  ends (m ∷ ms) =
      int_row_sum-append (λ (r : Row). squared_end (record { above = 1; below = 1 }) r.weight (residual r x q)) ((problem_stated s).rows m) (rows_among s ms)
      ∙ ap (λ (z : ℤ). squares.least ((problem_stated s).rows m) x q +ℤ z) (ends ms)

  summed : set_sum (has members) (λ g. squares.least ((problem_stated s).rows g) (value_of values g) q) (problem_stated s).count ≡ squares.least (rows_among s members) x q
  summed =
      member_sum-has (λ g. squares.least ((problem_stated s).rows g) (value_of values g) q) members (length (groups_of s)) are.rising (λ m h. omega (arith, inside m h, group_count s))
      ∙ member_sum-same (λ g. squares.least ((problem_stated s).rows g) (value_of values g) q) (λ g. squares.least ((problem_stated s).rows g) x q) members (λ m h. ap (λ (z : ℤ). squares.least ((problem_stated s).rows m) z q) (alike m h))
      ∙ sym (ends members)

  can_rise : is_at s.settings.hi x q ≡ false → CanRise (problem_stated s) (trial_of values) (has members)
  can_rise free g l held = ap (λ (z : ℤ). is_at s.settings.hi z q) (alike g (Contains-from_has members g held)) ∙ free

  can_fall : is_at s.settings.lo x q ≡ false → CanFall (problem_stated s) (trial_of values) (has members)
  can_fall free g l held = ap (λ (z : ℤ). is_at s.settings.lo z q) (alike g (Contains-from_has members g held)) ∙ free

  first_value : x *ℤ pos (value_at values first).den ≡ (value_at values first).num *ℤ pos q
  first_value = own_value values scale first (omega (arith, inside first first_in, named))

  between : is_at s.settings.hi x q ≡ false → is_at s.settings.lo x q ≡ false → IsMean (rows_among s members) (value_at values first)
  between hi lo =
      mean_from (value_at values first).num (weighted_sum (rows_among s members)) x (total_weight (rows_among s members)) (value_at values first).den q scale first_value
      (sym (balance (rows_among s members) x q) ∙ sym summed ∙ omega (arith, ints, settled.raised (has members) closed_up (can_rise hi), settled.lowered (has members) closed_down (can_fall lo)))

  cases : (lowest : IsLowest (value_at values first)) (a b : Bool) → is_at s.settings.hi x q ≡ a → is_at s.settings.lo x q ≡ b → IsMeanOrWhole (rows_among s members) (value_at values first)
  cases lowest true b hi lo = inr (whole_at s.settings.hi (value_at values first) x q v.settings.hi lowest scale first_value hi)
  cases lowest false true hi lo = inr (whole_at s.settings.lo (value_at values first) x q v.settings.lo lowest scale first_value lo)
  cases lowest false false hi lo = inl (between hi lo)

  pub mean_or_whole : IsLowest (value_at values first) → IsMeanOrWhole (rows_among s members) (value_at values first)
  mean_or_whole lowest = cases lowest (is_at s.settings.hi x q) (is_at s.settings.lo x q) refl refl
