-- Flows along pairs keep what the pairs have, their order and their balances.
use Rattle.std.proofs.Common.{◌≡◌, ℕ, zero, suc, ◌*◌, ◌<◌, ◌≤◌, ◌^◌, List, [], ◌∷◌, length, refl, sym, subst, arith, Bool, true, false, cond, nat_eq, get_or, map}
use Rattle.std.proofs.lemmas.Int.{ints}
use Rattle.std.proofs.lemmas.List.{length-map, get_or-map}
use Rattle.std.proofs.lemmas.List.Elements.{All-nil, All-cons, All-head, All-tail, All-filter, All-map, All-weaker, filter_passes}
use Rattle.std.proofs.lemmas.List.Kept.{AllPairs-filter}
use Rattle.std.proofs.lemmas.List.Sums.{length-filter, count_by-le-length}
use Rattle.std.proofs.lemmas.Option.{slice_get-get_or}
use Rattle.std.proofs.lemmas.Slice.Zip.{get_or-zip, length-zip}
use Rattle.std.specs.List.{filter, zip}
use Rattle.std.specs.Prelude.{ℤ, pos, negsuc, ◌+ℤ◌, ◌-ℤ◌, ◌≤ℤ◌, unsigned_abs, All, AllPairs}
use Rattle.ofit_num.specs.Flow.{Flow}
use Rattle.ofit_num.specs.Flow as num
use Rattle.ofit_num.specs.Problem.{Problem}
use Rattle.ofit_num.specs.Verdict.{StandsBefore}
use Rattle.ofit_cut.specs.Balance as cut
use Rattle.ofit_sheet.specs.Kept.{most_amount}
use Rattle.ofit_sheet.specs.Parts.{flow_of}
use Rattle.ofit_cert.specs.TightFlows.{is_above_zero, flows_along}
use Rattle.ofit_num.proofs.LowestTerms.{positive_size}

abbrev carries : (ℕ × ℕ) × ℤ → Bool
carries e = is_above_zero e.1

abbrev flat : (ℕ × ℕ) × ℤ → ℕ × ℕ × ℤ
flat e = (e.0.0, e.0.1, e.1)

-- what each first part has, and each second part
firsts : (P : ℕ × ℕ → Type 0) (pairs : List (ℕ × ℕ)) (amounts : List ℤ) → All P pairs → All (λ e. P e.0) (zip pairs amounts)
firsts P [] amounts h = All-nil (λ e. P e.0)
firsts P (e ∷ pairs) [] h = All-nil (λ e. P e.0)
firsts P (e ∷ pairs) (a ∷ amounts) h = All-cons (λ e. P e.0) (e, a) (zip pairs amounts) (All-head P e pairs h) (firsts P pairs amounts (All-tail P e pairs h))

seconds : (P : ℤ → Type 0) (pairs : List (ℕ × ℕ)) (amounts : List ℤ) → All P amounts → All (λ e. P e.1) (zip pairs amounts)
seconds P [] amounts h = All-nil (λ e. P e.1)
seconds P (e ∷ pairs) [] h = All-nil (λ e. P e.1)
seconds P (e ∷ pairs) (a ∷ amounts) h = All-cons (λ e. P e.1) (e, a) (zip pairs amounts) (All-head P a amounts h) (seconds P pairs amounts (All-tail P a amounts h))

-- flows have what all pairs have
pub flows_keep : (P : ℕ × ℕ → Type 0) (pairs : List (ℕ × ℕ)) (amounts : List ℤ) → All P pairs → All (λ f. P (f.low, f.high)) (map flow_of (flows_along pairs amounts))
flows_keep P pairs amounts h =
    All-map (λ f. P (f.low, f.high)) flow_of (flows_along pairs amounts)
    (All-map (λ f. P (f.0, f.1)) flat (filter carries (zip pairs amounts)) (All-filter carries (λ e. P e.0) (zip pairs amounts) (firsts P pairs amounts h)))

at_least_one : (z : ℤ) → is_above_zero z ≡ true → pos 1 ≤ℤ z
at_least_one (pos zero) h = cc
at_least_one (pos (suc n)) h = omega (arith, ints)
at_least_one (negsuc n) h = cc

-- amounts are from 1 on, and at most what all amounts are
pub flows_limited : (pairs : List (ℕ × ℕ)) (amounts : List ℤ) → All (λ amount. amount ≤ℤ pos (2 * 10 ^ 33)) amounts → All (λ f. (pos 1 ≤ℤ f.2) × (f.2 ≤ℤ pos most_amount)) (flows_along pairs amounts)
flows_limited pairs amounts h = All-map (λ f. (pos 1 ≤ℤ f.2) × (f.2 ≤ℤ pos most_amount)) flat (filter carries (zip pairs amounts)) both where
  high : All (λ e. e.1 ≤ℤ pos (2 * 10 ^ 33)) (filter carries (zip pairs amounts))
  high = All-filter carries (λ e. e.1 ≤ℤ pos (2 * 10 ^ 33)) (zip pairs amounts) (seconds (λ amount. amount ≤ℤ pos (2 * 10 ^ 33)) pairs amounts h)

  both : All (λ e. (pos 1 ≤ℤ e.1) × (e.1 ≤ℤ pos most_amount)) (filter carries (zip pairs amounts))
  both k d l = (at_least_one _ (filter_passes carries (zip pairs amounts) k d l), high k d l)

pub flows_carry : (pairs : List (ℕ × ℕ)) (amounts : List ℤ) → All (λ amount. amount ≤ℤ pos (2 * 10 ^ 33)) amounts → All (λ f. 0 < f.amount) (map flow_of (flows_along pairs amounts))
flows_carry pairs amounts h =
    All-map (λ f. 0 < f.amount) flow_of (flows_along pairs amounts)
    (All-weaker (λ f. (pos 1 ≤ℤ f.2) × (f.2 ≤ℤ pos most_amount)) (λ f. 0 < unsigned_abs f.2) (λ f k. positive_size f.2 k.0) (flows_along pairs amounts) (flows_limited pairs amounts h))

pub flows_few : (pairs : List (ℕ × ℕ)) (amounts : List ℤ) → length (flows_along pairs amounts) ≤ length pairs
flows_few pairs amounts = omega (
  arith,
  length-map (filter carries (zip pairs amounts)) flat,
  length-filter carries (zip pairs amounts),
  count_by-le-length carries (zip pairs amounts),
  length-zip pairs amounts,
)

-- a relation between each element and each later one
AllPairs-map : {X Y : Type 0} (R : Y → Y → Type 0) (f : X → Y) (xs : List X) → X → AllPairs (λ a b. R (f a) (f b)) xs → AllPairs R (map f xs)
AllPairs-map R f xs x h i j d l m =
    let k : j < length xs = omega (arith, length-map xs f, m) in
    subst (λ y. R y (get_or (map f xs) j d)) (sym (get_or-map f xs i x d (omega arith))) (subst (λ y. R (f (get_or xs i x)) y) (sym (get_or-map f xs j x d k)) (h i j x l k))

AllPairs-firsts : (R : ℕ × ℕ → ℕ × ℕ → Type 0) (pairs : List (ℕ × ℕ)) (amounts : List ℤ) → AllPairs R pairs → AllPairs (λ a b. R a.0 b.0) (zip pairs amounts)
AllPairs-firsts R pairs amounts h i j d l m =
    let k : (j < length pairs) × (j < length amounts) = (omega (arith, length-zip pairs amounts, m), omega (arith, length-zip pairs amounts, m)) in
    subst (λ (y : (ℕ × ℕ) × ℤ). R y.0 (get_or (zip pairs amounts) j d).0) (sym (get_or-zip pairs amounts i d (omega (arith, k.0)) (omega (arith, k.1))))
    (subst (λ (y : (ℕ × ℕ) × ℤ). R (get_or pairs i d.0) y.0) (sym (get_or-zip pairs amounts j d k.0 k.1)) (h i j d.0 l k.0))

pub flows_ordered : (R : ℕ × ℕ → ℕ × ℕ → Type 0) (pairs : List (ℕ × ℕ)) (amounts : List ℤ) → AllPairs R pairs → AllPairs (λ f h. R (f.low, f.high) (h.low, h.high)) (map flow_of (flows_along pairs amounts))
flows_ordered R pairs amounts h =
    AllPairs-map (λ f h. R (f.low, f.high) (h.low, h.high)) flow_of (flows_along pairs amounts) (0, 0, pos 0)
    (AllPairs-map (λ f h. R (f.0, f.1) (h.0, h.1)) flat (filter carries (zip pairs amounts)) ((0, 0), pos 0) (AllPairs-filter (λ a b. R a.0 b.0) carries (zip pairs amounts) (AllPairs-firsts R pairs amounts h)))

-- a pair as a flow of nothing
abbrev pub on_pair : ℕ × ℕ → Flow
on_pair e = record { low = e.0; high = e.1; amount = 0 }

-- the study's pairs stand in their own order
pub pairs_stand : (s : Problem) → AllPairs (λ e f. StandsBefore s (on_pair e) (on_pair f)) s.pairs
pairs_stand s i j d l m = record {
  first = i;
  second = j;
  rises = l;
  first_pair = slice_get-get_or s.pairs i d (omega arith);
  second_pair = slice_get-get_or s.pairs j d m;
}

-- one flow's part in a balance
part : (b c : Bool) (n : ℕ) (x y : ℤ) → x ≡ y → x +ℤ (cond b (pos n) (pos 0) -ℤ cond c (pos n) (pos 0)) ≡ y +ℤ (pos (cond b n 0) -ℤ pos (cond c n 0))
part true true n x y e = omega (arith, ints, e)
part true false n x y e = omega (arith, ints, e)
part false true n x y e = omega (arith, ints, e)
part false false n x y e = omega (arith, ints, e)

no_part : (b c : Bool) (x y : ℤ) → x ≡ y → x +ℤ (cond b (pos 0) (pos 0) -ℤ cond c (pos 0) (pos 0)) ≡ y
no_part true true x y e = omega (arith, ints, e)
no_part true false x y e = omega (arith, ints, e)
no_part false true x y e = omega (arith, ints, e)
no_part false false x y e = omega (arith, ints, e)

-- amounts of 0 add nothing to a balance
pub balances_kept : (pairs : List (ℕ × ℕ)) (amounts : List ℤ) → All (λ amount. pos 0 ≤ℤ amount) amounts → (g : ℕ) → cut.balance pairs amounts g ≡ num.balance (map flow_of (flows_along pairs amounts)) g
balances_kept [] amounts h g = refl
balances_kept (e ∷ pairs) [] h g = refl
balances_kept (e ∷ pairs) (pos zero ∷ amounts) h g =
    no_part (nat_eq g e.0) (nat_eq g e.1) _ _ (balances_kept pairs amounts (All-tail (λ amount. pos 0 ≤ℤ amount) (pos zero) amounts h) g)
balances_kept (e ∷ pairs) (pos (suc n) ∷ amounts) h g =
    part (nat_eq g e.0) (nat_eq g e.1) (suc n) _ _ (balances_kept pairs amounts (All-tail (λ amount. pos 0 ≤ℤ amount) (pos (suc n)) amounts h) g)
balances_kept (e ∷ pairs) (negsuc n ∷ amounts) h g = absurd (no_negative (All-head (λ amount. pos 0 ≤ℤ amount) (negsuc n) amounts h)) where
  no_negative : pos 0 ≤ℤ negsuc n → ⊥
  no_negative k = omega (arith, ints)
