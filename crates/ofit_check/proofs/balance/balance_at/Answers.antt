use Rattle.std.proofs.Common.{◌≡◌, ◌∙◌, ℕ, ◌+◌, ◌<◌, ◌≤◌, List, length, take, get_or, sym, ap, ap₂, refl, subst, arith, rules, FitsSigned, to_z, of_z}
use Rattle.std.proofs.lemmas.Int.{ints, to_z-of_z}
use Rattle.std.proofs.lemmas.List.{length-map, take_more, take_all}
use Rattle.std.proofs.lemmas.List.Elements.{All-get_or}
use Rattle.std.proofs.lemmas.Option.{get_or_from_slice_get}
use Rattle.std.specs.Int.{w128}
use Rattle.std.specs.Prelude.{ℤ, ◌+ℤ◌, All, unsigned_abs}
use Rattle.ofit_num.specs.Sheet.{Sheet}
use Rattle.ofit_num.proofs.Lists.{AllByRecursion-from_each}
use Rattle.ofit_study.specs.declared.settings.Settings.{Settings}
use Rattle.ofit_study.specs.Ends.{indexes_at}
use Rattle.ofit_study.specs.Study.{Study, IsValid, names_of, places_of, place_among}
use Rattle.ofit_study.proofs.Stating.{pairs_distinct}
use Rattle.ofit_check.specs.Check.{amount_along, signed_amount}
use Rattle.ofit_check.proofs.Balances.{int_sum_by, int_sum_by-push, balance-by_pairs, indexes_inside, indexes_few}
use Rattle.ofit_check.proofs.balance.balance_at.Goals as goal

-- what the pair at an index adds
abbrev term : Study → Sheet Settings → ℕ → ℕ → ℤ
term s x g i = signed_amount g (get_or (places_of s) i (0, 0)) (amount_along x.flows (get_or (places_of s) i (0, 0)))

pair_count : (s : Study) → length (places_of s) ≡ length s.pairs
pair_count s = length-map s.pairs (λ e. (place_among (names_of s) e.0, place_among (names_of s) e.1))

inside : (s : Study) → IsValid s → (g k : ℕ) (indexes : List ℕ) → indexes ≡ indexes_at (places_of s) g → k < length indexes → get_or indexes k 0 < length s.pairs
inside s v g k indexes e l =
    let all : All (λ i. i < length (places_of s)) indexes = subst (All (λ i. i < length (places_of s))) (sym e) (indexes_inside (places_of s) (pairs_distinct s v) g) in
    omega (arith, pair_count s, All-get_or (λ i. i < length (places_of s)) indexes k 0 l all)

few : (s : Study) → IsValid s → (g : ℕ) (indexes : List ℕ) → indexes ≡ indexes_at (places_of s) g → length indexes ≤ 20000
few s v g indexes e = omega (arith, ap length e, indexes_few (places_of s) g, pair_count s, v.pairs)

more : (h : ℕ → ℤ) (is : List ℕ) (k : ℕ) → k < length is → int_sum_by h (take (k + 1) is) ≡ int_sum_by h (take k is) +ℤ h (get_or is k 0)
more h is k l = ap (int_sum_by h) (take_more is k 0 l) ∙ int_sum_by-push h (take k is) (get_or is k 0)

pub amount_on-amount-requires-clause-index : goal.amount_on-amount-requires-clause-index
amount_on-amount-requires-clause-index c = inside c.args.study.now c.requires.valid c.args.place c.loop-index.index-index c.pairs_at-index-items.result.now c.pairs_at-index-items.ensures c.loop-index-test.true

pub pair_at-requires : goal.pair_at-requires
pair_at-requires c = inside c.args.study.now c.requires.valid c.args.place c.loop-index.index-index c.pairs_at-index-items.result.now c.pairs_at-index-items.ensures c.loop-index-test.true

pub plus-balance-requires-clause-sum : goal.plus-balance-requires-clause-sum
plus-balance-requires-clause-sum c =
    omega (arith, ints, c.loop-index.invariant.size, c.loop-index-test.true, few c.args.study.now c.requires.valid c.args.place c.pairs_at-index-items.result.now c.pairs_at-index-items.ensures)

pub loop-index-preserved : goal.loop-index-preserved
loop-index-preserved c =
    let s = c.args.study.now in
    let x = c.args.sheet.now in
    let indexes = c.pairs_at-index-items.result.now in
    let k = c.loop-index.index-index in
    let i = get_or indexes k 0 in
    let here : get_or (places_of s) i (0, 0) ≡ c.pair_at.result = get_or_from_slice_get (places_of s) i c.pair_at.result (0, 0) c.pair_at.ensures in
    let fits_amount : FitsSigned w128 c.amount_on-amount.result = search rules in
    let amount_is : to_z w128 (of_z w128 c.amount_on-amount.result) ≡ c.amount_on-amount.result = simp to_z-of_z refl in
    let amount : unsigned_abs (to_z w128 (of_z w128 c.amount_on-amount.result)) ≡ amount_along x.flows (get_or (places_of s) i (0, 0)) = ap unsigned_abs (amount_is ∙ c.amount_on-amount.ensures.amount) in
    let added : signed_amount c.args.place c.pair_at.result (unsigned_abs (to_z w128 (of_z w128 c.amount_on-amount.result))) ≡ term s x c.args.place i = ap₂ (λ (e : ℕ × ℕ) (n : ℕ). signed_amount c.args.place e n) (sym here) amount in
    let fits_sum : FitsSigned w128 c.plus-balance.result = search rules in
    let fits_share : FitsSigned w128 c.share.result = search rules in
    let sum_is : to_z w128 (of_z w128 c.plus-balance.result) ≡ c.plus-balance.result = simp to_z-of_z refl in
    let share_is : to_z w128 (of_z w128 c.share.result) ≡ c.share.result = simp to_z-of_z refl in
    let total : to_z w128 (of_z w128 c.plus-balance.result) ≡ to_z w128 c.loop-index.balance-bits +ℤ term s x c.args.place i =
    sum_is ∙ c.plus-balance.ensures.exact ∙ ap (λ (z : ℤ). to_z w128 c.loop-index.balance-bits +ℤ z) (share_is ∙ c.share.ensures.exact ∙ added) in
    record {
      value = total ∙ ap (λ (z : ℤ). z +ℤ term s x c.args.place i) c.loop-index.invariant.value ∙ sym (more (term s x c.args.place) indexes k c.loop-index-test.true);
      size = omega (arith, ints, c.plus-balance.ensures.size, c.share.ensures.size, c.loop-index.invariant.size);
    }

pub returns : goal.returns
returns c =
    let s = c.args.study.now in
    let x = c.args.sheet.now in
    let indexes = c.pairs_at-index-items.result.now in
    let k = c.loop-index.index-index in
    c.loop-index.invariant.value
    ∙ ap (int_sum_by (term s x c.args.place)) (take_all k indexes c.loop-index-test.false ∙ c.pairs_at-index-items.ensures)
    ∙ balance-by_pairs (places_of s) (pairs_distinct s c.requires.valid) c.args.place x.flows (AllByRecursion-from_each _ x.flows c.requires.on_pairs)
