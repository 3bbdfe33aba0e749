use Rattle.std.proofs.Common.{◌∙◌, ℕ, List, length, sym, ap, subst, arith}
use Rattle.std.specs.List.{zip}
use Rattle.std.specs.Prelude.{ℤ}
use Rattle.ofit_num.specs.Loss.{median}
use Rattle.ofit_cut.specs.Sets.{AreWithin}
use Rattle.ofit_cert.specs.TightFlows.{Certify}
use Rattle.ofit_sides.specs.FirstFit.{rows_at, first_chain}
use Rattle.ofit_sides.specs.Leaving.{RiseByLow, AreLeaving}
use Rattle.ofit_sides.specs.Sides.{IsRise}
use Rattle.ofit_sides.proofs.Making.{least_fit}
use Rattle.ofit_sides.proofs.Neighbours.{tight_within, tight_rise, tight_few}
use Rattle.ofit_sides.proofs.OwnWhole.{as_long}
use Rattle.ofit_sides.proofs.Rising.{is_rise}
use Rattle.ofit_sides.proofs.steps.rise_of.Goals as goal

pub whole_values-requires : goal.whole_values-requires
whole_values-requires c = least_fit c.args.groups.now c.args.values.now c.requires.fittable c.requires.fit

pub certifying_amounts-requires-clause-whole : goal.certifying_amounts-requires-clause-whole
certifying_amounts-requires-clause-whole c = record { whole = c.in_ok-whole.whole.items; same = c.in_ok-whole.ensures.whole; small = c.in_ok-whole.ensures.small }

pub certifying_amounts-requires-clause-tight : goal.certifying_amounts-requires-clause-tight
certifying_amounts-requires-clause-tight c = c.as_slice.ensures.value ∙ c.in_ok-pairs.ensures

pub leaving_of-requires-clause-within : goal.leaving_of-requires-clause-within
leaving_of-requires-clause-within c = subst (λ (pairs : List (ℕ × ℕ)). AreWithin pairs (length c.args.values.now)) (sym (c.as_slice-2.ensures.value ∙ c.in_ok-pairs.ensures)) (tight_within c.args.values.now)

pub leaving_of-requires-clause-rising : goal.leaving_of-requires-clause-rising
leaving_of-requires-clause-rising c = subst RiseByLow (sym (c.as_slice-2.ensures.value ∙ c.in_ok-pairs.ensures)) (tight_rise c.args.values.now)

pub leaving_of-requires-clause-counted : goal.leaving_of-requires-clause-counted
leaving_of-requires-clause-counted c = c.in_ok-amounts.ensures.flows.counted ∙ ap (λ (pairs : List (ℕ × ℕ)). length pairs) (c.as_slice.ensures.value ∙ sym c.as_slice-2.ensures.value)

pub leaving_of-requires-clause-few_pairs : goal.leaving_of-requires-clause-few_pairs
leaving_of-requires-clause-few_pairs c = omega (arith, ap (λ (pairs : List (ℕ × ℕ)). length pairs) (c.as_slice-2.ensures.value ∙ c.in_ok-pairs.ensures), tight_few c.args.values.now, c.requires.few)

pub steps_of-requires : goal.steps_of-requires
steps_of-requires c = omega (
  arith,
  ap (λ (xs : List ℤ). length xs) c.as_slice-3.ensures.value,
  ap (λ (xs : List ℤ). length xs) c.as_slice-4.ensures.value,
  c.in_ok-flows.ensures.count,
  as_long c.args.values.now c.in_ok-whole.whole.items c.in_ok-whole.ensures.whole,
)

pub returns : goal.returns
returns c =
    let fs = c.args.values.now in
    let pairs_are = c.as_slice.ensures.value ∙ c.in_ok-pairs.ensures in
    let others_are = c.as_slice-2.ensures.value ∙ c.in_ok-pairs.ensures in
    let certify = subst (λ (pairs : List (ℕ × ℕ)). Certify median (first_chain c.args.groups.now (length fs)) fs pairs c.in_ok-amounts.amounts) pairs_are c.in_ok-amounts.ensures in
    let leaving = subst (λ (pairs : List (ℕ × ℕ)). AreLeaving (length fs) pairs c.in_ok-amounts.amounts c.in_ok-flows.flows.items) others_are c.in_ok-flows.ensures in
    let rise = is_rise c.args.groups.now fs c.requires.fit c.in_ok-whole.whole.items c.in_ok-whole.ensures.whole c.in_ok-whole.ensures.small c.in_ok-amounts.amounts certify c.in_ok-flows.flows.items leaving in
    let steps_are = c.in_ok-steps.ensures ∙ ap (λ (xs : List ℤ). zip xs c.as_slice-4.result.now) c.as_slice-3.ensures.value ∙ ap (λ (xs : List ℤ). zip c.in_ok-whole.whole.items xs) c.as_slice-4.ensures.value in
    subst (IsRise (rows_at c.args.groups.now) (length fs)) (sym (c.make.ensures ∙ steps_are)) rise
