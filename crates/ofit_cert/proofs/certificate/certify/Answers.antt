use Rattle.std.proofs.Common.{◌∙◌, ℕ, List, length, sym, ap, arith}
use Rattle.ofit_cert.specs.TightFlows.{flows_along}
use Rattle.ofit_cert.proofs.Places.{tight_few}
use Rattle.ofit_cert.proofs.Made.{told_parts, told_values_few, told_flows_few, told_fits, told_passes, told_values}
use Rattle.ofit_cert.proofs.certificate.certify.Goals as goal

pub flows_of-requires-clause-few : goal.flows_of-requires-clause-few
flows_of-requires-clause-few c = omega (arith, ap length c.as_slice-2.ensures.value, ap length c.in_ok-pairs.ensures, tight_few c.args.study.now c.keeps_limits.ensures.valid c.args.values.now)

pub sheet_of-requires-clause-parts : goal.sheet_of-requires-clause-parts
sheet_of-requires-clause-parts c =
    told_parts c.args.study.now c.keeps_limits.ensures.valid c.args.values.now c.in_ok-amounts.ensures.fractions c.requires.best c.as_slice.result.now (c.as_slice.ensures.value ∙ c.in_ok-pairs.ensures)
    c.in_ok-amounts.amounts c.in_ok-amounts.ensures.certify c.in_ok-entries.entries.items c.in_ok-entries.ensures c.in_ok-flows.flows.items (c.in_ok-flows.ensures ∙ ap (λ (es : List (ℕ × ℕ)). flows_along es c.in_ok-amounts.amounts) (c.as_slice-2.ensures.value ∙ sym c.as_slice.ensures.value))

pub sheet_of-requires-clause-few_entries : goal.sheet_of-requires-clause-few_entries
sheet_of-requires-clause-few_entries c =
    omega (
      arith,
      told_values_few c.args.study.now c.keeps_limits.ensures.valid c.args.values.now c.in_ok-amounts.ensures.fractions c.requires.best c.as_slice.result.now (c.as_slice.ensures.value ∙ c.in_ok-pairs.ensures)
          c.in_ok-amounts.amounts c.in_ok-amounts.ensures.certify c.in_ok-entries.entries.items c.in_ok-entries.ensures c.in_ok-flows.flows.items (c.in_ok-flows.ensures ∙ ap (λ (es : List (ℕ × ℕ)). flows_along es c.in_ok-amounts.amounts) (c.as_slice-2.ensures.value ∙ sym c.as_slice.ensures.value)),
    )

pub sheet_of-requires-clause-few_flows : goal.sheet_of-requires-clause-few_flows
sheet_of-requires-clause-few_flows c =
    omega (
      arith,
      told_flows_few c.args.study.now c.keeps_limits.ensures.valid c.args.values.now c.in_ok-amounts.ensures.fractions c.requires.best c.as_slice.result.now (c.as_slice.ensures.value ∙ c.in_ok-pairs.ensures)
          c.in_ok-amounts.amounts c.in_ok-amounts.ensures.certify c.in_ok-entries.entries.items c.in_ok-entries.ensures c.in_ok-flows.flows.items (c.in_ok-flows.ensures ∙ ap (λ (es : List (ℕ × ℕ)). flows_along es c.in_ok-amounts.amounts) (c.as_slice-2.ensures.value ∙ sym c.as_slice.ensures.value)),
    )

pub returns-clause-fits : goal.returns-clause-fits
returns-clause-fits c =
    told_fits c.args.study.now c.keeps_limits.ensures.valid c.args.values.now c.in_ok-amounts.ensures.fractions c.requires.best c.as_slice.result.now (c.as_slice.ensures.value ∙ c.in_ok-pairs.ensures)
    c.in_ok-amounts.amounts c.in_ok-amounts.ensures.certify c.in_ok-entries.entries.items c.in_ok-entries.ensures c.in_ok-flows.flows.items (c.in_ok-flows.ensures ∙ ap (λ (es : List (ℕ × ℕ)). flows_along es c.in_ok-amounts.amounts) (c.as_slice-2.ensures.value ∙ sym c.as_slice.ensures.value)) c.sheet_of.result c.sheet_of.ensures

pub returns-clause-passes : goal.returns-clause-passes
returns-clause-passes c =
    told_passes c.args.study.now c.keeps_limits.ensures.valid c.args.values.now c.in_ok-amounts.ensures.fractions c.requires.best c.as_slice.result.now (c.as_slice.ensures.value ∙ c.in_ok-pairs.ensures)
    c.in_ok-amounts.amounts c.in_ok-amounts.ensures.certify c.in_ok-entries.entries.items c.in_ok-entries.ensures c.in_ok-flows.flows.items (c.in_ok-flows.ensures ∙ ap (λ (es : List (ℕ × ℕ)). flows_along es c.in_ok-amounts.amounts) (c.as_slice-2.ensures.value ∙ sym c.as_slice.ensures.value)) c.sheet_of.result c.sheet_of.ensures

pub returns-clause-values : goal.returns-clause-values
returns-clause-values c =
    told_values c.args.study.now c.keeps_limits.ensures.valid c.args.values.now c.in_ok-amounts.ensures.fractions c.requires.best c.as_slice.result.now (c.as_slice.ensures.value ∙ c.in_ok-pairs.ensures)
    c.in_ok-amounts.amounts c.in_ok-amounts.ensures.certify c.in_ok-entries.entries.items c.in_ok-entries.ensures c.in_ok-flows.flows.items (c.in_ok-flows.ensures ∙ ap (λ (es : List (ℕ × ℕ)). flows_along es c.in_ok-amounts.amounts) (c.as_slice-2.ensures.value ∙ sym c.as_slice.ensures.value)) c.sheet_of.result c.sheet_of.ensures
