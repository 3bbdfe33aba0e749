use Rattle.std.proofs.Common.{◌≡◌, ◌∙◌, ℕ, List, ◌∷◌, ◌++◌, [], get_or, refl, sym, ap, arith, rules, map, FitsSigned, to_z, of_z, Vec, Global}
use Rattle.std.proofs.lemmas.Int.{to_z-of_z}
use Rattle.std.proofs.lemmas.List.{take_all}
use Rattle.std.proofs.lemmas.Slice.Zip.{length-zip}
use Rattle.std.specs.Int.{w128}
use Rattle.std.specs.List.{filter, zip}
use Rattle.std.specs.Prelude.{ℤ}
use Rattle.ofit_cert.specs.TightFlows.{is_above_zero}
use Rattle.ofit_cert.proofs.Steps.{flow_more, flow_less}
use Rattle.ofit_cert.proofs.flows.flows_of.Goals as goal
use Rattle.ofit_cert.proofs.flows.flows_of.Goals.{then-is_flow+in_ok-push, else-is_flow}

kept : (z : ℤ) → FitsSigned w128 z → to_z w128 (of_z w128 z) ≡ z
kept z fits = simp to_z-of_z refl

pub loop-index-preserved : goal.loop-index-preserved
loop-index-preserved c =
    let pairs = c.args.pairs.now in
    let amounts = c.args.amounts.now in
    let i = c.loop-index.index in
    let amount = to_z w128 (of_z w128 c.amount-amount.result) in
    let fits : FitsSigned w128 c.amount-amount.result = search rules in
    let is = kept c.amount-amount.result fits ∙ c.amount-amount.ensures in
    let amount_told = c.is_flow.ensures in
    elim c.if-is_flow.branch [
      | then-is_flow+in_ok-push w ↦
          ap (λ (v : Vec (ℕ × ℕ × ℤ) Global). v.items) w.flows-is ∙ w.in_ok-push.ensures.items
          ∙ ap (λ (fs : List (ℕ × ℕ × ℤ)). fs ++ ((get_or pairs i (0, 0)).0, (get_or pairs i (0, 0)).1, amount) ∷ []) c.loop-index.invariant
          ∙ sym (flow_more pairs amounts i amount c.loop-index-test.true c.requires.counted is (sym amount_told ∙ w.if-is_flow.true))
      | else-is_flow w ↦
          ap (λ (v : Vec (ℕ × ℕ × ℤ) Global). v.items) w.flows-is ∙ c.loop-index.invariant
          ∙ sym (flow_less pairs amounts i amount c.loop-index-test.true c.requires.counted is (sym amount_told ∙ w.if-is_flow.false))
    ]

pub returns : goal.returns
returns c =
    c.loop-index.invariant
    ∙ ap (λ (es : List ((ℕ × ℕ) × ℤ)). map (λ e. (e.0.0, e.0.1, e.1)) (filter (λ e. is_above_zero e.1) es)) (take_all c.loop-index.index (zip c.args.pairs.now c.args.amounts.now) (omega (arith, length-zip c.args.pairs.now c.args.amounts.now, c.requires.counted, c.loop-index-test.false)))
