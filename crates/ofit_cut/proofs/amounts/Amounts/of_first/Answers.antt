use Rattle.std.proofs.Common.{rules, arith, ◌∷◌, ◌++◌, [], ap₂, sym, ◌∙◌, FitsSigned}
use Rattle.std.proofs.lemmas.Int.{to_z-of_z}
use Rattle.std.proofs.lemmas.List.{take_more}
use Rattle.std.specs.Int.{w128}
use Rattle.std.specs.Prelude.{pos}
use Rattle.ofit_cut.proofs.amounts.Amounts.of_first.Goals as goal

pub loop-edge-preserved : goal.loop-edge-preserved
loop-edge-preserved c =
    let amounts = c.args.flowed.now.amounts in
    let fits : FitsSigned w128 c.amount.result = search rules in
    c.in_ok-push.ensures.items ∙ ap₂ (λ front amount. front ++ amount ∷ []) c.loop-edge.invariant (to_z-of_z w128 c.amount.result fits ∙ c.amount.ensures)
    ∙ sym (take_more amounts c.loop-edge.edge (pos 0) (omega (arith, c.loop-edge-test.true, c.requires)))
