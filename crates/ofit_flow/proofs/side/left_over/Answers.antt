use Rattle.std.proofs.Common.{arith, ◌≡◌, length, pos, sym, ◌∙◌}
use Rattle.std.proofs.lemmas.List.{ext_get_or}
use Rattle.ofit_flow.specs.Residual.{left_over}
use Rattle.ofit_flow.proofs.Optimal.{amount_at-left_over, length-left_over}
use Rattle.ofit_flow.proofs.side.left_over.Goals as goal

pub returns : goal.returns
returns c =
    let es = c.args.edges.now in
    let xs = c.args.amounts.now in
    let all : c.loop-number.number ≡ length es = omega arith in
    ext_get_or (pos 0) c.loop-number.left.items (left_over es xs)
    (omega (arith, c.loop-number.invariant.0, all, length-left_over es xs c.requires.counted))
    (λ k b. c.loop-number.invariant.1 k (omega (arith, c.loop-number.invariant.0)) ∙ sym (amount_at-left_over es xs c.requires.counted k (omega (arith, c.loop-number.invariant.0, all))))
