use Rattle.std.proofs.Common.{arith, ℕ, length, replicate, sym, ◌∙◌, Option, None}
use Rattle.std.proofs.lemmas.List.{ext_get_or, get_or-replicate, length-replicate}
use Rattle.ofit_flow.proofs.levels.forget.Goals as goal

pub returns : goal.returns
returns c =
    ext_get_or {A = Option ℕ} None c.loop-node.levels.items (replicate (length c.args.levels.now.items) None)
    (omega (arith, c.loop-node.invariant.0, length-replicate {A = Option ℕ} (length c.args.levels.now.items) None))
    (λ v b. c.loop-node.invariant.1 v (omega (arith, c.loop-node.invariant.0, c.args.levels.now.ok.0)) ∙ sym (get_or-replicate {A = Option ℕ} (length c.args.levels.now.items) v None None (omega (arith, c.loop-node.invariant.0))))
