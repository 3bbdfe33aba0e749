use Rattle.std.proofs.Common.{arith, ℕ, length, replicate, sym, ◌∙◌}
use Rattle.std.proofs.lemmas.List.{ext_get_or, get_or-replicate, length-replicate}
use Rattle.ofit_flow.proofs.walk.Walk.restart.Goals as goal

pub returns : goal.returns
returns c =
    ext_get_or {A = ℕ} 0 c.loop-node.self.spent.items (replicate (length c.args.self.now.spent.items) 0)
    (omega (arith, c.loop-node.invariant.0, length-replicate {A = ℕ} (length c.args.self.now.spent.items) 0))
    (λ v b. c.loop-node.invariant.1 v (omega (arith, c.loop-node.invariant.0, c.args.self.now.spent.ok.0)) ∙ sym (get_or-replicate {A = ℕ} (length c.args.self.now.spent.items) v 0 0 (omega (arith, c.loop-node.invariant.0))))
