use Rattle.std.proofs.Common.{arith, ◌≡◌, ap, subst, Bool, true, eqb, cond, ◌≤ℤ◌, ◌+ℤ◌, ◌-ℤ◌, sym}
use Rattle.std.proofs.lemmas.Int.{ints}
use Rattle.std.proofs.lemmas.Bool.{eq-eqb}
use Rattle.ofit_flow.proofs.edge.Edge.pushed.Goals as goal

pub overflow_add-result : goal.overflow_add-result
overflow_add-result c =
    let edge = c.args.self.now in
    let room : c.args.by ≤ℤ (edge.cap -ℤ c.args.amount) = subst (λ (b : Bool). c.args.by ≤ℤ cond b (edge.cap -ℤ c.args.amount) c.args.amount) (eq-eqb c.args.self.now.from c.args.node c.if-self-node.true) c.requires.room in
    omega (arith, ints)

pub returns-then-self-node : goal.returns-then-self-node
returns-then-self-node c =
    let edge = c.args.self.now in
    let room : c.args.by ≤ℤ (edge.cap -ℤ c.args.amount) = subst (λ (b : Bool). c.args.by ≤ℤ cond b (edge.cap -ℤ c.args.amount) c.args.amount) (eq-eqb c.args.self.now.from c.args.node c.if-self-node.true) c.requires.room in
    let forwards : cond true (c.args.amount +ℤ c.args.by) (c.args.amount -ℤ c.args.by) ≡ cond (eqb edge.from c.args.node) (c.args.amount +ℤ c.args.by) (c.args.amount -ℤ c.args.by) =
    ap (λ (b : Bool). cond b (c.args.amount +ℤ c.args.by) (c.args.amount -ℤ c.args.by)) (sym (eq-eqb c.args.self.now.from c.args.node c.if-self-node.true)) in
    omega (arith, ints, forwards)
