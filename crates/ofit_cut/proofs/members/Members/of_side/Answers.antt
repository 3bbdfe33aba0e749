use Rattle.std.proofs.Common.{◌+◌, ℕ, List, Bool, ap, sym, ◌∙◌, subst, Vec, Global}
use Rattle.ofit_flow.specs.Network.{members}
use Rattle.ofit_cut.specs.Members.{AreNodes, is_on_side}
use Rattle.ofit_cut.proofs.Nodes.{AreSame, nodes_push, nodes_more, same_push, same_skip, on_side, off_side}
use Rattle.ofit_cut.proofs.members.Members.of_side.Goals as goal
use Rattle.ofit_cut.proofs.members.Members.of_side.Goals.{then-source_side-inside+in_ok-push, else-source_side-inside}

pub loop-node-preserved : goal.loop-node-preserved
loop-node-preserved c =
    let n = c.loop-node.node in
    let before = c.loop-node.nodes.items in
    let set : ℕ → Bool = is_on_side (members c.args.flowed.now.source_side) c.args.inside in
    elim c.if-source_side-inside.branch [
      | then-source_side-inside+in_ok-push w ↦
          let items = ap (λ (v : Vec ℕ Global). v.items) w.nodes-is ∙ w.in_ok-push.ensures.items in
          record {
            listed = subst (AreNodes (n + 1)) (sym items) (nodes_push n before c.loop-node.invariant.listed);
            same = subst (λ (xs : List ℕ). AreSame xs set (n + 1)) (sym items)
                (same_push n before set c.loop-node.invariant.same (on_side (members c.args.flowed.now.source_side) c.args.inside c.source_side.result n c.source_side.ensures w.if-source_side-inside.true));
          }
      | else-source_side-inside w ↦
          let items = ap (λ (v : Vec ℕ Global). v.items) w.nodes-is in
          record {
            listed = subst (AreNodes (n + 1)) (sym items) (nodes_more n before c.loop-node.invariant.listed);
            same = subst (λ (xs : List ℕ). AreSame xs set (n + 1)) (sym items)
                (same_skip n before set c.loop-node.invariant.listed c.loop-node.invariant.same (off_side (members c.args.flowed.now.source_side) c.args.inside c.source_side.result n c.source_side.ensures w.if-source_side-inside.false));
          }
    ]
