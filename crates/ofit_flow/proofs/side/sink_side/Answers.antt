use Rattle.std.proofs.Common.{sym, subst, ◌∙◌, ap, List, ℤ, Bool, map, is_some}
use Rattle.std.proofs.lemmas.Result.{IfOk-weaker}
use Rattle.ofit_flow.specs.Flow.{IsWithin}
use Rattle.ofit_flow.specs.Levels.{IsSearched}
use Rattle.ofit_flow.specs.Network.{members}
use Rattle.ofit_flow.specs.Reach.{IsReach}
use Rattle.ofit_flow.specs.Residual.{left_over}
use Rattle.ofit_flow.proofs.Optimal.{within-left_over}
use Rattle.ofit_flow.proofs.Sides.{far_reach}
use Rattle.ofit_flow.proofs.side.sink_side.Goals as goal

pub search_levels-requires-clause-net : goal.search_levels-requires-clause-net
search_levels-requires-clause-net c = record {
  few = c.requires.net.few;
  edges_in = c.requires.net.edges_in;
  within = subst (IsWithin c.args.edges.now) (sym (c.as_slice.ensures.value ∙ c.in_ok-left.ensures)) (within-left_over c.args.edges.now c.args.amounts.now c.requires.net.within);
}

pub returns-clause-reach : goal.returns-clause-reach
returns-clause-reach c =
    let searched : IsSearched c.args.edges.now (left_over c.args.edges.now c.args.amounts.now) c.args.sink c.args.source c.search_levels.new.search.levels.items =
    subst (λ (xs : List ℤ). IsSearched c.args.edges.now xs c.args.sink c.args.source c.search_levels.new.search.levels.items) (c.as_slice.ensures.value ∙ c.in_ok-left.ensures) c.in_ok-search_levels.ensures.searched in
    IfOk-weaker c.levelled.result _ _ (λ side e.
    subst (λ (s : List Bool). IsReach c.args.edges.now (left_over c.args.edges.now c.args.amounts.now) c.args.sink (members s)) (sym (e ∙ ap (map is_some) c.as_slice-2.ensures.value))
    (far_reach c.requires.net.within c.requires.blocked searched))
    c.levelled.ensures
