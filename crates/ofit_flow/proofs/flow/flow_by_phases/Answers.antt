use Rattle.std.proofs.Common.{arith, refl, ap, subst, ◌∙◌, List, ℤ, is_some}
use Rattle.std.proofs.lemmas.Int.{ints}
use Rattle.ofit_flow.specs.Levels.{IsLevelled, IsSearched}
use Rattle.ofit_flow.proofs.Augmenting.{no_flow}
use Rattle.ofit_flow.proofs.Searching.{level_read, level_of}
use Rattle.ofit_flow.proofs.Counting.{sink_above, phased_more}
use Rattle.ofit_flow.proofs.flow.flow_by_phases.Goals as goal

pub loop-walk-init : goal.loop-walk-init
loop-walk-init c =
    let none = no_flow c.args.edges.now c.args.source c.args.sink _ c.in_ok-flow.flow.amounts.items c.requires.edges_in c.in_ok-flow.ensures.amounts in
    record {
      flow = none.0;
      valued = c.in_ok-flow.ensures.value ∙ none.1;
      gained = omega (arith, ints, c.in_ok-flow.ensures.value);
      counted = refl;
      spent_counted = omega (arith, c.in_ok-walk.ensures, c.len.ensures, c.args.search.now.levels.ok.0);
      last = 0;
      last_in = omega (arith, c.requires.source_in);
      further = sink_above c.args.edges.now c.in_ok-flow.flow.amounts.items c.args.source c.args.sink c.requires.apart;
      begun = omega arith;
      by_level = omega arith;
    }

pub build_levels-requires-clause-rows : goal.build_levels-requires-clause-rows
build_levels-requires-clause-rows c = λ node b. c.requires.rows node (omega (arith, c.loop-walk.invariant.counted))

pub block-requires-clause-rows : goal.block-requires-clause-rows
block-requires-clause-rows c = λ node b. c.requires.rows node (omega (arith, c.loop-walk.invariant.counted, c.in_ok-build_levels.ensures.counted))

pub loop-walk-preserved : goal.loop-walk-preserved
loop-walk-preserved c =
    let h = c.loop-walk.invariant in
    let built = c.build_levels.new.search.levels.items in
    let searched : IsSearched c.args.edges.now c.loop-walk.flow.amounts.items c.args.source c.args.sink built =
    subst (λ (xs : List ℤ). IsSearched c.args.edges.now xs c.args.source c.args.sink built) c.as_slice.ensures.value c.in_ok-build_levels.ensures.searched in
    let reached : IsLevelled built c.args.sink = ap is_some (level_read built c.args.sink c.index.result.now (omega (arith, h.counted, c.in_ok-build_levels.ensures.counted, c.requires.sink_in)) c.index.ensures) ∙ c.if-is_none.ensures in
    let level = level_of built c.args.sink reached in
    phased_more level.0 c.build_levels.new.phases.count h searched (c.in_ok-build_levels.ensures.counted ∙ h.counted) level.1 (c.in_ok-block.ensures.further level.0 level.1)
    c.in_ok-block.ensures.flow c.in_ok-block.ensures.value c.in_ok-block.ensures.gained
    (c.in_ok-block.ensures.counted ∙ c.in_ok-build_levels.ensures.counted ∙ h.counted) (c.in_ok-block.ensures.spent ∙ h.spent_counted) c.build_levels.ensures.phase
