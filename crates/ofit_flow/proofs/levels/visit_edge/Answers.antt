use Rattle.std.proofs.Common.{rules, arith, ◌≡◌, ◌<◌, refl, sym, ◌∙◌, ap, subst, length, ℕ, List, ℤ, pos, FitsSigned, Some, None, is_some, set}
use Rattle.std.specs.Prelude.{◌<ℤ◌}
use Rattle.std.proofs.lemmas.Int.{ints, to_z-of_z}
use mir.Syntax.{w128}
use Rattle.ofit_flow.specs.Flow.{amount_at, edge_at}
use Rattle.ofit_flow.specs.Levels.{level_at, IsArc}
use Rattle.ofit_flow.specs.Residual.{residual}
use Rattle.ofit_flow.specs.Search.{Extends, IsSearch}
use Rattle.ofit_flow.proofs.Searching.{search_step, top_more, level_read, none_of}
use Rattle.ofit_flow.proofs.levels.visit_edge.Goals as goal
use Rattle.ofit_flow.proofs.levels.visit_edge.Goals.{else-room-gt0-via-then-room-gt0+else-is_none, else-room-gt0-via-else-room-gt0}

pub returns-in_ok-push : goal.returns-in_ok-push
returns-in_ok-push c =
    let levels = c.args.search.now.levels.items in
    let amount : ℤ = amount_at c.args.amounts.now c.args.number in
    let fits : FitsSigned w128 amount = search rules in
    let room : c.residual-room.result ≡ residual (edge_at c.args.edges.now c.args.number) amount c.args.node = c.residual-room.ensures ∙ ap (λ (z : ℤ). residual (edge_at c.args.edges.now c.args.number) z c.args.node) (to_z-of_z w128 amount fits) in
    let within : c.other_end-to.result < length levels = search rules in
    let new : level_at levels c.other_end-to.result ≡ None = level_read levels c.other_end-to.result c.index.result.now within c.index.ensures ∙ none_of c.index.result.now c.if-is_none.ensures in
    let wide : pos 0 <ℤ c.residual-room.result = omega (arith, ints) in
    let arc : IsArc c.args.edges.now c.args.amounts.now c.args.node c.args.number c.other_end-to.result = record { numbered = c.requires.numbered; leaves = c.requires.touches; arrives = sym c.other_end-to.ensures; room = subst (λ (z : ℤ). pos 0 <ℤ z) room wide } in
    let levels' = set levels c.other_end-to.result (Some c.args.above) in
    let step = search_step c.args.edges.now c.args.amounts.now c.args.search.now.start levels c.args.search.now.queue.items c.args.node c.other_end-to.result c.args.number c.args.above c.requires.search within new c.requires.levelled c.requires.above c.requires.top arc in
    record {
      start = refl;
      search = subst (λ (queue : List ℕ). IsSearch c.args.edges.now c.args.amounts.now c.args.search.now.start levels' queue) (sym c.in_ok-push.ensures.items) step.0;
      extends = subst (λ (queue : List ℕ). Extends levels c.args.search.now.queue.items levels' queue) (sym c.in_ok-push.ensures.items) step.1;
      top = top_more c.args.edges.now c.args.amounts.now c.args.search.now.start levels c.args.search.now.queue.items c.args.node c.other_end-to.result c.args.number c.args.above c.requires.search within new c.requires.levelled c.requires.above c.requires.top arc;
      led_on = λ h. ap (λ (v : ℕ). is_some (level_at levels' v)) (sym c.other_end-to.ensures) ∙ step.2;
    }

pub returns-else-room-gt0-clause-led_on : goal.returns-else-room-gt0-clause-led_on
returns-else-room-gt0-clause-led_on c = λ room. elim c.else-room-gt0.branch [
  | else-room-gt0-via-then-room-gt0+else-is_none w ↦
      let levels = c.args.search.now.levels.items in
      let within : c.other_end-to.result < length levels = search rules in
      let here : level_at levels c.other_end-to.result ≡ w.index.result.now = level_read levels c.other_end-to.result w.index.result.now within w.index.ensures in
      ap (λ (v : ℕ). is_some (level_at levels v)) (sym c.other_end-to.ensures) ∙ ap is_some here ∙ w.if-is_none.ensures
  | else-room-gt0-via-else-room-gt0 w ↦
      let amount : ℤ = amount_at c.args.amounts.now c.args.number in
      let fits : FitsSigned w128 amount = search rules in
      let same : c.residual-room.result ≡ residual (edge_at c.args.edges.now c.args.number) amount c.args.node = c.residual-room.ensures ∙ ap (λ (z : ℤ). residual (edge_at c.args.edges.now c.args.number) z c.args.node) (to_z-of_z w128 amount fits) in
      absurd (omega (arith, ints, same, room, w.if-room-gt0.false))
]
