use Rattle.std.proofs.Common.{◌<◌, ◌↔◌, ℕ, length, arith, refl, sym, subst, ◌∙◌, ap}
use Rattle.std.proofs.lemmas.List.{get_or_read}
use Rattle.ofit_order.specs.Relation.{Relation}
use Rattle.ofit_order.specs.Connection.{AreConnected}
use Rattle.ofit_order.specs.Component.{LiesIn, IsComponentOf}
use Rattle.ofit_order.specs.Numbers.{HasComponent}
use Rattle.ofit_order.proofs.Uniqueness.{only_component, connected_component}
use Rattle.ofit_order.proofs.order.Order.component_of.Goals as goal

pub returns-clause-component : goal.returns-clause-component
returns-clause-component c =
    let v = c.self.invariant in
    let place = c.args.place in
    let result = c.index.result.now in
    let inside : place < length c.self.inside.components.items = omega (arith, ap (λ (o : Relation). o.places) c.self.view_is) in
    let read = get_or_read c.self.inside.components.items place result inside c.index.ensures 0 in
    subst (λ (o : Relation). HasComponent o result) c.self.view_is (length v.least, (v.least, v.exact, refl), omega (arith, (v.lies place inside).counted, read))

pub returns-clause-only : goal.returns-clause-only
returns-clause-only c =
    let v = c.self.invariant in
    let place = c.args.place in
    let inside : place < length c.self.inside.components.items = omega (arith, ap (λ (o : Relation). o.places) c.self.view_is) in
    let read = get_or_read c.self.inside.components.items place c.index.result.now inside c.index.ensures 0 in
    λ k h. only_component _ v.least k place v.exact (v.lies place inside) (subst (λ (o : Relation). IsComponentOf o k place) (sym c.self.view_is) h) ∙ sym read

pub returns-clause-connected : goal.returns-clause-connected
returns-clause-connected c =
    let v = c.self.invariant in
    let place = c.args.place in
    let result = c.index.result.now in
    let places = ap (λ (o : Relation). o.places) c.self.view_is in
    let inside : place < length c.self.inside.components.items = omega (arith, places) in
    let read = get_or_read c.self.inside.components.items place result inside c.index.ensures 0 in
    let order : Relation = record { places = length c.self.inside.components.items; pairs = c.self.inside.pairs.items } in
    let lies = subst (λ (t : ℕ). LiesIn order v.least t place) (sym read) (v.lies place inside) in
    λ q l.
    let q_inside : q < length c.self.inside.components.items = omega (arith, places) in
    subst (λ (o : Relation). IsComponentOf o result q ↔ AreConnected o.pairs place q) c.self.view_is
    (connected_component order v.least result place q v.exact lies q_inside)
