use Rattle.std.proofs.Common.{◌<◌, ◌^◌, ℕ, List, length, slice_index, arith, refl, subst}
use Rattle.ofit_order.specs.Rows.{rows_of, row}
use Rattle.ofit_order.specs.Relation.{Relation, AreInOrder}
use Rattle.ofit_order.specs.Within.{AreWithin}
use Rattle.ofit_order.specs.Component.{IsComponentCount, IsComponentOf, AreMembers}
use Rattle.ofit_order.specs.Numbers.{HasComponent}
use Rattle.ofit_order.proofs.Linking.{length-rows_of}
use Rattle.ofit_order.proofs.order.Order.component_count.Goals as goal

pub returns-clause-count : goal.returns-clause-count
returns-clause-count c =
    let v = c.self.invariant in
    let all = length-rows_of c.self.inside.members.items in
    subst (λ (o : Relation). IsComponentCount o c.len.result) c.self.view_is (v.least, v.exact, omega (arith, all, v.counted))

pub returns-clause-each : goal.returns-clause-each
returns-clause-each c =
    let v = c.self.invariant in
    let all = length-rows_of c.self.inside.members.items in
    subst (λ (o : Relation). (k : ℕ) → k < c.len.result → HasComponent o k) c.self.view_is
    (λ k l. (length v.least, (v.least, v.exact, refl), omega (arith, l, all, v.counted)))

pub returns-clause-covers : goal.returns-clause-covers
returns-clause-covers c =
    let v = c.self.invariant in
    let all = length-rows_of c.self.inside.members.items in
    let counted = v.counted in
    subst (λ (o : Relation). (p : ℕ) → p < o.places → (k : ℕ) × (k < c.len.result) × IsComponentOf o k p) c.self.view_is
    (λ p l.
    let lies = v.lies p l in
    (slice_index c.self.inside.components.items p, omega (arith, lies.counted), (v.least, v.exact, lies)))

pub returns-clause-listed : goal.returns-clause-listed
returns-clause-listed c =
    let v = c.self.invariant in
    let all = length-rows_of c.self.inside.members.items in
    let counted = v.counted in
    subst (λ (o : Relation). (k : ℕ) → k < c.len.result → (members : List ℕ) × AreMembers o k members) c.self.view_is
    (λ k l. (row (rows_of c.self.inside.members.items) k, v.rows k (omega arith)))

pub returns-clause-small : goal.returns-clause-small
returns-clause-small c = subst (λ (o : Relation). o.places < 2 ^ 32) c.self.view_is c.self.invariant.small

pub returns-clause-within : goal.returns-clause-within
returns-clause-within c = subst (λ (o : Relation). AreWithin o.pairs o.places) c.self.view_is c.self.invariant.within

pub returns-clause-in_order : goal.returns-clause-in_order
returns-clause-in_order c = subst (λ (o : Relation). AreInOrder o.pairs) c.self.view_is c.self.invariant.in_order
