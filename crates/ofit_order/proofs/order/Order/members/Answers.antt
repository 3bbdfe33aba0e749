use Rattle.std.proofs.Common.{◌≡◌, ◌<◌, ℕ, length, arith, sym, subst, ◌∙◌, ◌↔◌, inl, inr}
use Rattle.ofit_order.specs.Rows.{rows_of, row}
use Rattle.ofit_order.specs.Relation.{Relation}
use Rattle.std.specs.List.{Contains}
use Rattle.ofit_order.specs.Connection.{LeadsUp}
use Rattle.ofit_order.specs.Component.{AreMembers}
use Rattle.ofit_order.specs.Numbers.{HasComponent}
use Rattle.ofit_order.proofs.Linking.{length-rows_of, row_read}
use Rattle.ofit_order.proofs.Uniqueness.{HasComponent-below, members_along}
use Rattle.ofit_order.proofs.order.Order.members.Goals as goal

pub index-requires : goal.index-requires
index-requires c =
    let v = c.self.invariant in
    let below = HasComponent-below _ v.least c.args.component v.exact (subst (λ (o : Relation). HasComponent o c.args.component) (sym c.self.view_is) c.requires) in
    let all = length-rows_of c.self.inside.members.items in
    let counted = v.counted in
    omega arith

pub returns-clause-members : goal.returns-clause-members
returns-clause-members c =
    let v = c.self.invariant in
    let at = c.args.component in
    let below = HasComponent-below _ v.least at v.exact (subst (λ (o : Relation). HasComponent o at) (sym c.self.view_is) c.requires) in
    let all = length-rows_of c.self.inside.members.items in
    let counted = v.counted in
    let inside : at < length c.self.inside.members.items = omega arith in
    let read : row (rows_of c.self.inside.members.items) at ≡ c.as_slice.result.now =
    row_read c.self.inside.members.items at c.index.result.now inside c.index.ensures ∙ sym c.as_slice.ensures.value in
    subst (λ (o : Relation). AreMembers o at c.as_slice.result.now) c.self.view_is (subst (AreMembers _ at) read (v.rows at below))

pub returns-clause-closed : goal.returns-clause-closed
returns-clause-closed c =
    let v = c.self.invariant in
    let at = c.args.component in
    let below = HasComponent-below _ v.least at v.exact (subst (λ (o : Relation). HasComponent o at) (sym c.self.view_is) c.requires) in
    let all = length-rows_of c.self.inside.members.items in
    let counted = v.counted in
    let inside : at < length c.self.inside.members.items = omega arith in
    let read : row (rows_of c.self.inside.members.items) at ≡ c.as_slice.result.now =
    row_read c.self.inside.members.items at c.index.result.now inside c.index.ensures ∙ sym c.as_slice.ensures.value in
    let m = subst (AreMembers _ at) read (v.rows at below) in
    subst (λ (o : Relation). (a b : ℕ) → LeadsUp o.pairs a b → Contains c.as_slice.result.now a ↔ Contains c.as_slice.result.now b) c.self.view_is
    (λ a b s. (
      (λ h. members_along _ at c.as_slice.result.now m v.within a b (inl s) h),
      (λ h. members_along _ at c.as_slice.result.now m v.within b a (inr s) h),
    ))
