use Rattle.std.proofs.Common.{◌≡◌, ◌+◌, ◌↔◌, ℕ, List, length, slice_index, IsTrue, eqb, arith, sym, subst, ap, ◌∙◌, eq-eqb}
use Rattle.std.specs.List.{Contains, sum_by}
use Rattle.std.proofs.lemmas.Bool.{eqb-true}
use Rattle.std.proofs.lemmas.List.Elements.{Contains-get_or}
use Rattle.ofit_order.specs.Relation.{Relation}
use Rattle.ofit_order.specs.Component.{AreMembers}
use Rattle.ofit_order.specs.Form.{pairs_among, higher_count, lower_count, HasOneFewer, RisesOnce, FallsOnce, HasForm}
use Rattle.ofit_order.proofs.Forming.{member_inside, total_is, pairs_among_few, All-agree, FitsForm-by}
use Rattle.ofit_order.proofs.Shaping.{HasShape-from}
use Rattle.ofit_order.specs.Shape.{HasShape}
use Rattle.ofit_order.proofs.order.Order.form.Goals as goal

pub total-pairs-requires-clause-inside : goal.total-pairs-requires-clause-inside
total-pairs-requires-clause-inside c =
    let m = subst (λ (o : Relation). AreMembers o c.args.component c.members-members.result.now) (sym c.self.view_is) c.members-members.ensures.members in
    let long = c.self.invariant.highers_long in
    let same = ap length c.as_slice.ensures.value in
    λ k d l.
    let inside = member_inside _ c.args.component c.members-members.result.now m _ (Contains-get_or c.members-members.result.now k d l) in
    omega arith

pub total-pairs-requires-clause-fits : goal.total-pairs-requires-clause-fits
total-pairs-requires-clause-fits c =
    let members = c.members-members.result.now in
    let m = subst (λ (o : Relation). AreMembers o c.args.component members) (sym c.self.view_is) c.members-members.ensures.members in
    let is = total_is _ c.args.component members c.self.inside.highers.items m c.self.invariant.highers_are in
    let same = ap (λ (t : List ℕ). sum_by (slice_index t) members) c.as_slice.ensures.value in
    let few = pairs_among_few c.self.inside.pairs.items members in
    omega arith

pub overflow_add-pairs : goal.overflow_add-pairs
overflow_add-pairs c =
    let members = c.members-members.result.now in
    let m = subst (λ (o : Relation). AreMembers o c.args.component members) (sym c.self.view_is) c.members-members.ensures.members in
    let is = total_is _ c.args.component members c.self.inside.highers.items m c.self.invariant.highers_are in
    let same = ap (λ (t : List ℕ). sum_by (slice_index t) members) c.as_slice.ensures.value in
    let few = pairs_among_few c.self.inside.pairs.items members in
    let sum = c.total-pairs.ensures in
    omega arith

pub is_at_most_one-requires : goal.is_at_most_one-requires
is_at_most_one-requires c =
    let m = subst (λ (o : Relation). AreMembers o c.args.component c.members-members.result.now) (sym c.self.view_is) c.members-members.ensures.members in
    let long = c.self.invariant.highers_long in
    let same = ap length c.as_slice-2.ensures.value in
    λ k d l.
    let inside = member_inside _ c.args.component c.members-members.result.now m _ (Contains-get_or c.members-members.result.now k d l) in
    omega arith

pub is_at_most_one-requires-2 : goal.is_at_most_one-requires-2
is_at_most_one-requires-2 c =
    let m = subst (λ (o : Relation). AreMembers o c.args.component c.members-members.result.now) (sym c.self.view_is) c.members-members.ensures.members in
    let long = c.self.invariant.lowers_long in
    let same = ap length c.as_slice-3.ensures.value in
    λ k d l.
    let inside = member_inside _ c.args.component c.members-members.result.now m _ (Contains-get_or c.members-members.result.now k d l) in
    omega arith

pub returns : goal.returns
returns c =
    let at = c.args.component in
    let members = c.members-members.result.now in
    let pairs = c.self.inside.pairs.items in
    let v = c.self.invariant in
    let m = subst (λ (o : Relation). AreMembers o at members) (sym c.self.view_is) c.members-members.ensures.members in
    let inside = member_inside _ at members m in
    let is = total_is _ at members c.self.inside.highers.items m v.highers_are in
    let same = ap (λ (t : List ℕ). sum_by (slice_index t) members) c.as_slice.ensures.value in
    let total : c.total-pairs.result ≡ length (pairs_among pairs members) = c.total-pairs.ensures ∙ same ∙ is in
    let one : IsTrue (eqb (c.total-pairs.result + 1) (length members)) ↔ HasOneFewer pairs members = (
      (λ h. let e = eqb-true _ _ h in omega arith),
      (λ h. eq-eqb _ _ (omega arith)),
    ) in
    let high : (p : ℕ) → Contains members p → slice_index c.as_slice-2.result.now p ≡ higher_count pairs p =
    λ p h. ap (λ (t : List ℕ). slice_index t p) c.as_slice-2.ensures.value ∙ v.highers_are p (inside p h) in
    let low : (p : ℕ) → Contains members p → slice_index c.as_slice-3.result.now p ≡ lower_count pairs p =
    λ p h. ap (λ (t : List ℕ). slice_index t p) c.as_slice-3.ensures.value ∙ v.lowers_are p (inside p h) in
    let rises : IsTrue c.is_at_most_one.result ↔ RisesOnce pairs members = (
      (λ h. All-agree _ _ members high (c.is_at_most_one.ensures.0 h)),
      (λ h. c.is_at_most_one.ensures.1 (All-agree _ _ members (λ p k. sym (high p k)) h)),
    ) in
    let falls : IsTrue c.is_at_most_one-2.result ↔ FallsOnce pairs members = (
      (λ h. All-agree _ _ members low (c.is_at_most_one-2.ensures.0 h)),
      (λ h. c.is_at_most_one-2.ensures.1 (All-agree _ _ members (λ p k. sym (low p k)) h)),
    ) in
    let fits = FitsForm-by pairs members _ _ _ c.form_by.result one rises falls c.form_by.ensures in
    record {
      form = subst (λ (o : Relation). HasForm o at c.form_by.result) c.self.view_is (members, m, fits);
      shape = subst (λ (o : Relation). HasShape o at c.form_by.result) c.self.view_is (HasShape-from _ at members c.form_by.result m v.within fits);
    }
