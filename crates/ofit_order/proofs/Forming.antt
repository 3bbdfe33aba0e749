-- The form that the counts of neighbours tell.
use Rattle.std.proofs.Common.{◌≡◌, ℕ, ◌<◌, ◌≤◌, ◌↔◌, IsTrue, Bool, false, inl, inr, List, length, get_or, slice_index, ◌∙◌, arith}
use Rattle.std.specs.List.{Contains, All, sum_by}
use Rattle.std.proofs.lemmas.List.Elements.{Contains-get_or}
use Rattle.std.proofs.lemmas.List.Sums.{length-filter, count_by-le-length}
use Rattle.ofit_order.specs.Relation.{Relation}
use Rattle.ofit_order.specs.Component.{AreMembers}
use Rattle.ofit_order.specs.Form.{pairs_among, higher_count, HasOneFewer, RisesOnce, FallsOnce, FitsForm, IsFormBy}
use Rattle.ofit_order.specs.declared.form.Form.{Form}
use Rattle.ofit_order.specs.declared.form.Form.TheVariants.{Chain, TreeUp, TreeDown, General}
use Rattle.ofit_order.proofs.DoubleCounting.{has, sum_by-agree, sum_by-higher_count}

pub member_inside : (order : Relation) (component : ℕ) (members : List ℕ) → AreMembers order component members → (p : ℕ) → Contains members p → p < order.places
member_inside order component members m p h = ((m.exact p).0 h).2.inside

pub total_is : (order : Relation) (component : ℕ) (members highers : List ℕ) → AreMembers order component members → ((p : ℕ) → p < order.places → slice_index highers p ≡ higher_count order.pairs p) → sum_by (slice_index highers) members ≡ length (pairs_among order.pairs members)
total_is order component members highers m are =
    sum_by-agree (slice_index highers) (higher_count order.pairs) members (λ p h. are p (member_inside order component members m p h))
    ∙ sum_by-higher_count order.pairs members m.rising

pub pairs_among_few : (ps : List (ℕ × ℕ)) (members : List ℕ) → length (pairs_among ps members) ≤ length ps
pairs_among_few ps members =
    let a = length-filter (λ (p : ℕ × ℕ). has members p.0) ps in
    let b = count_by-le-length (λ (p : ℕ × ℕ). has members p.0) ps in
    omega (arith, a, b)

-- the members' counts as a list has them and as the pairs do
pub All-agree : (f g : ℕ → ℕ) (members : List ℕ) → ((p : ℕ) → Contains members p → f p ≡ g p) → All (λ m. f m ≤ 1) members → All (λ m. g m ≤ 1) members
All-agree f g members same all = λ k d l.
    let e = same (get_or members k d) (Contains-get_or members k d l) in
    let a = all k d l in
    omega (arith, e, a)

not_true : (b : Bool) → b ≡ false → IsTrue b → ⊥
not_true b e h = cc

pub FitsForm-by : (ps : List (ℕ × ℕ)) (members : List ℕ) (a b c : Bool) (form : Form) → IsTrue a ↔ HasOneFewer ps members → IsTrue b ↔ RisesOnce ps members → IsTrue c ↔ FallsOnce ps members → IsFormBy a b c form → FitsForm ps members form
FitsForm-by ps members a b c Chain x y z h = (x.0 h.0, y.0 h.1, z.0 h.2)
FitsForm-by ps members a b c TreeUp x y z h = (x.0 h.0, y.0 h.1, λ f. not_true c h.2 (z.1 f))
FitsForm-by ps members a b c TreeDown x y z h = (x.0 h.0, z.0 h.1, λ f. not_true b h.2 (y.1 f))
FitsForm-by ps members a b c General x y z h =
    λ one some. elim some [ inl f ↦ not_true b (h (x.1 one)).0 (y.1 f) | inr f ↦ not_true c (h (x.1 one)).1 (z.1 f) ]
