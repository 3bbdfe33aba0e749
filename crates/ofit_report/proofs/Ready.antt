-- What a block of a study is ready for.
use Rattle.std.proofs.Common.{◌≡◌, ℕ, ◌<◌, ◌∙◌, sym, ap, arith, List, length, get_or, slice_index}
use Rattle.std.proofs.lemmas.List.Elements.{Contains-get_or}
use Rattle.std.proofs.lemmas.Option.{slice_get-get_or}
use Rattle.std.specs.List.{Contains}
use Rattle.std.specs.Prelude.{pos, Option, unwrap_or}
use Rattle.ofit_num.specs.Fraction.{Fraction}
use Rattle.ofit_num.specs.RowLimits.{AreWithinLimits}
use Rattle.ofit_order.specs.Relation.{Relation}
use Rattle.ofit_order.specs.Component.{AreMembers}
use Rattle.ofit_order.specs.Numbers.{HasComponent}
use Rattle.ofit_order.proofs.Forming.{member_inside}
use Rattle.ofit_order.proofs.Walks.{IsReached-refl}
use Rattle.ofit_order.specs.Connection.{Joins}
use Rattle.ofit_study.specs.Study.{Study, IsValid, names_of}
use Rattle.ofit_report.specs.Tight.{value_at}
use Rattle.ofit_report.specs.Blocks.{block_order}
use Rattle.ofit_report.specs.SameOrder.{IsSameOrder}
use Rattle.ofit_report.specs.Cost.{rows_among}
use Rattle.ofit_report.proofs.Members.{among_within, among_some}
use Rattle.ofit_report.proofs.SameOrder.{members_of}

-- a component has a member
pub members_some : (order : Relation) (k : ℕ) (members : List ℕ) → HasComponent order k → AreMembers order k members → 0 < length members
members_some order k members (count, (least, exact, is), below) are =
    let inside : k < length least = omega (arith, is, below) in
    let place = (exact.exact (slice_index least k)).0 (Contains-get_or least k 0 inside) in
    let held : Contains members (slice_index least k) = (are.exact (slice_index least k)).1 (least, exact, record { counted = inside; inside = place.inside; connected = IsReached-refl (Joins order.pairs) (slice_index least k) }) in
    omega (arith, held.1)

pub record IsReady (s : Study) (values : List Fraction) (k : ℕ) (members : List ℕ) : Type 0 where
  pub are : AreMembers (block_order s values) k members
  pub some : 0 < length members
  pub inside : (m : ℕ) → Contains members m → m < length (names_of s)
  pub limits : AreWithinLimits (rows_among s members)
  pub filled : 0 < length (rows_among s members)

pub ready : (s : Study) → IsValid s → (values : List Fraction) (order : Relation) → IsSameOrder order (block_order s values) → (k : ℕ) → HasComponent order k → (members : List ℕ) → AreMembers order k members → IsReady s values k members
ready s v values order same k has members are =
    let mine : AreMembers (block_order s values) k members = members_of order (block_order s values) same k members are in
    let some : 0 < length members = members_some order k members has are in
    let inside : (m : ℕ) → Contains members m → m < length (names_of s) = λ m h. member_inside (block_order s values) k members mine m h in
    record { are = mine; some = some; inside = inside; limits = among_within s v members mine.rising inside; filled = among_some s v members inside some }

-- the value that stands at a place
pub value_is : (values : List Fraction) (g : ℕ) (f : Fraction) → g < length values → f ≡ get_or values g f → f ≡ value_at values g
value_is values g f l e = e ∙ sym (ap (λ (o : Option Fraction). unwrap_or o (record { num = pos 0; den = 1 })) (slice_get-get_or values g f l))
