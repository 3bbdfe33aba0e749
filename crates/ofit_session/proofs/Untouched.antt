-- What the fit of an edited study rests on.
use Rattle.std.proofs.Common.{◌≡◌, ◌<◌, ◌≤◌, ◌+◌, ◌⊎◌, inl, inr, ◌∙◌, ℕ, List, [], refl, sym, arith, length}
use Rattle.std.proofs.lemmas.Option.{slice_get-get_or}
use Rattle.std.specs.Prelude.{Contains, Some, Ok, IsErrOf, slice_get, ◌↔◌}
use Rattle.ofit_num.specs.Tally.{Counts}
use Rattle.ofit_num.specs.Fit.{LeastBestValues}
use Rattle.ofit_num.specs.Fraction.{Fraction}
use Rattle.ofit_order.specs.Component.{AreMembers, IsComponentOf}
use Rattle.ofit_order.specs.Numbers.{HasComponent}
use Rattle.ofit_order.specs.Relation.{Relation, AreInOrder}
use Rattle.ofit_order.specs.Within.{AreWithin}
use Rattle.ofit_fit.specs.Part.{part_of, values_at}
use Rattle.ofit_fit.specs.OrderOf.{IsOrderOf}
use Rattle.ofit_fit.proofs.Components.{members_closed}
use Rattle.ofit_fit.proofs.Closed.{IsClosed}
use Rattle.ofit_study.specs.declared.edit.Edit.{Edit}
use Rattle.ofit_study.specs.Edited.{Edited, IsAfter, touched}
use Rattle.ofit_study.specs.Kept.{name_at}
use Rattle.ofit_study.specs.Study.{Study, IsValid, names_of, places_of, problem_stated, meaning_of}
use Rattle.ofit_study.proofs.Touching.{same_apart}
use Rattle.ofit_session.specs.Fitted.{IsFit}
use Rattle.ofit_session.specs.Refit.{AreHolding, HasOneNamed, IsRefit}
use Rattle.ofit_session.specs.CountsAtMost.{CountsAtMost}
use Rattle.ofit_study.proofs.Places.{group_count}
use Rattle.ofit_session.proofs.Carried.{part_carried}

pub order_of : (s : Study) (order : Relation) → order.places ≡ length (names_of s) → AreInOrder order.pairs → ((e : ℕ × ℕ) → Contains order.pairs e ↔ Contains (places_of s) e) → IsOrderOf order (problem_stated s)
order_of s order places in_order same = record { places = places ∙ sym (group_count s); in_order = in_order; pairs = same }

-- a component with a place is there
has_component : (order : Relation) (k p : ℕ) → IsComponentOf order k p → HasComponent order k
has_component order k p (least, are, lies) = (length least, (least, are, refl), lies.counted)

pub touched_known : (order : Relation) (s : Study) (names : List (List ℕ)) (components : List ℕ) → AreHolding order s names components → (k : ℕ) → Contains components k → HasComponent order k
touched_known order s names components h k c = let x = (h.exact k).0 c in has_component order k x.2.place x.2.has

-- a component that holds no touched group keeps its values
pub untouched_fitted : (s t : Study) → IsValid s → IsValid t → (edit : Edit) → IsAfter s edit t → (order : Relation) → AreWithin order.pairs order.places → IsOrderOf order (problem_stated t) → (components : List ℕ) → AreHolding order t (touched s edit) components
    → (values own : List Fraction) → IsFit s values → length own ≡ length (names_of t) → ((g p : ℕ) (n : List ℕ) → slice_get (names_of t) g ≡ Some n → slice_get (names_of s) p ≡ Some n → slice_get own g ≡ slice_get values p)
    → (k : ℕ) (members : List ℕ) → (Contains components k → ⊥) → AreMembers order k members → LeastBestValues (meaning_of t.settings.loss) (part_of (problem_stated t) members) (values_at own members)
untouched_fitted s t vs vt edit is order within of components holding values own fit count carried k members out are =
    part_carried (touched s edit) s t vs vt (same_apart s vs edit t is) members closed named values own fit carried count
  where
    closed : IsClosed (problem_stated t) members
    closed = members_closed order within (problem_stated t) of k members are

    named : (g : ℕ) → Contains members g → Contains (touched s edit) (name_at (names_of t) g) → ⊥
    named g h c =
        let inside : g < length (names_of t) = omega (arith, closed.inside g h, group_count t) in
        let has : HasOneNamed order t (touched s edit) k = (name_at (names_of t) g, c, record { place = g; named = slice_get-get_or (names_of t) g [] inside; has = (are.exact g).0 h }) in
        out ((holding.exact k).1 has)

-- what an edit that isn't refused gives, and what was counted for it
pub edited_so : {T E P : Type 0} (x : T) (e : E) → IsErrOf {T = T} {E = E} (Ok x) e ⊎ P → P
edited_so x e (inl h) = absurd cc
edited_so x e (inr h) = h

pub counted_so : (s : Study) (edit : Edit) (after : Study) (before now : Counts) → Edited s edit (Ok after) → (now ≡ before) ⊎ ((n : ℕ) × IsRefit s edit after n × (now.fits ≤ before.fits + n)) → CountsAtMost s edit before now
counted_so s edit after before now is (inl e) = inl e
counted_so s edit after before now is (inr (n, refit, most)) = inr (after, n, is, refit, most)
