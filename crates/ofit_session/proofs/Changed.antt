-- A session's order and fit behind the change of one row.
use Rattle.std.proofs.Common.{◌≡◌, ℕ, ◌+◌, ◌<◌, ◌⊎◌, inl, inr, List, [], ◌∷◌, refl, sym, ap, ◌∙◌, subst, arith, length}
use Rattle.std.proofs.lemmas.Option.{same_Some, slice_get-get_or}
use Rattle.std.specs.Prelude.{Contains, map, None, Some, slice_get, ◌↔◌}
use Rattle.ofit_num.specs.Tally.{Counts}
use Rattle.ofit_num.specs.Fit.{LeastBestValues}
use Rattle.ofit_num.specs.Fraction.{Fraction}
use Rattle.ofit_num.specs.Meaning.{Meaning}
use Rattle.ofit_order.specs.Component.{AreMembers, IsComponentOf}
use Rattle.ofit_order.specs.Relation.{Relation}
use Rattle.ofit_order.specs.Within.{AreWithin}
use Rattle.ofit_fit.specs.Part.{part_of, values_at}
use Rattle.ofit_fit.specs.OrderOf.{IsOrderOf}
use Rattle.ofit_fit.specs.Put.{ArePut}
use Rattle.ofit_fit.specs.Compose.{IsLeastBestByParts}
use Rattle.ofit_fit.proofs.Closed.{IsClosed}
use Rattle.ofit_fit.proofs.Components.{HasComponents, from_parts, members_closed}
use Rattle.ofit_span.proofs.StatedLosses.{stated_scaling}
use Rattle.ofit_study.specs.declared.edit.Edit.{Edit}
use Rattle.ofit_study.specs.Change.{Change, IsChangeFor, IsChangeOf, changed}
use Rattle.ofit_study.specs.Edited.{IsAccepted, touched}
use Rattle.ofit_study.specs.Kept.{name_at}
use Rattle.ofit_study.specs.Study.{Study, IsValid, meaning_of, names_of, place_among, places_of, problem_stated}
use Rattle.ofit_study.proofs.Editing.{only_one}
use Rattle.ofit_study.proofs.Places.{group_count}
use Rattle.ofit_study.proofs.Touching.{IsSameApart}
use Rattle.ofit_session.specs.Fitted.{IsFit}
use Rattle.ofit_session.specs.Refit.{AreHolding, HasOneNamed, IsRefit}
use Rattle.ofit_session.specs.CountsAtMost.{CountsAtMost}
use Rattle.ofit_session.proofs.Carried.{part_carried, same_place}
use Rattle.ofit_session.proofs.Refitting.{AreFittedBut, fitted_next, fitted_whole}
use Rattle.ofit_session.proofs.Touches.{named_some, one_place, one_touched}

module _ (s : Study) (c : Change) (h : IsChangeOf s c) where
  abbrev after : Study
  after = changed s c

  same_count : length (names_of after) ≡ length (names_of s)
  same_count = ap length h.names

  same_places : places_of (changed s c) ≡ places_of s
  same_places = ap (λ (names : List (List ℕ)). map (λ e. (place_among names e.0, place_among names e.1)) s.pairs) h.names

  -- the order stays
  pub order_kept : (order : Relation) → IsOrderOf order (problem_stated s) → IsOrderOf order (problem_stated (changed s c))
  order_kept order of = record {
    places = of.places ∙ group_count s ∙ sym same_count ∙ sym (group_count (changed s c));
    in_order = of.in_order;
    pairs = subst (λ (t : List (ℕ × ℕ)). (e : ℕ × ℕ) → Contains order.pairs e ↔ Contains t e) (sym same_places) of.pairs;
  }

  abbrev name : List ℕ
  name = name_at (names_of s) c.place

  apart : IsSameApart (name_at (names_of s) c.place ∷ []) s (changed s c)
  apart = record {
    settings = refl;
    rows = λ n out. h.others n (λ e. out (0, omega arith, sym e));
    pairs = λ e out. (λ x. x, λ x. x);
  }

  name_after : slice_get (names_of (changed s c)) c.place ≡ Some (name_at (names_of s) c.place)
  name_after = subst (λ (t : List (List ℕ)). slice_get t c.place ≡ Some (name_at (names_of s) c.place)) (sym h.names) (slice_get-get_or (names_of s) c.place [] h.place)

-- the component of a changed row's group, in the order of the study
pub record IsOwn (s : Study) (c : Change) (order : Relation) (own : ℕ) : Type 0 where
  pub change : IsChangeOf s c
  pub within : AreWithin order.pairs order.places
  pub of : IsOrderOf order (problem_stated (changed s c))
  pub is : IsComponentOf order own c.place
  pub only : (k : ℕ) → IsComponentOf order k c.place → k ≡ own

pub own_of : (s t : Study) → s ≡ t → (c : Change) → IsChangeOf t c → (order : Relation) → AreWithin order.pairs order.places → IsOrderOf order (problem_stated s) → (own place : ℕ) → place ≡ c.place
    → IsComponentOf order own place → ((k : ℕ) → IsComponentOf order k place → k ≡ own) → IsOwn s c order own
own_of s t same c of_t order within of own place at is only = record {
  change = change;
  within = within;
  of = order_kept s c change order of;
  is = subst (IsComponentOf order own) at is;
  only = λ k x. only k (subst (IsComponentOf order k) (sym at) x);
} where
  change : IsChangeOf s c
  change = subst (λ (u : Study). IsChangeOf u c) (sym same) of_t

module _ (s : Study) (c : Change) (order : Relation) (own : ℕ) (h : IsOwn s c order own) where
  -- the other components keep their fits
  others_fitted : IsValid s → (values : List Fraction) → IsFit s values → AreFittedBut order (meaning_of s.settings.loss) (problem_stated (changed s c)) (own ∷ []) values
  others_fitted v values fit = record {
    count = fit.count ∙ group_count s ∙ sym (same_count s c h.change) ∙ sym (group_count (changed s c));
    parts = parts;
  } where
    parts : (k : ℕ) (members : List ℕ) → (Contains (own ∷ []) k → ⊥) → AreMembers order k members → LeastBestValues (meaning_of s.settings.loss) (part_of (problem_stated (changed s c)) members) (values_at values members)
    parts k members out are =
        part_carried (name_at (names_of s) c.place ∷ []) s (changed s c) v h.change.valid (apart s c h.change) members closed named values values fit carried (fit.count ∙ group_count s ∙ sym (same_count s c h.change))
      where
        closed : IsClosed (problem_stated (changed s c)) members
        closed = members_closed order h.within (problem_stated (changed s c)) h.of k members are

        named : (g : ℕ) → Contains members g → Contains (name_at (names_of s) c.place ∷ []) (name_at (names_of (changed s c)) g) → ⊥
        named g m there =
            let inside : g < length (names_of s) = omega (arith, closed.inside g m, group_count (changed s c), same_count s c h.change) in
            let names_same : name_at (names_of s) c.place ≡ name_at (names_of s) g = only_one (name_at (names_of s) c.place) (name_at (names_of (changed s c)) g) there ∙ ap (λ (t : List (List ℕ)). name_at t g) h.change.names in
            let place_same : c.place ≡ g = same_place s c.place g h.change.place inside names_same in
            let at_place : IsComponentOf order k c.place = subst (IsComponentOf order k) (sym place_same) ((are.exact g).0 m) in
            out (0, omega arith, sym (h.only k at_place))

        carried : (g p : ℕ) (n : List ℕ) → slice_get (names_of (changed s c)) g ≡ Some n → slice_get (names_of s) p ≡ Some n → slice_get values g ≡ slice_get values p
        carried g p n e f = ap (slice_get values) (one_place s g p n (subst (λ (t : List (List ℕ)). slice_get t g ≡ Some n) h.change.names e) f)

  all_fitted : (m : Meaning) (members : List ℕ) (picked before now : List Fraction) → AreMembers order own members → LeastBestValues m (part_of (problem_stated (changed s c)) members) picked → ArePut members picked before now
      → AreFittedBut order m (problem_stated (changed s c)) (own ∷ []) before → IsLeastBestByParts order m (problem_stated (changed s c)) now
  all_fitted m members picked before now are low put but = fitted_whole order m (problem_stated (changed s c)) [] 0 now (omega arith) (fitted_next order m (problem_stated (changed s c)) own [] members picked before now are low put but)

  -- so what is fitted again is the fit of the changed study
  pub refit_fits : IsValid s → (count : ℕ) → HasComponents order count → (before : List Fraction) → IsFit s before → (members : List ℕ) → AreMembers order own members → (best picked now : List Fraction) → picked ≡ best → ArePut members picked before now
      → (t : Study) → t ≡ changed s c → LeastBestValues (meaning_of t.settings.loss) (part_of (problem_stated t) members) best → IsFit t now
  refit_fits v count has before fit members are best picked now given put t same low =
      subst (λ (u : Study). IsFit u now) (sym same)
      (from_parts order count has (meaning_of s.settings.loss) (problem_stated (changed s c)) h.of (stated_scaling (changed s c) h.change.valid s.settings.loss) now
      (all_fitted (meaning_of s.settings.loss) members picked before now are
      (subst (LeastBestValues (meaning_of s.settings.loss) (part_of (problem_stated (changed s c)) members)) (sym given)
      (subst (λ (u : Study). LeastBestValues (meaning_of u.settings.loss) (part_of (problem_stated u) members) best) same low))
      put (others_fitted v before fit)))

  pub order_after : (t : Study) → t ≡ changed s c → IsOrderOf order (problem_stated t)
  order_after t same = subst (λ (u : Study). IsOrderOf order (problem_stated u)) (sym same) h.of

  -- and the one of the row's group is what the edit touches
  pub row_refit : (edit : Edit) → IsChangeFor s edit c → IsRefit s edit (changed s c) 1
  row_refit edit for = record { order = order; of = h.of; components = own ∷ []; holding = holding; count = refl } where
    told : (k : ℕ) → HasOneNamed order (changed s c) (touched s edit) k ↔ ((Some own ≡ Some k) ⊎ (None ≡ Some k))
    told k = one_touched order (changed s c) (touched s edit) (name_at (names_of s) c.place) (Some own) for.touches (named_some order (changed s c) (name_at (names_of s) c.place) c.place own (name_after s c h.change) h.is h.only) k

    side : (k : ℕ) → (Some own ≡ Some k) ⊎ (None ≡ Some k) → Contains (own ∷ []) k
    side k (inl e) = (0, omega arith, same_Some own k e)
    side k (inr e) = absurd cc

    holding : AreHolding order (changed s c) (touched s edit) (own ∷ [])
    holding = record {
      rising = λ i l. absurd (omega arith);
      exact = λ k. (λ there. (told k).1 (inl (ap (λ (n : ℕ). Some n) (only_one own k there))), λ x. side k ((told k).0 x));
    }

  pub row_counted : (edit : Edit) → IsAccepted s edit → IsChangeFor s edit c → (before now : Counts) → now.fits ≡ before.fits + 1 → CountsAtMost s edit before now
  row_counted edit accepted for before now e = inr (changed s c, 1, (accepted, for.after), row_refit edit for, omega (arith, e))
