-- The components that an edit touches, and how many of them there are.
use Rattle.std.specs.Prelude.{◌≡◌, ◌↔◌, ℕ, List, Some, length, slice_get}
use Rattle.std.specs.List.{Contains}
use Rattle.std.specs.List.Sorted.{IsStrictlyIncreasing}
use Rattle.ofit_order.specs.Component.{IsComponentOf}
use Rattle.ofit_order.specs.Relation.{Relation}
use Rattle.ofit_fit.specs.OrderOf.{IsOrderOf}
use Rattle.ofit_study.specs.declared.edit.Edit.{Edit}
use Rattle.ofit_study.specs.Edited.{touched}
use Rattle.ofit_study.specs.Study.{Study, names_of, problem_stated}

-- the component has the group of this name
pub record HasNamed (order : Relation) (s : Study) (name : List ℕ) (component : ℕ) : Type 0 where
  pub place : ℕ
  pub named : slice_get (names_of s) place ≡ Some name
  pub has : IsComponentOf order component place

-- the component has a group of one of these names
abbrev pub HasOneNamed : Relation → Study → List (List ℕ) → ℕ → Type 0
HasOneNamed order s names component = (name : List ℕ) × Contains names name × HasNamed order s name component

-- the numbers of the components that have a group of one of these names
pub record AreHolding (order : Relation) (s : Study) (names : List (List ℕ)) (components : List ℕ) : Type 0 where
  pub rising : IsStrictlyIncreasing components
  pub exact : (k : ℕ) → Contains components k ↔ HasOneNamed order s names k

-- so many components of the edited study hold a group that the edit touches
pub record IsRefit (before : Study) (edit : Edit) (after : Study) (n : ℕ) : Type 0 where
  pub order : Relation
  pub of : IsOrderOf order (problem_stated after)
  pub components : List ℕ
  pub holding : AreHolding order after (touched before edit) components
  pub count : n ≡ length components
