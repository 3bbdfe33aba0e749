-- How many components of a problem are fitted by cuts.
use Rattle.std.specs.Prelude.{◌≡◌, ℕ, ◌+◌, ◌≤◌, List, length, sum_by, slice_get, Some, Result, OnOk}
use Rattle.ofit_num.specs.Problem.{Problem}
use Rattle.ofit_order.specs.Relation.{Relation}
use Rattle.ofit_order.specs.Component.{IsComponentCount}
use Rattle.ofit_order.specs.Form.{HasForm}
use Rattle.ofit_order.specs.declared.form.Form.{Form}
use Rattle.ofit_order.specs.declared.form.Form.TheVariants.{Chain, TreeUp, TreeDown, General}
use Rattle.ofit_fit.specs.OrderOf.{IsOrderOf}
pub use Rattle.ofit_study.specs.Counted.{HasComponentCount}

-- a component is fitted by cuts where it is neither a chain nor a rooted tree
abbrev pub cuts_of : Form → ℕ
cuts_of Chain = 0
cuts_of TreeUp = 0
cuts_of TreeDown = 0
cuts_of General = 1

-- the components from 0 on have these forms
abbrev pub HaveForms : Relation → List Form → Type 0
HaveForms order forms = (k : ℕ) (form : Form) → slice_get forms k ≡ Some form → HasForm order k form

-- so many components of the problem are fitted by cuts
pub record HasCutCount (s : Problem) (n : ℕ) : Type 0 where
  pub order : Relation
  pub of : IsOrderOf order s
  pub forms : List Form
  pub all : IsComponentCount order (length forms)
  pub have : HaveForms order forms
  pub count : n ≡ sum_by cuts_of forms

-- The component has one form. A fit by cuts is counted where that form asks for one, and want of memory may come before it.
pub record CountsCut {T E : Type 0} (order : Relation) (component : ℕ) (result : Result T E) (before after : ℕ) : Type 0 where
  pub form : Form
  pub has : HasForm order component form
  pub counted : OnOk result (after ≡ before + cuts_of form)
  pub grown : before ≤ after
  pub most : after ≤ before + cuts_of form
