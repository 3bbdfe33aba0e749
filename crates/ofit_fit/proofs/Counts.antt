-- How many components are fitted by cuts, counted one by one.
use Rattle.std.proofs.Common.{◌≡◌, ℕ, suc, ◌+◌, ◌<◌, ◌≤◌, refl, sym, ap, subst, ◌∙◌, arith, inl, inr, List, [], ◌∷◌, ◌++◌, length, length-append}
use Rattle.std.proofs.lemmas.List.Sums.{sum_by-append, sum_by-cons}
use Rattle.std.specs.Prelude.{slice_get, Some, sum_by}
use Rattle.ofit_num.specs.Problem.{Problem}
use Rattle.ofit_order.specs.Relation.{Relation}
use Rattle.ofit_order.specs.Component.{IsComponentCount}
use Rattle.ofit_order.specs.Form.{HasForm}
use Rattle.ofit_order.specs.declared.form.Form.{Form}
use Rattle.ofit_order.specs.declared.form.Form.TheVariants.{Chain, TreeUp, TreeDown, General}
use Rattle.ofit_order.proofs.Uniqueness.{AreLeastPlaces-same}
use Rattle.ofit_partition.proofs.Steps.{front_or_end}
use Rattle.ofit_fit.specs.OrderOf.{IsOrderOf}
use Rattle.ofit_fit.specs.Counted.{cuts_of, HaveForms, HasCutCount}
use Rattle.ofit_fit.proofs.OneOrder.{one_order, one_cut_count}

-- the first n components have these forms, which ask for the cuts that are counted
pub record AreCounted (order : Relation) (n before cuts : ℕ) : Type 0 where
  pub forms : List Form
  pub count : length forms ≡ n
  pub have : HaveForms order forms
  pub sum : cuts ≡ before + sum_by cuts_of forms

have_more : (order : Relation) (forms : List Form) (form : Form) → HaveForms order forms → HasForm order (length forms) form → HaveForms order (forms ++ form ∷ [])
have_more order forms form have last k x e = elim (front_or_end forms form x k e) [
  | inl f ↦ have k x f
  | inr f ↦ subst (λ (i : ℕ). HasForm order i x) (sym f.0) (subst (HasForm order (length forms)) f.1 last)
]

sum_more : (forms : List Form) (form : Form) → sum_by cuts_of (forms ++ form ∷ []) ≡ sum_by cuts_of forms + cuts_of form
sum_more forms form = omega (arith, sum_by-append cuts_of forms (form ∷ []), sum_by-cons cuts_of form [])

pub counted_none : (order : Relation) (before : ℕ) → AreCounted order 0 before before
counted_none order before = record { forms = []; count = refl; have = λ k form e. cc; sum = omega arith }

pub counted_more : (order : Relation) (n before cuts after : ℕ) (form : Form) → AreCounted order n before cuts → HasForm order n form → after ≡ cuts + cuts_of form → AreCounted order (n + 1) before after
counted_more order n before cuts after form h has e = record {
  forms = h.forms ++ form ∷ [];
  count = omega (arith, h.count, length-append h.forms (form ∷ []));
  have = have_more order h.forms form h.have (subst (λ (i : ℕ). HasForm order i form) (sym h.count) has);
  sum = omega (arith, e, h.sum, sum_more h.forms form);
}

pub one_cut : (form : Form) → cuts_of form ≤ 1
one_cut Chain = omega arith
one_cut TreeUp = omega arith
one_cut TreeDown = omega arith
one_cut General = omega arith

at_most_length : (forms : List Form) → sum_by cuts_of forms ≤ length forms
at_most_length [] = omega arith
at_most_length (form ∷ forms) = omega (arith, sum_by-cons cuts_of form forms, one_cut form, at_most_length forms)

pub counted_most : (order : Relation) (n before cuts : ℕ) → AreCounted order n before cuts → cuts ≤ before + n
counted_most order n before cuts h = omega (arith, h.sum, h.count, at_most_length h.forms)

pub counted_grown : (order : Relation) (n before cuts : ℕ) → AreCounted order n before cuts → before ≤ cuts
counted_grown order n before cuts h = omega (arith, h.sum)

pub counted_all : (order : Relation) (s : Problem) (n before cuts : ℕ) → IsOrderOf order s → IsComponentCount order n → AreCounted order n before cuts → (x : ℕ) × HasCutCount s x × (cuts ≡ before + x)
counted_all order s n before cuts of c h = (sum_by cuts_of h.forms, record { order = order; of = of; forms = h.forms; all = subst (IsComponentCount order) (sym h.count) c; have = h.have; count = refl }, h.sum)

-- a first part of the forms asks for at most as many cuts
first_part : (xs ys : List Form) → length xs ≤ length ys → ((k : ℕ) (x y : Form) → slice_get xs k ≡ Some x → slice_get ys k ≡ Some y → cuts_of x ≡ cuts_of y) → sum_by cuts_of xs ≤ sum_by cuts_of ys
first_part [] ys l same = omega arith
first_part (x ∷ xs) [] l same = absurd (omega arith)
first_part (x ∷ xs) (y ∷ ys) l same = omega (arith, sum_by-cons cuts_of x xs, sum_by-cons cuts_of y ys, same 0 x y refl refl, first_part xs ys (omega arith) (λ k a b e f. same (suc k) a b e f))

one_number : (order : Relation) (a b : ℕ) → IsComponentCount order a → IsComponentCount order b → a ≡ b
one_number order a b x y = x.2 ∙ ap length (AreLeastPlaces-same order x.0 y.0 x.1 y.1) ∙ sym y.2

-- so a fit that stops at a component has counted at most the cuts of all
pub counted_within : (order : Relation) (s : Problem) (n k before cuts after : ℕ) (form : Form) → IsOrderOf order s → IsComponentCount order n → k < n → AreCounted order k before cuts → HasForm order k form → after ≤ cuts + cuts_of form
    → (x : ℕ) → HasCutCount s x → after ≤ before + x
counted_within order s n k before cuts after form of c l h has most x all =
    let same : all.order ≡ order = one_order s all.order order all.of of in
    let have : HaveForms order all.forms = subst (λ (o : Relation). HaveForms o all.forms) same all.have in
    let number : length all.forms ≡ n = one_number order (length all.forms) n (subst (λ (o : Relation). IsComponentCount o (length all.forms)) same all.all) c in
    let here : HaveForms order (h.forms ++ form ∷ []) = have_more order h.forms form h.have (subst (λ (i : ℕ). HasForm order i form) (sym h.count) has) in
    omega (
      arith,
      most,
      h.sum,
      all.count,
      sum_more h.forms form,
      first_part (h.forms ++ form ∷ []) all.forms (omega (arith, length-append h.forms (form ∷ []), h.count, number, l)) (λ i a b e f. one_cut_count order i a b (here i a e) (have i b f)),
    )
