-- A component has one count of cuts, and a problem one order.
use Rattle.std.proofs.Common.{◌≡◌, ℕ, refl, sym, ap₂, subst, ◌∙◌, arith, inl, inr, List}
use Rattle.ofit_num.specs.Problem.{Problem}
use Rattle.ofit_order.specs.Relation.{Relation, ComesBefore}
use Rattle.ofit_order.specs.Form.{HasForm, FitsForm}
use Rattle.ofit_order.specs.declared.form.Form.{Form}
use Rattle.ofit_order.specs.declared.form.Form.TheVariants.{Chain, TreeUp, TreeDown, General}
use Rattle.ofit_fit.specs.OrderOf.{IsOrderOf}
use Rattle.ofit_fit.specs.Counted.{cuts_of}
use Rattle.ofit_fit.proofs.Ready.{same_members, before_apart}
use Rattle.ofit_num.proofs.Members.{sorted_one}

-- Two forms of a component ask for as many cuts.
pub one_cut_count : (order : Relation) (component : ℕ) (f g : Form) → HasForm order component f → HasForm order component g → cuts_of f ≡ cuts_of g
one_cut_count order component f g h k = go f g h.2 (subst (λ (ms : List ℕ). FitsForm order.pairs ms g) (same_members order component k.0 h.0 k.1 h.1) k.2) where
  go : (f g : Form) → FitsForm order.pairs h.0 f → FitsForm order.pairs h.0 g → cuts_of f ≡ cuts_of g
  go General General x y = refl
  go General g x y = one g y where
    one : (g : Form) → FitsForm order.pairs h.0 g → 1 ≡ cuts_of g
    one General y = refl
    one Chain y = absurd (x y.0 (inl y.1))
    one TreeUp y = absurd (x y.0 (inl y.1))
    one TreeDown y = absurd (x y.0 (inr y.1))
  go Chain General x y = absurd (y x.0 (inl x.1))
  go TreeUp General x y = absurd (y x.0 (inl x.1))
  go TreeDown General x y = absurd (y x.0 (inr x.1))
  go Chain Chain x y = refl
  go Chain TreeUp x y = refl
  go Chain TreeDown x y = refl
  go TreeUp Chain x y = refl
  go TreeUp TreeUp x y = refl
  go TreeUp TreeDown x y = refl
  go TreeDown Chain x y = refl
  go TreeDown TreeUp x y = refl
  go TreeDown TreeDown x y = refl

before_over : (x y z : ℕ × ℕ) → ComesBefore x y → ComesBefore y z → ComesBefore x z
before_over x y z (inl a) (inl b) = inl (omega arith)
before_over x y z (inl a) (inr b) = inl (omega (arith, b.0))
before_over x y z (inr a) (inl b) = inl (omega (arith, a.0))
before_over x y z (inr a) (inr b) = inr (omega (arith, a.0, b.0), omega (arith, a.1, b.1))

abbrev relation : ℕ → List (ℕ × ℕ) → Relation
relation n ps = record { places = n; pairs = ps }

-- a problem has one order
pub one_order : (s : Problem) (x y : Relation) → IsOrderOf x s → IsOrderOf y s → x ≡ y
one_order s x y ox oy =
    ap₂ (λ (n : ℕ) (ps : List (ℕ × ℕ)). relation n ps) (ox.places ∙ sym oy.places)
    (sorted_one ComesBefore (λ e before. before_apart e e before refl) before_over x.pairs y.pairs ox.in_order oy.in_order (λ e h. (oy.pairs e).1 ((ox.pairs e).0 h)) (λ e h. (ox.pairs e).1 ((oy.pairs e).0 h)))
