use Rattle.std.proofs.Common.{◌≡◌, ℕ, ◌<◌, refl, sym, ap, subst, ◌∙◌, Bool, true, false, List, length, get_or}
use Rattle.std.proofs.lemmas.Option.{slice_get_read, get_or_from_slice_get}
use Rattle.std.specs.Prelude.{pos, ◌*ℤ◌, slice_get, Some}
use Rattle.std.specs.Cmp.{int_cmp_is}
use Rattle.std.specs.Ordering.{int_cmp, is_ne}
use Rattle.std.specs.declared.cmp.Ordering.{Ordering}
use Rattle.std.specs.declared.cmp.Ordering.TheVariants.{Less, Equal, Greater}
use Rattle.ofit_num.specs.Fraction.{Fraction, SameValue}
use Rattle.ofit_num.proofs.FractionOrder.{from_equal}
use Rattle.ofit_tree.specs.declared.block.Block.{Block}
use Rattle.ofit_tree.specs.declared.slot.Slot.{Slot}
use Rattle.ofit_tree.specs.declared.slot.Slot.TheVariants.{Open}
use Rattle.ofit_tree.specs.Entry.{rank_of}
use Rattle.ofit_tree.proofs.Closing.{same_open}
use Rattle.ofit_tree.proofs.waiting.current.Goals as goal

equal_order : (o : Ordering) (x : Bool) → x ≡ is_ne o → x ≡ false → o ≡ Equal
equal_order Less x e f = cc
equal_order Equal x e f = refl
equal_order Greater x e f = cc

not_equal : (o : Ordering) (x : Bool) → x ≡ is_ne o → x ≡ true → o ≡ Equal → ⊥
not_equal Less x e f h = cc
not_equal Equal x e f h = cc
not_equal Greater x e f h = cc

same_value : (r x y : Fraction) (o : Ordering) → r ≡ x → o ≡ int_cmp (r.num *ℤ pos y.den) (y.num *ℤ pos r.den) → o ≡ Equal → SameValue x y
same_value r x y o e f h = subst (λ (z : Fraction). SameValue z y) e (from_equal (r.num *ℤ pos y.den) (y.num *ℤ pos r.den) (sym f ∙ h))

same_rank : (r x : Fraction) (o : Ordering) → r ≡ x → o ≡ int_cmp (r.num *ℤ pos x.den) (x.num *ℤ pos r.den) → o ≡ Equal
same_rank r x o e f = f ∙ sym (int_cmp_is (r.num *ℤ pos x.den) (x.num *ℤ pos r.den) Equal (subst (λ (z : Fraction). z.num *ℤ pos x.den ≡ x.num *ℤ pos z.den) (sym e) refl))

same_block : {P : Type 0} (slots : List (Slot P)) (k : ℕ) (x : Slot P) (a b : Block P) → k < length slots → x ≡ get_or slots k x → x ≡ Open a → slice_get slots k ≡ Some (Open b) → a ≡ b
same_block slots k x a b l e f h = same_open a b (ap (λ s. Some s) (sym f) ∙ sym (slice_get_read slots (length slots) k x refl l e) ∙ h)

pub returns-in_default-clause-none : goal.returns-in_default-clause-none
returns-in_default-clause-none g c = λ b at _. c.in_default.not-Open b (c.index-slots-entry.is ∙ get_or_from_slice_get c.args.slots.now c.args.entry.now.block (Open b) c.index-slots-entry.result at)

pub returns-then-is_ne-clause-none : goal.returns-then-is_ne-clause-none
returns-then-is_ne-clause-none g c = λ b at e.
    let same : c.in-Open.block ≡ b = same_block c.args.slots.now c.args.entry.now.block c.index-slots-entry.result c.in-Open.block b c.requires c.index-slots-entry.is c.in-Open.is at in
    not_equal c.compare.result c.is_ne.result c.is_ne.ensures c.if-is_ne.true
    (same_rank c.rank_of-rank.result c.args.entry.now.rank c.compare.result (c.rank_of-rank.ensures ∙ ap (λ (x : Block g.row.P.Denot). rank_of c.args.direction x.value) same ∙ e) c.compare.ensures)

pub returns-clause-some : goal.returns-clause-some
returns-clause-some g c = record {
  block = c.in-Open.block;
  at = slice_get_read c.args.slots.now (length c.args.slots.now) c.args.entry.now.block c.index-slots-entry.result refl c.requires c.index-slots-entry.is ∙ ap (λ s. Some s) c.in-Open.is;
  is_top = refl;
  is_value = refl;
  rank = same_value c.rank_of-rank.result _ c.args.entry.now.rank c.compare.result c.rank_of-rank.ensures c.compare.ensures (equal_order c.compare.result c.is_ne.result c.is_ne.ensures c.if-is_ne.false);
}
