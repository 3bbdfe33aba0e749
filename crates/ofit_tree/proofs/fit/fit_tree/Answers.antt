use Rattle.std.proofs.Common.{◌≡◌, ℕ, sym, subst, List, length}
use Rattle.ofit_num.specs.Fraction.{Fraction}
use Rattle.ofit_tree.specs.declared.slot.Slot.{Slot}
use Rattle.ofit_tree.specs.Forest.{AreAllSettled, AreSettledValues}
use Rattle.ofit_tree.proofs.Queues.{all_settled}
use Rattle.ofit_tree.proofs.Ending.{values_settled, values_least_settled, values_least_best}
use Rattle.ofit_tree.proofs.fit.fit_tree.Goals as goal

-- the values of the lists, in place of slices of them
settled_values : {P : Type 0} (labels labels' : List ℕ) (slots slots' : List (Slot P)) (n : ℕ) (values : List Fraction) → labels' ≡ labels → slots' ≡ slots → length labels ≡ n → AreSettledValues labels' slots' (length labels') values → AreSettledValues labels slots n values
settled_values {P} labels labels' slots slots' n values e f k h = subst (λ (i : ℕ). AreSettledValues labels slots i values) k
    (subst (λ (xs : List ℕ). AreSettledValues xs slots (length xs) values) e (subst (λ (ys : List (Slot P)). AreSettledValues labels' ys (length labels') values) f h))

settled_slices : {P : Type 0} (labels labels' : List ℕ) (slots slots' : List (Slot P)) → labels' ≡ labels → slots' ≡ slots → AreAllSettled labels slots → AreAllSettled labels' slots'
settled_slices {P} labels labels' slots slots' e f h = subst (λ (xs : List ℕ). AreAllSettled xs slots') (sym e) (subst (λ (ys : List (Slot P)). AreAllSettled labels ys) (sym f) h)

pub values_of-requires-clause-settled : goal.values_of-requires-clause-settled
values_of-requires-clause-settled g c = settled_slices c.in_ok-forest.forest.labels.items _ c.in_ok-forest.forest.slots.items _ c.deref.ensures.value c.deref-2.ensures.value
    (all_settled c.args.direction g.L.Loss.IsPoolOf g.L.Loss.meaning g.L.Loss.STRICT c.args.groups.now c.args.parents.now c.in_ok-forest.forest.labels.items c.in_ok-forest.forest.slots.items c.in_ok-forest.ensures)

pub returns-clause-least_best : goal.returns-clause-least_best
returns-clause-least_best g c = values_least_best c.args.direction g.L.Loss.IsPoolOf g.L.Loss.meaning g.L.Loss.STRICT g.met.L.Loss.laws c.args.groups.now c.requires.fittable c.args.parents.now c.requires.rooted c.requires.one_each
    c.in_ok-forest.forest.labels.items c.in_ok-forest.forest.slots.items c.in_ok-forest.ensures c.in_ok-values.values.items
    (settled_values c.in_ok-forest.forest.labels.items _ c.in_ok-forest.forest.slots.items _ (length c.args.groups.now) c.in_ok-values.values.items c.deref.ensures.value c.deref-2.ensures.value c.in_ok-forest.ensures.labels_count c.in_ok-values.ensures)

pub returns-clause-settled : goal.returns-clause-settled
returns-clause-settled g c = values_settled c.args.direction g.L.Loss.IsPoolOf g.L.Loss.meaning g.L.Loss.STRICT g.met.L.Loss.laws c.args.groups.now c.requires.fittable c.args.parents.now c.requires.rooted c.requires.one_each
    c.in_ok-forest.forest.labels.items c.in_ok-forest.forest.slots.items c.in_ok-forest.ensures c.in_ok-values.values.items
    (settled_values c.in_ok-forest.forest.labels.items _ c.in_ok-forest.forest.slots.items _ (length c.args.groups.now) c.in_ok-values.values.items c.deref.ensures.value c.deref-2.ensures.value c.in_ok-forest.ensures.labels_count c.in_ok-values.ensures)

pub returns-clause-least_settled : goal.returns-clause-least_settled
returns-clause-least_settled g c = λ lax. values_least_settled c.args.direction g.L.Loss.IsPoolOf g.L.Loss.meaning g.L.Loss.STRICT g.met.L.Loss.laws c.args.groups.now c.requires.fittable c.args.parents.now c.requires.rooted c.requires.one_each
    c.in_ok-forest.forest.labels.items c.in_ok-forest.forest.slots.items c.in_ok-forest.ensures c.in_ok-values.values.items
    (settled_values c.in_ok-forest.forest.labels.items _ c.in_ok-forest.forest.slots.items _ (length c.args.groups.now) c.in_ok-values.values.items c.deref.ensures.value c.deref-2.ensures.value c.in_ok-forest.ensures.labels_count c.in_ok-values.ensures) lax
