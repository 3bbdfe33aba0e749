use Rattle.std.proofs.Common.{rules, ◌≡◌, ℕ, ◌<◌, refl, sym, subst, List, [], ◌∷◌, ◌++◌, length}
use Rattle.std.proofs.lemmas.List.{nil_from_length}
use Rattle.std.specs.Prelude.{Option}
use Rattle.ofit_num.specs.Fraction.{Fraction}
use Rattle.ofit_num.specs.Problem.{Problem}
use Rattle.ofit_num.specs.Meaning.{Meaning}
use Rattle.ofit_num.specs.Law.{HasFallingSpans}
use Rattle.ofit_partition.specs.Piece.{partition_problem}
use Rattle.ofit_partition.specs.Cut.{IsCutOf}
use Rattle.ofit_partition.specs.Work.{AreSettled}
use Rattle.ofit_partition.proofs.Cutting.{order_falling}
use Rattle.ofit_partition.proofs.Works.{open_step, listed_step, settled_step}
use Rattle.ofit_partition.proofs.work.take_up.Goals as goal
use Rattle.ofit_partition.proofs.work.take_up.Goals.{in-Open+in_ok-push-in-Open+in_ok-push-in-Open-2, in-Settled+then-not-is_empty+in_ok-push-in-Settled, in-Settled+else-not-is_empty}

put_at : {places places' : List ℕ} {value : Fraction} {before before' after after' : List (Option Fraction)} → places' ≡ places → before' ≡ before → after ≡ after' → AreSettled places' value before' after' → AreSettled places value before after
put_at {places} {places'} {value} {before} {before'} {after} {after'} e f k h = subst (λ (xs : List ℕ). AreSettled xs value before after) e (subst (λ (ys : List (Option Fraction)). AreSettled places' value ys after) f (subst (λ (ys : List (Option Fraction)). AreSettled places' value before' ys) (sym k) h))

pub returns-clause-work : goal.returns-clause-work
returns-clause-work g c =
    let m : Meaning = g.L.Loss.meaning in
    let s : Problem = partition_problem c.args.ordered.groups.now c.args.ordered.pairs.now in
    let law : HasFallingSpans m s = order_falling m g.L.Loss.STRICT g.met.L.Loss.laws c.args.ordered.groups.now c.args.ordered.pairs.now c.requires.order.fittable in
    elim c.match-branch-2.branch [
      | in-Open+in_ok-push-in-Open+in_ok-push-in-Open-2 w ↦
          let pieces : c.match-branch-2.work.pieces.items ≡ (c.args.work.now.pieces.items ++ w.in-Open.parts.rest ∷ []) ++ w.in-Open.parts.chosen ∷ [] = search rules in
          let values : c.match-branch-2.work.values.items ≡ c.args.work.now.values.items = search rules in
          open_step m s g.L.Loss.STRICT law c.requires.order.places c.args.work.now.pieces.items c.args.work.now.values.items c.args.piece c.requires.work w.in-Open.parts
          (subst (IsCutOf m s g.L.Loss.STRICT c.args.piece) w.in-Open.is c.in_ok-parts.ensures) c.match-branch-2.work.pieces.items c.match-branch-2.work.values.items pieces values
      | in-Settled+then-not-is_empty+in_ok-push-in-Settled w ↦
          let pieces : c.match-branch-2.work.pieces.items ≡ c.args.work.now.pieces.items ++ w.in-Settled.parts.rest ∷ [] = search rules in
          let values : c.match-branch-2.work.values.items ≡ w.settle.new.values.items = search rules in
          let put : AreSettled w.in-Settled.parts.chosen.places.items w.in-Settled.value c.args.work.now.values.items c.match-branch-2.work.values.items =
          put_at w.deref.ensures.value refl values w.settle.ensures in
          let some : 0 < length w.in-Settled.parts.rest.places.items = search rules in
          listed_step m s g.L.Loss.STRICT law c.requires.order.places c.args.work.now.pieces.items c.args.work.now.values.items c.args.piece c.requires.work w.in-Settled.parts w.in-Settled.value
          (subst (IsCutOf m s g.L.Loss.STRICT c.args.piece) w.in-Settled.is c.in_ok-parts.ensures) c.match-branch-2.work.pieces.items c.match-branch-2.work.values.items pieces put some
      | in-Settled+else-not-is_empty w ↦
          let pieces : c.match-branch-2.work.pieces.items ≡ c.args.work.now.pieces.items = search rules in
          let values : c.match-branch-2.work.values.items ≡ w.settle.new.values.items = search rules in
          let put : AreSettled w.in-Settled.parts.chosen.places.items w.in-Settled.value c.args.work.now.values.items c.match-branch-2.work.values.items =
          put_at w.deref.ensures.value refl values w.settle.ensures in
          let none : w.in-Settled.parts.rest.places.items ≡ [] = nil_from_length w.in-Settled.parts.rest.places.items (search rules) in
          settled_step m s g.L.Loss.STRICT law c.requires.order.places c.args.work.now.pieces.items c.args.work.now.values.items c.args.piece c.requires.work w.in-Settled.parts w.in-Settled.value
          (subst (IsCutOf m s g.L.Loss.STRICT c.args.piece) w.in-Settled.is c.in_ok-parts.ensures) c.match-branch-2.work.pieces.items c.match-branch-2.work.values.items pieces put none
    ]
