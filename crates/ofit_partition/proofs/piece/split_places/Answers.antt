use Rattle.std.proofs.Common.{◌≡◌, ℕ, ◌+◌, ◌<◌, sym, ap, ◌∙◌, Bool, true, false, not, cond, List, [], ◌∷◌, ◌++◌, length, take, get_or, append-nil}
use Rattle.std.proofs.lemmas.List.{take_all}
use Rattle.std.proofs.lemmas.List.Elements.{filter_more}
use Rattle.std.specs.List.{filter}
use Rattle.ofit_partition.specs.Piece.{is_marked}
use Rattle.ofit_partition.proofs.piece.split_places.Goals as goal
use Rattle.ofit_partition.proofs.piece.split_places.Goals.{then-is_in+in_ok-push, else-is_in+in_ok-push-2}

module _ (p : ℕ → Bool) (xs : List ℕ) (i : ℕ) (l : i < length xs) (ys : List ℕ) (so_far : ys ≡ filter p (take i xs)) where
  step : (b : Bool) → p (get_or xs i 0) ≡ b → filter p (take (i + 1) xs) ≡ filter p (take i xs) ++ cond b (get_or xs i 0 ∷ []) []
  step b h = filter_more p xs i 0 l ∙ ap (λ (x : Bool). filter p (take i xs) ++ cond x (get_or xs i 0 ∷ []) []) h

  taken : p (get_or xs i 0) ≡ true → ys ++ get_or xs i 0 ∷ [] ≡ filter p (take (i + 1) xs)
  taken h = ap (λ (zs : List ℕ). zs ++ get_or xs i 0 ∷ []) so_far ∙ sym (step true h)

  left : p (get_or xs i 0) ≡ false → ys ≡ filter p (take (i + 1) xs)
  left h = so_far ∙ sym (step false h ∙ append-nil (filter p (take i xs)))

pub loop-place-preserved : goal.loop-place-preserved
loop-place-preserved c =
    let mark : ℕ → Bool = is_marked c.args.positions.now c.args.set.now in
    elim c.if-is_in.branch [
      | then-is_in+in_ok-push w ↦ (
        ap (λ v. v.items) w.chosen-is ∙ w.in_ok-push.ensures.items ∙ taken mark c.args.places.now c.loop-place.place-index c.loop-place-test.true c.loop-place.chosen.items c.loop-place.invariant.0 (sym c.is_in.ensures ∙ w.if-is_in.true),
        ap (λ v. v.items) w.rest-is ∙ left (λ x. not (mark x)) c.args.places.now c.loop-place.place-index c.loop-place-test.true c.loop-place.rest.items c.loop-place.invariant.1 (ap not (sym c.is_in.ensures ∙ w.if-is_in.true)),
      )
      | else-is_in+in_ok-push-2 w ↦ (
        ap (λ v. v.items) w.chosen-is ∙ left mark c.args.places.now c.loop-place.place-index c.loop-place-test.true c.loop-place.chosen.items c.loop-place.invariant.0 (sym c.is_in.ensures ∙ w.if-is_in.false),
        ap (λ v. v.items) w.rest-is ∙ w.in_ok-push-2.ensures.items ∙ taken (λ x. not (mark x)) c.args.places.now c.loop-place.place-index c.loop-place-test.true c.loop-place.rest.items c.loop-place.invariant.1 (ap not (sym c.is_in.ensures ∙ w.if-is_in.false)),
      )
    ]

pub returns-clause-chosen : goal.returns-clause-chosen
returns-clause-chosen c = c.loop-place.invariant.0 ∙ ap (filter (is_marked c.args.positions.now c.args.set.now)) (take_all c.loop-place.place-index c.args.places.now c.loop-place-test.false)

pub returns-clause-rest : goal.returns-clause-rest
returns-clause-rest c = c.loop-place.invariant.1 ∙ ap (filter (λ g. not (is_marked c.args.positions.now c.args.set.now g))) (take_all c.loop-place.place-index c.args.places.now c.loop-place-test.false)
