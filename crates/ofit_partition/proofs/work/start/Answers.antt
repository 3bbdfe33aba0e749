use Rattle.std.proofs.Common.{ℕ, sym, ap, subst, ◌∙◌, arith, List, [], ◌∷◌, ◌++◌, replicate}
use Rattle.std.specs.Prelude.{None}
use Rattle.std.specs.List.{range_with_len}
use Rattle.ofit_num.specs.Problem.{Problem}
use Rattle.ofit_partition.specs.declared.piece.Piece.{Piece}
use Rattle.ofit_partition.specs.Piece.{partition_problem}
use Rattle.ofit_partition.specs.Work.{IsWork}
use Rattle.ofit_partition.proofs.Works.{one_piece, no_piece}
use Rattle.ofit_partition.proofs.work.start.Goals as goal
use Rattle.ofit_partition.proofs.work.start.Goals.{then-count-gt0+in_ok-whole_piece+in_ok-push, else-count-gt0}

pub returns-clause-work : goal.returns-clause-work
returns-clause-work c = λ m strict.
    let s : Problem = partition_problem c.args.ordered.groups.now c.args.ordered.pairs.now in
    elim c.if-count-gt0.branch [
      | then-count-gt0+in_ok-whole_piece+in_ok-push w ↦ subst (λ (ps : List Piece). IsWork m s strict ps c.in_ok-values.values.items)
          (sym (ap (λ v. v.items) w.pieces-is ∙ w.in_ok-push.ensures.items ∙ ap (λ (ps : List Piece). ps ++ w.in_ok-whole_piece.field-0 ∷ []) c.new-pieces.ensures.items))
          (one_piece m s strict c.requires.places w.in_ok-whole_piece.field-0 c.in_ok-values.values.items (w.in_ok-whole_piece.ensures.places ∙ ap (range_with_len 0) c.count-count.ensures) w.in_ok-whole_piece.ensures.pairs (c.in_ok-values.ensures ∙ ap (λ (n : ℕ). replicate n None) c.count-count.ensures)
          (omega (arith, w.if-count-gt0.true, c.count-count.ensures)))
      | else-count-gt0 w ↦ subst (λ (ps : List Piece). IsWork m s strict ps c.in_ok-values.values.items) (sym (ap (λ v. v.items) w.pieces-is ∙ c.new-pieces.ensures.items))
          (no_piece m s strict c.requires.places c.in_ok-values.values.items (c.in_ok-values.ensures ∙ ap (λ (n : ℕ). replicate n None) c.count-count.ensures) (omega (arith, w.if-count-gt0.false, c.count-count.ensures)))
    ]
