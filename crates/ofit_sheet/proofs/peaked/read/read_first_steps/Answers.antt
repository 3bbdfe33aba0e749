use Rattle.std.proofs.Common.{◌≡◌, ◌+◌, ◌++◌, ◌∷◌, [], ℤ, pos, map, length, ap, subst, sym, arith}
use Rattle.std.specs.Prelude.{All, ◌≤ℤ◌}
use Rattle.std.proofs.lemmas.List.{length_push}
use Rattle.std.proofs.lemmas.List.Elements.{All-append, All-cons, All-nil}
use Rattle.std.specs.List.{range_with_len}
use Rattle.ofit_study.specs.Study.{names_of}
use Rattle.ofit_sheet.specs.Slots.{step_slot}
use Rattle.ofit_sheet.specs.PeakedRead.{step_told}
use Rattle.ofit_sheet.proofs.PeakedParts.{passed_on, loop_more, map_all, map_fault, map_push}
use Rattle.ofit_sheet.proofs.PeakedAmounts.{step_amount}
use Rattle.ofit_sheet.proofs.peaked.read.read_first_steps.Goals as goal

pub returns-in_err-step-clause-read : goal.returns-in_err-step-clause-read
returns-in_err-step-clause-read c =
    let names = names_of c.args.study.now in
    let l = c.loop-offset in
    passed_on names (map step_slot (range_with_len c.args.start c.args.count)) _ c.args.cursor.now.number c.take_step.new.cursor.number c.args.cursor.now.records c.take_step.new.cursor.records c.from_residual.result c.in_err-step.field-0.0
    c.from_residual.ensures.0 c.from_residual.ensures.1
    (map_fault names step_slot c.args.start l.offset (c.args.start + l.offset) (omega arith) (map step_told l.steps.items) c.args.cursor.now.number l.cursor.number c.args.cursor.now.records l.cursor.records l.invariant.taken c.args.count c.loop-offset-test.true
    c.in_err-step.field-0.0 c.in_err-step.ensures)

pub loop-offset-preserved : goal.loop-offset-preserved
loop-offset-preserved c =
    let names = names_of c.args.study.now in
    let l = c.loop-offset in
    let step = c.in_ok-step.step in
    let pushed : c.push.new.self.items ≡ l.steps.items ++ step ∷ [] = c.in-Ok.ensures.items in
    record {
      taken = loop_more names (λ k. step_slot k ∷ []) c.args.start l.offset (c.args.start + l.offset) (omega arith) (map step_told l.steps.items) c.args.cursor.now.number l.cursor.number c.args.cursor.now.records l.cursor.records l.invariant.taken
          (step_told step ∷ []) (map step_told c.push.new.self.items) c.take_step.new.cursor.number c.take_step.new.cursor.records c.in_ok-step.ensures (map_push step_told l.steps.items c.push.new.self.items step pushed);
      counted = omega (arith, ap length pushed, length_push l.steps.items step, l.invariant.counted);
      amounts = subst (All (λ (s : ℤ × ℤ). pos 0 ≤ℤ s.1)) (sym pushed)
          (All-append (λ (s : ℤ × ℤ). pos 0 ≤ℤ s.1) l.steps.items (step ∷ []) l.invariant.amounts
          (All-cons (λ (s : ℤ × ℤ). pos 0 ≤ℤ s.1) step [] (step_amount names (c.args.start + l.offset) step.0 step.1 _ _ _ _ c.in_ok-step.ensures) (All-nil (λ (s : ℤ × ℤ). pos 0 ≤ℤ s.1))));
    }

pub returns-clause-read : goal.returns-clause-read
returns-clause-read c =
    let names = names_of c.args.study.now in
    let l = c.loop-offset in
    let all : l.offset ≡ c.args.count = omega (arith, c.loop-offset-test.false) in
    rw all at (map_all names step_slot (range_with_len c.args.start l.offset) (map step_told l.steps.items) c.args.cursor.now.number l.cursor.number c.args.cursor.now.records l.cursor.records l.invariant.taken)
