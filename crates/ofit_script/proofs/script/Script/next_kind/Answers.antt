use Rattle.std.proofs.Common.{◌≤◌, ◌∙◌, ℕ, arith, refl, subst, sym}
use Rattle.csv.specs.Records.{fields_of}
use Rattle.ofit_script.specs.Lines.{most_prints}
use Rattle.ofit_script.specs.Spelling.{field_count, too_many_prints}
use Rattle.ofit_script.proofs.NextRecord.{of_kind}
use Rattle.ofit_script.proofs.script.Script.next_kind.Goals as goal

pub returns-then-len-count_of-clause-err : goal.returns-then-len-count_of-clause-err
returns-then-len-count_of-clause-err c = λ places.
    field_count (omega (arith, c.count.ensures.count)) c.in-Some-kind_of.kind (of_kind (fields_of c.args.row.now) c.in-Some.first.now c.in-Some-kind_of.kind c.in-Some.ensures.some c.in-Some-kind_of.ensures)
    (λ e. c.if-len-count_of.true (c.len.ensures ∙ e ∙ sym c.count_of.ensures)) refl

pub returns-then-prints_too_many-clause-err : goal.returns-then-prints_too_many-clause-err
returns-then-prints_too_many-clause-err c = λ places.
    let many = c.prints_too_many.ensures.yes c.if-prints_too_many.true in
    too_many_prints (omega (arith, c.count.ensures.count)) c.in-Some-kind_of.kind
    (record {
      of = of_kind (fields_of c.args.row.now) c.in-Some.first.now c.in-Some-kind_of.kind c.in-Some.ensures.some c.in-Some-kind_of.ensures;
      count = sym c.len.ensures ∙ c.if-len-count_of.false ∙ c.count_of.ensures;
    })
    many.0 (subst (λ (n : ℕ). most_prints ≤ n) c.print_count.ensures many.1) refl
