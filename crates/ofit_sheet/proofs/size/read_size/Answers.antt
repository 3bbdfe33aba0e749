use Rattle.std.proofs.Common.{◌≤◌, ℕ, sym, subst}
use Rattle.std.specs.Prelude.{Result}
use Rattle.ofit_num.specs.NumberText.{IsWhole}
use Rattle.ofit_sheet.specs.declared.fault.RecordFault.{RecordFault}
use Rattle.ofit_sheet.specs.Kept.{most_rows, most_weight}
use Rattle.ofit_sheet.specs.Reading.{IsReading}
use Rattle.ofit_sheet.proofs.Readings.{both_read}
use Rattle.ofit_sheet.proofs.Faults.{size_fault}
use Rattle.ofit_sheet.proofs.size.read_size.Goals as goal

pub returns-in-Err : goal.returns-in-Err
returns-in-Err c =
    size_fault c.args.first.now c.args.second.now c.args.third.now c.in-Err.fault (c.is.ensures.0 c.if-not-is.false)
    (subst (λ (r : Result (ℕ × ℕ) RecordFault). IsReading (λ p. IsWhole c.args.first.now p.0 × IsWhole c.args.second.now p.1) (λ p. (p.0 ≤ most_rows) × (p.1 ≤ most_weight)) r) (sym c.in-Err.ensures)
    (both_read (λ (n : ℕ). IsWhole c.args.first.now n) (λ (n : ℕ). n ≤ most_rows) (λ (n : ℕ). IsWhole c.args.second.now n) (λ (n : ℕ). n ≤ most_weight) c.read_count-rows.result c.read_count-weight.result
    (subst (λ (t : ℕ). IsReading (λ (n : ℕ). IsWhole c.args.first.now n) (λ (n : ℕ). n ≤ t) c.read_count-rows.result) c.from.ensures c.read_count-rows.ensures)
    (subst (λ (t : ℕ). IsReading (λ (n : ℕ). IsWhole c.args.second.now n) (λ (n : ℕ). n ≤ t) c.read_count-weight.result) c.from-2.ensures c.read_count-weight.ensures)))
