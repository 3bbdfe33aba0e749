use Rattle.std.proofs.Common.{◌≤◌, ℕ, ℤ, sym, subst}
use Rattle.std.specs.Prelude.{Result, unsigned_abs}
use Rattle.csv.specs.Records.{fields_of}
use Rattle.ofit_num.specs.declared.limits.TheConstants.{MOST_UNITS}
use Rattle.ofit_num.specs.NumberText.{IsWhole, IsSigned}
use Rattle.ofit_study.specs.Study.{names_of}
use Rattle.ofit_sheet.specs.declared.fault.RecordFault.{RecordFault}
use Rattle.ofit_sheet.specs.Kept.{most_amount}
use Rattle.ofit_sheet.specs.Reading.{IsReading}
use Rattle.ofit_sheet.proofs.Readings.{both_read}
use Rattle.ofit_sheet.proofs.PeakedFaults.{step_fault}
use Rattle.ofit_sheet.proofs.peaked.record.step_of.Goals as goal

pub returns-in-Err : goal.returns-in-Err
returns-in-Err c =
    let text = c.in-Some.text.now in
    let size = c.in-Some.size.now in
    step_fault (names_of c.args.study.now) (fields_of c.args.row.now) c.args.place c.group_name.result.now text c.group_name.ensures size c.in-Some.ensures c.in-Err.fault
    (subst (λ (r : Result (ℤ × ℕ) RecordFault). IsReading (λ p. IsSigned text p.0 × IsWhole size p.1) (λ p. (unsigned_abs p.0 ≤ MOST_UNITS) × (p.1 ≤ most_amount)) r) (sym c.in-Err.ensures)
    (both_read (λ (z : ℤ). IsSigned text z) (λ (z : ℤ). unsigned_abs z ≤ MOST_UNITS) (λ (n : ℕ). IsWhole size n) (λ (n : ℕ). n ≤ most_amount) c.read_number.result c.read_count.result c.read_number.ensures c.read_count.ensures))
