use Rattle.std.proofs.Common.{◌≤◌, ℕ, ℤ, sym, subst}
use Rattle.std.specs.Prelude.{Result, unsigned_abs}
use Rattle.ofit_num.specs.declared.limits.TheConstants.{MOST_DEN, MOST_NUM}
use Rattle.ofit_num.specs.NumberText.{IsWhole, IsSigned}
use Rattle.ofit_sheet.specs.declared.fault.RecordFault.{RecordFault}
use Rattle.ofit_sheet.specs.Reading.{IsReading}
use Rattle.ofit_sheet.proofs.Readings.{both_read}
use Rattle.ofit_sheet.proofs.Faults.{fraction_fault}
use Rattle.ofit_sheet.proofs.value.read_fraction.Goals as goal

pub returns-in-Err : goal.returns-in-Err
returns-in-Err c =
    fraction_fault c.args.second.now c.args.third.now c.in-Err.fault
    (subst (λ (r : Result (ℤ × ℕ) RecordFault). IsReading (λ p. IsSigned c.args.second.now p.0 × (IsWhole c.args.third.now p.1 × (1 ≤ p.1))) (λ p. (unsigned_abs p.0 ≤ MOST_NUM) × (p.1 ≤ MOST_DEN)) r) (sym c.in-Err.ensures)
    (both_read (λ (z : ℤ). IsSigned c.args.second.now z) (λ (z : ℤ). unsigned_abs z ≤ MOST_NUM) (λ (n : ℕ). IsWhole c.args.third.now n × (1 ≤ n)) (λ (n : ℕ). n ≤ MOST_DEN) c.read_number.result c.read_positive.result c.read_number.ensures c.read_positive.ensures))
