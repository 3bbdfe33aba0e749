-- What is wrong with the fields of a record is wrong with the record.
use Rattle.std.proofs.Common.{◌≡◌, ℕ, ◌≤◌, ℤ, pos, List, Some, Err, refl, sym, ap, subst, ◌∙◌}
use Rattle.std.specs.Prelude.{unsigned_abs, slice_get}
use Rattle.ofit_num.specs.declared.limits.TheConstants.{MOST_DEN, MOST_NUM}
use Rattle.ofit_num.specs.NumberText.{IsWhole, IsSigned}
use Rattle.ofit_num.specs.Fraction.{Fraction, IsLowest}
use Rattle.ofit_num.specs.Reduced.{InLimits, Reduces}
use Rattle.ofit_num.proofs.Numerals.{IsWhole-number, IsSigned-number}
use Rattle.ofit_num.proofs.Coprime.{same_lowest}
use Rattle.ofit_sheet.specs.declared.size.Size as size
use Rattle.ofit_sheet.specs.declared.fault.RecordFault.{RecordFault}
use Rattle.ofit_sheet.specs.Kept.{IsSizeInLimits, most_rows, most_weight, most_amount}
use Rattle.ofit_study.specs.FieldText.{dash}
use Rattle.ofit_sheet.specs.Reading.{IsReading}
use Rattle.ofit_sheet.specs.Spelling.{SpellsSize, SpellsFraction, SpellsValue, SpellsFlow}
use Rattle.ofit_sheet.proofs.Readings.{fault_moved}

pub size_fault : (first second third : List ℕ) (fault : RecordFault) → third ≡ dash
    → IsReading {X = ℕ × ℕ} (λ p. IsWhole first p.0 × IsWhole second p.1) (λ p. (p.0 ≤ most_rows) × (p.1 ≤ most_weight)) (Err fault)
    → IsReading {X = size.Size} (λ z. SpellsSize first second third z.rows z.weight) (λ z. IsSizeInLimits z.rows z.weight) (Err fault)
size_fault first second third fault d h =
    fault_moved (λ (p : ℕ × ℕ). IsWhole first p.0 × IsWhole second p.1) (λ (p : ℕ × ℕ). (p.0 ≤ most_rows) × (p.1 ≤ most_weight)) (λ (z : size.Size). SpellsSize first second third z.rows z.weight) (λ (z : size.Size). IsSizeInLimits z.rows z.weight) fault
    (λ z s bad. bad (z.rows, z.weight) (s.count, s.total)) (λ p s l. (record { rows = p.0; weight = p.1 }, record { count = s.0; total = s.1; no_more = d }, λ w. l (w.few, w.light))) h

pub fraction_fault : (second third : List ℕ) (fault : RecordFault)
    → IsReading {X = ℤ × ℕ} (λ p. IsSigned second p.0 × (IsWhole third p.1 × (1 ≤ p.1))) (λ p. (unsigned_abs p.0 ≤ MOST_NUM) × (p.1 ≤ MOST_DEN)) (Err fault)
    → IsReading {X = Fraction} (λ c. SpellsFraction second third c × (InLimits c → IsLowest c)) (λ c. InLimits c) (Err fault)
fraction_fault second third fault h =
    fault_moved (λ (p : ℤ × ℕ). IsSigned second p.0 × (IsWhole third p.1 × (1 ≤ p.1))) (λ (p : ℤ × ℕ). (unsigned_abs p.0 ≤ MOST_NUM) × (p.1 ≤ MOST_DEN))
    (λ (c : Fraction). SpellsFraction second third c × (InLimits c → IsLowest c)) (λ (c : Fraction). InLimits c) fault
    (λ c s bad. bad (c.num, c.den) (s.0.numerator, (s.0.denominator, s.0.positive)))
    (λ p s l. (record { num = p.0; den = p.1 }, (record { numerator = s.0; denominator = s.1.0; positive = s.1.1 }, λ w. absurd (l (w.num, w.den))), λ w. l (w.num, w.den))) h

-- two numbers that are in no lowest terms
pub fraction_bad : (second third : List ℕ) (num : ℤ) (den : ℕ) → IsSigned second num → IsWhole third den → unsigned_abs num ≤ MOST_NUM → den ≤ MOST_DEN → (IsLowest (record { num = num; den = den }) → ⊥)
    → (c : Fraction) → SpellsFraction second third c × (InLimits c → IsLowest c) → ⊥
fraction_bad second third num den n d few most higher c s =
    let tops : c.num ≡ num = IsSigned-number second c.num num s.0.numerator n in
    let bottoms : c.den ≡ den = IsWhole-number third c.den den s.0.denominator d in
    let this : Fraction = record { num = num; den = den } in
    let same : c ≡ this = ap (λ (t : ℤ). let f : Fraction = record { num = t; den = c.den } in f) tops ∙ ap (λ (t : ℕ). let f : Fraction = record { num = num; den = t } in f) bottoms in
    higher (subst IsLowest same (s.1 (record { num = subst (λ (t : ℤ). unsigned_abs t ≤ MOST_NUM) (sym tops) few; den = subst (λ (t : ℕ). t ≤ MOST_DEN) (sym bottoms) most })))

pub lowest_reduced : (num : ℤ) (den : ℕ) (c : Fraction) → Reduces num (pos den) c → IsLowest (record { num = num; den = den }) → (c.num ≡ num) × (c.den ≡ den)
lowest_reduced num den c r l =
    let this : Fraction = record { num = num; den = den } in
    let same : c ≡ this = same_lowest c this r.lowest l r.same in
    (ap (λ (f : Fraction). f.num) same, ap (λ (f : Fraction). f.den) same)

pub value_fault : (names : List (List ℕ)) (first second third : List ℕ) (least place : ℕ) (fault : RecordFault) → slice_get names place ≡ Some first → least ≤ place
    → IsReading {X = Fraction} (λ c. SpellsFraction second third c × (InLimits c → IsLowest c)) (λ c. InLimits c) (Err fault)
    → IsReading {X = ℕ × Fraction} (λ v. SpellsValue names first second third v.0 v.1 × (least ≤ v.0) × (InLimits v.1 → IsLowest v.1)) (λ v. InLimits v.1) (Err fault)
value_fault names first second third least place fault e l h =
    fault_moved (λ (c : Fraction). SpellsFraction second third c × (InLimits c → IsLowest c)) (λ (c : Fraction). InLimits c)
    (λ (v : ℕ × Fraction). SpellsValue names first second third v.0 v.1 × (least ≤ v.0) × (InLimits v.1 → IsLowest v.1)) (λ (v : ℕ × Fraction). InLimits v.1) fault
    (λ v s bad. bad v.1 (s.0.fraction, s.2)) (λ c s w. ((place, c), (record { group = e; fraction = s.0 }, l, s.1), w)) h

pub flow_fault : (names : List (List ℕ)) (first second third : List ℕ) (low high : ℕ) (fault : RecordFault) → slice_get names low ≡ Some first → slice_get names high ≡ Some second
    → IsReading {X = ℕ} (λ n. IsWhole third n × (1 ≤ n)) (λ n. n ≤ most_amount) (Err fault)
    → IsReading {X = ℕ × ℕ × ℤ} (λ f. SpellsFlow names first second third f.0 f.1 f.2) (λ f. unsigned_abs f.2 ≤ most_amount) (Err fault)
flow_fault names first second third low high fault e f h =
    fault_moved (λ (n : ℕ). IsWhole third n × (1 ≤ n)) (λ (n : ℕ). n ≤ most_amount) (λ (f : ℕ × ℕ × ℤ). SpellsFlow names first second third f.0 f.1 f.2) (λ (f : ℕ × ℕ × ℤ). unsigned_abs f.2 ≤ most_amount) fault
    (λ f s bad. bad s.size (s.whole, s.positive))
    (λ n s w. ((low, high, pos n), record { low_group = e; high_group = f; size = n; whole = s.0; positive = s.1; is_size = refl }, w)) h
