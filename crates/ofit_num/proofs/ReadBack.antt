-- a text has one reading, and each text of a number within the limit is read
use Rattle.std.proofs.Common.{◌≡◌, ℕ, ◌≤◌, ◌<◌, List, ap, refl, arith}
use Rattle.std.specs.Prelude.{ℤ, unsigned_abs, Result, Ok, Err, IfOk, IsErrOf}
use Rattle.ofit_num.specs.declared.decimal.NumFault.{NumFault}
use Rattle.ofit_num.specs.declared.decimal.NumFault.TheVariants.{NotNumber, TooFine, TooLarge}
use Rattle.ofit_num.specs.declared.whole.WholeFault.{WholeFault}
use Rattle.ofit_num.specs.declared.whole.WholeFault.TheVariants as whole
use Rattle.ofit_num.specs.NumberText.{IsWhole, IsSigned}
use Rattle.ofit_num.specs.DecimalText.{IsUnits, IsNumber, UnitsRead}
use Rattle.ofit_num.proofs.DecimalTexts.{one_number}
use Rattle.ofit_num.proofs.Numerals.{IsWhole-number, IsSigned-number}

number_from : (text : List ℕ) (places : ℕ) (z : ℤ) → IsUnits text places z → IsNumber text
number_from text places z u = record { negative = u.negative; m = u.m; f = u.f; x = u.x; decimal = u.decimal }

not_both : (text : List ℕ) (places limit : ℕ) (y z : ℤ) → IsUnits text places y → IsUnits text places z → unsigned_abs y ≤ limit → limit < unsigned_abs z → ⊥
not_both text places limit y z u v small large = omega (arith, small, large, ap unsigned_abs (one_number text places y z u v))

-- Under a limit a text is read as one number or one fault.
pub one_answer : (text : List ℕ) (places limit : ℕ) (r t : Result ℤ NumFault) → UnitsRead text places limit r → UnitsRead text places limit t → r ≡ t
one_answer text places limit (Ok y) (Ok z) h k = ap Ok (one_number text places y z h.0 k.0)
one_answer text places limit (Ok y) (Err NotNumber) h k = absurd (k (number_from text places y h.0))
one_answer text places limit (Ok y) (Err TooFine) h k = absurd (k.1 y h.0)
one_answer text places limit (Ok y) (Err TooLarge) h k = absurd (not_both text places limit y k.0 h.0 k.1 h.1 k.2)
one_answer text places limit (Err NotNumber) (Ok z) h k = absurd (h (number_from text places z k.0))
one_answer text places limit (Err NotNumber) (Err NotNumber) h k = refl
one_answer text places limit (Err NotNumber) (Err TooFine) h k = absurd (h k.0)
one_answer text places limit (Err NotNumber) (Err TooLarge) h k = absurd (h (number_from text places k.0 k.1))
one_answer text places limit (Err TooFine) (Ok z) h k = absurd (h.1 z k.0)
one_answer text places limit (Err TooFine) (Err NotNumber) h k = absurd (k h.0)
one_answer text places limit (Err TooFine) (Err TooFine) h k = refl
one_answer text places limit (Err TooFine) (Err TooLarge) h k = absurd (h.1 k.0 k.1)
one_answer text places limit (Err TooLarge) (Ok z) h k = absurd (not_both text places limit z h.0 k.0 h.1 k.1 h.2)
one_answer text places limit (Err TooLarge) (Err NotNumber) h k = absurd (k (number_from text places h.0 h.1))
one_answer text places limit (Err TooLarge) (Err TooFine) h k = absurd (k.1 h.0 h.1)
one_answer text places limit (Err TooLarge) (Err TooLarge) h k = refl

-- what is said of each case makes the reading
pub read_from : (text : List ℕ) (places limit : ℕ) (r : Result ℤ NumFault) → IfOk r (λ z. IsUnits text places z × (unsigned_abs z ≤ limit))
    → (IsErrOf r NotNumber → IsNumber text → ⊥)
    → (IsErrOf r TooFine → IsNumber text × ((z : ℤ) → IsUnits text places z → ⊥))
    → (IsErrOf r TooLarge → (z : ℤ) × IsUnits text places z × (limit < unsigned_abs z))
    → UnitsRead text places limit r
read_from text places limit (Ok y) ok n f l = ok
read_from text places limit (Err NotNumber) ok n f l = n refl
read_from text places limit (Err TooFine) ok n f l = f refl
read_from text places limit (Err TooLarge) ok n f l = l refl

pub whole_read : (text : List ℕ) (limit : ℕ) (r : Result ℕ WholeFault) → IfOk r (λ n. IsWhole text n × (n ≤ limit)) → (IsErrOf r whole.NotWhole → (n : ℕ) → IsWhole text n → ⊥)
    → (IsErrOf r whole.TooLarge → (n : ℕ) × IsWhole text n × (limit < n)) → (n : ℕ) → IsWhole text n → n ≤ limit → r ≡ Ok n
whole_read text limit (Ok m) ok none l n w h = ap Ok (IsWhole-number text m n ok.0 w)
whole_read text limit (Err whole.NotWhole) ok none l n w h = absurd (none refl n w)
whole_read text limit (Err whole.TooLarge) ok none l n w h =
    let large : (m : ℕ) × IsWhole text m × (limit < m) = l refl in
    absurd (omega (arith, large.2, h, IsWhole-number text large.0 n large.1 w))

pub signed_read : (text : List ℕ) (limit : ℕ) (r : Result ℤ WholeFault) → IfOk r (λ z. IsSigned text z × (unsigned_abs z ≤ limit)) → (IsErrOf r whole.NotWhole → (z : ℤ) → IsSigned text z → ⊥)
    → (IsErrOf r whole.TooLarge → (z : ℤ) × IsSigned text z × (limit < unsigned_abs z)) → (z : ℤ) → IsSigned text z → unsigned_abs z ≤ limit → r ≡ Ok z
signed_read text limit (Ok y) ok none l z w h = ap Ok (IsSigned-number text y z ok.0 w)
signed_read text limit (Err whole.NotWhole) ok none l z w h = absurd (none refl z w)
signed_read text limit (Err whole.TooLarge) ok none l z w h =
    let large : (y : ℤ) × IsSigned text y × (limit < unsigned_abs y) = l refl in
    absurd (omega (arith, large.2, h, ap unsigned_abs (IsSigned-number text large.0 z large.1 w)))
