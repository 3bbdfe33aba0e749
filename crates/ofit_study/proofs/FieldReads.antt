-- Values, weights and numbers are read in one way.
use Rattle.std.proofs.Common.{◌≡◌, ◌<◌, ℕ, ℤ, pos, List, Result, Err, refl, ap, arith}
use Rattle.std.specs.Prelude.{IsErrOf, unsigned_abs}
use Rattle.ofit_num.specs.declared.decimal.NumFault.{NumFault}
use Rattle.ofit_num.specs.declared.limits.TheConstants.{MOST_UNITS}
use Rattle.ofit_num.specs.declared.whole.WholeFault.{WholeFault}
use Rattle.ofit_num.specs.declared.whole.WholeFault.TheVariants.{NotWhole, TooLarge}
use Rattle.ofit_num.specs.NumberText.{IsWhole}
use Rattle.ofit_num.proofs.DecimalTexts.{one_number}
use Rattle.ofit_num.proofs.Numerals.{IsWhole-number}
use Rattle.ofit_num.proofs.ReadBack.{one_answer}
use Rattle.ofit_study.specs.FieldRead.{IsNumberIn, IsWeight, ValueRead}

pub one_value : (places : ℕ) (text : List ℕ) (a b : Result ℤ NumFault) → ValueRead places text a → ValueRead places text b → a ≡ b
one_value places text a b h k = one_answer text places MOST_UNITS a b h k

pub one_weight : (text : List ℕ) (a b : ℕ) → IsWeight text a → IsWeight text b → a ≡ b
one_weight text a b h k = ap unsigned_abs (one_number text 0 (pos a) (pos b) h.0.0 k.0.0)

-- a text that isn't read as a number up to high spells none from low to high
pub no_number : (text : List ℕ) (low high limit : ℕ) (fault : WholeFault) → limit ≡ high → (IsErrOf {T = ℕ} (Err fault) NotWhole → (n : ℕ) → IsWhole text n → ⊥)
    → (IsErrOf {T = ℕ} (Err fault) TooLarge → (n : ℕ) × IsWhole text n × (limit < n)) → (n : ℕ) → IsNumberIn low high text n → ⊥
no_number text low high limit NotWhole l a b n i = a refl n i.is_whole
no_number text low high limit TooLarge l a b n i =
    let large : (n : ℕ) × IsWhole text n × (limit < n) = b refl in
    omega (arith, IsWhole-number text large.0 n large.1 i.is_whole, large.2, i.at_most)
