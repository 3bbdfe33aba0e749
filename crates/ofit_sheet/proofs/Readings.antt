-- Readings of one thing made into readings of another.
use Rattle.std.proofs.Common.{◌≡◌, ℕ, zero, suc, ◌≤◌, ℤ, List, Option, Some, None, Result, Ok, Err, arith}
use Rattle.std.specs.Prelude.{unsigned_abs, codes}
use Rattle.ofit_num.specs.declared.limits.TheConstants.{MOST_UNITS}
use Rattle.ofit_num.specs.NumberText.{IsWhole, IsSigned}
use Rattle.ofit_study.specs.Settings.{IsBoundInLimits}
use Rattle.ofit_sheet.specs.declared.fault.RecordFault.{RecordFault}
use Rattle.ofit_sheet.specs.declared.fault.RecordFault.TheVariants.{Bad, TooLarge}
use Rattle.ofit_sheet.specs.Reading.{IsReading, both_of}
use Rattle.ofit_sheet.specs.Spelling.{IsBoundText}

-- a reading of what is spelled in other words
pub reading_as : {X : Type 0} (P Q W : X → Type 0) (r : Result X RecordFault) → ((x : X) → P x → Q x) → ((x : X) → Q x → P x) → IsReading P W r → IsReading Q W r
reading_as P Q W (Ok x) f g h = (f x h.0, h.1)
reading_as P Q W (Err Bad) f g h = λ x q. h x (g x q)
reading_as P Q W (Err TooLarge) f g h = (h.0, f h.0 h.1, h.2)

module _ {X Y : Type 0} (P W : X → Type 0) (Q V : Y → Type 0) where
  pub both_read : (a : Result X RecordFault) (b : Result Y RecordFault) → IsReading P W a → IsReading Q V b → IsReading (λ p. P p.0 × Q p.1) (λ p. W p.0 × V p.1) (both_of a b)
  both_read (Ok x) (Ok y) h k = ((h.0, k.0), (h.1, k.1))
  both_read (Ok x) (Err Bad) h k = λ p q. k p.1 q.1
  both_read (Ok x) (Err TooLarge) h k = ((x, k.0), (h.0, k.1), λ w. k.2 w.1)
  both_read (Err Bad) (Ok y) h k = λ p q. h p.0 q.0
  both_read (Err Bad) (Err Bad) h k = λ p q. h p.0 q.0
  both_read (Err Bad) (Err TooLarge) h k = λ p q. h p.0 q.0
  both_read (Err TooLarge) (Ok y) h k = ((h.0, y), (h.1, k.0), λ w. h.2 w.0)
  both_read (Err TooLarge) (Err Bad) h k = λ p q. k p.1 q.1
  both_read (Err TooLarge) (Err TooLarge) h k = ((h.0, k.0), (h.1, k.1), λ w. h.2 w.0)

-- a fault of a thing that is spelled by the same text and limited in the same way as another
pub fault_moved : {X Y : Type 0} (P W : X → Type 0) (Q V : Y → Type 0) (fault : RecordFault)
    → ((y : Y) → Q y → ((x : X) → P x → ⊥) → ⊥) → ((x : X) → P x → (W x → ⊥) → (y : Y) × Q y × (V y → ⊥)) → IsReading {X = X} P W (Err fault) → IsReading {X = Y} Q V (Err fault)
fault_moved P W Q V Bad f g h = λ y q. f y q h
fault_moved P W Q V TooLarge f g h = g h.0 h.1 h.2

pub bound_fault : (text : List ℕ) (fault : RecordFault) → (text ≡ codes "none" → ⊥) → IsReading {X = ℤ} (λ z. IsSigned text z) (λ z. unsigned_abs z ≤ MOST_UNITS) (Err fault) → IsReading {X = Option ℤ} (λ b. IsBoundText text b) (λ b. IsBoundInLimits b) (Err fault)
bound_fault text fault n h =
    fault_moved (λ (z : ℤ). IsSigned text z) (λ (z : ℤ). unsigned_abs z ≤ MOST_UNITS) (λ (b : Option ℤ). IsBoundText text b) (λ (b : Option ℤ). IsBoundInLimits b) fault none_is (λ z s l. (Some z, s, l)) h
  where
    none_is : (b : Option ℤ) → IsBoundText text b → ((z : ℤ) → IsSigned text z → ⊥) → ⊥
    none_is None q f = n q
    none_is (Some z) q f = f z q

pub positive_fault : (text : List ℕ) (limit : ℕ) (fault : RecordFault) → IsReading {X = ℕ} (λ n. IsWhole text n) (λ n. n ≤ limit) (Err fault) → IsReading {X = ℕ} (λ n. IsWhole text n × (1 ≤ n)) (λ n. n ≤ limit) (Err fault)
positive_fault text limit fault h =
    fault_moved (λ (n : ℕ). IsWhole text n) (λ (n : ℕ). n ≤ limit) (λ (n : ℕ). IsWhole text n × (1 ≤ n)) (λ (n : ℕ). n ≤ limit) fault (λ n q f. f n q.0) from_one h
  where
    from_one : (n : ℕ) → IsWhole text n → (n ≤ limit → ⊥) → (m : ℕ) × (IsWhole text m × (1 ≤ m)) × (m ≤ limit → ⊥)
    from_one zero w l = absurd (l (omega arith))
    from_one (suc n) w l = (suc n, (w, omega arith), l)
