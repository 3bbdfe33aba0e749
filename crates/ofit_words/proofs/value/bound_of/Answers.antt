use Rattle.std.proofs.Common.{◌≡◌, ℕ, ℤ, List, Result, Ok, Err, refl, sym, subst}
use Rattle.ofit_num.specs.declared.decimal.NumFault.{NumFault}
use Rattle.ofit_study.specs.FieldRead.{IsValue}
use Rattle.ofit_study.proofs.FieldReads.{one_value}
use Rattle.ofit_words.proofs.value.bound_of.Goals as goal

clash : (f : NumFault) (z : ℤ) (a b : Result ℤ NumFault) → a ≡ b → a ≡ Err f → b ≡ Ok z → ⊥
clash f z a b e p q = absurd cc

pub returns-in-Err : goal.returns-in-Err
returns-in-Err c x h =
    clash c.in-Err.field-0 x (Err c.in-Err.field-0) (Ok x)
    (one_value c.args.places c.as_bytes.result.now (Err c.in-Err.field-0) (Ok x) c.in-Err.ensures (subst (λ (t : List ℕ). IsValue c.args.places t x) (sym c.as_bytes.ensures.value) h)) refl refl
