use Rattle.std.proofs.Common.{rules, ◌≡◌, ◌≤◌, ℕ, ℤ, pos, ◌≤ℤ◌, Result, Ok, Err, arith}
use Rattle.std.proofs.lemmas.Int.{ints}
use Rattle.ofit_num.specs.declared.decimal.NumFault.{NumFault}
use Rattle.ofit_study.proofs.field.read_weight.Goals as goal

same_units : (x : Result ℤ NumFault) (y z : ℤ) → x ≡ Ok y → x ≡ Ok z → y ≡ z
same_units x y z p q = cc

no_units : (x : Result ℤ NumFault) (f : NumFault) (z : ℤ) → x ≡ Err f → x ≡ Ok z → ⊥
no_units x f z p q = cc

positive : (x : ℤ) (n : ℕ) → x ≡ pos n → 1 ≤ n → pos 1 ≤ℤ x
positive x n e h = rw e (omega (arith, ints, h))

pub returns-else-is_positive : goal.returns-else-is_positive
returns-else-is_positive c weight h =
    let e = same_units c.read_decimal.result c.in-Ok.weight (pos weight) c.in-Ok.is (c.read_decimal.ensures.reads (pos weight) h.0.0 (omega (arith, ints, h.0.1))) in
    let yes = positive c.in-Ok.weight weight e h.1 in
    search (rules, yes)

pub returns-in-Err : goal.returns-in-Err
returns-in-Err c weight h = no_units c.read_decimal.result c.in-Err.field-0 (pos weight) c.in-Err.is (c.read_decimal.ensures.reads (pos weight) h.0.0 (omega (arith, ints, h.0.1)))
