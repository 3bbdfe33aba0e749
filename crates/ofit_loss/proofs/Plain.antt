-- Rows with numbers that are kept for observations are rows that a loss takes.
use Rattle.std.proofs.Common.{◌≡◌, ℕ, ◌<◌, ◌≤◌, List, [], ◌∷◌, ◌++◌, ◌+◌, length, refl, ap, arith, Bool, false, nat_lt, cond}
use Rattle.std.proofs.lemmas.Bool.Decides.{nat_tests}
use Rattle.std.proofs.lemmas.List.Elements.{All-head, All-tail, All-weaker}
use Rattle.std.proofs.lemmas.List.Sums.{sum_by-append, sum_by-cons}
use Rattle.std.specs.Prelude.{All, Any}
use Rattle.ofit_num.specs.declared.row.Row.{Row}
use Rattle.ofit_num.specs.RowLimits.{AreWithinLimits}
use Rattle.ofit_loss.specs.Rows.{last_plain, IsPlain, AreFittable, special_count}

-- numbers up to a small one are those of plain rows
pub plain_upto : (n : ℕ) → n ≤ last_plain → (rows : List Row) → All (λ r. r.number ≤ n) rows → All IsPlain rows
plain_upto n small rows h = All-weaker (λ r. r.number ≤ n) IsPlain (λ r l. omega (arith, l, small)) rows h

not_special : (k : ℕ) → k ≤ last_plain → nat_lt last_plain k ≡ false
not_special k l = grind (arith, nat_tests)

none_special : (rows : List Row) → All IsPlain rows → special_count rows ≡ 0
none_special [] h = refl
none_special (r ∷ rows) h = omega (
  arith,
  sum_by-cons (λ (q : Row). cond (nat_lt last_plain q.number) 1 0) r rows,
  ap {B = ℕ} (λ (b : Bool). cond b 1 0) (not_special r.number (All-head IsPlain r rows h)),
  none_special rows (All-tail IsPlain r rows h),
)

pub special_count-append : (xs ys : List Row) → special_count (xs ++ ys) ≡ special_count xs + special_count ys
special_count-append xs ys = sum_by-append (λ (r : Row). cond (nat_lt last_plain r.number) 1 0) xs ys

pub plain_fittable : (rows : List Row) → AreWithinLimits rows → All IsPlain rows → AreFittable rows
plain_fittable rows limits plain = record { limits = limits; special = omega (arith, none_special rows plain) }

pub some_plain : (rows : List Row) → 0 < length rows → All IsPlain rows → Any IsPlain rows
some_plain [] some plain = absurd (omega arith)
some_plain (r ∷ rows) some plain = (0, r, omega arith, refl, All-head IsPlain r rows plain)
