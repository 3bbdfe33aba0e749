use Rattle.std.proofs.Common.{◌≡◌, ◌≤◌, ◌*◌, ◌^◌, take, get_or}
use Rattle.std.specs.Prelude.{unsigned_abs}
use Rattle.ofit_study.specs.Study.{places_of}
use Rattle.ofit_check.specs.Check.{amount_along, signed_amount}
use Rattle.ofit_check.proofs.Balances.{int_sum_by}
use Rattle.ofit_check.proofs.balance.balance_at.Given as goal

abbrev pub invariant-loop-index : goal.invariant-loop-index
invariant-loop-index l = record {
  value : l.balance ≡ int_sum_by (λ i. signed_amount l.place (get_or (places_of l.study) i (0, 0)) (amount_along l.sheet.flows (get_or (places_of l.study) i (0, 0)))) (take l.index-index l.index-items);
  size : unsigned_abs l.balance ≤ l.index-index * (2 * 10 ^ 33);
}
