use Rattle.std.proofs.Common.{arith, ap, ◌∙◌, ◌≡◌, ℤ, to_z, of_z}
use Rattle.std.proofs.lemmas.Int.{ints}
use Rattle.std.specs.Int.{w64}
use Rattle.ofit_num.specs.Fraction.{Fraction}
use Rattle.ofit_loss.proofs.MedianLeast.{minimiser_of, balances_within}
use Rattle.ofit_loss.proofs.median.MedianLoss.least.Goals as goal

abbrev whole : ℤ → Fraction
whole v = record { num = v; den = 1 }

pub returns-clause-minimiser : goal.returns-clause-minimiser
returns-clause-minimiser c = λ rows pooled fit some.
    let exact : to_z w64 (of_z w64 c.least.result) ≡ c.least.result = omega (arith, ints) in
    minimiser_of c.whole.result c.least.result rows (c.whole.ensures ∙ ap whole exact) fit (c.least.ensures.quantile 1 1 rows pooled)

pub returns-clause-balances : goal.returns-clause-balances
returns-clause-balances c = λ rows pooled fit some. balances_within rows c.whole.result fit.limits
