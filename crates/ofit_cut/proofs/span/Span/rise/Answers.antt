use Rattle.std.proofs.Common.{rules, arith, ap, sym, FitsSigned, ℤ, Option}
use Rattle.std.proofs.lemmas.Int.{ints, to_z-of_z}
use Rattle.std.specs.Int.{w128}
use Rattle.std.specs.Prelude.{◌-ℤ◌}
use Rattle.ofit_cut.specs.Slack.{rise}
use Rattle.ofit_cut.proofs.Sizes.{fits-amount}
use Rattle.ofit_cut.proofs.span.Span.rise.Goals as goal

pub overflow_sub-result : goal.overflow_sub-result
overflow_sub-result c =
    let end_fits : FitsSigned w128 c.in-Some.end = search rules in
    let balance_fits : FitsSigned w128 c.args.balance = c.ranges.balance in
    simp to_z-of_z (fits-amount (c.in-Some.end -ℤ c.args.balance)
    (omega (arith, ints, c.requires.base.inside.greatest c.in-Some.end c.in-Some.is)) (omega (arith, ints, c.requires.base.rises c.in-Some.end c.in-Some.is, c.requires.small)))

pub returns-in-Some : goal.returns-in-Some
returns-in-Some c =
    let end_fits : FitsSigned w128 c.in-Some.end = search rules in
    let balance_fits : FitsSigned w128 c.args.balance = c.ranges.balance in
    let fits : FitsSigned w128 (c.in-Some.end -ℤ c.args.balance) = fits-amount (c.in-Some.end -ℤ c.args.balance)
    (omega (arith, ints, c.requires.base.inside.greatest c.in-Some.end c.in-Some.is)) (omega (arith, ints, c.requires.base.rises c.in-Some.end c.in-Some.is, c.requires.small)) in
    simp to_z-of_z (sym (ap (λ (o : Option ℤ). rise o c.args.balance) c.in-Some.is))
