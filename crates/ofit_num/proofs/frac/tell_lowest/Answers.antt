use Rattle.std.proofs.Common.{All, List, subst, arith}
use Rattle.std.proofs.lemmas.List.{take_all}
use Rattle.std.proofs.lemmas.List.Elements.{All-more}
use Rattle.ofit_num.specs.Fraction.{Fraction, IsLowest}
use Rattle.ofit_num.proofs.frac.tell_lowest.Goals as goal

pub loop-value-preserved : goal.loop-value-preserved
loop-value-preserved c = All-more IsLowest c.args.values.now c.loop-value.value-index c.value-item.result c.loop-value-test.true c.loop-value.invariant (subst IsLowest c.value-item.is c.den-den.ensures.lowest)

pub returns : goal.returns
returns c = subst (λ (vs : List Fraction). All IsLowest vs) (take_all c.loop-value.value-index c.args.values.now (omega arith)) c.loop-value.invariant
