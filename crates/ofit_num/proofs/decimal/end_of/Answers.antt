use Rattle.std.proofs.Common.{ℤ}
use Rattle.ofit_num.specs.DecimalText.{IsPower, IsEnd}
use Rattle.ofit_num.proofs.DecimalTexts.{no_end, none_weaker}
use Rattle.ofit_num.proofs.decimal.end_of.Goals as goal

pub returns-then-is_power_letter-clause-no : goal.returns-then-is_power_letter-clause-no
returns-then-is_power_letter-clause-no c =
    none_weaker c.power_of.result ((x : ℤ) → IsPower c.in-Some.rest.now x → ⊥) ((x : ℤ) → IsEnd c.args.text.now x → ⊥)
    (no_end c.args.text.now c.in-Some.rest.now c.in-Some.letter.now c.in-Some.ensures.cases.0 (c.is_power_letter.ensures.0 c.if-is_power_letter.true)) c.power_of.ensures.no
