use Rattle.ofit_study.proofs.PrintedNames.{printed}
use Rattle.ofit_study.proofs.name.is_plain.Goals as goal

pub returns-then-is_printed : goal.returns-then-is_printed
returns-then-is_printed c = (λ e. printed c.args.bytes.now (c.is_printed.ensures.0 c.if-is_printed.true), λ p. c.if-is_printed.true)
