use Rattle.ofit_table.proofs.PatternReadings.{one_pattern}
use Rattle.ofit_table.proofs.laws.patterns_are_read_in_one_way.Goals as goal

pub returns : goal.returns
returns c = λ pattern study a b h k u v. one_pattern pattern study a b h k u v
