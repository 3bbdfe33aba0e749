use Rattle.ofit_table.proofs.TableReadings.{one_table}
use Rattle.ofit_table.proofs.laws.tables_are_read_in_one_way.Goals as goal

pub returns : goal.returns
returns c = λ bytes settings a b h k u v. one_table bytes settings a b h k u v
