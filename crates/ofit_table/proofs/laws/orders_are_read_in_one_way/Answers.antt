use Rattle.ofit_table.proofs.OrderReadings.{one_order}
use Rattle.ofit_table.proofs.laws.orders_are_read_in_one_way.Goals as goal

pub returns : goal.returns
returns c = λ bytes study a b h k u v. one_order bytes study a b h k u v
