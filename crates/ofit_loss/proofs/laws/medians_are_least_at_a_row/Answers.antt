use Rattle.ofit_loss.proofs.MedianRow.{whole_least, row_value}
use Rattle.ofit_loss.proofs.laws.medians_are_least_at_a_row.Goals as goal

pub returns : goal.returns
returns c = λ rows d lowest h. (whole_least rows d lowest h, row_value rows d lowest h)
