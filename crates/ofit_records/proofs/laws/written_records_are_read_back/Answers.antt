use Rattle.ofit_records.proofs.WrittenText.{read_back_all, no_mark}
use Rattle.ofit_records.proofs.laws.written_records_are_read_back.Goals as goal

pub returns-clause-read_back : goal.returns-clause-read_back
returns-clause-read_back c = read_back_all

pub returns-clause-unmarked : goal.returns-clause-unmarked
returns-clause-unmarked c = no_mark
