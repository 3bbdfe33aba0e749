use Rattle.ofit_sheet.proofs.PeakedBack.{peaked_read_back}
use Rattle.ofit_sheet.proofs.peaked.laws.peaked_sheets_are_read_back.Goals as goal

pub returns : goal.returns
returns c = peaked_read_back
