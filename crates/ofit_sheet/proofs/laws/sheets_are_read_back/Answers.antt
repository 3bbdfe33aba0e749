use Rattle.ofit_sheet.proofs.ReadBack.{sheet_read_back}
use Rattle.ofit_sheet.proofs.laws.sheets_are_read_back.Goals as goal

pub returns : goal.returns
returns c = sheet_read_back
