use Rattle.ofit_study.specs.Study.{names_of}
use Rattle.ofit_study.proofs.GroupNames.{group_names-distinct}
use Rattle.ofit_sheet.proofs.OneReading.{one_reading}
use Rattle.ofit_sheet.proofs.laws.sheets_are_read_in_one_way.Goals as goal

pub returns : goal.returns
returns c = λ s rows a b h k u v. one_reading (names_of s) (group_names-distinct s.rows) rows a b h k u v
