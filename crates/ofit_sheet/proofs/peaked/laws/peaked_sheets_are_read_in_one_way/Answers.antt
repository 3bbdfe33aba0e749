use Rattle.ofit_study.specs.Study.{names_of}
use Rattle.ofit_study.proofs.GroupNames.{group_names-distinct}
use Rattle.ofit_sheet.proofs.OnePeaked.{peaked_one}
use Rattle.ofit_sheet.proofs.peaked.laws.peaked_sheets_are_read_in_one_way.Goals as goal

pub returns : goal.returns
returns c = λ s rows a b h k u v. peaked_one (names_of s) (group_names-distinct s.rows) rows a b h k u v
