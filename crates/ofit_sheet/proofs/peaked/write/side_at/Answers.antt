use Rattle.ofit_sheet.proofs.Shapes.{rise_there, fall_there}
use Rattle.ofit_sheet.proofs.peaked.write.side_at.Goals as goal

pub returns-in-Rise : goal.returns-in-Rise
returns-in-Rise c = rise_there c.args.slope c.args.peaked.now c.args.index c.rise.result.now c.in-Rise.is c.requires.there c.rise.ensures

pub returns-in-Fall : goal.returns-in-Fall
returns-in-Fall c = fall_there c.args.slope c.args.peaked.now c.args.index c.fall.result.now c.in-Fall.is c.requires.there c.fall.ensures
