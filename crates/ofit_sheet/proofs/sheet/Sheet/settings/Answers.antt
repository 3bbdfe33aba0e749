use Rattle.std.proofs.Common.{subst}
use Rattle.ofit_sheet.specs.Kept.{IsKept}
use Rattle.ofit_sheet.proofs.Keeping.{kept}
use Rattle.ofit_sheet.proofs.sheet.Sheet.settings.Goals as goal

pub returns-clause-kept : goal.returns-clause-kept
returns-clause-kept c = subst IsKept c.self.view_is (kept _ _ _ _ c.self.invariant)
