use Rattle.std.proofs.Common.{List, ℕ, sym, subst}
use Rattle.ofit_input.specs.Files.{IsFile}
use Rattle.ofit_input.proofs.ScriptStops.{stops}
use Rattle.ofit_input.proofs.script.script_from.Goals as goal

pub returns-in_err-script-clause-stops : goal.returns-in_err-script-clause-stops
returns-in_err-script-clause-stops g c =
    stops (g.F.Folder.held c.args.folder.now) c.args.name.now c.args.settings.now (g.F.Folder.faults c.args.folder.now) (g.F.Folder.faults c.fetch.new.folder) c.as_slice.result.now
    (subst (IsFile (g.F.Folder.held c.args.folder.now) c.args.name.now) (sym c.as_slice.ensures.value) c.in_ok-bytes.ensures.bytes) c.in_ok-bytes.ensures.stays
    c.from_residual-in_err-script.result _ c.from_residual-in_err-script.ensures.1 c.in_err-script.ensures
