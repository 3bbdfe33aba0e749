use Rattle.std.proofs.Common.{List, length, sym, ap, subst, arith}
use Rattle.std.proofs.lemmas.List.Elements.{All-get_or}
use Rattle.ofit_script.specs.declared.line.Line.{Line}
use Rattle.ofit_script.specs.Script.{IsLineInLimits}
use Rattle.ofit_script.proofs.script.Script.line.Goals as goal

pub returns-clause-limits : goal.returns-clause-limits
returns-clause-limits c =
    subst IsLineInLimits (sym c.index.ensures)
    (All-get_or IsLineInLimits c.self.inside.lines.items c.args.index c.index.result.now (omega (arith, ap (λ (t : List Line). length t) c.self.view_is, c.requires)) c.self.invariant.0.limits)
