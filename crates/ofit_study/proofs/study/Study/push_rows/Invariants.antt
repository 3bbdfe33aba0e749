use Rattle.std.proofs.Common.{◌≡◌, ◌++◌}
use Rattle.ofit_study.specs.Splice.{rows_between}
use Rattle.ofit_study.proofs.study.Study.push_rows.Given as goal

abbrev pub invariant-loop-index : goal.invariant-loop-index
invariant-loop-index l = l.self ≡ record (l.initial.self) { rows = l.initial.self.rows ++ rows_between l.from.rows l.fn.start l.index }
