use Rattle.ofit_script.proofs.Running.{IsRunSoFar}
use Rattle.ofit_script.proofs.run.run_script.Given as goal

abbrev pub invariant-loop-index : goal.invariant-loop-index
invariant-loop-index l = IsRunSoFar l.fn.session.study l.script l.index l.session.study l.text.items l.fn.tally l.tally
