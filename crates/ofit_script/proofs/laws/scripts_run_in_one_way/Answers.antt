use Rattle.ofit_script.proofs.OneRun.{script_end, script_text}
use Rattle.ofit_script.proofs.laws.scripts_run_in_one_way.Goals as goal

pub returns-clause-studies : goal.returns-clause-studies
returns-clause-studies c = λ s valid r lines a b t u n m h k. (script_end lines r s valid.rising a b t u n m h k).study

pub returns-clause-fits : goal.returns-clause-fits
returns-clause-fits c = λ s valid r lines a b t u n m h k. (script_end lines r s valid.rising a b t u n m h k).fits

pub returns-clause-texts : goal.returns-clause-texts
returns-clause-texts c = λ s valid r lines a b t u n m other h k. script_text lines r s valid.rising a b t u n m other h k
