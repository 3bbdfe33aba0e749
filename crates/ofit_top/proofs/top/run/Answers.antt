use Rattle.ofit_top.proofs.Endings.{ends_same}
use Rattle.ofit_top.proofs.top.run.Goals as goal

pub returns-clause-written : goal.returns-clause-written
returns-clause-written g c = (ends_same _ _ _ _ _ c.answer_of-answer.ensures c.do_words.ensures.ends).written

pub returns-clause-counted : goal.returns-clause-counted
returns-clause-counted g c = (ends_same _ _ _ _ _ c.answer_of-answer.ensures c.do_words.ensures.ends).counted

pub returns-clause-reads : goal.returns-clause-reads
returns-clause-reads g c = (ends_same _ _ _ _ _ c.answer_of-answer.ensures c.do_words.ensures.ends).reads

pub returns-clause-puts : goal.returns-clause-puts
returns-clause-puts g c = (ends_same _ _ _ _ _ c.answer_of-answer.ensures c.do_words.ensures.ends).puts
