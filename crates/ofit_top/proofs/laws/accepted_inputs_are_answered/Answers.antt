use Rattle.ofit_top.proofs.Accepted.{accepted}
use Rattle.ofit_top.proofs.laws.accepted_inputs_are_answered.Goals as goal

pub returns : goal.returns
returns c = λ words job before after answer asked none. accepted words job before after (c.words_have_one_reading.ensures words) asked none answer
