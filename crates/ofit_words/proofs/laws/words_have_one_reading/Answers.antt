use Rattle.ofit_words.proofs.OneReading.{one_reading}
use Rattle.ofit_words.proofs.laws.words_have_one_reading.Goals as goal

pub returns : goal.returns
returns c = one_reading
