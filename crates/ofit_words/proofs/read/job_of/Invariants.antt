use Rattle.ofit_words.proofs.read.job_of.Given as goal

abbrev pub ghost-inputs_of : goal.ghost-inputs_of
ghost-inputs_of g a = g.words

abbrev pub ghost-sample_of : goal.ghost-sample_of
ghost-sample_of g a = g.words
