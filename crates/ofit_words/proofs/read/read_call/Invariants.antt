use Rattle.ofit_words.proofs.read.read_call.Given as goal

abbrev pub ghost-job_of : goal.ghost-job_of
ghost-job_of g a = g.settings
