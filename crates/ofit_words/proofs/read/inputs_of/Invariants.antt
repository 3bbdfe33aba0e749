use Rattle.ofit_words.proofs.read.inputs_of.Given as goal

abbrev pub ghost-settings_of : goal.ghost-settings_of
ghost-settings_of g a = g.words
