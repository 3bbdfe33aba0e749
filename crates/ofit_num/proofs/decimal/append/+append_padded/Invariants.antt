use Rattle.ofit_num.proofs.decimal.append.+append_padded.Given as goal

abbrev pub decreases-append_padded : goal.decreases-append_padded
decreases-append_padded l = l.count
