use Rattle.std.proofs.Common.{◌≡◌, take}
use Rattle.ofit_study.specs.Study.{places_of}
use Rattle.ofit_num.specs.Tight.{tight_among}
use Rattle.ofit_study.proofs.tight.tight_pairs.Given as goal

abbrev pub invariant-loop-index : goal.invariant-loop-index
invariant-loop-index l = l.pairs.items ≡ tight_among l.values (take l.index (places_of l.study))
