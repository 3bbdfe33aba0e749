use Rattle.ofit_unimodal.proofs.SplitBounds.{both_splits}
use Rattle.ofit_unimodal.proofs.laws.splits_bound_unimodal_trials.Goals as goal

pub returns : goal.returns
returns c = λ s rises falls low high t peak l h. both_splits s rises falls low high t peak h l
