use Rattle.ofit_sample.proofs.Once.{one_component_count, one_study, one_summary}
use Rattle.ofit_sample.proofs.laws.samples_are_told_in_one_way.Goals as goal

pub returns-clause-study : goal.returns-clause-study
returns-clause-study c = one_study

pub returns-clause-text : goal.returns-clause-text
returns-clause-text c = one_summary

pub returns-clause-components : goal.returns-clause-components
returns-clause-components c = one_component_count
