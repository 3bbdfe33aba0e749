use Rattle.std.proofs.Common.{◌∙◌}
use Rattle.ofit_study.proofs.Places.{group_count}
use Rattle.ofit_report.proofs.Reported.{best_means}
use Rattle.ofit_report.proofs.report.write_report.Goals as goal

pub report_text-requires-clause-count : goal.report_text-requires-clause-count
report_text-requires-clause-count c = c.requires.count ∙ group_count c.args.study.now

pub report_text-requires-clause-means : goal.report_text-requires-clause-means
report_text-requires-clause-means c = best_means c.args.study.now c.keeps_limits.ensures.valid c.args.values.now c.requires
