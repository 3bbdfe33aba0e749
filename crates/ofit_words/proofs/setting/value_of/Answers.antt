use Rattle.ofit_words.proofs.Lookups.{has_at, lack_read}
use Rattle.ofit_words.proofs.setting.value_of.Goals as goal

pub returns-in-Some-clause-some : goal.returns-in-Some-clause-some
returns-in-Some-clause-some c p g words r = has_at p g words c.args.settings.now c.args.key c.in-Some.place c.index-settings-place.result c.in-Some.ensures r

pub returns-in-None-clause-none : goal.returns-in-None-clause-none
returns-in-None-clause-none c p g words r = lack_read p g words c.args.settings.now c.args.key r c.in-None.ensures
