use Rattle.ofit_words.specs.declared.setting.Value.TheVariants as value
use Rattle.ofit_words.proofs.Lookups.{found_as, number_known}
use Rattle.ofit_words.proofs.setting.number_at.Goals as goal

pub returns-in-Some : goal.returns-in-Some
returns-in-Some c p g words r = found_as (λ x. value.Number x) p g words c.args.key c.in-Some.value.now c.number.result (λ text h. number_known p g c.args.key text c.in-Some.value.now c.requires h) (c.in-Some.ensures.some p g words r) c.number.ensures

pub returns-in-None : goal.returns-in-None
returns-in-None c p g words r = c.in-None.ensures.none p g words r
