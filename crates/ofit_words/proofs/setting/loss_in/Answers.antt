use Rattle.ofit_words.specs.declared.key.Key.TheVariants.{Loss}
use Rattle.ofit_words.specs.declared.setting.Value.TheVariants as value
use Rattle.ofit_words.proofs.Lookups.{found_as}
use Rattle.ofit_words.proofs.setting.loss_in.Goals as goal

pub returns-in-Some : goal.returns-in-Some
returns-in-Some c p g words r = found_as (λ x. value.Loss x) p g words Loss c.in-Some.value.now c.loss.result (λ text h. (h.0, h.1)) (c.in-Some.ensures.some p g words r) c.loss.ensures

pub returns-in-None : goal.returns-in-None
returns-in-None c p g words r = c.in-None.ensures.none p g words r
