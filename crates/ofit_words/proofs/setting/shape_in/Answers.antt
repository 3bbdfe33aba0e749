use Rattle.ofit_words.specs.declared.key.Key.TheVariants.{Shape}
use Rattle.ofit_words.specs.declared.setting.Value.TheVariants as value
use Rattle.ofit_words.proofs.Lookups.{found_as}
use Rattle.ofit_words.proofs.setting.shape_in.Goals as goal

pub returns-in-Some : goal.returns-in-Some
returns-in-Some c p g words r = found_as (λ x. value.Shape x) p g words Shape c.in-Some.value.now c.shape.result (λ text h. (h.0, h.1)) (c.in-Some.ensures.some p g words r) c.shape.ensures

pub returns-in-None : goal.returns-in-None
returns-in-None c p g words r = c.in-None.ensures.none p g words r
