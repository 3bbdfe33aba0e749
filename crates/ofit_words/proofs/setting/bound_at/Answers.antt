use Rattle.ofit_words.specs.declared.setting.Value.TheVariants as value
use Rattle.ofit_words.proofs.Lookups.{found_as, bound_known}
use Rattle.ofit_words.proofs.setting.bound_at.Goals as goal

pub returns-in-Some : goal.returns-in-Some
returns-in-Some c p g words r = found_as (λ x. value.Bound x) p g words c.args.key c.in-Some.value.now c.bound.result (λ text h. bound_known p g c.args.key text c.in-Some.value.now c.requires h) (c.in-Some.ensures.some p g words r) c.bound.ensures

pub returns-in-None : goal.returns-in-None
returns-in-None c p g words r = c.in-None.ensures.none p g words r
