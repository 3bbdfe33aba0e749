use Rattle.std.proofs.Common.{◌∙◌}
use Rattle.ofit_study.specs.declared.pattern.Pattern.TheVariants.{Chain}
use Rattle.ofit_words.specs.declared.job.OrderChoice.TheVariants.{Shaped}
use Rattle.ofit_words.specs.declared.key.Key.TheVariants as key
use Rattle.ofit_words.specs.declared.setting.Value.TheVariants as value
use Rattle.ofit_words.specs.Values.{IsOrder}
use Rattle.ofit_words.proofs.Lookups.{in_force_found, order_reads}
use Rattle.ofit_words.proofs.read.inputs_of.Goals as goal

pub returns : goal.returns
returns g c =
    let p = c.args.force.places in
    let q = c.args.force.groups in
    let settings = c.settings_of-settings.ensures in (
      record {
        table = c.in_ok-copy_of.ensures ∙ c.as_str.ensures.value;
        order = in_force_found IsOrder (λ x. value.Order x) (Shaped Chain) _ p q g.words key.Order c.order_in.result (order_reads p q) (c.order_in.ensures p q g.words c.requires.0) c.unwrap_or.ensures;
        settings = settings.settings;
        bounds = c.if-cross.ensures;
      },
      record { loss = settings.loss; places = settings.places; lo = settings.lo; hi = settings.hi; order = c.if-cross.ensures },
    )
