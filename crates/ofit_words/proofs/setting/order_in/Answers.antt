use Rattle.std.proofs.Common.{List, Some, sym, subst}
use Rattle.ofit_words.specs.declared.key.Key.TheVariants.{Order}
use Rattle.ofit_words.specs.declared.setting.Setting.{Setting}
use Rattle.ofit_words.specs.declared.setting.Value.TheVariants as value
use Rattle.ofit_words.specs.Read.{HasAt, IsFirstOf, LackKey}
use Rattle.ofit_words.proofs.Lookups.{found_as, has_at, lack_read}
use Rattle.ofit_words.proofs.setting.order_in.Goals as goal

pub returns-in-Some : goal.returns-in-Some
returns-in-Some c p g words r =
    let first = subst (λ (ss : List Setting). IsFirstOf ss Order (Some c.in-Some.place)) c.as_slice.ensures.value c.in-Some.ensures in
    found_as (λ x. value.Order x) p g words Order c.swap_remove.result.value c.order_from.result (λ text h. (h.0, h.1))
    (subst (λ (s : Setting). HasAt p g words Order s.value) (sym c.swap_remove.ensures.value) (has_at p g words c.args.settings.items Order c.in-Some.place c.swap_remove.result first r)) c.order_from.ensures

pub returns : goal.returns
returns c p g words r = lack_read p g words c.args.settings.items Order r (subst (λ (ss : List Setting). LackKey ss Order) c.as_slice.ensures.value c.in-None.ensures)
