use Rattle.ofit_fit.proofs.Components.{HasComponents, to_parts, from_parts}
use Rattle.ofit_fit.proofs.laws.fits_compose.Goals as goal

pub returns : goal.returns
returns c =
    let e = c.component_count-count.ensures in
    let has : HasComponents c.args.order.now c.component_count-count.result = record { within = e.within; each = e.each; covers = e.covers; listed = e.listed } in
    λ m s of law values. (
      to_parts c.args.order.now c.component_count-count.result has m s of law values,
      from_parts c.args.order.now c.component_count-count.result has m s of law values,
    )
