use Rattle.ofit_sample.proofs.Drawn.{more_drawn}
use Rattle.ofit_sample.proofs.pairs.drawn_pairs.Goals as goal

pub loop-place-preserved : goal.loop-place-preserved
loop-place-preserved c = λ seed draws is.
    more_drawn seed draws c.loop-place.place c.loop-place.pairs.items c.push.new.self.items c.push-in-loop-place.new.self.items c.loop-place.generator.number c.draw-first.new.self.number c.draw-second.new.self.number c.draw-first.result c.draw-second.result
    c.loop-place.auto.place (c.loop-place.invariant seed draws is) c.draw-first.ensures.next c.draw-second.ensures.next c.draw-first.ensures.drawn c.draw-second.ensures.drawn c.in_ok-push.ensures.items c.in_ok-push-2.ensures.items
