use Rattle.std.proofs.Common.{ℕ, [], ◌∷◌, length, ap, arith, length-append}
use Rattle.ofit_report.specs.Blocks.{IsBlockOf}
use Rattle.ofit_report.proofs.Places.{pushed}
use Rattle.ofit_report.proofs.block.blocks.Goals as goal

pub loop-place-preserved : goal.loop-place-preserved
loop-place-preserved c =
    let new = c.in_ok-push.ensures.items in
    record {
      count = omega (arith, ap length new, length-append c.loop-place.blocks.items (c.block_of.result ∷ []), c.loop-place.invariant.count);
      each = pushed (λ (g b : ℕ). IsBlockOf c.args.study.now c.args.values.now b g) 0 c.loop-place.blocks.items c.push.new.self.items c.loop-place.place c.block_of.result c.loop-place.invariant.count new c.loop-place.invariant.each c.block_of.ensures;
    }
