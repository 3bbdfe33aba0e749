use Rattle.std.proofs.Common.{◌≡◌, ◌-◌, ℕ}
use Rattle.ofit_sample.specs.Generator.{number_after}
use Rattle.ofit_sample.proofs.Drawn.{AreDrawn}
use Rattle.ofit_sample.proofs.pairs.drawn_pairs.Given as goal

abbrev pub invariant-loop-place : goal.invariant-loop-place
invariant-loop-place l = (seed draws : ℕ) → l.initial.generator.number ≡ number_after seed draws → AreDrawn seed draws (l.place - 1) l.pairs.items l.generator.number
