use Rattle.std.proofs.Common.{◌≡◌}
use Rattle.ofit_unimodal.specs.Umbrella.{umbrella_parents}
use Rattle.ofit_unimodal.proofs.umbrella.umbrella_tree.Given as goal

abbrev pub invariant-loop-place : goal.invariant-loop-place
invariant-loop-place l = l.parents.items ≡ umbrella_parents l.peak l.place
