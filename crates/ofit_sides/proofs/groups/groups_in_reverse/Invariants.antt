use Rattle.std.proofs.Common.{◌≡◌, take}
use Rattle.std.specs.Prelude.{reverse}
use Rattle.ofit_study.specs.Study.{groups_of}
use Rattle.ofit_sides.proofs.groups.groups_in_reverse.Given as goal

abbrev pub invariant-loop-place : goal.invariant-loop-place
invariant-loop-place l = l.groups ≡ take l.place (reverse (groups_of l.study))
