use Rattle.std.proofs.Common.{◌≡◌, map, take}
use Rattle.ofit_study.specs.Study.{problem_stated}
use Rattle.ofit_fit.proofs.members.groups_at.Given as goal

abbrev pub invariant-loop-place : goal.invariant-loop-place
invariant-loop-place l = l.groups ≡ map (problem_stated l.study).rows (take l.place-index l.places)
