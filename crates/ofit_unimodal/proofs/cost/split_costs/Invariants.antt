use Rattle.std.proofs.Common.{◌≡◌, map}
use Rattle.std.specs.List.{range_with_len}
use Rattle.ofit_study.specs.Study.{problem_stated}
use Rattle.ofit_unimodal.specs.Costs.{split_cost}
use Rattle.ofit_unimodal.proofs.cost.split_costs.Given as goal

abbrev pub invariant-loop-place : goal.invariant-loop-place
invariant-loop-place l = l.costs.items ≡ map (split_cost (problem_stated l.study) l.rises l.falls) (range_with_len 0 l.place)
