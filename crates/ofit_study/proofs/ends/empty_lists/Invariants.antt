use Rattle.std.proofs.Common.{◌≡◌, [], replicate}
use Rattle.ofit_study.specs.Ends.{lists_of}
use Rattle.ofit_study.proofs.ends.empty_lists.Given as goal

abbrev pub invariant-loop : goal.invariant-loop
invariant-loop l = lists_of l.lists.items ≡ replicate l.counter []
