use Rattle.ofit_fit.proofs.Paths.{IsFollowed}
use Rattle.ofit_fit.proofs.chain.follow.Given as goal

abbrev pub invariant-loop : goal.invariant-loop
invariant-loop l = IsFollowed l.links l.start l.counter l.path.items l.next
