use Rattle.std.proofs.Common.{◌≤◌, ◌-◌, length}
use Rattle.ofit_study.specs.Study.{places_of}
use Rattle.ofit_check.proofs.Amounts.{AreBefore, AreAfter}
use Rattle.ofit_check.proofs.balance.amount_on.Given as goal

abbrev pub invariant-loop-least : goal.invariant-loop-least
invariant-loop-least l = record {
  ordered : l.least ≤ l.end;
  inside : l.end ≤ length l.sheet.flows;
  before : AreBefore l.sheet.flows (places_of l.study) l.index l.least;
  after : AreAfter l.sheet.flows (places_of l.study) l.index l.end;
}

abbrev pub decreases-loop-least : goal.decreases-loop-least
decreases-loop-least l = l.end - l.least
