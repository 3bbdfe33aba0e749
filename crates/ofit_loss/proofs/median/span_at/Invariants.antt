use Rattle.std.proofs.Common.{◌≡◌, take}
use Rattle.ofit_num.specs.Loss.{median}
use Rattle.ofit_loss.proofs.median.span_at.Given as goal

abbrev pub invariant-loop-row : goal.invariant-loop-row
invariant-loop-row l = record {
  least : l.least ≡ median.least (take l.row-index l.rows) l.at.num l.at.den;
  greatest : l.greatest ≡ median.greatest (take l.row-index l.rows) l.at.num l.at.den;
}
