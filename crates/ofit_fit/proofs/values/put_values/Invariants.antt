use Rattle.std.proofs.Common.{take}
use Rattle.ofit_fit.specs.Put.{ArePut}
use Rattle.ofit_fit.proofs.values.put_values.Given as goal

abbrev pub invariant-loop-index : goal.invariant-loop-index
invariant-loop-index l = ArePut (take l.index l.places) l.values l.initial.into.items l.into.items
