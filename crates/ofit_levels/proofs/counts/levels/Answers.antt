use Rattle.std.proofs.Common.{◌≡◌, arith}
use Rattle.ofit_levels.proofs.Rows.{one_item, none_above}
use Rattle.ofit_levels.proofs.counts.levels.Goals as goal

pub loop-size-init : goal.loop-size-init
loop-size-init c = one_item 34 (omega arith)

pub returns-clause-none_above : goal.returns-clause-none_above
returns-clause-none_above c =
    let e : c.loop-size.size ≡ c.args.k = omega arith in
    λ place high low. none_above c.args.k c.loop-size.size place _ e high (c.loop-size.invariant place low)
