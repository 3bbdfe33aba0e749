use Rattle.std.proofs.Common.{◌+◌, ◌-◌, ◌/◌, ◌<◌, ℕ, arith}
use Rattle.ofit_study.proofs.Bisecting.{no_gap, whole_gap, whole_upto}
use Rattle.ofit_study.proofs.entry.gap_among.Goals as goal
use Rattle.ofit_study.proofs.entry.gap_among.Goals.{then-count-eq0-via-then-count-eq0, then-count-eq0-via-else-count-eq0+then-entries-count}

pub returns-then-count-eq0 : goal.returns-then-count-eq0
returns-then-count-eq0 c = elim c.then-count-eq0.branch [
  | then-count-eq0-via-then-count-eq0 w ↦ no_gap c.args.entries.now c.requires (omega (arith, w.if-count-eq0.true))
  | then-count-eq0-via-else-count-eq0+then-entries-count w ↦ whole_gap c.args.entries.now c.requires _ (omega (arith, w.if-count-eq0.false)) w.if-entries-count.true
]

pub loop-start-preserved-then-entries-middle : goal.loop-start-preserved-then-entries-middle
loop-start-preserved-then-entries-middle c =
    let i = c.loop-start.invariant in
    let middle : ℕ = c.loop-start.start + (c.loop-start.end - c.loop-start.start) / 2 in
    let below : middle < c.loop-start.end = omega (arith, c.loop-start-test.true) in (
      omega (arith, below),
      i.1,
      λ k d b. whole_upto c.args.entries.now c.requires middle _ (omega (arith, below, i.1)) c.if-entries-middle.true k d b,
      i.3,
    )
