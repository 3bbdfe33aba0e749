use Rattle.std.proofs.Common.{◌≡◌, ◌≢◌, ◌≤◌, ◌-◌, ℕ, ◌+◌, ◌<◌, length, slice_index_or}
use Rattle.ofit_study.specs.declared.entry.Entry.{Entry}
use Rattle.ofit_study.proofs.entry.gap_among.Given as goal

abbrev pub invariant-loop-start : goal.invariant-loop-start
invariant-loop-start l =
    (l.start ≤ l.end)
    × (l.end ≤ length l.entries)
    × ((k : ℕ) (d : Entry) → k < l.start → (slice_index_or l.entries k d).row.number ≡ k + 1)
    × ((d : Entry) → l.end < length l.entries → (slice_index_or l.entries l.end d).row.number ≢ l.end + 1)

abbrev pub decreases-loop-start : goal.decreases-loop-start
decreases-loop-start l = l.end - l.start
