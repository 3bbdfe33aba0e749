use Rattle.std.proofs.Common.{◌≡◌, ◌<◌, ◌≤◌, ◌+◌, ◌*◌, ℕ, length, get_or}
use Rattle.ofit_flow.proofs.incidence.starts_of.Given as goal

abbrev pub invariant-loop-degree : goal.invariant-loop-degree
invariant-loop-degree l =
    record { counted : length l.starts.items ≡ l.degree-index + 1; first : get_or l.starts.items 0 0 ≡ 0; last : get_or l.starts.items l.degree-index 0 ≡ l.total; small : l.total ≤ 100000 * l.degree-index; next : (v : ℕ) → v < l.degree-index → get_or l.starts.items (v + 1) 0 ≡ get_or l.starts.items v 0 + get_or l.degrees v 0 }
