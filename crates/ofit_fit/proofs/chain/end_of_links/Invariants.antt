use Rattle.std.proofs.Common.{◌≡◌, ℕ, ◌<◌}
use Rattle.std.specs.Prelude.{None}
use Rattle.ofit_fit.specs.Links.{link_at}
use Rattle.ofit_fit.proofs.chain.end_of_links.Given as goal

abbrev pub invariant-loop-position : goal.invariant-loop-position
invariant-loop-position l = (k : ℕ) → k < l.position → link_at l.links k ≡ None → ⊥
