use Rattle.std.proofs.Common.{◌≡◌, ◌++◌, take}
use Rattle.std.specs.List.{flat_map}
use Rattle.ofit_script.proofs.piece.append_all.Given as goal

abbrev pub invariant-loop-piece : goal.invariant-loop-piece
invariant-loop-piece l = l.into.items ≡ l.initial.into.items ++ flat_map (λ p. p.now) (take l.piece-index l.pieces)
