use Rattle.std.proofs.Common.{◌≡◌, ◌<◌, length, map, take, All}
use Rattle.ofit_study.specs.Kept.{named}
use Rattle.ofit_study.specs.Study.{names_of}
use Rattle.ofit_study.proofs.study.Study.pairs_as.Given as goal

abbrev pub invariant-loop-index : goal.invariant-loop-index
invariant-loop-index l =
    (map (named (names_of l.self)) l.pairs.items ≡ take l.index l.of.pairs)
    × All (λ e. (e.0 < length (names_of l.self)) × (e.1 < length (names_of l.self))) l.pairs.items
