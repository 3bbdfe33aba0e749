use Rattle.std.proofs.Common.{arith}
use Rattle.ofit_study.specs.Study.{names_of}
use Rattle.ofit_table.proofs.PatternPairs.{pattern-inside, pattern-length}
use Rattle.ofit_table.proofs.shape.shape_pairs.Goals as goal

pub with_pairs-requires-clause-places : goal.with_pairs-requires-clause-places
with_pairs-requires-clause-places c = rw c.deref.ensures.value (pattern-inside c.args.pattern.now (names_of c.args.study.now) c.in-Ok.pairs.items c.in-Ok.ensures.pairs)

pub with_pairs-requires-clause-few : goal.with_pairs-requires-clause-few
with_pairs-requires-clause-few c =
    let counted = pattern-length c.args.pattern.now (names_of c.args.study.now) c.in-Ok.pairs.items c.in-Ok.ensures.pairs in
    let groups = c.in-Ok.ensures.valid.groups in
    rw c.deref.ensures.value (omega (arith, counted, groups))
