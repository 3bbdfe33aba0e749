use Rattle.std.proofs.Common.{length, arith}
use Rattle.ofit_study.specs.Study.{names_of}
use Rattle.ofit_sheet.specs.PeakedText.{side_records}
use Rattle.ofit_sheet.specs.Sides.{sides_of}
use Rattle.ofit_sheet.proofs.WrittenParts.{no_text}
use Rattle.ofit_sheet.proofs.WrittenPeaked.{one_part, all_parts}
use Rattle.ofit_sheet.proofs.Shapes.{sides_count, side_within}
use Rattle.ofit_sheet.proofs.peaked.write.write_sides.Goals as goal

pub loop-index-init : goal.loop-index-init
loop-index-init c = no_text c.args.writer.now

pub side_at-requires-clause-there : goal.side_at-requires-clause-there
side_at-requires-clause-there c = omega (arith, sides_count (length (names_of c.args.study.now)) c.args.peaked.now c.requires c.args.slope)

pub write_side-requires-clause-within : goal.write_side-requires-clause-within
write_side-requires-clause-within c =
    side_within (length (names_of c.args.study.now)) c.args.peaked.now c.requires c.args.slope c.loop-index.index c.side_at.result.now (omega arith) c.side_at.ensures

pub loop-index-preserved : goal.loop-index-preserved
loop-index-preserved c =
    one_part (side_records (names_of c.args.study.now) c.args.slope) (sides_of c.args.slope c.args.peaked.now) c.loop-index.index c.side_at.result.now c.args.writer.now c.loop-index.writer c.write_side.new.writer
    c.side_at.ensures c.loop-index.invariant c.in_ok-write_side.ensures

pub returns : goal.returns
returns c =
    all_parts (side_records (names_of c.args.study.now) c.args.slope) (sides_of c.args.slope c.args.peaked.now) c.loop-index.index c.args.writer.now c.loop-index.writer
    (omega (arith, sides_count (length (names_of c.args.study.now)) c.args.peaked.now c.requires c.args.slope)) c.loop-index.invariant
