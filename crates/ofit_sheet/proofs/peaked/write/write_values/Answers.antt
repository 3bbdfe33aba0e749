use Rattle.std.proofs.Common.{◌≡◌, ◌++◌, ℤ, ap, ◌∙◌, arith, rules}
use Rattle.std.specs.Int.{w64}
use Rattle.std.proofs.lemmas.Int.{to_z-of_z}
use mir.Val.{of_z, to_z, SFits}
use Rattle.ofit_records.specs.Written.{record_text}
use Rattle.ofit_study.specs.Study.{names_of}
use Rattle.ofit_sheet.specs.PeakedText.{peaked_value_fields}
use Rattle.ofit_sheet.proofs.WrittenParts.{no_text}
use Rattle.ofit_sheet.proofs.WrittenPeaked.{one_listed, all_listed}
use Rattle.ofit_sheet.proofs.peaked.write.write_values.Goals as goal

pub loop-place-init : goal.loop-place-init
loop-place-init c = no_text c.args.writer.now

pub loop-place-preserved : goal.loop-place-preserved
loop-place-preserved c =
    let names = names_of c.args.study.now in
    let fits : SFits w64 c.value.result = search rules in
    let plain : to_z w64 (of_z w64 c.value.result) ≡ c.value.result = to_z-of_z w64 c.value.result fits in
    one_listed (peaked_value_fields names) 0 c.args.peaked.now.values c.loop-place.place c.loop-place.place c.value.result c.args.writer.now c.loop-place.writer c.write_value.new.writer
    (omega arith) c.value.ensures c.loop-place.invariant
    (c.in_ok-write_value.ensures ∙ ap (λ (z : ℤ). c.loop-place.writer ++ record_text (peaked_value_fields names (c.loop-place.place, z))) plain)

pub returns : goal.returns
returns c = all_listed (peaked_value_fields (names_of c.args.study.now)) 0 c.args.peaked.now.values c.loop-place.place c.args.writer.now c.loop-place.writer (omega (arith, c.requires.values)) c.loop-place.invariant
