use Rattle.std.proofs.Common.{◌≡◌, ◌<◌, ◌+◌, ◌∙◌, ℕ, pos, w64, FitsSigned, sym, ap, subst, arith}
use Rattle.std.specs.Prelude.{unsigned_abs}
use Rattle.std.proofs.lemmas.Int.{fits_signed_from_abs, to_z-of_z}
use Rattle.ofit_study.specs.Name.{IsName}
use Rattle.ofit_sample.proofs.Making.{row_added}
use Rattle.ofit_sample.proofs.Names.{name_is}
use Rattle.ofit_sample.proofs.row.add_drawn.Goals as goal

pub add_row-requires-clause-name : goal.add_row-requires-clause-name
add_row-requires-clause-name c = subst IsName (sym (c.as_slice.ensures.value ∙ c.in_ok-spell_name.ensures)) (name_is c.args.place (omega arith))

pub returns-in-Ok-clause-added : goal.returns-in-Ok-clause-added
returns-in-Ok-clause-added c =
    let small : c.draw-value.result < 2001 = omega (arith, c.draw-value.ensures.drawn) in
    let size : unsigned_abs c.from.result ≡ c.draw-value.result = ap unsigned_abs c.from.ensures in
    let fits : FitsSigned w64 c.from.result = fits_signed_from_abs w64 c.from.result (omega (arith, size, small)) in
    let value = to_z-of_z w64 c.from.result fits ∙ c.from.ensures ∙ ap pos c.draw-value.ensures.drawn in
    row_added c.args.study.now c.add_row.new.self c.args.place c.args.generator.now.number c.draw-value.new.self.number c.draw-weight.new.self.number c.as_slice.result.now _ (1 + c.from-2.result) c.requires c.draw-value.ensures.next c.draw-weight.ensures.next
    (c.as_slice.ensures.value ∙ c.in_ok-spell_name.ensures) value (ap (λ (n : ℕ). 1 + n) (c.from-2.ensures ∙ c.draw-weight.ensures.drawn)) c.in-Ok.ensures.added
