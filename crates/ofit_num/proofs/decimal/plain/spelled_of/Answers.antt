use Rattle.std.proofs.Common.{◌≡◌, ◌+◌, ◌∷◌, ◌∙◌, ℕ, ap, arith, length, drop, length-append, length-drop}
use Rattle.std.proofs.lemmas.List.{drop_more}
use Rattle.ofit_num.proofs.ShortDecimals.{room_at_first, digits_and_point}
use Rattle.ofit_num.proofs.decimal.plain.spelled_of.Goals as goal

pub digits_from-whole-requires-clause-room : goal.digits_from-whole-requires-clause-room
digits_from-whole-requires-clause-room c = room_at_first c.args.text.now c.requires

pub returns-clause-spells : goal.returns-clause-spells
returns-clause-spells c =
    let text = c.args.text.now in
    let point = c.digits_from-whole.result.1 in
    let end = c.digits_from-number.result.1 in
    let whole = c.digits_from-whole.ensures.spells in
    let behind = c.digits_from-number.ensures.spells in
    let fraction = drop (point + 1) text in
    let cut : drop point text ≡ 46 ∷ fraction = drop_more text point 0 (omega (arith, c.digits_from-whole.ensures.within, c.if-point-text.false)) ∙ ap (λ (b : ℕ). b ∷ fraction) c.if-text-point-ne46.false in
    digits_and_point text whole.0 (drop point text) fraction behind.0 (drop end text) _ _ _ whole.1 whole.2 whole.3
    (omega (arith, ap length whole.2, length-append whole.0 (drop point text), length-drop point text, c.digits_from-whole.ensures.within, c.if-point-eq0.false))
    cut behind.1 behind.2 behind.3
    (omega (arith, length-drop end text, c.if-end-text.false))
    (omega (arith, length-drop (point + 1) text, c.digits_from-number.ensures.within, c.if-end-text.false))
