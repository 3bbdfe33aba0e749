use Rattle.std.proofs.Common.{◌≡◌, ◌+◌, ◌-◌, ◌*◌, ◌++◌, ◌∷◌, [], ◌∙◌, List, ℕ, ap, sym, subst, append_assoc, arith, drop, get_or}
use Rattle.std.proofs.lemmas.List.{drop_more}
use Rattle.ofit_num.specs.NumberText.{IsDigit}
use Rattle.ofit_num.proofs.Runs.{all_more}
use Rattle.ofit_num.proofs.ShortDecimals.{HasRoom, room_fits, room_after_digit}
use Rattle.ofit_num.proofs.Spelled.{spelled_after-append}
use Rattle.ofit_num.proofs.decimal.plain.digits_from.Goals as goal

pub overflow_mul-longer : goal.overflow_mul-longer
overflow_mul-longer c = omega (arith, room_fits c.loop-index.longer _ c.loop-index.invariant.room)

pub overflow_add-longer : goal.overflow_add-longer
overflow_add-longer c = omega (arith, c.in-Some.ensures, room_fits c.loop-index.longer _ c.loop-index.invariant.room)

pub loop-index-preserved : goal.loop-index-preserved
loop-index-preserved c =
    let longer = c.loop-index.longer in
    let b = get_or c.args.text.now c.loop-index.index 0 in
    let others = drop (c.loop-index.index + 1) c.args.text.now in
    let cut : drop c.loop-index.index c.args.text.now ≡ b ∷ others = drop_more c.args.text.now c.loop-index.index 0 c.loop-index-test.true in
    let number : longer * 10 + (b - 48) ≡ longer * 10 + c.in-Some.digit = omega (arith, c.in-Some.ensures.1) in
    let so_far = c.loop-index.invariant.spells in
    record {
      spells = (
        so_far.0 ++ b ∷ [],
        all_more IsDigit so_far.0 b so_far.1 c.in-Some.ensures.0,
        so_far.2 ∙ ap (λ (r : List ℕ). so_far.0 ++ r) cut ∙ sym (append_assoc so_far.0 (b ∷ []) others),
        sym number ∙ ap (λ (n : ℕ). n * 10 + (b - 48)) so_far.3 ∙ sym (spelled_after-append c.args.number so_far.0 (b ∷ [])),
      );
      room = subst (λ (n : ℕ). HasRoom n others) number (room_after_digit longer b _ others c.in-Some.ensures.0 cut c.loop-index.invariant.room);
    }
