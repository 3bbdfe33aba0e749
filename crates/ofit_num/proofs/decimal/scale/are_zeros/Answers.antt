use Rattle.std.proofs.Common.{◌≡◌, sym, ◌∙◌}
use Rattle.ofit_num.proofs.Runs.{not_true, all_append, all_front, all_back}
use Rattle.ofit_num.proofs.decimal.scale.are_zeros.Goals as goal

pub returns-then-is_zeros : goal.returns-then-is_zeros
returns-then-is_zeros c = (
  λ t. all_append (λ b. b ≡ 48) c.args.whole.now c.args.fraction.now (c.is_zeros.ensures.0 c.if-is_zeros.true) (c.is_zeros-then-is_zeros.ensures.0 t),
  λ a. c.is_zeros-then-is_zeros.ensures.1 (all_back (λ b. b ≡ 48) c.args.whole.now c.args.fraction.now a),
)

pub returns-else-is_zeros : goal.returns-else-is_zeros
returns-else-is_zeros c = (
  λ t. absurd (not_true (sym c.if-is_zeros.false ∙ t)),
  λ a. c.is_zeros.ensures.1 (all_front (λ b. b ≡ 48) c.args.whole.now c.args.fraction.now a),
)
