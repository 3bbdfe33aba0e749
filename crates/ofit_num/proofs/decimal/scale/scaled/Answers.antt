use Rattle.std.proofs.Common.{◌++◌, ◌*◌, ◌^◌, ap, ◌∙◌, refl}
use Rattle.ofit_num.specs.NumberText.{IsDigit, spelled_after}
use Rattle.ofit_num.proofs.Runs.{not_true, all_front, all_back, all_same}
use Rattle.ofit_num.proofs.Scaled.{cut_uneven, cut_none, scaled_up}
use Rattle.ofit_num.proofs.decimal.scale.scaled.Goals as goal

pub value_of-requires : goal.value_of-requires
value_of-requires c = all_front IsDigit _ _ (all_same IsDigit _ _ c.cut.ensures.parts c.requires.digits)

pub returns-then-not-are_zeros-clause-too_fine : goal.returns-then-not-are_zeros-clause-too_fine
returns-then-not-are_zeros-clause-too_fine c = λ e. (
  cut_none _ _ c.args.up c.args.down c.requires.one c.cut.ensures.down (λ z. not_true (c.if-not-are_zeros.ensures.1 z)),
  λ n h. cut_uneven _ _ n c.args.down (all_back IsDigit _ _ (all_same IsDigit _ _ c.cut.ensures.parts c.requires.digits)) c.cut.ensures.down (λ z. not_true (c.if-not-are_zeros.ensures.1 z)) (h ∙ ap (spelled_after 0) c.cut.ensures.parts),
)

pub returns-in-Some-clause-ok : goal.returns-in-Some-clause-ok
returns-in-Some-clause-ok c = (
  scaled_up _ _ c.in-Some.number c.args.up c.args.down _ c.cut.ensures.parts c.cut.ensures.down (c.are_zeros.ensures.0 c.if-not-are_zeros.false) c.in-Some.ensures.0,
  c.in-Some.ensures.1,
)

pub returns-in-None-clause-too_large : goal.returns-in-None-clause-too_large
returns-in-None-clause-too_large c = λ e. (
  spelled_after 0 (c.cut.result.0.whole.now ++ c.cut.result.0.fraction.now) * 10 ^ c.args.up,
  scaled_up _ _ _ c.args.up c.args.down _ c.cut.ensures.parts c.cut.ensures.down (c.are_zeros.ensures.0 c.if-not-are_zeros.false) refl,
  c.in-None.ensures,
)
