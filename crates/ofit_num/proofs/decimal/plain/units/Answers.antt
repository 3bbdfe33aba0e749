use Rattle.std.proofs.Common.{◌≡◌, ◌*◌, ◌^◌, ◌∙◌, ℕ, ap, pos, arith}
use Rattle.ofit_num.proofs.ShortDecimals.{zeros_fit, zeros_so_far, one_more_zero}
use Rattle.ofit_num.proofs.decimal.plain.units.Goals as goal

pub overflow_mul-size : goal.overflow_mul-size
overflow_mul-size c = omega (arith, zeros_so_far c.loop.size c.args.spelled.number c.args.spelled.behind c.loop.counter c.args.places c.loop.invariant c.loop-test.true (zeros_fit c.args.spelled.number c.args.places c.requires.number c.requires.places))

pub loop-preserved : goal.loop-preserved
loop-preserved c = one_more_zero c.loop.size c.args.spelled.number c.args.spelled.behind c.loop.counter c.loop.invariant

pub returns : goal.returns
returns c =
    let last : c.loop.counter ≡ c.args.places = omega (arith, c.loop.auto.counter-end, c.loop-test.false, c.if-spelled-places.false) in
    record {
      up = c.args.places;
      down = c.args.spelled.behind;
      shift = ap pos (omega arith);
      equal = c.loop.invariant ∙ ap (λ (t : ℕ). c.args.spelled.number * 10 ^ t) last;
    }
