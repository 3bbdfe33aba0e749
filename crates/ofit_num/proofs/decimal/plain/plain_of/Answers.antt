use Rattle.std.proofs.Common.{[]}
use Rattle.ofit_num.proofs.decimal.plain.plain_of.Goals as goal

pub returns : goal.returns
returns c =
    let sign = c.after_sign-negative.ensures.sign in (
      c.in_ok-spelled.spelled.number,
      c.in_ok-spelled.spelled.behind,
      record {
        spaces = [];
        sign = sign.0;
        number = c.after_sign-negative.result.1.now;
        spells = sign.2;
        are_spaces = tt;
        is_sign = sign.1;
        is_number = c.in_ok-spelled.ensures.spells;
      },
      c.in_ok-size.ensures,
    )
