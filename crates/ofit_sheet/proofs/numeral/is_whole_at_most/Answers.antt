use Rattle.std.proofs.Common.{◌<◌, length, sym, ◌∙◌, arith, rules}
use Rattle.std.specs.declared.cmp.Ordering.TheVariants.{Greater}
use Rattle.ofit_sheet.proofs.Numerals.{fewer_digits, same_length, by_length, upto}
use Rattle.ofit_sheet.proofs.numeral.is_whole_at_most.Goals as goal

pub returns-then-low-high : goal.returns-then-low-high
returns-then-low-high c = λ m n a b. by_length (length c.args.low.now) (length c.args.high.now) m n c.if-low-high.true (fewer_digits c.args.low.now c.args.high.now m n a b) (fewer_digits c.args.high.now c.args.low.now n m b a)

pub returns-in-Greater : goal.returns-in-Greater
returns-in-Greater c = λ m n a b.
    let over : n < m = same_length c.args.low.now c.args.high.now m n Greater a b c.if-low-high.false (sym c.in-Greater.is ∙ c.cmp.ensures) in
    ((λ no. absurd (cc)), λ le. absurd (omega (arith, over, le)))

pub returns-in_default : goal.returns-in_default
returns-in_default c = λ m n a b.
    ((λ yes. upto c.cmp.result m n (same_length c.args.low.now c.args.high.now m n c.cmp.result a b c.if-low-high.false c.cmp.ensures) c.in_default.not-Greater), λ le. search rules)
