use Rattle.std.proofs.Common.{ℕ, List, sym, subst, arith}
use Rattle.ofit_num.specs.NumberText.{IsWhole}
use Rattle.ofit_num.proofs.Numerals.{IsWhole-decimal}
use Rattle.ofit_num.proofs.ReadBack.{whole_read}
use Rattle.ofit_num.proofs.whole.read_whole.Goals as goal

pub returns-clause-reads : goal.returns-clause-reads
returns-clause-reads c = whole_read c.args.text.now c.args.limit c.whole_of.result c.whole_of.ensures.ok c.whole_of.ensures.not_whole c.whole_of.ensures.too_large

pub returns-clause-reads_back : goal.returns-clause-reads_back
returns-clause-reads_back c = λ n e h.
    let P : List ℕ → Type 0 = λ t. IsWhole t n in
    returns-clause-reads c n (subst P (sym e) (IsWhole-decimal n (omega (arith, h, c.ranges.limit)))) h
