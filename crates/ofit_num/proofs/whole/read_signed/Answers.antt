use Rattle.std.proofs.Common.{ℕ, List, sym, subst, arith}
use Rattle.ofit_num.specs.NumberText.{IsSigned}
use Rattle.ofit_num.proofs.Numerals.{IsSigned-decimal}
use Rattle.ofit_num.proofs.ReadBack.{signed_read}
use Rattle.ofit_num.proofs.whole.read_signed.Goals as goal

pub returns-clause-reads : goal.returns-clause-reads
returns-clause-reads c = signed_read c.args.text.now c.args.limit c.signed_of.result c.signed_of.ensures.ok c.signed_of.ensures.not_whole c.signed_of.ensures.too_large

pub returns-clause-reads_back : goal.returns-clause-reads_back
returns-clause-reads_back c = λ z e h.
    let P : List ℕ → Type 0 = λ t. IsSigned t z in
    returns-clause-reads c z (subst P (sym e) (IsSigned-decimal z (omega (arith, h, c.requires)))) h
