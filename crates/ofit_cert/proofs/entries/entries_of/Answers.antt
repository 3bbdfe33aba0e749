use Rattle.std.proofs.Common.{◌∙◌, List, ◌∷◌, ◌++◌, [], ℕ, ap, arith}
use Rattle.std.proofs.lemmas.List.{take_all}
use Rattle.std.proofs.lemmas.List.FromFn.{length-enumerate_from}
use Rattle.std.specs.List.{enumerate_from}
use Rattle.ofit_num.specs.Fraction.{Fraction}
use Rattle.ofit_cert.proofs.Steps.{entry_more}
use Rattle.ofit_cert.proofs.entries.entries_of.Goals as goal

pub loop-place-preserved : goal.loop-place-preserved
loop-place-preserved c =
    c.in_ok-push.ensures.items
    ∙ ap (λ (es : List (ℕ × Fraction)). es ++ (c.loop-place.place, c.index-values-place.result) ∷ []) c.loop-place.invariant
    ∙ entry_more c.args.values.now c.loop-place.place c.index-values-place.result c.loop-place-test.true c.index-values-place.is

pub returns : goal.returns
returns c =
    c.loop-place.invariant ∙ take_all c.loop-place.place (enumerate_from 0 c.args.values.now) (omega (arith, length-enumerate_from 0 c.args.values.now, c.loop-place-test.false))
