use Rattle.std.proofs.Common.{arith, ap, sym, ◌∙◌}
use Rattle.std.proofs.lemmas.Option.{slice_get-get_or}
use Rattle.std.specs.Prelude.{Some}
use Rattle.ofit_num.specs.Fraction.{Fraction}
use Rattle.ofit_fit.proofs.Putting.{put_more, put_all}
use Rattle.ofit_fit.proofs.values.put_values.Goals as goal

pub loop-index-preserved : goal.loop-index-preserved
loop-index-preserved c =
    let value = c.index-values-index.result in
    put_more c.args.places.now c.args.values.now c.args.into.now.items c.loop-index.into.items c.loop-index.index value c.requires.distinct (omega arith) (omega (arith, c.requires.inside c.loop-index.index 0 (omega arith)))
    (slice_get-get_or c.args.values.now c.loop-index.index value (omega arith) ∙ ap (λ (f : Fraction). Some f) (sym c.index-values-index.is)) c.loop-index.invariant

pub returns : goal.returns
returns c = put_all c.args.places.now c.args.values.now c.args.into.now.items c.loop-index.into.items c.loop-index.index (omega arith) c.loop-index.invariant
