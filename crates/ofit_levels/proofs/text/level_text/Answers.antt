use Rattle.std.proofs.Common.{◌≡◌, ◌∙◌, arith}
use Rattle.std.proofs.lemmas.Result.{IfOk-weaker}
use Rattle.ofit_levels.specs.LevelText.{level_table}
use Rattle.ofit_levels.proofs.TextLeft.{all_left, one_less, none_left}
use Rattle.ofit_levels.proofs.text.level_text.Goals as goal

pub loop-place-init : goal.loop-place-init
loop-place-init c = all_left c.args.k _ _ _ c.ordering_count-all.ensures c.in_ok-writer.ensures c.in_ok-write_header.ensures

pub loop-place-preserved : goal.loop-place-preserved
loop-place-preserved c =
    one_less c.args.k c.loop-place.place _ _ c.loop-place.writer _ (omega arith) (c.levels-counts.ensures.counts c.loop-place.place (omega arith)) c.ordering_count-all.ensures c.loop-place.invariant c.in_ok-write_level.ensures

pub returns : goal.returns
returns c =
    IfOk-weaker c.into_text.result (λ text. text.items ≡ c.add_record.new.self) (λ text. text.items ≡ level_table c.args.k)
    (λ text e. e ∙ none_left c.args.k c.loop-place.place c.loop-place.writer _ (omega arith) c.loop-place.invariant c.in_ok-add_record.ensures) c.into_text.ensures
