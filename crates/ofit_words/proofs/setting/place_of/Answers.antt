use Rattle.ofit_words.proofs.Lookups.{lack_more, lack_all, key_at}
use Rattle.ofit_words.proofs.setting.place_of.Goals as goal

pub loop-place-preserved : goal.loop-place-preserved
loop-place-preserved c =
    lack_more c.args.settings.now c.loop-place.place c.index-settings-place.result c.args.key c.loop-place-test.true c.loop-place.invariant (c.is_key.ensures.no c.if-is_key.false)

pub returns-then-is_key : goal.returns-then-is_key
returns-then-is_key c = (
  c.loop-place-test.true,
  key_at c.args.settings.now c.loop-place.place c.index-settings-place.result c.args.key (c.is_key.ensures.yes c.if-is_key.true),
  c.loop-place.invariant,
)

pub returns : goal.returns
returns c = lack_all c.args.settings.now c.loop-place.place c.args.key c.loop-place-test.false c.loop-place.invariant
