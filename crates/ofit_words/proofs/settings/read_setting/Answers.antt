use Rattle.std.proofs.Common.{◌≡◌, refl}
use Rattle.std.specs.Prelude.{true, false, is_some}
use Rattle.ofit_words.specs.Commands.{has_key}
use Rattle.ofit_words.proofs.Lookups.{earlier_from, first_from, good_from}
use Rattle.ofit_words.proofs.settings.read_setting.Goals as goal

pub returns-then-is_some-clause-judged : goal.returns-then-is_some-clause-judged
returns-then-is_some-clause-judged c words r =
    let has : has_key c.args.command c.in-Some.key ≡ true = cc in
    let there : is_some c.place_of.result ≡ true = cc in
    let earlier = earlier_from c.args.force.places c.args.force.groups words c.args.before.now c.in-Some.key c.place_of.result there c.place_of.ensures r in
    (refl, record { key = c.in-Some.key; value = c.in-Some.text.now; has = has; sets = c.in-Some.ensures.yes; earlier = earlier.0; given = earlier.1 })

pub returns-in-Some-2-clause-judged : goal.returns-in-Some-2-clause-judged
returns-in-Some-2-clause-judged c words r =
    let p = c.args.force.places in
    let q = c.args.force.groups in
    let has : has_key c.args.command c.in-Some.key ≡ true = cc in
    let none : is_some c.place_of.result ≡ false = cc in
    record {
      key = c.in-Some.key;
      value = c.in-Some.text.now;
      has = has;
      sets = c.in-Some.ensures.yes;
      first = first_from p q words c.args.before.now c.in-Some.key c.place_of.result none c.place_of.ensures r;
      good = good_from p q c.in-Some.key c.in-Some.text.now c.in-Some-2.value (rw c.in-Some-2.is at c.in_ok-value.ensures);
    }

pub returns-in-None-clause-judged : goal.returns-in-None-clause-judged
returns-in-None-clause-judged c words r =
    let p = c.args.force.places in
    let q = c.args.force.groups in
    let has : has_key c.args.command c.in-Some.key ≡ true = cc in
    let none : is_some c.place_of.result ≡ false = cc in (
      refl,
      record {
        key = c.in-Some.key;
        value = c.in-Some.text.now;
        has = has;
        sets = c.in-Some.ensures.yes;
        first = first_from p q words c.args.before.now c.in-Some.key c.place_of.result none c.place_of.ensures r;
        bad = rw c.in-None.is at c.in_ok-value.ensures;
      },
    )
