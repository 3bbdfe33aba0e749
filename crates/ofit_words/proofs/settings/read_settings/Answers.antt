use Rattle.std.proofs.Common.{◌≡◌, ◌≤◌, ◌+◌, ◌∷◌, ◌++◌, [], map, take, drop, length, refl, sym, subst, arith}
use Rattle.std.specs.Prelude.{string_bytes}
use Rattle.ofit_num.proofs.Lists.{zip-push}
use Rattle.ofit_words.specs.Judged.{Checked}
use Rattle.ofit_words.specs.Read.{AreRead, IsRead}
use Rattle.ofit_words.proofs.Found.{passed_on, unless, judged_moved, fine_moved, fine_more, fine_along}
use Rattle.ofit_words.proofs.Nine.{at_most_nine, two_at_most}
use Rattle.ofit_words.proofs.Lists.{map_split, map_so_far, length_so_far}
use Rattle.ofit_words.proofs.settings.read_settings.Goals as goal

pub returns-in_err-setting-clause-checked : goal.returns-in_err-setting-clause-checked
returns-in_err-setting-clause-checked c =
    let done = map string_bytes (take c.loop-at.at c.args.words.now) in
    let so_far : length done ≡ c.loop-at.at = length_so_far string_bytes c.args.words.now c.loop-at.at c.loop-at-test.true in
    passed_on c.from_residual.result c.in_err-setting.field-0.0 (Checked c.args.command c.args.force.places c.args.force.groups (map string_bytes c.args.words.now)) c.from_residual.ensures.0 c.from_residual.ensures.1
    (unless c.in_err-setting.field-0.0 _ (record {
      before = done;
      word = string_bytes c.index-words-at.result;
      after = map string_bytes (drop (c.loop-at.at + 1) c.args.words.now);
      spells = map_split string_bytes c.args.words.now c.loop-at.at c.index-words-at.result c.loop-at-test.true c.index-words-at.is;
      fine = c.loop-at.invariant.fine;
      judged = judged_moved (Unit {0}) c.in_err-setting.field-0.0 c.args.command c.args.force.places c.args.force.groups done done _ _ _ _ refl c.as_str-word.ensures.value (omega (arith, c.names_of-first.ensures, so_far))
          (c.in_err-setting.ensures.judged done (subst (AreRead c.args.force.places c.args.force.groups done) (sym c.as_slice.ensures.value) c.loop-at.invariant.read));
    }))

pub loop-at-preserved : goal.loop-at-preserved
loop-at-preserved c =
    let done = map string_bytes (take c.loop-at.at c.args.words.now) in
    let more = map_so_far string_bytes c.args.words.now c.loop-at.at c.index-words-at.result c.loop-at-test.true c.index-words-at.is in
    let here : IsRead c.args.force.places c.args.force.groups (string_bytes c.index-words-at.result) c.in_ok-setting.setting = subst (λ t. IsRead c.args.force.places c.args.force.groups t c.in_ok-setting.setting) c.as_str-word.ensures.value c.in_ok-setting.ensures.read in
    record {
      fine = fine_along c.args.command c.args.force.places c.args.force.groups _ _ more
          (fine_more c.args.command c.args.force.places c.args.force.groups [] done (string_bytes c.index-words-at.result) c.loop-at.invariant.fine
          (fine_moved c.args.command c.args.force.places c.args.force.groups done done _ _ refl c.as_str-word.ensures.value (c.in_ok-setting.ensures.judged done (subst (AreRead c.args.force.places c.args.force.groups done) (sym c.as_slice.ensures.value) c.loop-at.invariant.read))));
      read = subst (λ ws. AreRead c.args.force.places c.args.force.groups ws c.keep.new.settings.items) more
          (subst (AreRead c.args.force.places c.args.force.groups (done ++ string_bytes c.index-words-at.result ∷ [])) (sym c.in_ok-keep.ensures)
          (zip-push (IsRead c.args.force.places c.args.force.groups) done c.loop-at.settings.items (string_bytes c.index-words-at.result) c.in_ok-setting.setting c.loop-at.invariant.read here));
    }

pub overflow_cast-place : goal.overflow_cast-place
overflow_cast-place c =
    let nine : length (map string_bytes (take c.loop-at.at c.args.words.now)) ≤ 9 = at_most_nine c.args.command c.args.force.places c.args.force.groups _ c.loop-at.invariant.fine in
    let so_far : length (map string_bytes (take c.loop-at.at c.args.words.now)) ≡ c.loop-at.at = length_so_far string_bytes c.args.words.now c.loop-at.at c.loop-at-test.true in
    omega (arith, nine, so_far, c.names_of-first.ensures, two_at_most c.args.command)
