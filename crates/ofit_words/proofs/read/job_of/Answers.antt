use Rattle.std.proofs.Common.{rules, ◌≡◌, ◌∷◌, [], map, ap, sym, ◌∙◌}
use Rattle.std.specs.Prelude.{string_bytes}
use Rattle.ofit_words.specs.Commands.{name_count}
use Rattle.ofit_words.proofs.Lists.{one_name, two_names}
use Rattle.ofit_words.proofs.Numbers.{no_level}
use Rattle.ofit_words.proofs.read.job_of.Goals as goal

pub returns-in-Levels : goal.returns-in-Levels
returns-in-Levels g c =
    no_level c.args.command (map string_bytes c.args.names.now) (string_bytes c.index-names-0-in-Levels.result) c.as_str-in-Levels.result.now c.in-Levels.is
    (one_name string_bytes c.args.names.now c.index-names-0-in-Levels.result (c.requires.0 ∙ ap name_count c.in-Levels.is) c.index-names-0-in-Levels.is) c.as_str-in-Levels.ensures.value c.in-None.ensures

pub returns-in-Fit : goal.returns-in-Fit
returns-in-Fit g c =
    let made = c.in_ok-inputs_of-in-Fit.ensures in
    let named = one_name string_bytes c.args.names.now c.index-names-0.result (c.requires.0 ∙ ap name_count c.in-Fit.is) c.index-names-0.is in
    ((c.in-Fit.is, (string_bytes c.index-names-0.result, named, made.0)), made.1)

pub returns-in-Report : goal.returns-in-Report
returns-in-Report g c =
    let made = c.in_ok-inputs_of-in-Report.ensures in
    let named = one_name string_bytes c.args.names.now c.index-names-0-in-Report.result (c.requires.0 ∙ ap name_count c.in-Report.is) c.index-names-0-in-Report.is in
    ((c.in-Report.is, (string_bytes c.index-names-0-in-Report.result, named, made.0)), made.1)

pub returns-in-Verify : goal.returns-in-Verify
returns-in-Verify g c =
    let made = c.in_ok-inputs_of-in-Verify.ensures in
    let copied : c.in_ok-sheet-in-Verify.sheet ≡ string_bytes c.index-names-1.result = search rules in
    let named = two_names string_bytes c.args.names.now c.index-names-0-in-Verify.result c.index-names-1.result (c.requires.0 ∙ ap name_count c.in-Verify.is) c.index-names-0-in-Verify.is c.index-names-1.is ∙ ap (λ sheet. string_bytes c.index-names-0-in-Verify.result ∷ (sheet ∷ [])) (sym copied) in
    ((c.in-Verify.is, (string_bytes c.index-names-0-in-Verify.result, named, made.0)), made.1)

pub returns-in-Session : goal.returns-in-Session
returns-in-Session g c =
    let made = c.in_ok-inputs_of-in-Session.ensures in
    let copied : c.in_ok-script-in-Session.script ≡ string_bytes c.index-names-1-in-Session.result = search rules in
    let named = two_names string_bytes c.args.names.now c.index-names-0-in-Session.result c.index-names-1-in-Session.result (c.requires.0 ∙ ap name_count c.in-Session.is) c.index-names-0-in-Session.is c.index-names-1-in-Session.is ∙ ap (λ script. string_bytes c.index-names-0-in-Session.result ∷ (script ∷ [])) (sym copied) in
    ((c.in-Session.is, (string_bytes c.index-names-0-in-Session.result, named, made.0)), made.1)
